-- Four elements of a list. Only the code's contracts cite it. Assumes nothing.
use Rattle.std.specs.Prelude.{ℕ, ◌+◌, List, [], ◌∷◌, get_or}

-- those from a place on
abbrev pub four_at : List ℕ → ℕ → List ℕ
four_at l at = get_or l at 0 ∷ get_or l (at + 1) 0 ∷ get_or l (at + 2) 0 ∷ get_or l (at + 3) 0 ∷ []

-- Index vectors as the code hands them on. Assumes nothing.
use Rattle.std.specs.Prelude.{ℕ, List, [], ◌∷◌}
use Rattle.address_formula.specs.declared.Index.{Index}

-- an index vector as a list
abbrev pub index_list : Index → List ℕ
index_list i = i.i0 ∷ i.i1 ∷ i.i2 ∷ i.i3 ∷ []

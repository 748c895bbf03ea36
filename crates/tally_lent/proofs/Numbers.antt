-- The numbers x and n in a function of a tally, x and n: what they own, and how they are passed on. Assumes nothing.
use mathlib.Core.Path.{refl}
use mathlib.Core.List.{[], ◌∷◌, List}
use Prim.Native.Nat.{ℕ, ◌<◌, ◌^◌}
use seplogic.Ra.Ura.{Ura}
use mir.Syntax.{Opd as Operand, place, copy, w64}
use mir.Val.{Val, vint}
use base.Logic.{ent, emp}
use base.Fml.{Fml}
use prog.Wp.{Env}
use types.Logic.{Logic, sem}
use types.Kit.{Item, ◌$◌, ◌∵◌, !, qed, fjoin, done}
use types.Run.{Opd, Opds, and_then, no_more}
use denote.RattleType.{owns}
use denote.Laws.{Is}
use denote.Plain.{uint_Makes}
use denote.Builtin.{usize}
use denote.Steps.{owned, nothing}

-- ---- what they own

abbrev pub at-numbers : ℕ → ℕ → List Val × (List Val × Unit {0})
at-numbers x n = (vint w64 x ∷ [], (vint w64 n ∷ [], tt))

abbrev pub numbers : ℕ → ℕ → Fml
numbers x n = owns (usize ∷ usize ∷ []) (x, (n, tt)) (at-numbers x n)

-- it is had for nothing
pub numbers-owned : {M : Type 1} {𝓤 : Ura M} (𝓛 : Logic 𝓤) (x n : ℕ)
    → x < 2 ^ 64 → n < 2 ^ 64 → ent 𝓤 (emp 𝓤) (sem 𝓛 (numbers x n))
numbers-owned 𝓛 x n fits-x fits-n =
    qed 𝓛 [] ∵ nothing ! $ owned ! usize (Is usize) (uint_Makes 𝓛 w64) n _ (refl, fits-n) $ fjoin ! $
    owned ! usize (Is usize) (uint_Makes 𝓛 w64) x _ (refl, fits-x) $ fjoin ! $ done !

-- ---- how they are passed on

-- the number that an operand passes
pub data Passes (x n : ℕ) : Operand → ℕ → Type 0 where
  x-passed : Passes x n (copy (place 2 [])) x
  n-passed : Passes x n (copy (place 3 [])) n

pub ruleset passing = (x-passed, n-passed)

-- two operands pass x and n
abbrev pub Pass : Operand → Operand → Type 0
Pass i j = (x n : ℕ) → Passes x n i x × Passes x n j n

module _ {M : Type 1} {𝓤 : Ura M} {𝓛 : Logic 𝓤} {K : Type 0} {Γ : List (Item 𝓤)}
    {E : Env 𝓤 𝓛.H} {x n : ℕ} where
  number : {i : Operand} {y : ℕ} → Passes x n i y → Opd K 𝓛 Γ E (copy (place 2 [])) (vint w64 x)
      → Opd K 𝓛 Γ E (copy (place 3 [])) (vint w64 n) → Opd K 𝓛 Γ E i (vint w64 y)
  number x-passed of-x of-n = of-x
  number n-passed of-x of-n = of-n

  -- they are evaluated as the parameters are
  pub and-numbers : K → {i j : Operand} → Pass i j → Opd K 𝓛 Γ E (copy (place 2 [])) (vint w64 x)
      → Opd K 𝓛 Γ E (copy (place 3 [])) (vint w64 n) → Opds K 𝓛 Γ E (i ∷ j ∷ []) (vint w64 x ∷ vint w64 n ∷ [])
  and-numbers t pass of-x of-n =
      and_then t (number (pass x n).0 of-x of-n) (and_then t (number (pass x n).1 of-x of-n) (no_more t))

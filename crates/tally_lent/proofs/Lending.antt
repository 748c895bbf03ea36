-- A tally by value and a tally lent: contracts and code of this crate's functions, for any update of the counts, any
-- callee and any operands passed to it; and a tally as a machine value. Assumes nothing.
use mathlib.Core.Path.{◌≡◌}
use mathlib.Core.Bool.{true}
use mathlib.Core.List.{[], ◌∷◌, List}
use Prim.Native.Nat.{ℕ, ◌+◌, ◌≤◌}
use seplogic.Ra.Ura.{Ura}
use lib.Dec.{T}
use mir.Syntax.{Fn, Callee, Opd, local, value_local, memory_slot, place, copy, deref, opd_unit, rv_opd, addr_of}
use mir.Syntax.{seq, assign, call, return, named, erased, mut, w64, ty_unit, ty_int, ty_ref}
use mir.Val.{Val, has_ty, WT}
use types.Logic.{Logic}
use contract.Monad.{fact}
use denote.Laws.{Is}
use denote.Memory.{pointee}
use denote.Struct.Laws as LL
use denote.Triple.Clauses.{Clauses, Ended, closing}
use denote.Triple.Statement.{Contract}
use denote.Triple.Spec.{triple_of}
use Rattle.store.specs.declared.Tally.{Tally}
use Rattle.store.specs.contracts.Tally as S
use Rattle.store.proofs.Tally.TheLaws as S'
use Rattle.tally.specs.Tally.{tally_holds}
use Rattle.tally.specs.contracts.divide as tally-divide
use Rattle.tally_lent.specs.contracts.divide as lent-divide

-- ---- contracts

-- an update of the counts: from a depth, so many times
abbrev pub Update : Type 0
Update = ℕ → ℕ → List ℕ → List ℕ

-- what each of the functions asks
abbrev pub Fits : Tally → ℕ → ℕ → Type 0
Fits tally x n = (x + n ≤ 12) × (tally_holds tally.leaves ≡ true)

-- parameters and result, by value and lent; those of a join are those of a division
abbrev pub value : Ended
value = tally-divide.ended

abbrev pub lent : Ended
lent = lent-divide.ended

module _ {M : Type 1} (𝓤 : Ura M) (update : Update) where
  -- the tally that is returned is updated
  abbrev pub value-clauses : Clauses 𝓤 value
  value-clauses κs a = record {
    ghost = Unit {0};
    requires = λ _. fact 𝓤 (Fits a.0 a.1.0 a.1.1.0);
    ensures = λ _ r _. fact 𝓤 (r.leaves ≡ update a.1.0 a.1.1.0 a.0.leaves);
  }

  -- the lent tally is updated at exit
  abbrev pub lent-clauses : Clauses 𝓤 lent
  lent-clauses κs a = record {
    ghost = Unit {0};
    requires = λ _. fact 𝓤 (Fits a.0.now a.1.0 a.1.1.0);
    ensures = λ _ _ end. fact 𝓤 (end.0.now.leaves ≡ update a.1.0 a.1.1.0 a.0.now.leaves);
  }

  module _ (𝓛 : Logic 𝓤) where
    abbrev pub ByValue : Contract 𝓤
    ByValue = triple_of 𝓛 value.signature (closing 𝓛 value value-clauses)

    abbrev pub Lent : Contract 𝓤
    Lent = triple_of 𝓛 lent.signature (closing 𝓛 lent lent-clauses)

-- ---- code

-- `*tally = k(*tally, i, j);`
abbrev pub lent-code : Callee → Opd → Opd → Fn
lent-code k i j = record {
  lifetimes = 1;
  outlives = [];
  ty_params = [];
  givens = 0;
  params = 3;
  locals =
      local ty_unit value_local
      ∷ local (ty_ref (named 0) mut (pointee (S.the_row).written)) value_local
      ∷ local (ty_int w64) value_local
      ∷ local (ty_int w64) value_local
      ∷ local S'.mir value_local
      ∷ local S'.mir value_local
      ∷ [];
  body =
      seq (assign (place 5 []) (rv_opd (copy (place 1 (deref S'.mir ∷ [])))))
      (seq (call k (copy (place 5 []) ∷ i ∷ j ∷ []) (place 4 []))
      (seq (assign (place 1 (deref S'.mir ∷ [])) (rv_opd (copy (place 4 []))))
      (seq (assign (place 0 []) (rv_opd opd_unit)) return)));
}

-- `let mut lent = tally; k(&mut lent, i, j); lent`
abbrev pub value-code : Callee → Opd → Opd → Fn
value-code k i j = record {
  lifetimes = 0;
  outlives = [];
  ty_params = [];
  givens = 0;
  params = 3;
  locals =
      local S'.mir value_local
      ∷ local S'.mir value_local
      ∷ local (ty_int w64) value_local
      ∷ local (ty_int w64) value_local
      ∷ local S'.mir memory_slot
      ∷ local ty_unit value_local
      ∷ local (ty_ref erased mut (pointee (S.the_row).written)) value_local
      ∷ [];
  body =
      seq (assign (place 4 []) (rv_opd (copy (place 1 []))))
      (seq (assign (place 6 []) (addr_of (place 4 [])))
      (seq (call k (copy (place 6 []) ∷ i ∷ j ∷ []) (place 5 []))
      (seq (assign (place 0 []) (rv_opd (copy (place 4 [])))) return)));
}

-- ---- values

-- a tally's machine value
abbrev pub val : Tally → Val
val = LL.val S.the_type S'.the_laws

abbrev pub vals : Tally → List Val
vals = LL.vals S.the_type S'.the_laws

module _ {M : Type 1} {𝓤 : Ura M} (𝓛 : Logic 𝓤) where
  pub typed : (tally : Tally) (v : Val) → Is S.the_row tally (v ∷ []) → T (has_ty S'.mir v) × WT v
  typed tally v is = ((LL.lawful S.the_type S'.the_laws 𝓛).typed tally (v ∷ []) is).0

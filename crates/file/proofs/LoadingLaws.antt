-- Laws of a load's conditions: 14 names its attribute, and no other number carries a value; no number is 0, so that a
-- load for which none holds is accepted. Assumes nothing.
use Prim.Native.Nat.{ℕ}
use mathlib.Core.Path.{◌≡◌, refl}
use mathlib.Core.Bool.{true}
use mathlib.Core.List.{List, [], ◌∷◌}
use Rattle.shape.specs.Refusal.{accepted, answered_by}
use Rattle.shape.specs.Shape.{shape_conditions}
use Rattle.shape.specs.declared.Shape.{Shape}
use Rattle.shape.proofs.RefusalLaws.{Named, named-append, named-shape}
use Rattle.record.specs.Record.{Record}
use Rattle.model.specs.Model.{Fixed}
use Rattle.model.specs.Sets.{with_record}
use Rattle.model.proofs.ConditionLaws.{numbered, answered_by-accepted}
use Rattle.store.specs.Store.{Memory}
use Rattle.file.specs.File.{file_shape, file_records}
use Rattle.file.specs.Loading.{load_fixed, join_conditions, load_refusals, load_number}

-- ---- records that join a set

module _ (f : Fixed) where
  named-join : (s : Shape) (S rs : List Record) → Named s (join_conditions f S rs)
  named-join s S [] = tt
  named-join s S (r ∷ rs) = (refl, (refl, named-join s (with_record f.shape r S) rs))

  numbered-join : (S rs : List Record) → numbered (join_conditions f S rs) ≡ true
  numbered-join S [] = refl
  numbered-join S (r ∷ rs) = numbered-join (with_record f.shape r S) rs

-- ---- a load

module _ (file : List ℕ) (m : Memory) where
  pub named-load : Named (file_shape file) (load_refusals file m)
  unfolding load_refusals
  named-load =
      let s = file_shape file in
      let joining = named-join (load_fixed file m) s [] (file_records file) in
      (refl, named-append s (shape_conditions s) _ (named-shape s) (refl, (refl, joining)))

  numbered-load : numbered (load_refusals file m) ≡ true
  unfolding load_refusals shape_conditions
  numbered-load = numbered-join (load_fixed file m) [] (file_records file)

  pub answered_by-load : load_number file m ≡ 0 → answered_by {A = Unit {0}} (load_refusals file m) tt ≡ accepted tt
  answered_by-load = answered_by-accepted tt (load_refusals file m) numbered-load

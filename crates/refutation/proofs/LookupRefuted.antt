-- Wrong lookups of document 01: each contradicts `LookupPromise` on a small sound store. Assumes nothing.
use Prim.Native.Nat.{ℕ}
use mathlib.Core.Path.{◌≡◌, refl, sym, ap, ◌∙◌}
use mathlib.Core.Bool.{true}
use mathlib.Core.List.{[]}
use native.Mathlib.Omega.{arith}
use Rattle.shape.specs.Refusal.{Answer, accepted, refused, is_refused}
use Rattle.record.specs.declared.Content.{Content}
use Rattle.model.specs.Model.{Reply, found}
use Rattle.store.specs.Promises.{LookupPromise}
use Rattle.store.proofs.ReadLaws.{sound_where_read-of-sound}
use Rattle.table.specs.Table.{key}
use Rattle.refutation.specs.Stores.{one_record, set_of_one}
use Rattle.refutation.proofs.ChangeLaws.{refusal-not-accepted, found-content, found-reads}
use Rattle.refutation.proofs.ComputedLaws.{reads}
use Rattle.refutation.proofs.OneLeafSound.{one_record-sound}

-- a key that is stored
module _ (answer : Answer Reply) (p : LookupPromise one_record (key 0 0) answer) where
  answer-of-stored : answer ≡ accepted (found (record { payload = 10 }) 1 0)
  answer-of-stored =
      p.answered-as set_of_one (sound_where_read-of-sound one_record _ set_of_one one_record-sound)
      ∙ (reads []).found-answer

-- "a lookup that replies "absent" without reading" (review, 2)
pub absent-without-reading : (answer : Answer Reply) → is_refused answer ≡ true
    → LookupPromise one_record (key 0 0) answer → ⊥
absent-without-reading answer refusal p = refusal-not-accepted _ answer refusal (answer-of-stored answer p)

-- "On a sound store 9 is never given."
pub nine-when-sound : LookupPromise one_record (key 0 0) (refused 9) → ⊥
nine-when-sound = absent-without-reading (refused 9) refl

-- "the payload and 1 page read": another payload, no read
pub other-payload : (n x : ℕ) → LookupPromise one_record (key 0 0) (accepted (found (record { payload = 11 }) n x)) → ⊥
other-payload n x p =
    let same : ◌≡◌ {A = ℕ} 11 10 = ap (λ content. content.payload) (found-content (answer-of-stored _ p)) in
    omega (arith, same)

pub no_read : (content : Content) (x : ℕ) → LookupPromise one_record (key 0 0) (accepted (found content 0 x)) → ⊥
no_read content x p =
    let same : ◌≡◌ {A = ℕ} 0 1 = found-reads (answer-of-stored _ p) in
    omega (arith, same)

-- 5 "key absent": found nevertheless
pub finds-absent : (r : Reply) → LookupPromise one_record (key 1 1) (accepted r) → ⊥
finds-absent r p =
    refusal-not-accepted r _ refl
    (sym
    (p.answered-as set_of_one (sound_where_read-of-sound one_record _ set_of_one one_record-sound)
    ∙ (reads []).absent-answer))

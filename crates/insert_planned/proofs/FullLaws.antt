-- Laws of a full page and a new key, on a sound store: where the first and the last of these keys differ first is where
-- the leaf is divided. Assumes nothing.
use Prim.Native.Nat.{ℕ, ◌+◌, ◌-◌, ◌≤◌, ◌<◌}
use mathlib.Core.Path.{◌≡◌, refl, sym, ap, ◌∙◌, subst}
use mathlib.Core.Bool.{Bool, true, false, cond, beq, true≢false}
use mathlib.Core.List.{List}
use native.Mathlib.Omega.{arith}
use native.Mathlib.Nat.{zero-add}
use lib.Dec.{eqb}
use lib.ListN.{length, get_or}
use Rattle.lists.specs.Filter.{all}
use Rattle.lists.proofs.Bools.{beq-of-eq}
use Rattle.lists.proofs.FilterLaws.{all-imp}
use Rattle.shape.specs.Shape.{widths_of, total, Fit}
use Rattle.shape.specs.declared.Shape.{Shape}
use Rattle.shape.proofs.ShapeLaws.{widths_of-fit, capacity-bounds}
use Rattle.split.specs.Steps.{steps, steps_below}
use Rattle.region.specs.Strings.{same_bits}
use Rattle.region.specs.Sets.{sorted}
use Rattle.region.proofs.StringLaws.{bit-of-same_bits}
use Rattle.region.proofs.OrderLaws.{same_bits-before}
use Rattle.record.specs.declared.Content.{Content}
use Rattle.record.specs.Record.{Record, record_bit}
use Rattle.record.specs.Bytes.{record_size}
use Rattle.record.specs.Lanes.{bias_key}
use Rattle.record.specs.Packed.{packed_key, unpacked_key}
use Rattle.record.proofs.KeyLaws.{length-steps-widths_of}
use Rattle.record.proofs.FieldLaws.{unpacked_key-key_in}
use Rattle.record.proofs.ByteLaws.{AreBytes-field}
use Rattle.page.specs.Page.{records_from, page_at}
use Rattle.page.specs.Fields.{record_offset, record_field, code_at}
use Rattle.page.proofs.FieldLaws.{length-records_from}
use Rattle.key_order.specs.Order.{FirstPair}
use Rattle.key_order.proofs.CommonLaws.{same_bits-all}
use Rattle.key_order.proofs.StepLaws.{agree-before, differ-here, t-lt, compared_same}
use Rattle.page_place.proofs.SortedLaws.{Between}
use Rattle.page_place.proofs.FoundLaws.{placed-between, record-at, same-of-compared}
use Rattle.store.specs.Store.{Store}
use Rattle.store.specs.Sound.{Sound}
use Rattle.change.proofs.MeetLaws.{all_have, shared-page}
use Rattle.insert_cut.specs.Halves.{first_key, last_key}
use Rattle.insert_planned.specs.Found.{InsertAsked, EndsMet}
use Rattle.insert_planned.proofs.EndLaws.{first_with, last_with, alike-of-ends, ends-of-alike, ends-apart}
use Rattle.insert_planned.proofs.MetLaws.{record_with, key-is, page-bytes, meets, records-met, sorted-met}

-- the key of either record
chosen-key : (β : Bool) (k k' : ℕ) (q q' : Record) → unpacked_key k ≡ q.key → unpacked_key k' ≡ q'.key
    → unpacked_key (cond β k k') ≡ (cond β q q').key
chosen-key true k k' q q' d e = d
chosen-key false k k' q q' d e = e

module _ (before : Store) (encoded : List ℕ) (content : Content) (a : InsertAsked before encoded) (g x i pair m : ℕ)
    (e : EndsMet before encoded g x i pair m) (S : List Record) (sound : Sound before S) where
  abbrev s : Shape
  s = before.state.shape

  abbrev ws : List ℕ
  ws = widths_of s

  abbrev b : ℕ
  b = s.capacity

  abbrev r : Record
  r = record_with encoded content

  abbrev page : List ℕ
  page = page_at b before.memory.bytes g

  abbrev pub rs : List Record
  rs = records_from s b 2 page

  own_key : r.key ≡ unpacked_key (packed_key encoded)
  own_key = key-is before encoded content a g x b e.met

  pub order : sorted (record_bit s) (total ws) 0 rs ≡ true
  order = sorted-met before encoded content a g x b e.met S sound

  pub between : Between (record_bit s) (total ws) 0 r r rs i
  between =
      placed-between s a.passed.shape r (packed_key encoded) own_key page (page-bytes before encoded content a g x b e.met)
      b order i e.place

  pub size : length rs ≡ b
  size = length-records_from s b 2 page

  some : 1 ≤ length rs
  some = omega (arith, size, (capacity-bounds s a.passed.shape).0)

  -- ---- the first and the last key

  abbrev first : Record
  first = first_with (record_bit s) (total ws) 0 r r rs i order between some

  abbrev last : Record
  last = last_with (record_bit s) (total ws) 0 r r rs i order between some

  key-there : (k : ℕ) → k < b → unpacked_key (code_at (bias_key s) page k) ≡ (get_or rs k r).key
  key-there k l =
      let bytes = page-bytes before encoded content a g x b e.met in
      unpacked_key-key_in s a.passed.shape (record_field page k) (AreBytes-field page (record_offset k) record_size bytes)
      ∙ ap (λ q. q.key) (sym (record-at s a.passed.shape r (packed_key encoded) own_key page bytes b order k l))

  first-key : unpacked_key (first_key (bias_key s) page (packed_key encoded) i) ≡ first.key
  first-key =
      chosen-key (eqb i 0) (packed_key encoded) (code_at (bias_key s) page 0) r (get_or rs 0 r) (sym own_key)
      (key-there 0 (omega (arith, size, some)))

  last-key : unpacked_key (last_key (bias_key s) page b (packed_key encoded) i) ≡ last.key
  last-key =
      subst
      (λ k. unpacked_key (last_key (bias_key s) page b (packed_key encoded) i) ≡ (cond (eqb i k) r (get_or rs (k - 1) r)).key)
      (sym size)
      (chosen-key (eqb i b) (packed_key encoded) (code_at (bias_key s) page (b - 1)) r (get_or rs (b - 1) r) (sym own_key)
      (key-there (b - 1) (omega (arith, size, some))))

  ends : FirstPair ws first.key last.key pair
  ends =
      subst (λ k. FirstPair ws k last.key pair) first-key
      (subst (λ k. FirstPair ws (unpacked_key (first_key (bias_key s) page (packed_key encoded) i)) k pair) last-key e.ends)

  pub fit : Fit ws
  fit = widths_of-fit s a.passed.shape

  all-steps : length (steps ws) ≡ total ws
  all-steps = length-steps-widths_of s a.passed.shape

  -- they are two
  pub ends-differ : 64 ≤ pair → ⊥
  ends-differ l =
      true≢false
      (sym (same-of-compared ws first.key last.key
      (compared_same ws fit first.key last.key pair ends all-steps l))
      ∙ same_bits-before (record_bit s) (total ws) 0 first last
      (ends-apart (record_bit s) (total ws) 0 r r rs i order between some))

  -- ---- below their first differing step all keys are alike, and there they are not

  module _ (l : pair < 64) where
    pub step-lt : m < total ws
    step-lt = rw e.step (t-lt ws fit first.key last.key pair ends all-steps l)

    pub shared-bits : all (λ y. same_bits (record_bit s r) (record_bit s y) m 0) rs ≡ true
    shared-bits =
        rw e.step
        (alike-of-ends (record_bit s) (total ws) 0 r r rs i order between some (length (steps_below ws pair))
        (omega (arith, step-lt, e.step))
        (same_bits-all (record_bit s first) (record_bit s last) (length (steps_below ws pair)) 0
        (agree-before ws fit first.key last.key pair ends)))

    have_below : (n u : ℕ) → u < n → all (λ y. same_bits (record_bit s r) (record_bit s y) n 0) rs ≡ true
        → all_have (record_bit s) (record_bit s r) rs u ≡ true
    have_below n u h a =
        all-imp (λ y. same_bits (record_bit s r) (record_bit s y) n 0)
        (λ y. beq (record_bit s r u) (record_bit s y u))
        (λ y k. beq-of-eq (record_bit s r u) (record_bit s y u)
        (bit-of-same_bits (record_bit s r) (record_bit s y) n 0 k u (omega arith) (omega (arith, zero-add n)))) rs a

    pub alike : (u : ℕ) → u < m → all_have (record_bit s) (record_bit s r) rs u ≡ true
    alike u h = have_below m u h shared-bits

    pub differ : all_have (record_bit s) (record_bit s r) rs m ≡ false
    differ = go (all_have (record_bit s) (record_bit s r) rs m) refl
      where
        go : (β : Bool) → all_have (record_bit s) (record_bit s r) rs m ≡ β → β ≡ false
        go false c = refl
        go true c =
            let same = ends-of-alike (record_bit s) (total ws) 0 r r rs i order between some m c in
            let at : m ≡ 0 + length (steps_below ws pair) = e.step ∙ sym (zero-add (length (steps_below ws pair))) in
            absurd
            (differ-here ws fit first.key last.key pair ends l
            (subst (λ t. record_bit s first t ≡ record_bit s last t) at same))

    -- the leaf's own bits are alike, so that its depth is no greater
    pub below_step : m < x → ⊥
    below_step h =
        let own = shared-page before r S sound g x (meets before encoded content a g x b e.met) in
        let theirs = rw (records-met before encoded content a g x b e.met) at own in
        true≢false (sym (have_below x m h theirs) ∙ differ)

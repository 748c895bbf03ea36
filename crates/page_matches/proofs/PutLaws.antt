-- Laws of one record written into the output. Assumes nothing.
use Prim.Native.Nat.{ℕ, ◌+◌, ◌*◌, ◌/◌, ◌≤◌, ◌<◌}
use mathlib.Core.Path.{◌≡◌, refl, sym, ap, ◌∙◌}
use mathlib.Core.Bool.{Bool, true, false, cond}
use mathlib.Core.List.{List, ◌++◌}
use native.Mathlib.Omega.{arith}
use lib.Dec.{leb}
use lib.ListN.{length, drop, length-drop}
use lib.Seq.{paste, take_all, length-paste, length-take-le}
use borrow.Author.Tests.{le-leb, lt-leb, leb-true}
use Rattle.record.specs.declared.Content.{Content}
use Rattle.record.specs.Bytes.{record_size, little_endian, field}
use Rattle.record.specs.Packed.{key_in, content_in, packed_bytes}
use Rattle.record.proofs.ByteLaws.{AreBytes, AreBytes-field, little_endian-number_of-field, field-append-field}
use Rattle.page.specs.Fields.{record_offset, record_field, key_at, content_at}
use Rattle.page_matches.specs.Output.{emit_one}

-- ---- one record

-- a record's bytes, read and written again
packed_bytes-read : (bytes : List ℕ) → AreBytes bytes → length bytes ≡ record_size
    → packed_bytes (key_in bytes) (content_in bytes) ≡ bytes
unfolding packed_bytes
packed_bytes-read bytes are e =
    (λ i. key i ++ content i)
    ∙ field-append-field bytes 0 8 4
    ∙ take_all record_size bytes (omega arith)
  where
    key : little_endian 8 (key_in bytes) ≡ field bytes 0 8
    key = little_endian-number_of-field bytes are 0 8 (omega arith)

    content : little_endian 4 (content_in bytes).payload ≡ field bytes 8 4
    content = little_endian-number_of-field bytes are 8 4 (omega arith)

-- a record that has no room, and one that has, as it is read and written
module _ (page out : List ℕ) (i place : ℕ) where
  pub emit_one-full : length out / record_size ≤ place → emit_one place (record_field page i) out ≡ out
  unfolding emit_one
  emit_one-full l = rw (lt-leb (record_size * place + record_size) (length out) (omega arith))

  pub emit_one-put : AreBytes page → record_offset i + record_size ≤ length page → place < length out / record_size
      → (key : ℕ) → key ≡ key_at page i → (content : Content) → content ≡ content_at page i
      → (after : List ℕ) → after ≡ paste out (record_size * place) (packed_bytes key content) record_size
      → after ≡ emit_one place (record_field page i) out
  unfolding emit_one
  emit_one-put are h l key e content d after w =
      let to = record_size * place in
      let bytes = record_field page i in
      let whole = length-take-le record_size (drop (record_offset i) page) (simp length-drop (omega arith)) in
      let same = (λ k. packed_bytes (e k) (d k))
      ∙ packed_bytes-read bytes (AreBytes-field page (record_offset i) record_size are) whole in
      w
      ∙ ap (λ l. paste out to l record_size) same
      ∙ sym (rw (le-leb (to + record_size) (length out) (omega arith)))

pub length-emit_one : (i : ℕ) (bytes out : List ℕ) → length bytes ≡ record_size
    → length (emit_one i bytes out) ≡ length out
unfolding emit_one
length-emit_one i bytes out e = go (leb (record_size * i + record_size) (length out)) refl
  where
    go : (β : Bool) → leb (record_size * i + record_size) (length out) ≡ β
        → length (cond β (paste out (record_size * i) bytes record_size) out) ≡ length out
    go true l =
        length-paste out (record_size * i) bytes record_size (leb-true (record_size * i + record_size) (length out) l)
        (omega arith)
    go false l = refl

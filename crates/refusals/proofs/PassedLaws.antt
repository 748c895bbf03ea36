-- What the early refusals leave of a store and a key that they let pass: of the key's encodings, and of these as a
-- packed key. Assumes nothing.
use Prim.Native.Nat.{ℕ}
use mathlib.Core.Path.{◌≡◌, sym, ap, ◌∙◌}
use native.Mathlib.Omega.{arith}
use mathlib.Core.Bool.{true}
use mathlib.Core.List.{List, [], ◌∷◌}
use lib.ListN.{length, get_or}
use borrow.Author.Tests.{not-false}
use Rattle.shape.specs.Shape.{widths_of, index_fits}
use Rattle.shape.specs.Key.{per_attribute, encode, decode, key_fits, encodings}
use Rattle.shape.specs.declared.Shape.{Shape}
use Rattle.shape.proofs.AttributeLaws.{per_attribute-get_d}
use Rattle.shape.proofs.EncodingLaws.{encode-decode}
use Rattle.record.specs.Packed.{packed_key, unpacked_key, SixteenBits}
use Rattle.record.proofs.KeyLaws.{key-below-bytes}
use Rattle.record.proofs.PackedLaws.{unpacked_key-packed_key}
use Rattle.model.specs.Model.{key_conditions}
use Rattle.model.proofs.ConditionLaws.{first_number-zero}
use Rattle.model.proofs.SetLaws.{length-encodings, index_fits-encodings}
use Rattle.store.specs.Store.{Store, lent_conditions}
use Rattle.store.specs.Promises.{key_refusals, key_number}
use Rattle.refusals.specs.Lengths.{lent_by}
use Rattle.refusals.specs.Passed.{Passed}
use Rattle.refusals.proofs.LentLaws.{memory_lent-before, lent_number_by-none, key_number_by-fits, key_number-by}

pub passed : (store : Store) (values : List ℕ) → key_number store values ≡ 0
    → Passed store (encodings store.state.shape values)
unfolding key_refusals lent_conditions lent_by
passed store values e =
    let s = store.state.shape in
    let p = memory_lent-before store.state (length store.memory.words) (length store.memory.bytes)
    (key_conditions s values) e in
    record {
      shape = p.0.shape;
      words-lent = p.0.words-lent;
      pages-lent = p.0.pages-lent;
      four = length-encodings s values;
      fits = index_fits-encodings s values ∙ not-false (key_fits s values) (first_number-zero 2 _ _ p.1).0;
    }

-- packed
module _ (store : Store) (encoded : List ℕ) (p : Passed store encoded) where
  pub SixteenBits-passed : SixteenBits encoded
  SixteenBits-passed = key-below-bytes store.state.shape p.shape encoded p.four p.fits

  pub unpacked_key-passed : unpacked_key (packed_key encoded) ≡ encoded
  unpacked_key-passed = unpacked_key-packed_key encoded SixteenBits-passed ∙ per_attribute-get_d 0 encoded p.four

  pub index_fits-passed : index_fits (widths_of store.state.shape) (unpacked_key (packed_key encoded)) ≡ true
  index_fits-passed = ap (index_fits (widths_of store.state.shape)) unpacked_key-passed ∙ p.fits

  -- ---- there are values with these encodings that 1, 14, 15, 2 and 3 let pass: `OfValues` is never said of none

  abbrev decoded : List ℕ
  decoded = per_attribute (λ j. decode store.state.shape j (get_or encoded j 0))

  encodings-decoded : encodings store.state.shape decoded ≡ encoded
  unfolding encodings
  encodings-decoded =
      (λ i. at 0 i ∷ at 1 i ∷ at 2 i ∷ at 3 i ∷ []) ∙ per_attribute-get_d 0 encoded p.four
    where
      s : Shape
      s = store.state.shape

      at : (j : ℕ) → encode s j (decode s j (get_or encoded j 0)) ≡ get_or encoded j 0
      at j = encode-decode s j (get_or encoded j 0) (omega (arith, SixteenBits-passed j))

  pub values-of-passed : (values : List ℕ) × (key_number store values ≡ 0)
      × (encodings store.state.shape values ≡ encoded)
  values-of-passed =
      let st = store.state in
      let w = store.memory.words in
      let b = store.memory.bytes in
      let fits : key_fits st.shape decoded ≡ true =
      sym (index_fits-encodings st.shape decoded)
      ∙ ap (index_fits (widths_of st.shape)) encodings-decoded ∙ p.fits in
      let none = lent_number_by-none st (length w) (length b)
      (record { shape = p.shape; words-lent = p.words-lent; pages-lent = p.pages-lent }) in (
        decoded,
        key_number-by st w b decoded ∙ sym (key_number_by-fits st (length w) (length b) decoded none fits),
        encodings-decoded,
      )

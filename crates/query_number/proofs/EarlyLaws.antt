-- Laws of the query's early refusals. Assumes nothing.
use Prim.Native.Nat.{ℕ, ◌^◌}
use mathlib.Core.Path.{◌≡◌, refl, sym, ◌∙◌}
use mathlib.Core.Bool.{true, not}
use mathlib.Core.List.{List, [], ◌∷◌}
use mathlib.Core.Option.{Option, none, some}
use lib.Dec.{ltb}
use lib.ListN.{length, get_or}
use lib.Pow.{pow_pos}
use borrow.Author.Tests.{lt-ltb, not-false}
use Rattle.shape.specs.Refusal.{accepted, answered_by, refusal, first_number}
use Rattle.shape.specs.Shape.{shape_number, width_of, widths_of, index_fits}
use Rattle.shape.specs.Key.{value_fits, encode_wanted, encoded_wanted, if_given, names_unused, query_fits}
use Rattle.shape.specs.declared.Shape.{Shape}
use Rattle.shape.proofs.AttributeLaws.{index_fits-four}
use Rattle.shape.proofs.BoundsLaws.{all_below-ext}
use Rattle.shape.proofs.EncodingLaws.{value_fits-encode}
use Rattle.shape.proofs.TestLaws.{passed-append}
use Rattle.model.specs.Model.{query_conditions}
use Rattle.model.proofs.ConditionLaws.{first_number-zero}
use Rattle.record.proofs.KeyLaws.{key-below-bytes}
use Rattle.page_matches.specs.Pattern.{wanted_bits, bits_of, GivenSixteenBits}
use Rattle.store.specs.Store.{store, lent_conditions}
use Rattle.store.specs.Promises.{query_refusals, query_number}
use Rattle.store.specs.declared.State.{State}
use Rattle.refusals.specs.Lengths.{lent_by, MemoryLent, lent_number_by}
use Rattle.refusals.proofs.LentLaws.{first_number-others, memory_lent-before}
use Rattle.query_number.specs.Number.{query_by, query_number_by}

-- ---- 8 and 3

-- free attributes count as 0
fits-encoded : (s : Shape) (j : ℕ) (w : Option ℕ)
    → ltb (wanted_bits (encode_wanted s j w)) (2 ^ width_of s j) ≡ if_given (value_fits s j) w
fits-encoded s j none = lt-ltb 0 (2 ^ width_of s j) (pow_pos (width_of s j))
fits-encoded s j (some v) = sym (value_fits-encode s j v)

pub index_fits-query : (s : Shape) (q : List (Option ℕ))
    → index_fits (widths_of s) (bits_of (encoded_wanted s q)) ≡ query_fits s q
unfolding widths_of query_fits encoded_wanted
index_fits-query s q =
    index_fits-four (width_of s) (λ j. wanted_bits (encode_wanted s j (get_or q j none)))
    ∙ all_below-ext 4 _ _ (λ j l. fits-encoded s j (get_or q j none))

-- the encodings of given values that fit a shape have 16 bits
pub sixteen-of-fits : (s : Shape) → shape_number s ≡ 0 → (q : List (Option ℕ)) → query_fits s q ≡ true
    → GivenSixteenBits (encoded_wanted s q)
sixteen-of-fits s n q f = key-below-bytes s n (bits_of (encoded_wanted s q)) refl (index_fits-query s q ∙ f)

module _ (st : State) (words bytes : ℕ) (q : List (Option ℕ)) where
  -- what the lent memory allows is for the query to decide
  pub query_number_by-query : lent_number_by st words bytes ≡ 0
      → query_number_by st words bytes q ≡ first_number (query_conditions st.shape q)
  unfolding query_number_by
  query_number_by-query n = first_number-others st words bytes (query_conditions st.shape q) n

  -- the same of the tests
  pub query_by-query : accepted (tt {0}) ≡ answered_by (lent_by st words bytes) (tt {0})
      → answered_by (query_by st words bytes q) (tt {0}) ≡ answered_by (query_conditions st.shape q) (tt {0})
  query_by-query passed = passed-append tt (lent_by st words bytes) (query_conditions st.shape q) tt passed

  -- ---- no early refusal

  pub parts-of-query_number_by : query_number_by st words bytes q ≡ 0
      → MemoryLent st words bytes × (query_fits st.shape q ≡ true)
  unfolding query_number_by
  parts-of-query_number_by e =
      let parts = memory_lent-before st words bytes (query_conditions st.shape q) e in
      let fits = query_fits st.shape q in
      let behind = first_number-zero 7 (names_unused st.shape q) (refusal 3 (not fits) ∷ []) parts.1 in
      (parts.0, not-false fits (first_number-zero 2 (not fits) [] behind.1).0)

pub query_number-by : (st : State) (words bytes : List ℕ) (q : List (Option ℕ))
    → query_number (store st words bytes) q ≡ query_number_by st (length words) (length bytes) q
unfolding query_refusals lent_conditions query_number_by lent_by
query_number-by st words bytes q = refl

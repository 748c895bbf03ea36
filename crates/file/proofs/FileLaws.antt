-- Laws of the file of a set: its length, and what is read from it: the set's count, shape and records. So two sets of
-- one shape have one file only if they are one set. Assumes nothing.
use Prim.Native.Nat.{◌+◌, ◌^◌, ◌≤◌, ◌<◌}
use mathlib.Core.Path.{◌≡◌, refl, sym, ap, ◌∙◌}
use mathlib.Core.Bool.{true}
use mathlib.Core.List.{List, [], ◌∷◌, ◌++◌}
use mathlib.Core.Logic.{◌↔◌}
use native.Mathlib.Omega.{arith}
use lib.ListN.{length, length-append}
use Rattle.lists.specs.Filter.{all}
use Rattle.lists.specs.Members.{All}
use Rattle.lists.proofs.Bools.{and_split}
use Rattle.shape.specs.Shape.{shape_number}
use Rattle.shape.specs.declared.Shape.{Shape}
use Rattle.shape.proofs.ShapeLaws.{shape_number-true, in_bounds-of}
use Rattle.record.specs.Record.{Record}
use Rattle.record.specs.Bytes.{records_bytes}
use Rattle.record.proofs.ByteLaws.{FitsBytes, length-records_bytes}
use Rattle.record.proofs.KeyLaws.{key-below-bytes}
use Rattle.page.specs.Page.{records_from}
use Rattle.page.proofs.PageLaws.{records_from-records_bytes}
use Rattle.model.specs.Limits.{fresh_shape}
use Rattle.model.specs.Sets.{in_shape, is_set}
use Rattle.model.proofs.SetLaws.{length-of-in_shape, fits-of-in_shape, in_shape-of-is_set}
use Rattle.model.proofs.LimitLaws.{in_bounds-fresh_shape}
use Rattle.file.specs.File.{end_size, file_size, end_bytes, file_of, file_count, file_shape, file_records}
use Rattle.file.specs.File.{is_whole, is_plain}
use Rattle.file.proofs.EndLaws.{number_before-append, file_shape-append, is_plain-append, length-end_bytes}
use Rattle.file.proofs.EndLaws.{file_shape-end_bytes, file_count-end_bytes, is_plain-end_bytes, is_whole-end_bytes}
use Rattle.file.proofs.FreshLaws.{is_set-fresh_shape, records_bytes-fresh_shape}

-- payloads that 32 bits hold, as those of a store's pages
abbrev pub SmallPayloads : List Record → Type 0
SmallPayloads S = All (λ r. r.content.payload < 2 ^ 32) S

-- records that their bytes hold
fits_bytes-of-set : (s : Shape) (S : List Record) → shape_number s ≡ 0 → all (in_shape s) S ≡ true → SmallPayloads S
    → All FitsBytes S
fits_bytes-of-set s [] good e small = tt
fits_bytes-of-set s (r ∷ rs) good e small =
    let parts = and_split (in_shape s r) (all (in_shape s) rs) e in
    let four = length-of-in_shape s r parts.0 in (
      record {
        numbers = four;
        below = key-below-bytes s good r.key four (fits-of-in_shape s r parts.0);
        payload-below = small.0;
      },
      fits_bytes-of-set s rs good parts.1 small.1,
    )

module _ (s : Shape) (S : List Record) where
  -- ---- by its parts

  end-long : end_size ≤ length (end_bytes s (length S))
  end-long = omega (arith, length-end_bytes s (length S))

  pub length-file_of : length (file_of s S) ≡ file_size (length S)
  unfolding file_of
  length-file_of =
      omega (
        arith,
        length-append (records_bytes s S) (end_bytes s (length S)),
        length-records_bytes s S,
        length-end_bytes s (length S),
      )

  pub file_shape-file_of : file_shape (file_of s S) ≡ fresh_shape s
  unfolding file_of
  file_shape-file_of =
      file_shape-append (records_bytes s S) (end_bytes s (length S)) end-long ∙ file_shape-end_bytes s (length S)

  pub is_plain-file_of : is_plain (file_of s S) ≡ true
  unfolding file_of
  is_plain-file_of =
      is_plain-append (records_bytes s S) (end_bytes s (length S)) end-long ∙ is_plain-end_bytes s (length S)

  pub shape_number-file_of : shape_number s ≡ 0 → shape_number (file_shape (file_of s S)) ≡ 0
  shape_number-file_of good =
      rw file_shape-file_of (shape_number-true (fresh_shape s) (in_bounds-fresh_shape s (in_bounds-of s good)))

  -- ---- with few enough records for 32 bits

  module _ (few : file_size (length S) < 2 ^ 32) where
    pub file_count-file_of : file_count (file_of s S) ≡ length S
    unfolding file_of
    file_count-file_of =
        number_before-append (records_bytes s S) (end_bytes s (length S)) 4 (omega (arith, end-long))
        ∙ file_count-end_bytes s (length S) (omega arith)

    pub is_whole-file_of : is_whole (file_of s S) ≡ true
    unfolding file_of
    is_whole-file_of = is_whole-end_bytes s (length S) (records_bytes s S) (length-records_bytes s S) few

    module _ (good : shape_number s ≡ 0) (set : is_set s S ≡ true) (small : SmallPayloads S) where
      pub file_records-file_of : file_records (file_of s S) ≡ S
      unfolding file_records file_of
      file_records-file_of =
          let end = end_bytes s (length S) in
          (λ i. records_from (file_shape-file_of i) (file_count-file_of i) 0 (file_of s S))
          ∙ ap (λ bytes. records_from (fresh_shape s) (length S) 0 (bytes ++ end)) (sym (records_bytes-fresh_shape s S))
          ∙ records_from-records_bytes (fresh_shape s) S
          (fits_bytes-of-set s S good (in_shape-of-is_set s S set) small) [] end 0 refl

      pub is_set-file_of : is_set (file_shape (file_of s S)) (file_records (file_of s S)) ≡ true
      is_set-file_of = (λ i. is_set (file_shape-file_of i) (file_records-file_of i)) ∙ is_set-fresh_shape s S ∙ set

-- ---- one to one

module _ (s : Shape) (S U : List Record) (good : shape_number s ≡ 0)
    (S-set : is_set s S ≡ true) (U-set : is_set s U ≡ true) (S-small : SmallPayloads S) (U-small : SmallPayloads U)
    (S-few : file_size (length S) < 2 ^ 32) (U-few : file_size (length U) < 2 ^ 32) where
  pub file_of-same : (file_of s S ≡ file_of s U) ↔ (S ≡ U)
  file_of-same = (
    λ e.
        sym (file_records-file_of s S S-few good S-set S-small)
        ∙ ap file_records e
        ∙ file_records-file_of s U U-few good U-set U-small,
    λ e. ap (file_of s) e,
  )

-- Laws of a shape as Fresh holds it: the same sets, records with the same bytes, the same file. Assumes nothing.
use Prim.Native.Nat.{ℕ, ◌+◌, ◌-◌, ◌%◌, ◌^◌, ◌<◌}
use mathlib.Core.Path.{◌≡◌, refl, ap, ◌∙◌}
use mathlib.Core.Bool.{cond, ◌&&◌}
use mathlib.Core.List.{List, [], ◌∷◌, ◌++◌}
use native.Mathlib.Nat.{mod-eq_of_lt}
use native.Mathlib.Omega.{arith}
use lib.Dec.{eqb}
use lib.ListN.{length, get_or}
use Rattle.lists.specs.Filter.{all}
use Rattle.shape.specs.Shape.{width_of, total, index_fits}
use Rattle.shape.specs.Key.{marked, bias, decode}
use Rattle.shape.specs.declared.Shape.{Shape}
use Rattle.split.specs.Bits.{split_bit}
use Rattle.region.specs.Sets.{sorted}
use Rattle.record.specs.Record.{Record}
use Rattle.record.specs.Bytes.{little_endian, record_bytes, records_bytes}
use Rattle.model.specs.Sets.{is_set}
use Rattle.model.specs.Limits.{fresh_shape}
use Rattle.model.proofs.LimitLaws.{width_of-fresh_shape, widths_of-fresh_shape, marked-fresh_shape, signs-fresh_shape-lt}
use Rattle.file.specs.File.{trailer_bytes, end_bytes, file_of}

module _ (s : Shape) where
  pub is_set-fresh_shape : (S : List Record) → is_set (fresh_shape s) S ≡ is_set s S
  unfolding is_set
  is_set-fresh_shape S =
      ap (λ ws. sorted (λ r t. split_bit ws r.key t) (total ws) 0 S
      && all (λ r. eqb (length r.key) 4 && index_fits ws r.key) S) (widths_of-fresh_shape s)

  -- ---- bytes

  decode-fresh_shape : (j e : ℕ) → j < 4 → decode (fresh_shape s) j e ≡ decode s j e
  unfolding decode bias
  decode-fresh_shape j e l =
      ap (λ w. cond (marked (fresh_shape s) j)
      ((e + (2 ^ 32 - cond (marked (fresh_shape s) j) (2 ^ (w - 1)) 0 % 2 ^ 32)) % 2 ^ 32) e) (width_of-fresh_shape s j l)
      ∙ ap (λ m. cond m ((e + (2 ^ 32 - cond m (2 ^ (width_of s j - 1)) 0 % 2 ^ 32)) % 2 ^ 32) e) (marked-fresh_shape s j)

  record_bytes-fresh_shape : (r : Record) → record_bytes (fresh_shape s) r ≡ record_bytes s r
  unfolding record_bytes
  record_bytes-fresh_shape r =
      let value : (j : ℕ) → j < 4
      → little_endian 2 (decode (fresh_shape s) j (get_or r.key j 0)) ≡ little_endian 2 (decode s j (get_or r.key j 0)) =
      λ j l. ap (little_endian 2) (decode-fresh_shape j (get_or r.key j 0) l) in
      λ i.
      value 0 (omega arith) i
      ++ (value 1 (omega arith) i
      ++ (value 2 (omega arith) i ++ (value 3 (omega arith) i ++ little_endian 4 r.content.payload)))

  pub records_bytes-fresh_shape : (rs : List Record) → records_bytes (fresh_shape s) rs ≡ records_bytes s rs
  records_bytes-fresh_shape [] = refl
  records_bytes-fresh_shape (r ∷ rs) = λ i. record_bytes-fresh_shape r i ++ records_bytes-fresh_shape rs i

  end_bytes-fresh_shape : (n : ℕ) → end_bytes (fresh_shape s) n ≡ end_bytes s n
  unfolding end_bytes fresh_shape
  end_bytes-fresh_shape n =
      let marks = mod-eq_of_lt {n = s.signs % 2 ^ s.attributes} (signs-fresh_shape-lt s) in
      λ i. (s.attributes ∷ (widths_of-fresh_shape s i ++ s.capacity ∷ marks i ∷ 0 ∷ [])) ++ trailer_bytes n

  pub file_of-fresh_shape : (S : List Record) → file_of (fresh_shape s) S ≡ file_of s S
  unfolding file_of
  file_of-fresh_shape S = λ i. records_bytes-fresh_shape S i ++ end_bytes-fresh_shape (length S) i

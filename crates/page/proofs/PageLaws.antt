-- Laws of pages: records read back from their bytes and written back, records one after the other. Assumes nothing.
use Prim.Native.Nat.{ℕ, zero, suc, ◌+◌, ◌*◌, ◌≤◌}
use mathlib.Core.Path.{◌≡◌, refl, sym, ap, ◌∙◌}
use mathlib.Core.List.{List, [], ◌∷◌, ◌++◌, append_assoc}
use native.Mathlib.Omega.{arith}
use lib.ListN.{length, take, length-append}
use lib.Seq.{take_at, drop_at}
use Rattle.lists.specs.Members.{All}
use Rattle.shape.specs.declared.Shape.{Shape}
use Rattle.record.specs.Record.{Record}
use Rattle.record.specs.Bytes.{record_size, field, record_bytes, record_of, records_bytes}
use Rattle.record.proofs.ByteLaws.{AreBytes, FitsBytes, AreBytes-field, length-field, field-append-field}
use Rattle.record.proofs.ByteLaws.{length-record_bytes, record_of-record_bytes, record_bytes-record_of, fits_bytes-record_of}
use Rattle.page.specs.Page.{records_from}

module _ (s : Shape) where
  -- the first n, and those behind them
  pub records_from-add : (n m offset : ℕ) (bytes : List ℕ)
      → records_from s (n + m) offset bytes
      ≡ records_from s n offset bytes ++ records_from s m (offset + record_size * n) bytes
  records_from-add zero m offset bytes =
      let n : 0 + m ≡ m = omega arith in
      let o : offset ≡ offset + record_size * 0 = omega arith in
      ap (λ n. records_from s n offset bytes) n ∙ ap (λ o. records_from s m o bytes) o
  records_from-add (suc n) m offset bytes =
      let k : suc n + m ≡ suc (n + m) = omega arith in
      let o : offset + record_size + record_size * n ≡ offset + record_size * suc n = omega arith in
      ap (λ k. records_from s k offset bytes) k
      ∙ ap (λ rs. record_of s (field bytes offset record_size) ∷ rs) (records_from-add n m (offset + record_size) bytes)
      ∙ ap (λ o. records_from s (suc n) offset bytes ++ records_from s m o bytes) o

  -- ---- read back

  pub records_from-records_bytes : (rs : List Record) → All FitsBytes rs → (before rest : List ℕ) (offset : ℕ)
      → length before ≡ offset → records_from s (length rs) offset (before ++ (records_bytes s rs ++ rest)) ≡ rs
  records_from-records_bytes [] f before rest offset e = refl
  records_from-records_bytes (r ∷ rs) f before rest offset e =
      let behind : List ℕ = records_bytes s rs ++ rest in
      let later : List Record =
      records_from s (length rs) (offset + record_size) (before ++ (record_bytes s r ++ behind)) in
      let first : field (before ++ (record_bytes s r ++ behind)) offset record_size ≡ record_bytes s r =
      ap (take record_size) (drop_at before (record_bytes s r ++ behind) offset e)
      ∙ take_at (record_bytes s r) behind record_size (length-record_bytes s r) in
      let longer : before ++ (record_bytes s r ++ behind) ≡ (before ++ record_bytes s r) ++ behind =
      sym (append_assoc before (record_bytes s r) behind) in
      let place : length (before ++ record_bytes s r) ≡ offset + record_size =
      omega (arith, length-append before (record_bytes s r), length-record_bytes s r) in
      ap (λ bytes. records_from s (length (r ∷ rs)) offset (before ++ bytes))
      (append_assoc (record_bytes s r) (records_bytes s rs) rest)
      ∙ ap (λ bytes. record_of s bytes ∷ later) first
      ∙ ap (λ q. q ∷ later) (record_of-record_bytes s r f.0)
      ∙ ap (λ bytes. r ∷ records_from s (length rs) (offset + record_size) bytes) longer
      ∙ ap (λ qs. r ∷ qs)
      (records_from-records_bytes rs f.1 (before ++ record_bytes s r) rest (offset + record_size) place)

  -- ---- written back

  module _ (bytes : List ℕ) (b : AreBytes bytes) where
    pub All-records_from : (n offset : ℕ) → All FitsBytes (records_from s n offset bytes)
    All-records_from zero offset = tt
    All-records_from (suc n) offset = (
      fits_bytes-record_of s (field bytes offset record_size) (AreBytes-field bytes offset record_size b),
      All-records_from n (offset + record_size),
    )

    pub records_bytes-records_from : (n offset : ℕ) → offset + record_size * n ≤ length bytes
        → records_bytes s (records_from s n offset bytes) ≡ field bytes offset (record_size * n)
    records_bytes-records_from zero offset h = refl
    records_bytes-records_from (suc n) offset h =
        let size : record_size + record_size * n ≡ record_size * suc n = omega arith in
        ap (λ ys. ys ++ records_bytes s (records_from s n (offset + record_size) bytes))
        (record_bytes-record_of s (field bytes offset record_size) (AreBytes-field bytes offset record_size b)
        (length-field bytes offset record_size (omega arith)))
        ∙ ap (λ ys. field bytes offset record_size ++ ys)
        (records_bytes-records_from n (offset + record_size) (omega arith))
        ∙ field-append-field bytes offset record_size (record_size * n)
        ∙ ap (field bytes offset) size

-- Laws of the output of a save: where the file fits, the output begins with the records' bytes and the end of the file,
-- and the bytes behind it are as they came. Assumes nothing.
use Prim.Native.Nat.{ℕ, ◌+◌, ◌*◌, ◌/◌, ◌≤◌, ◌<◌, min}
use mathlib.Core.Path.{◌≡◌, refl, sym, ap, ◌∙◌}
use mathlib.Core.List.{List, ◌++◌, map, append_assoc}
use native.Mathlib.Omega.{arith}
use lib.ListN.{length, take, drop, length-map}
use lib.Seq.{paste, take_all, take-length, take_at, drop_at, drop-drop}
use borrow.Author.Tests.{lt-ltb, le-ltb}
use Rattle.lists.specs.Members.{All}
use Rattle.shape.specs.Refusal.{accepted, refused}
use Rattle.shape.specs.declared.Shape.{Shape}
use Rattle.record.specs.Record.{Record}
use Rattle.record.specs.Bytes.{record_size, record_of, records_bytes}
use Rattle.record.proofs.ByteLaws.{length-records_bytes}
use Rattle.page_matches.specs.Output.{emit}
use Rattle.page_matches.proofs.EmitLaws.{IsField, emit-records}
use Rattle.file.specs.File.{end_size, file_size, end_bytes}
use Rattle.file.proofs.EndLaws.{length-end_bytes}
use Rattle.save.specs.Private.{with_file, Filed}

module _ (s : Shape) (fs : List (List ℕ)) (whole : All IsField fs) (out : List ℕ)
    (fits : file_size (length fs) ≤ length out) (rs : List Record) (same : map (record_of s) fs ≡ rs) where
  abbrev records : List ℕ
  records = records_bytes s rs

  -- where the end of the file begins
  abbrev at : ℕ
  at = record_size * length fs

  abbrev end : List ℕ
  end = end_bytes s (length fs)

  count : length rs ≡ length fs
  count = ap length (sym same) ∙ length-map fs (record_of s)

  pub length-records : length records ≡ at
  length-records = length-records_bytes s rs ∙ ap (λ n. record_size * n) count

  -- all records fit
  emit-all : emit out 0 fs ≡ records ++ drop at out
  emit-all =
      let all : min (length rs) (length out / record_size) ≡ length rs = omega (arith, fits, count) in
      emit-records s fs rs out whole same
      ∙ ap (λ n. records_bytes s (take n rs) ++ drop (record_size * n) out) all
      ∙ (λ i. records_bytes s (take-length rs i) ++ drop (record_size * count i) out)

  behind-end : drop (at + end_size) (records ++ drop at out) ≡ drop (file_size (length fs)) out
  behind-end =
      sym (drop-drop end_size at (records ++ drop at out))
      ∙ ap (drop end_size) (drop_at records (drop at out) at length-records)
      ∙ drop-drop end_size at out

  pub with_file-bytes : with_file s fs out ≡ records ++ (end ++ drop (file_size (length fs)) out)
  unfolding with_file
  with_file-bytes =
      ap (λ o. paste o at end end_size) emit-all
      ∙ append_assoc (take at (records ++ drop at out)) (take end_size end)
      (drop (at + end_size) (records ++ drop at out))
      ∙ (λ i. take_at records (drop at out) at length-records i
      ++ (take_all end_size end (omega (arith, length-end_bytes s (length fs))) i ++ behind-end i))

-- ---- the file written if it fits

module _ (s : Shape) (fs : List (List ℕ)) (out : List ℕ) (total : ℕ) (counted : total ≡ length fs)
    (few : total ≤ 65536) where
  pub filed-short : length out < file_size total → Filed s fs out (refused 2) out
  filed-short l =
      let short = lt-ltb (length out) (file_size (length fs)) (omega (arith, l, counted)) in
      record { few = omega (arith, few, counted); replied = rw short refl; left = rw short refl }

  pub filed-fits : file_size total ≤ length out → (put : List ℕ) → put ≡ emit out 0 fs → (out' : List ℕ)
      → out' ≡ paste put (record_size * total) (end_bytes s total) end_size
      → Filed s fs out (accepted (file_size total)) out'
  unfolding with_file
  filed-fits l put e out' d =
      let fit = le-ltb (length out) (file_size (length fs)) (omega (arith, l, counted)) in
      record {
        few = omega (arith, few, counted);
        replied = ap (λ n. accepted (file_size n)) counted ∙ rw fit refl;
        left =
            d
            ∙ (λ i. paste (e i) (record_size * counted i) (end_bytes s (counted i)) end_size)
            ∙ rw fit refl;
      }

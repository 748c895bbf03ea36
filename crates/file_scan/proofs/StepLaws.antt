-- Laws of the first split steps in which records differ: their bound; those of a file's bytes are those of the records
-- that the bytes hold, so that the scan of the file finds a load's 6 and 7. Assumes nothing.
use Prim.Native.Nat.{ℕ, zero, suc, ◌*◌, ◌≤◌, ◌<◌}
use mathlib.Core.Path.{◌≡◌, sym, ap, ◌∙◌}
use mathlib.Core.Bool.{Bool, true, false, cond, beq}
use mathlib.Core.List.{List, []}
use native.Mathlib.Nat.{zero-add}
use native.Mathlib.Omega.{arith}
use lib.ListN.{length, get_or}
use Rattle.shape.specs.Refusal.{Answer, answered_by}
use Rattle.shape.specs.Shape.{Fit, widths_of, total, shape_number}
use Rattle.shape.specs.declared.Shape.{Shape}
use Rattle.shape.proofs.ShapeLaws.{total-le}
use Rattle.split.specs.Bits.{split_bit}
use Rattle.record.specs.Record.{Record, record_bit}
use Rattle.record.specs.Bytes.{record_size, field, record_of}
use Rattle.record.specs.Packed.{unpacked_key}
use Rattle.record.specs.Lanes.{bias_key}
use Rattle.record.proofs.ByteLaws.{AreBytes, AreBytes-field}
use Rattle.record.proofs.FieldLaws.{unpacked_key-key_in}
use Rattle.key_order.specs.Order.{common_bits, first_step}
use Rattle.page.specs.Page.{records_from}
use Rattle.page.proofs.FieldLaws.{length-records_from, get_d-records_from}
use Rattle.store.specs.declared.Limits.{Limits}
use Rattle.file.specs.File.{record_at, encodings_at}
use Rattle.file.specs.Loading.{join_conditions}
use Rattle.file_scan.specs.Asked.{Scannable, fixed_with}
use Rattle.file_scan.specs.Scan.{file_step, scan_conditions}
use Rattle.file_scan.proofs.WindowLaws.{StepsOf}
use Rattle.file_scan.proofs.ModelLaws.{past, join_conditions-scan}

-- ---- the bound

common_bits-le : (p q : ℕ → Bool) (n t : ℕ) → common_bits p q n t ≤ n
common_bits-le p q zero t = omega arith
common_bits-le p q (suc n) t = by_bit (beq (p t) (q t)) (common_bits-le p q n (suc t))
  where
    by_bit : (β : Bool) → common_bits p q n (suc t) ≤ n → cond β (suc (common_bits p q n (suc t))) 0 ≤ suc n
    by_bit true h = omega arith
    by_bit false h = omega arith

pub first_step-le : (ws x y : List ℕ) → length ws ≡ 4 → Fit ws → first_step ws x y ≤ 64
unfolding first_step
first_step-le ws x y four fit =
    omega (arith, common_bits-le (split_bit ws x) (split_bit ws y) (total ws) 0, total-le ws four fit)

-- ---- the records of a file

module _ (s : Shape) (good : shape_number s ≡ 0) (n : ℕ) (file : List ℕ) (bytes : AreBytes file) (none : Record) where
  -- the key of record i
  pub key-records_from : (i : ℕ) → i < n
      → (get_or (records_from s n 0 file) i none).key ≡ unpacked_key (encodings_at (bias_key s) file i)
  key-records_from i h =
      ap (λ r. r.key)
      (get_d-records_from s n i 0 file none h
      ∙ ap (λ o. record_of s (field file o record_size)) (zero-add (record_size * i)))
      ∙ sym (unpacked_key-key_in s good (record_at file i) (AreBytes-field file (record_size * i) record_size bytes))

  -- the steps of the file are those of its records
  pub steps-file :
      StepsOf (record_bit s) (total (widths_of s)) none (records_from s n 0 file) (file_step (widths_of s) (bias_key s) file)
  unfolding first_step
  steps-file i j h k =
      let size = length-records_from s n 0 file in
      λ t. first_step (widths_of s) (sym (key-records_from i (omega (arith, size))) t)
      (sym (key-records_from j (omega (arith, size))) t)

-- the scan of the file finds a load's 6 and 7
pub joined-of-scanned : (s : Shape) (l : Limits) (n : ℕ) (file : List ℕ) → Scannable s l n file → AreBytes file
    → (answer : Answer (Unit {0})) (ws : List ℕ) (bias : ℕ) → ws ≡ widths_of s → bias ≡ bias_key s
    → answer ≡ answered_by (scan_conditions (file_step ws bias file) s.capacity l.depth l.pages n 0 0) tt
    → answer ≡ answered_by (join_conditions (fixed_with s l) [] (records_from s n 0 file)) tt
joined-of-scanned s l n file asked bytes answer ws bias ws≡ bias≡ e =
    e
    ∙ (λ t. scanned (file_step (ws≡ t) (bias≡ t) file) (sym (length-records_from s n 0 file) t))
    ∙ ap (λ cs. answered_by cs tt)
    (sym (join_conditions-scan (fixed_with s l) asked.shape asked.depth-bits past (records_from s n 0 file)
    asked.set (file_step (widths_of s) (bias_key s) file) (steps-file s asked.shape n file bytes past)))
  where
    scanned : (ℕ → ℕ → ℕ) → ℕ → Answer (Unit {0})
    scanned step k = answered_by (scan_conditions step s.capacity l.depth l.pages k 0 0) tt

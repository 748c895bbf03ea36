-- Laws of the replies: a text with one more value, payload or record; records from the first on; the room that each
-- reply takes. Assumes nothing.
use Prim.Native.Nat.{ℕ, zero, suc, ◌+◌, ◌*◌, ◌^◌, ◌≤◌, ◌<◌}
use mathlib.Core.Path.{◌≡◌, refl, sym, ap, ◌∙◌}
use mathlib.Core.List.{List, [], ◌∷◌, ◌++◌, flat_map, append-nil, append_assoc}
use native.Mathlib.Omega.{arith}
use native.Mathlib.Numerals.{add-one}
use lib.ListN.{length, length-append, take, drop}
use lib.Seq.{drop-drop, take_at, drop_at}
use Rattle.shape.specs.declared.Shape.{Shape}
use Rattle.record.specs.Record.{Record}
use Rattle.record.specs.Bytes.{record_size, number_of, field, record_bytes, records_bytes}
use Rattle.record.proofs.ByteLaws.{AreBytes, AreBytes-field, number_of-field-lt, length-record_bytes}
use Rattle.record.specs.Packed.{content_in}
use Rattle.record.proofs.PackedLaws.{field-field}
use Rattle.stock_text.specs.Text.{space, newline, decimal, field_text, refused_text, sum_text}
use Rattle.stock_text.specs.Text.{values_text, record_text, records_text, Grown}
use Rattle.stock_text.proofs.DecimalLaws.{length-decimal-le}
use Rattle.stock_text.proofs.GrownLaws.{Grown-none, Grown-then}

-- ---- the text of one more value, payload or record

module _ (entry text exit out : List ℕ) (at between end : ℕ) where
  -- the next value, read where the record stands
  pub Grown-value : (start j v : ℕ) → j < 4 → v ≡ number_of (field out (start + 2 * j) 2)
      → Grown entry at (values_text j (field out start record_size)) text between
      → Grown text between (field_text v space) exit end
      → Grown entry at (values_text (j + 1) (field out start record_size)) exit end
  unfolding values_text
  Grown-value start j v l e g h =
      rw (add-one j, field-field out start record_size (2 * j) 2 (omega arith), ← e)
      (Grown-then entry text exit at between end _ _ g h)

  -- the payload, read where the record stands
  pub Grown-payload : (start d v : ℕ) → v ≡ (content_in (field out start record_size)).payload
      → Grown entry at (values_text d (field out start record_size)) text between
      → Grown text between (field_text v newline) exit end
      → Grown entry at (record_text d (field out start record_size)) exit end
  unfolding record_text
  Grown-payload start d v e g h =
      rw (← e) (Grown-then entry text exit at between end _ _ g h)

  pub Grown-record : (d i : ℕ) → Grown entry at (records_text d i out) text between
      → Grown text between (record_text d (field out (record_size * i) record_size)) exit end
      → Grown entry at (records_text d (i + 1) out) exit end
  unfolding records_text
  Grown-record d i g h = rw (add-one i) (Grown-then entry text exit at between end _ _ g h)

-- none written yet
pub Grown-no-values : (entry : List ℕ) (at : ℕ) (bytes : List ℕ) → Grown entry at (values_text 0 bytes) entry at
unfolding values_text
Grown-no-values entry at bytes = Grown-none entry at

pub Grown-no-records : (entry : List ℕ) (at d : ℕ) (bytes : List ℕ) → Grown entry at (records_text d 0 bytes) entry at
unfolding records_text
Grown-no-records entry at d bytes = Grown-none entry at

-- ---- the records of an output

-- the first record, then those of the rest
pub records_text-first : (d n : ℕ) (bytes : List ℕ)
    → records_text d (suc n) bytes ≡ record_text d (take record_size bytes) ++ records_text d n (drop record_size bytes)
unfolding records_text
records_text-first d zero bytes = sym (append-nil (record_text d (take record_size bytes)))
records_text-first d (suc n) bytes =
    let first = record_text d (take record_size bytes) in
    let rest = drop record_size bytes in
    let at : record_size + record_size * n ≡ record_size * suc n = omega arith in
    let same : field rest (record_size * n) record_size ≡ field bytes (record_size * suc n) record_size =
    ap (take record_size) (drop-drop (record_size * n) record_size bytes ∙ ap (λ k. drop k bytes) at) in
    ap (λ l. l ++ record_text d (field bytes (record_size * suc n) record_size)) (records_text-first d n bytes)
    ∙ append_assoc first (records_text d n rest) (record_text d (field bytes (record_size * suc n) record_size))
    ∙ ap (λ l. first ++ (records_text d n rest ++ record_text d l)) (sym same)

-- the records that a query puts into its output, each on its line; what stands behind them is not looked at
pub records_text-records_bytes : (s : Shape) (d : ℕ) (rs : List Record) (tail : List ℕ)
    → records_text d (length rs) (records_bytes s rs ++ tail) ≡ flat_map (λ r. record_text d (record_bytes s r)) rs
unfolding records_text flat_map
records_text-records_bytes s d [] tail = refl
records_text-records_bytes s d (r ∷ rs) tail =
    let first = record_bytes s r in
    let rest = records_bytes s rs ++ tail in
    let head : take record_size (first ++ rest) ≡ first = take_at first rest record_size (length-record_bytes s r) in
    let behind : drop record_size (first ++ rest) ≡ rest = drop_at first rest record_size (length-record_bytes s r) in
    ap (records_text d (suc (length rs))) (append_assoc first (records_bytes s rs) tail)
    ∙ records_text-first d (length rs) (first ++ rest)
    ∙ ap (λ l. record_text d l ++ records_text d (length rs) (drop record_size (first ++ rest))) head
    ∙ ap (λ l. record_text d first ++ records_text d (length rs) l) behind
    ∙ ap (λ l. record_text d first ++ l) (records_text-records_bytes s d rs tail)

-- ---- the room that a reply takes

pub length-field_text-le : (k n behind : ℕ) → n < 10 ^ suc k → length (field_text n behind) ≤ suc (suc k)
unfolding field_text
length-field_text-le k n behind h =
    omega (arith, length-append (decimal n) (behind ∷ []), length-decimal-le k n h)

pub length-refused_text-le : (number : ℕ) → number < 2 ^ 32 → length (refused_text number) ≤ 14
unfolding refused_text
length-refused_text-le number h = omega (arith, length-field_text-le 9 number newline (omega arith))

pub length-sum_text-le : (total reads : ℕ) → total < 2 ^ 64 → reads < 2 ^ 64 → length (sum_text total reads) ≤ 44
unfolding sum_text
length-sum_text-le total reads h k =
    omega (
      arith,
      length-append (field_text total space) (field_text reads newline),
      length-field_text-le 19 total space (omega arith),
      length-field_text-le 19 reads newline (omega arith),
    )

pub length-values_text-le : (d : ℕ) (bytes : List ℕ) → AreBytes bytes → length (values_text d bytes) ≤ 6 * d
unfolding values_text
length-values_text-le zero bytes b = omega arith
length-values_text-le (suc j) bytes b =
    let v = number_of (field bytes (2 * j) 2) in
    omega (
      arith,
      length-append (values_text j bytes) (field_text v space),
      length-values_text-le j bytes b,
      length-field_text-le 4 v space (omega (arith, number_of-field-lt bytes b (2 * j) 2)),
    )

pub length-record_text-le : (d : ℕ) (bytes : List ℕ) → AreBytes bytes → length (record_text d bytes) ≤ 6 * d + 11
unfolding record_text
length-record_text-le d bytes b =
    let v = number_of (field bytes 8 4) in
    omega (
      arith,
      length-append (values_text d bytes) (field_text v newline),
      length-values_text-le d bytes b,
      length-field_text-le 9 v newline (omega (arith, number_of-field-lt bytes b 8 4)),
    )

pub length-records_text-le : (d n : ℕ) (bytes : List ℕ) → d ≤ 4 → AreBytes bytes
    → length (records_text d n bytes) ≤ 35 * n
unfolding records_text
length-records_text-le d zero bytes h b = omega arith
length-records_text-le d (suc i) bytes h b =
    let piece = field bytes (record_size * i) record_size in
    omega (
      arith,
      length-append (records_text d i bytes) (record_text d piece),
      length-records_text-le d i bytes h b,
      length-record_text-le d piece (AreBytes-field bytes (record_size * i) record_size b),
    )

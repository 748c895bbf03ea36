-- Laws of a page's records, as their bytes and as records: parts of the list, one of them, equal bytes.
-- Assumes nothing.
use Prim.Native.Nat.{ℕ, zero, suc, ◌+◌, ◌-◌, ◌*◌, ◌≤◌, ◌<◌}
use mathlib.Core.Path.{◌≡◌, refl, sym, ap, ◌∙◌}
use mathlib.Core.List.{List, [], ◌∷◌, ◌++◌, map}
use native.Mathlib.Nat.{zero-add, suc-add}
use native.Mathlib.Omega.{arith}
use lib.ListN.{length, take, drop, get_or}
use lib.Seq.{take_at, drop_at, drop-drop}
use Rattle.moves.proofs.PasteLaws.{window-of-take}
use Rattle.shape.specs.declared.Shape.{Shape}
use Rattle.lists.proofs.Sequences.{get_d_map}
use Rattle.record.specs.Record.{Record}
use Rattle.record.specs.Bytes.{record_size, field, record_of}
use Rattle.page.specs.Page.{records_from}
use Rattle.page.specs.Fields.{fields_from}
use Rattle.page.proofs.PlaceLaws.{map-take, map-drop}

pub records_from-fields : (s : Shape) (n offset : ℕ) (bytes : List ℕ)
    → records_from s n offset bytes ≡ map (record_of s) (fields_from n offset bytes)
records_from-fields s zero offset bytes = refl
records_from-fields s (suc n) offset bytes =
    ap (λ l. record_of s (field bytes offset record_size) ∷ l) (records_from-fields s n (offset + record_size) bytes)

pub length-fields_from : (n offset : ℕ) (bytes : List ℕ) → length (fields_from n offset bytes) ≡ n
length-fields_from zero offset bytes = refl
length-fields_from (suc n) offset bytes = ap suc (length-fields_from n (offset + record_size) bytes)

-- ---- parts

pub fields_from-add : (m n offset : ℕ) (bytes : List ℕ)
    → fields_from (m + n) offset bytes ≡ fields_from m offset bytes ++ fields_from n (offset + record_size * m) bytes
fields_from-add zero n offset bytes =
    let e : offset ≡ offset + record_size * 0 = omega arith in
    ap (λ k. fields_from k offset bytes) (zero-add n) ∙ ap (λ o. fields_from n o bytes) e
fields_from-add (suc m) n offset bytes =
    let e : offset + record_size + record_size * m ≡ offset + record_size * suc m = omega arith in
    ap (λ k. fields_from k offset bytes) (suc-add m n)
    ∙ ap (λ l. field bytes offset record_size ∷ l)
    (fields_from-add m n (offset + record_size) bytes
    ∙ ap (λ o. fields_from m (offset + record_size) bytes ++ fields_from n o bytes) e)

module _ (m n offset : ℕ) (bytes : List ℕ) (h : m ≤ n) where
  parts : fields_from n offset bytes ≡ fields_from m offset bytes ++ fields_from (n - m) (offset + record_size * m) bytes
  parts =
      let e : n ≡ m + (n - m) = omega arith in
      ap (λ k. fields_from k offset bytes) e ∙ fields_from-add m (n - m) offset bytes

  pub take-fields_from : take m (fields_from n offset bytes) ≡ fields_from m offset bytes
  take-fields_from =
      ap (take m) parts
      ∙ take_at (fields_from m offset bytes) (fields_from (n - m) (offset + record_size * m) bytes) m
      (length-fields_from m offset bytes)

  pub drop-fields_from : drop m (fields_from n offset bytes) ≡ fields_from (n - m) (offset + record_size * m) bytes
  drop-fields_from =
      ap (drop m) parts
      ∙ drop_at (fields_from m offset bytes) (fields_from (n - m) (offset + record_size * m) bytes) m
      (length-fields_from m offset bytes)

pub get_d-fields_from : (n k offset : ℕ) (bytes : List ℕ) → k < n
    → get_or (fields_from n offset bytes) k [] ≡ field bytes (offset + record_size * k) record_size
get_d-fields_from zero k offset bytes h = absurd (omega arith)
get_d-fields_from (suc n) zero offset bytes h =
    let e : offset ≡ offset + record_size * 0 = omega arith in
    ap (λ o. field bytes o record_size) e
get_d-fields_from (suc n) (suc k) offset bytes h =
    let e : offset + record_size + record_size * k ≡ offset + record_size * suc k = omega arith in
    get_d-fields_from n k (offset + record_size) bytes (omega arith) ∙ ap (λ o. field bytes o record_size) e

-- ---- equal bytes hold equal records

pub fields_from-window : (n offset offset' : ℕ) (bytes bytes' : List ℕ)
    → field bytes offset (record_size * n) ≡ field bytes' offset' (record_size * n)
    → fields_from n offset bytes ≡ fields_from n offset' bytes'
fields_from-window zero offset offset' bytes bytes' e = refl
fields_from-window (suc n) offset offset' bytes bytes' e =
    let first : field bytes offset record_size ≡ field bytes' offset' record_size =
    window-of-take (record_size * suc n) 0 record_size (drop offset bytes) (drop offset' bytes') e (omega arith) in
    let rest : field bytes (offset + record_size) (record_size * n) ≡ field bytes' (offset' + record_size)
    (record_size * n) =
    ap (take (record_size * n)) (sym (drop-drop record_size offset bytes))
    ∙ window-of-take (record_size * suc n) record_size (record_size * n) (drop offset bytes) (drop offset' bytes') e
    (omega arith)
    ∙ ap (take (record_size * n)) (drop-drop record_size offset' bytes') in
    λ i. first i ∷ fields_from-window n (offset + record_size) (offset' + record_size) bytes bytes' rest i

-- ---- records

module _ (s : Shape) where
  pub length-records_from : (n offset : ℕ) (bytes : List ℕ) → length (records_from s n offset bytes) ≡ n
  length-records_from zero offset bytes = refl
  length-records_from (suc n) offset bytes = ap suc (length-records_from n (offset + record_size) bytes)

  -- record k
  pub get_d-records_from : (n k offset : ℕ) (bytes : List ℕ) (r : Record) → k < n
      → get_or (records_from s n offset bytes) k r ≡ record_of s (field bytes (offset + record_size * k) record_size)
  get_d-records_from n k offset bytes r h =
      ap (λ rs. get_or rs k r) (records_from-fields s n offset bytes)
      ∙ get_d_map (record_of s) (fields_from n offset bytes) k [] r (omega (arith, length-fields_from n offset bytes))
      ∙ ap (record_of s) (get_d-fields_from n k offset bytes h)

  -- the first m, and the others
  pub take-records_from : (m n offset : ℕ) (bytes : List ℕ) → m ≤ n
      → take m (records_from s n offset bytes) ≡ records_from s m offset bytes
  take-records_from m n offset bytes h =
      ap (take m) (records_from-fields s n offset bytes)
      ∙ sym (map-take (record_of s) m (fields_from n offset bytes))
      ∙ ap (map (record_of s)) (take-fields_from m n offset bytes h)
      ∙ sym (records_from-fields s m offset bytes)

  pub drop-records_from : (m n offset : ℕ) (bytes : List ℕ) → m ≤ n
      → drop m (records_from s n offset bytes) ≡ records_from s (n - m) (offset + record_size * m) bytes
  drop-records_from m n offset bytes h =
      ap (drop m) (records_from-fields s n offset bytes)
      ∙ sym (map-drop (record_of s) m (fields_from n offset bytes))
      ∙ ap (map (record_of s)) (drop-fields_from m n offset bytes h)
      ∙ sym (records_from-fields s (n - m) (offset + record_size * m) bytes)

  -- equal bytes
  pub records_from-window : (n offset offset' : ℕ) (bytes bytes' : List ℕ)
      → field bytes offset (record_size * n) ≡ field bytes' offset' (record_size * n)
      → records_from s n offset bytes ≡ records_from s n offset' bytes'
  records_from-window n offset offset' bytes bytes' e =
      records_from-fields s n offset bytes
      ∙ ap (map (record_of s)) (fields_from-window n offset offset' bytes bytes' e)
      ∙ sym (records_from-fields s n offset' bytes')

-- Laws of the place found in a page whose records are in split order: the set with a record of that key, or without the
-- key. Assumes nothing.
use Prim.Native.Nat.{ℕ, zero, suc, ◌<◌}
use mathlib.Core.Path.{◌≡◌, refl, sym, ap, ◌∙◌}
use mathlib.Core.Bool.{Bool, true, false, not, cond, beq}
use mathlib.Core.List.{List, [], ◌∷◌}
use native.Mathlib.Omega.{arith}
use lib.ListN.{get_or}
use Rattle.std.specs.Prelude.{Ok, Err}
use Rattle.shape.specs.Shape.{shape_number, widths_of, total}
use Rattle.shape.specs.declared.Shape.{Shape}
use Rattle.split.specs.Bits.{split_bit}
use Rattle.region.specs.Strings.{same_bits}
use Rattle.region.specs.Sets.{before, sorted, with_prefix, absent, insert}
use Rattle.region.proofs.StringLaws.{same_bits-comm}
use Rattle.region.proofs.OrderLaws.{before_swap}
use Rattle.record.specs.Record.{Record, record_bit}
use Rattle.record.specs.Bytes.{record_size, record_of}
use Rattle.record.specs.Packed.{unpacked_key}
use Rattle.record.proofs.ByteLaws.{AreBytes, AreBytes-field}
use Rattle.record.specs.Lanes.{bias_key}
use Rattle.record.proofs.FieldLaws.{unpacked_key-key_in}
use Rattle.page.specs.Page.{records_from}
use Rattle.page.specs.Fields.{record_offset, record_field, code_at}
use Rattle.page.specs.Changes.{insert_at}
use Rattle.page.proofs.FieldLaws.{length-records_from, get_d-records_from}
use Rattle.key_order.specs.Order.{compared}
use Rattle.std.specs.declared.cmp.Ordering.TheVariants.{Less, Equal, Greater}
use Rattle.page_place.specs.Find.{order_to, Placed}
use Rattle.page_place.proofs.SortedLaws.{Between, insert_at-between, absent-between}
use Rattle.page_place.proofs.SortedLaws.{with_prefix-same}

-- ---- what the order of two keys says

module _ (ws x y : List ℕ) where
  abbrev W : ℕ
  W = total ws

  abbrev same : Bool
  same = same_bits (split_bit ws x) (split_bit ws y) W 0

  abbrev first : Bool
  first = before (split_bit ws) W 0 x y

  pub same-of-compared : compared ws x y ≡ Equal → same ≡ true
  unfolding compared
  same-of-compared e = go same first e
    where
      go : (α β : Bool) → cond α Equal (cond β Less Greater) ≡ Equal → α ≡ true
      go true β e = refl
      go false true e = cc
      go false false e = cc

  pub before-of-compared : compared ws x y ≡ Less → first ≡ true
  unfolding compared
  before-of-compared e = go same first e
    where
      go : (α β : Bool) → cond α Equal (cond β Less Greater) ≡ Less → β ≡ true
      go true β e = cc
      go false true e = refl
      go false false e = cc

  pub after-of-compared : compared ws x y ≡ Greater → before (split_bit ws) W 0 y x ≡ true
  unfolding compared
  after-of-compared e =
      let k = go same first e in
      before_swap (split_bit ws) W 0 x y (same_bits-comm (split_bit ws y) (split_bit ws x) W 0 ∙ k.0) ∙ ap not k.1
    where
      go : (α β : Bool) → cond α Equal (cond β Less Greater) ≡ Greater → (α ≡ false) × (β ≡ false)
      go true β e = cc
      go false true e = cc
      go false false e = (refl, refl)

-- ---- records by their keys

before-key : (s : Shape) (n t : ℕ) (x y : Record)
    → before (record_bit s) n t x y ≡ before (split_bit (widths_of s)) n t x.key y.key
before-key s zero t x y = refl
before-key s (suc n) t x y =
    ap (λ β. cond (beq (record_bit s x t) (record_bit s y t)) β (record_bit s y t)) (before-key s n (suc t) x y)

module _ (s : Shape) (good : shape_number s ≡ 0) (r : Record) (key : ℕ) (e : r.key ≡ unpacked_key key) (page : List ℕ) (b : AreBytes page) (n : ℕ)
    (o : sorted (record_bit s) (total (widths_of s)) 0 (records_from s n 2 page) ≡ true) where
  abbrev ws : List ℕ
  ws = widths_of s

  abbrev rs : List Record
  rs = records_from s n 2 page

  pub record-at : (k : ℕ) → k < n → get_or rs k r ≡ record_of s (record_field page k)
  record-at k l = get_d-records_from s n k 2 page r l

  -- how r stands to record k
  order-at : (k : ℕ) → k < n → order_to ws (bias_key s) (unpacked_key key) page k ≡ compared ws r.key (get_or rs k r).key
  order-at k l =
      let there : (get_or rs k r).key ≡ unpacked_key (code_at (bias_key s) page k) =
      ap (λ x. x.key) (record-at k l)
      ∙ sym (unpacked_key-key_in s good (record_field page k) (AreBytes-field page (record_offset k) record_size b)) in
      λ i. compared ws (sym e i) (sym there i)

  pub placed-between : (i : ℕ) → Placed ws (bias_key s) (unpacked_key key) page n (Err i)
      → Between (record_bit s) (total ws) 0 r r rs i
  placed-between i p =
      let W = total ws in (
        omega (arith, p.0, length-records_from s n 2 page),
        (λ k q.
            let l : k < n = omega (arith, p.0) in
            before-key s W 0 (get_or rs k r) r
            ∙ after-of-compared ws r.key (get_or rs k r).key (sym (order-at k l) ∙ p.1 k q)),
        (λ l.
            let l' : i < n = omega (arith, length-records_from s n 2 page) in
            before-key s W 0 r (get_or rs i r)
            ∙ before-of-compared ws r.key (get_or rs i r).key (sym (order-at i l') ∙ p.2 l')),
      )

  -- ---- the key is not there

  pub insert_at-placed : (i : ℕ) → Placed ws (bias_key s) (unpacked_key key) page n (Err i)
      → insert_at i r (records_from s n 2 page) ≡ insert (record_bit s) (total ws) 0 r (records_from s n 2 page)
  insert_at-placed i p = insert_at-between (record_bit s) (total ws) 0 r r rs i o (placed-between i p)

  pub absent-placed : (i : ℕ) → Placed ws (bias_key s) (unpacked_key key) page n (Err i)
      → absent (record_bit s) (total ws) 0 r (records_from s n 2 page) ≡ true
  absent-placed i p = absent-between (record_bit s) (total ws) 0 r r rs i o (placed-between i p)

  -- ---- it is

  same-there : (i : ℕ) → Placed ws (bias_key s) (unpacked_key key) page n (Ok i)
      → same_bits (record_bit s r) (record_bit s (get_or rs i r)) (total ws) 0 ≡ true
  same-there i p = same-of-compared ws r.key (get_or rs i r).key (sym (order-at i p.0) ∙ p.1)

  pub with_prefix-placed : (i : ℕ) → Placed ws (bias_key s) (unpacked_key key) page n (Ok i)
      → with_prefix (record_bit s) (record_bit s r) (total ws) 0 (records_from s n 2 page)
      ≡ record_of s (record_field page i) ∷ []
  with_prefix-placed i p =
      with_prefix-same (record_bit s) (total ws) 0 r r rs i o (omega (arith, p.0, length-records_from s n 2 page))
      (same-there i p)
      ∙ ap (λ x. x ∷ []) (record-at i p.0)

-- Laws of the lent bytes when a full page is divided and the record put into its half: on any store what the steps ask
-- of both pages, the other pages, the bytes past them, and the records of both; on a sound store each page has those of
-- its half. Assumes nothing.
use Prim.Native.Nat.{ℕ, ◌+◌, ◌-◌, ◌*◌, ◌^◌, ◌≤◌, ◌<◌}
use mathlib.Core.Path.{◌≡◌, refl, ap, ◌∙◌, sym}
use mathlib.Core.Bool.{Bool, true, false, cond}
use mathlib.Core.List.{List, ◌++◌}
use native.Mathlib.Omega.{arith}
use lib.ListN.{length, drop, take, length-take, length-drop}
use Rattle.shape.specs.declared.Shape.{Shape}
use Rattle.shape.proofs.ShapeLaws.{capacity-bounds}
use Rattle.shape.specs.Shape.{widths_of, total}
use Rattle.record.specs.declared.Content.{Content}
use Rattle.record.specs.Record.{Record, record_bit}
use Rattle.record.proofs.CodecLaws.{length-packed_bytes}
use Rattle.record.specs.Lanes.{fields_key}
use Rattle.record.specs.Packed.{packed_key, packed_bytes}
use Rattle.page.specs.Page.{count_of, records_of, page_size, page_at, records_from}
use Rattle.page.specs.Changes.{insert_at}
use Rattle.page.proofs.FieldLaws.{length-records_from}
use Rattle.pages.specs.Pages.{PageLent, carried_pages}
use Rattle.pages.proofs.CarryLaws.{length-carried_pages, drop-carried_pages, page_at-carried_pages-other}
use Rattle.pages.proofs.CarryLaws.{records_of-carried_pages-from, records_of-carried_pages-to}
use Rattle.store.specs.Store.{Store}
use Rattle.store.proofs.ShownLaws.{page_records}
use Rattle.store.specs.Sound.{Sound}
use Rattle.change.proofs.MeetLaws.{records_on}
use Rattle.change.proofs.SharedLaws.{half_with}
use Rattle.insert_cut.specs.declared.Cut.{Cut}
use Rattle.insert_planned.specs.Found.{InsertAsked, EndsMet}
use Rattle.insert_planned.specs.Planned.{DividePlanned}
use Rattle.insert_planned.specs.declared.Split.{Split}
use Rattle.insert_planned.proofs.HalfLaws.{cut-le}
use Rattle.insert_planned.proofs.MetLaws.{record_with, record_of-passed, records-met}
use Rattle.insert_pages.specs.Inserted.{divided_pages}
use Rattle.insert_pages.proofs.InsertedLaws.{length-inserted_pages, drop-inserted_pages}
use Rattle.insert_pages.proofs.InsertedLaws.{page_at-inserted_pages-other, records_of-inserted_pages}
use Rattle.insert_promise.proofs.TakeLaws.{page-lent}
use Rattle.insert_promise.proofs.HalfLaws.{halves-with}

-- either of two, and neither
cond-lt : (β : Bool) (x y n : ℕ) → x < n → y < n → cond β x y < n
cond-lt true x y n h k = h
cond-lt false x y n h k = k

cond-ne : (β : Bool) (x y k : ℕ) → (k ≡ x → ⊥) → (k ≡ y → ⊥) → k ≡ cond β x y → ⊥
cond-ne true x y k m n e = m e
cond-ne false x y k m n e = n e

-- the other of two
cond-apart : (β : Bool) (x y : ℕ) → (x ≡ y → ⊥) → cond β y x ≡ cond β x y → ⊥
cond-apart true x y n e = n (sym e)
cond-apart false x y n e = n e

module _ (before : Store) (encoded : List ℕ) (content : Content) (a : InsertAsked before encoded)
    (small : content.payload < 2 ^ 32) (split : Split) (cut : Cut) (free : ℕ)
    (t : DividePlanned before encoded split cut free) where
  abbrev s : Shape
  s = before.state.shape

  abbrev b : ℕ
  b = s.capacity

  abbrev bytes : List ℕ
  bytes = before.memory.bytes

  abbrev r : Record
  r = record_with encoded content

  abbrev new : List ℕ
  new = packed_bytes (fields_key s (packed_key encoded)) content

  abbrev g : ℕ
  g = split.page

  abbrev m : ℕ
  m = split.step

  abbrev start : ℕ
  start = cut.start

  abbrev met : EndsMet before encoded g split.depth split.behind split.pair m
  met = t.found.met.ends-met

  pub lent-own : PageLent b g bytes
  lent-own = page-lent before encoded a g met.met.within

  pub lent-free : PageLent b free bytes
  lent-free = page-lent before encoded a free t.free-within

  pub start-le : start ≤ b
  start-le =
      cut-le before encoded content a g split.depth split.behind split.pair m met t.found.met.differ start
      t.found.half.cut_at

  -- the two pages are two
  pub apart : free ≡ g → ⊥
  apart e =
      let same = ap (λ k. count_of (page_at b bytes k)) e in
      omega (arith, same, t.free-none, met.met.count, (capacity-bounds s a.passed.shape).0)

  -- the page of the record's half, and how many records it has before
  abbrev pub own : ℕ
  own = cond cut.bit free g

  abbrev pub before-own : ℕ
  before-own = cond cut.bit (b - start) start

  own-lt : own < before.state.limits.pages
  own-lt = cond-lt cut.bit free g _ t.free-within met.met.within

  pub place-le : cut.place ≤ before-own
  place-le = go cut.bit t.found.half.low t.found.half.high
    where
      go : (β : Bool) → (β ≡ false → (split.behind ≤ start) × (cut.place ≡ split.behind))
          → (β ≡ true → (start ≤ split.behind) × (cut.place ≡ split.behind - start))
          → cut.place ≤ cond β (b - start) start
      go true low high = let k = high refl in omega (arith, k.1, met.place.0)
      go false low high = let k = low refl in omega (arith, k.0, k.1)

  abbrev pub carried : List ℕ
  carried = carried_pages b g start b free 0 bytes

  pub run-le : 0 + (b - start) ≤ b
  run-le = omega arith

  length-carried : length carried ≡ length bytes
  length-carried =
      length-carried_pages b g start b free 0 bytes lent-own lent-free start-le (omega arith) run-le

  pub lent-carried : PageLent b own carried
  lent-carried =
      let l = page-lent before encoded a own own-lt in
      record {
        capacity-le = l.capacity-le;
        number_lt = l.number_lt;
        whole = omega (arith, l.whole, length-carried);
      }

  abbrev pub after : List ℕ
  after = divided_pages b g free cut new bytes

  pub length-divided : length after ≡ length bytes
  unfolding divided_pages
  length-divided =
      length-inserted_pages b own cut.place before-own new carried lent-carried place-le t.found.half.room
      (length-packed_bytes (fields_key s (packed_key encoded)) content)
      ∙ length-carried

  pub drop-divided : drop (before.state.limits.pages * page_size b) after
      ≡ drop (before.state.limits.pages * page_size b) bytes
  unfolding divided_pages
  drop-divided =
      drop-inserted_pages b own cut.place before-own new carried lent-carried place-le t.found.half.room
      (length-packed_bytes (fields_key s (packed_key encoded)) content) before.state.limits.pages own-lt
      ∙ drop-carried_pages b g start b free 0 bytes lent-own lent-free start-le (omega arith) run-le
      before.state.limits.pages met.met.within t.free-within

  pub page-carried : (k : ℕ) → (k ≡ own → ⊥) → page_at b after k ≡ page_at b carried k
  unfolding divided_pages
  page-carried k n =
      page_at-inserted_pages-other b own cut.place before-own new carried lent-carried place-le t.found.half.room
      (length-packed_bytes (fields_key s (packed_key encoded)) content) k n

  pub others-divided : (k : ℕ) → (k ≡ g → ⊥) → (k ≡ free → ⊥) → page_records s after k ≡ records_on before k
  others-divided k n o =
      ap (records_of s)
      (page-carried k (cond-ne cut.bit free g k o n)
      ∙ page_at-carried_pages-other b g start b free 0 bytes lent-own lent-free start-le (omega arith) run-le k n o)

  -- ---- the records of both

  abbrev rs : List Record
  rs = records_from s b 2 (page_at b bytes g)

  same : records_on before g ≡ rs
  same = records-met before encoded content a g split.depth b met.met

  kept : page_records s carried g ≡ take start rs
  kept =
      records_of-carried_pages-from b g start b free 0 bytes lent-own lent-free start-le (omega arith) run-le
      apart s
      (sym met.met.count)
      ∙ ap (take start) same

  moved : page_records s carried free ≡ drop start rs
  moved =
      records_of-carried_pages-to b g start b free 0 bytes lent-own lent-free start-le (omega arith) run-le
      apart s
      (sym met.met.count) t.free-none
      ∙ ap (λ n. records_from s n 2 (page_at b bytes free) ++ drop start (records_on before g)) t.free-none
      ∙ ap (drop start) same

  half-records : (β : Bool) → page_records s carried (cond β free g) ≡ cond β (drop start rs) (take start rs)
  half-records true = moved
  half-records false = kept

  half_length : (β : Bool) → length (cond β (drop start rs) (take start rs)) ≡ cond β (b - start) start
  half_length true = length-drop start rs ∙ omega (arith, length-records_from s b 2 (page_at b bytes g))
  half_length false =
      length-take start rs ∙ omega (arith, length-records_from s b 2 (page_at b bytes g), start-le)

  count-own : count_of (page_at b carried own) ≡ before-own
  count-own =
      sym (length-records_from s (count_of (page_at b carried own)) 2 (page_at b carried own))
      ∙ ap length (half-records cut.bit)
      ∙ half_length cut.bit

  shown-own : page_records s after own ≡ insert_at cut.place r (cond cut.bit (drop start rs) (take start rs))
  unfolding divided_pages
  shown-own =
      records_of-inserted_pages b own cut.place before-own new carried lent-carried place-le t.found.half.room
      (length-packed_bytes (fields_key s (packed_key encoded)) content) s
      ∙ ap (λ q. insert_at cut.place q (records_from s before-own 2 (page_at b carried own)))
      (record_of-passed before encoded a.passed content small)
      ∙ ap (λ n. insert_at cut.place r (records_from s n 2 (page_at b carried own))) (sym count-own)
      ∙ ap (insert_at cut.place r) (half-records cut.bit)

  -- ---- on a sound store

  pub shows-divided : (S : List Record) → Sound before S → (β : Bool) → page_records s after (cond β free g)
      ≡ half_with (record_bit s) (total (widths_of s)) m r β (records_on before g)
  shows-divided S sound β =
      halves-with before encoded content a g split.depth split.behind split.pair m met t.found.met.differ
      start t.found.half.cut_at S sound free (page_records s carried) (page_records s after) kept moved cut.bit
      t.found.half.bit-there cut.place t.found.half.low t.found.half.high shown-own
      (ap (records_of s) (page-carried (cond cut.bit g free) (cond-apart cut.bit free g apart)))
      β
      ∙ ap (half_with (record_bit s) (total (widths_of s)) m r β) (sym same)

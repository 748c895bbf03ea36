-- Laws of records carried from page p, which keeps m of its n, to page q, which has j: the bytes by way of a buffer;
-- both pages, the others and the bytes past them; the records of both. Assumes nothing.
use Prim.Native.Nat.{ℕ, ◌+◌, ◌-◌, ◌*◌, ◌≤◌, ◌<◌}
use mathlib.Core.Path.{◌≡◌, refl, sym, ap, ◌∙◌}
use mathlib.Core.List.{List, ◌++◌}
use native.Mathlib.Nat.{zero-add}
use native.Mathlib.Omega.{arith}
use lib.ListN.{length, take, drop, length-drop}
use lib.Seq.{paste, take-paste}
use borrow.Rule.Slice.PartMut.{put_mid, mid_of}
use Rattle.shape.specs.declared.Shape.{Shape}
use Rattle.record.specs.Bytes.{record_size}
use Rattle.page.specs.Page.{count_of, records_from, records_of, page_size, page_at}
use Rattle.page.specs.Fields.{record_offset}
use Rattle.page.specs.Changes.{counted_page, appended_page}
use Rattle.page.proofs.ChangeLaws.{length-counted_page, records_of-counted_page}
use Rattle.page.proofs.ChangeLaws.{length-appended_page, records_of-appended_page}
use Rattle.page.proofs.FieldLaws.{drop-records_from, records_from-window}
use Rattle.pages.specs.Pages.{PageLent, with_page, carried_pages}
use Rattle.page.proofs.PartLaws.{mid_of-page, length-page_at, page-end-le}
use Rattle.pages.proofs.PutLaws.{put_mid-change}
use Rattle.pages.proofs.PageLaws.{length-with_page, page_at-with_page-same, drop-with_page, page_at-with_page-other}

-- of a source only the records count
appended_page-source : (n k : ℕ) (source source' page : List ℕ)
    → take (record_size * k) source ≡ take (record_size * k) source'
    → appended_page n k source page ≡ appended_page n k source' page
unfolding appended_page
appended_page-source n k source source' page e =
    ap (λ l. counted_page (n + k) (take (record_offset n) page ++ l ++ drop (record_offset n + record_size * k) page)) e

-- a buffer begins with what was copied into it
take-buffer : (buffer source : List ℕ) (n : ℕ) → n ≤ length source → take n (paste buffer 0 source n) ≡ take n source
take-buffer buffer source n h =
    ap (λ k. take k (paste buffer 0 source n)) (sym (zero-add n)) ∙ take-paste buffer 0 source n (omega arith) h

module _ (b p m n q j : ℕ) (bytes : List ℕ) (lp : PageLent b p bytes) (lq : PageLent b q bytes)
    (hm : m ≤ n) (hn : n ≤ b) (hj : j + (n - m) ≤ b) where
  abbrev run : List ℕ
  run = drop (record_offset m) (page_at b bytes p)

  abbrev kept : List ℕ
  kept = with_page b p (counted_page m (page_at b bytes p)) bytes

  abbrev appended : List ℕ → List ℕ
  appended page = appended_page j (n - m) run page

  length-p : length (page_at b bytes p) ≡ page_size b
  length-p = length-page_at b p bytes lp.whole

  run_long : record_size * (n - m) ≤ length run
  run_long = simp length-drop (omega (arith, length-p))

  length-counted : length (counted_page m (page_at b bytes p)) ≡ page_size b
  length-counted = length-counted_page m (page_at b bytes p) (omega (arith, length-p)) ∙ length-p

  length-kept : length kept ≡ length bytes
  length-kept = length-with_page b p (counted_page m (page_at b bytes p)) bytes lp.whole length-counted

  q-kept : q * page_size b + page_size b ≤ length kept
  q-kept = omega (arith, length-kept, lq.whole)

  length-appended : (page : List ℕ) → length page ≡ page_size b → length (appended page) ≡ page_size b
  length-appended page e = length-appended_page j (n - m) run page (omega arith) run_long ∙ e

  length-q : length (appended (page_at b kept q)) ≡ page_size b
  length-q = length-appended (page_at b kept q) (length-page_at b q kept q-kept)

  -- ---- by way of a buffer

  module _ (from to size : ℕ) (at_p : from ≡ p * page_size b) (at-q : to ≡ q * page_size b) (wide : size ≡ page_size b)
      (buffer copied counted grown : List ℕ)
      (e-copied : copied ≡ paste buffer 0 (drop (record_offset m) (mid_of from (from + size - from) bytes))
      (record_size * (n - m)))
      (e-counted : counted ≡ counted_page m (mid_of from (from + size - from) bytes))
      (e-grown : grown ≡ appended_page j (n - m) copied
      (mid_of to (to + size - to) (put_mid from (from + size - from) bytes counted))) where
    pub put_mid-carried : put_mid to (to + size - to) (put_mid from (from + size - from) bytes counted) grown
        ≡ carried_pages b p m n q j bytes
    unfolding carried_pages
    put_mid-carried =
        let first : put_mid from (from + size - from) bytes counted ≡ kept =
        put_mid-change b p from size bytes at_p wide (counted_page m) counted e-counted length-counted in
        let took : take (record_size * (n - m)) copied ≡ take (record_size * (n - m)) run =
        ap (take (record_size * (n - m)))
        (e-copied
        ∙ ap (λ l. paste buffer 0 (drop (record_offset m) l) (record_size * (n - m)))
        (mid_of-page b p from size bytes at_p wide))
        ∙ take-buffer buffer run (record_size * (n - m)) run_long in
        let mid = mid_of to (to + size - to) in
        ap (λ l. put_mid to (to + size - to) l grown) first
        ∙ put_mid-change b q to size kept at-q wide appended grown
        (e-grown
        ∙ ap (λ l. appended_page j (n - m) copied (mid l)) first
        ∙ appended_page-source j (n - m) copied run (mid kept) took)
        length-q

  -- ---- the pages

  pub length-carried_pages : length (carried_pages b p m n q j bytes) ≡ length bytes
  unfolding carried_pages
  length-carried_pages = length-with_page b q (appended (page_at b kept q)) kept q-kept length-q ∙ length-kept

  -- the bytes past all pages below g
  pub drop-carried_pages : (g : ℕ) → p < g → q < g
      → drop (g * page_size b) (carried_pages b p m n q j bytes) ≡ drop (g * page_size b) bytes
  unfolding carried_pages
  drop-carried_pages g hp hq =
      drop-with_page b q (appended (page_at b kept q)) kept q-kept length-q (g * page_size b) (page-end-le b q g hq)
      ∙ drop-with_page b p (counted_page m (page_at b bytes p)) bytes lp.whole length-counted (g * page_size b)
      (page-end-le b p g hp)

  pub page_at-carried_pages-other : (g : ℕ) → (g ≡ p → ⊥) → (g ≡ q → ⊥)
      → page_at b (carried_pages b p m n q j bytes) g ≡ page_at b bytes g
  unfolding carried_pages
  page_at-carried_pages-other g np nq =
      page_at-with_page-other b q (appended (page_at b kept q)) kept q-kept length-q g nq
      ∙ page_at-with_page-other b p (counted_page m (page_at b bytes p)) bytes lp.whole length-counted g np

  module _ (apart : q ≡ p → ⊥) where
    pub page_at-carried_pages-from : page_at b (carried_pages b p m n q j bytes) p ≡ counted_page m (page_at b bytes p)
    unfolding carried_pages
    page_at-carried_pages-from =
        page_at-with_page-other b q (appended (page_at b kept q)) kept q-kept length-q p (λ e. apart (sym e))
        ∙ page_at-with_page-same b p (counted_page m (page_at b bytes p)) bytes lp.whole length-counted

    pub page_at-carried_pages-to : page_at b (carried_pages b p m n q j bytes) q
        ≡ appended_page j (n - m) (drop (record_offset m) (page_at b bytes p)) (page_at b bytes q)
    unfolding carried_pages
    page_at-carried_pages-to =
        page_at-with_page-same b q (appended (page_at b kept q)) kept q-kept length-q
        ∙ ap appended
        (page_at-with_page-other b p (counted_page m (page_at b bytes p)) bytes lp.whole length-counted q apart)

    -- ---- the records

    -- page p keeps its first m
    pub records_of-carried_pages-from : (s : Shape) → count_of (page_at b bytes p) ≡ n
        → records_of s (page_at b (carried_pages b p m n q j bytes) p) ≡ take m (records_of s (page_at b bytes p))
    records_of-carried_pages-from s e =
        let small = lp.capacity-le in
        ap (records_of s) page_at-carried_pages-from
        ∙ records_of-counted_page s m (page_at b bytes p) (omega (arith, length-p)) (omega arith) (omega arith)

    -- page q has its own, and then those from m on of page p
    pub records_of-carried_pages-to : (s : Shape) → count_of (page_at b bytes p) ≡ n → count_of (page_at b bytes q) ≡ j
        → records_of s (page_at b (carried_pages b p m n q j bytes) q)
        ≡ records_of s (page_at b bytes q) ++ drop m (records_of s (page_at b bytes p))
    records_of-carried_pages-to s e f =
        let small = lp.capacity-le in
        let q-long = length-page_at b q bytes lq.whole in
        ap (records_of s) page_at-carried_pages-to
        ∙ records_of-appended_page j (n - m) run (page_at b bytes q) (omega arith) run_long s (omega arith)
        ∙ ap (λ k. records_from s k 2 (page_at b bytes q) ++ records_from s (n - m) 0 run) (sym f)
        ∙ ap (λ rs. records_of s (page_at b bytes q) ++ rs)
        (records_from-window s (n - m) 0 (record_offset m) run (page_at b bytes p) refl
        ∙ sym (drop-records_from s m n 2 (page_at b bytes p) hm)
        ∙ ap (λ k. drop m (records_from s k 2 (page_at b bytes p))) (sym e))

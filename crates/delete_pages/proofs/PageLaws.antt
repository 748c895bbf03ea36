-- Laws of the lent pages after a delete, on any store: their length, the bytes past the pages, the pages that stay, and
-- the records of those that change. Assumes nothing.
use Prim.Native.Nat.{ℕ, zero, suc, ◌+◌, ◌-◌, ◌*◌, ◌≤◌, ◌<◌}
use mathlib.Core.Path.{◌≡◌, refl, sym, ap, ◌∙◌}
use mathlib.Core.Bool.{Bool, true, false}
use mathlib.Core.List.{List, ◌++◌}
use mathlib.Core.Logic.{◌⊎◌, inl, inr}
use native.Mathlib.Omega.{arith}
use lib.ListN.{length, drop}
use Rattle.lists.specs.Filter.{non_empty}
use Rattle.shape.specs.declared.Shape.{Shape}
use Rattle.region.specs.Sets.{in_order}
use Rattle.page.specs.Page.{count_of, records_from, records_of, page_size, page_at}
use Rattle.page.specs.Changes.{removed_page, remove_at}
use Rattle.page.proofs.FieldLaws.{length-records_from}
use Rattle.page.proofs.PlaceLaws.{length-remove_at}
use Rattle.page.proofs.ChangeLaws.{count_of-counted_page, length-removed_page, records_of-removed_page}
use Rattle.pages.specs.Pages.{PageLent}
use Rattle.pages.proofs.PageLaws.{length-with_page}
use Rattle.page.proofs.PartLaws.{length-page_at, page-end-le}
use Rattle.pages.proofs.PageLaws.{page_at-with_page-same, drop-with_page, page_at-with_page-other}
use Rattle.pages.proofs.CarryLaws.{length-carried_pages, drop-carried_pages, page_at-carried_pages-other}
use Rattle.pages.proofs.CarryLaws.{page_at-carried_pages-from, records_of-carried_pages-to}
use Rattle.delete_pages.specs.PageBytes.{removed_bytes, kept_page, freed_page, joined_bytes}

-- one page is kept and the other freed
pub kept-or-freed : (β : Bool) (g h : ℕ)
    → ((kept_page β g h ≡ g) × (freed_page β g h ≡ h)) ⊎ ((kept_page β g h ≡ h) × (freed_page β g h ≡ g))
kept-or-freed true g h = inr (refl, refl)
kept-or-freed false g h = inl (refl, refl)

module _ (b g i n : ℕ) (bytes : List ℕ) (lent : PageLent b g bytes) (l : i < n) (few : n ≤ b) where
  abbrev page : List ℕ
  page = page_at b bytes g

  abbrev removed : List ℕ
  removed = removed_bytes b g i n bytes

  length-page : length page ≡ page_size b
  length-page = length-page_at b g bytes lent.whole

  length_removed : length (removed_page i n page) ≡ page_size b
  length_removed = length-removed_page i n page l (omega (arith, length-page)) ∙ length-page

  -- ---- a record removed

  pub length-removed_bytes : length (removed_bytes b g i n bytes) ≡ length bytes
  unfolding removed_bytes
  length-removed_bytes = length-with_page b g (removed_page i n page) bytes lent.whole length_removed

  -- the bytes past the P pages
  pub drop-removed_bytes : (P : ℕ) → g < P
      → drop (P * page_size b) (removed_bytes b g i n bytes) ≡ drop (P * page_size b) bytes
  unfolding removed_bytes
  drop-removed_bytes P h =
      drop-with_page b g (removed_page i n page) bytes lent.whole length_removed (P * page_size b)
      (page-end-le b g P h)

  pub page_at-removed_bytes-same : page_at b (removed_bytes b g i n bytes) g ≡ removed_page i n (page_at b bytes g)
  unfolding removed_bytes
  page_at-removed_bytes-same = page_at-with_page-same b g (removed_page i n page) bytes lent.whole length_removed

  pub page_at-removed_bytes-other : (q : ℕ) → (q ≡ g → ⊥) → page_at b (removed_bytes b g i n bytes) q ≡ page_at b bytes q
  unfolding removed_bytes
  page_at-removed_bytes-other q o =
      page_at-with_page-other b g (removed_page i n page) bytes lent.whole length_removed q o

  -- a page that is lent stays so
  pub lent-removed_bytes : (q : ℕ) → PageLent b q bytes → PageLent b q (removed_bytes b g i n bytes)
  lent-removed_bytes q k =
      record {
        capacity-le = k.capacity-le;
        number_lt = k.number_lt;
        whole = omega (arith, k.whole, length-removed_bytes);
      }

  module _ (s : Shape) (count : count_of (page_at b bytes g) ≡ n) where
    pub records_of-removed_bytes : records_of s (page_at b (removed_bytes b g i n bytes) g)
        ≡ remove_at i (records_of s (page_at b bytes g))
    records_of-removed_bytes =
        let small = lent.capacity-le in
        ap (records_of s) page_at-removed_bytes-same
        ∙ records_of-removed_page i n page l (omega (arith, length-page)) s (omega arith)
        ∙ ap (λ c. remove_at i (records_from s c 2 page)) (sym count)

    pub count_of-removed_bytes : count_of (page_at b (removed_bytes b g i n bytes) g) ≡ n - 1
    count_of-removed_bytes =
        let after = page_at b removed g in
        let own = length-records_from s (count_of page) 2 page in
        omega (
          arith,
          length-records_from s (count_of after) 2 after,
          ap length records_of-removed_bytes,
          own,
          length-remove_at i (records_of s page) (omega (arith, own, count)),
          count,
        )

    -- whether records are left
    pub some_left : 1 < n → non_empty (records_of s (page_at b (removed_bytes b g i n bytes) g)) ≡ true
    some_left h = by_count (count_of (page_at b removed g)) count_of-removed_bytes
      where
        by_count : (c : ℕ) → c ≡ n - 1 → non_empty (records_from s c 2 (page_at b removed g)) ≡ true
        by_count zero e = absurd (omega arith)
        by_count (suc c) e = refl

    pub none_left : n ≡ 1 → non_empty (records_of s (page_at b (removed_bytes b g i n bytes) g)) ≡ false
    none_left e =
        let none : n - 1 ≡ 0 = omega arith in
        ap (λ c. non_empty (records_from s c 2 (page_at b removed g))) (count_of-removed_bytes ∙ none)

  -- ---- joined with page h, which has k records

  module _ (h k : ℕ) (lent-h : PageLent b h bytes) (some : k ≤ b) (fit : n - 1 + k ≤ b) where
    lent-own : PageLent b g removed
    lent-own = lent-removed_bytes g lent

    lent_other : PageLent b h removed
    lent_other = lent-removed_bytes h lent-h

    pub length-joined_bytes : (β : Bool) → length (joined_bytes β b g i n h k bytes) ≡ length bytes
    unfolding joined_bytes
    length-joined_bytes true =
        length-carried_pages b g 0 (n - 1) h k removed lent-own lent_other (omega arith) (omega arith) (omega arith)
        ∙ length-removed_bytes
    length-joined_bytes false =
        length-carried_pages b h 0 k g (n - 1) removed lent_other lent-own (omega arith) some (omega arith)
        ∙ length-removed_bytes

    -- the bytes past the P pages
    pub drop-joined_bytes : (β : Bool) (P : ℕ) → g < P → h < P
        → drop (P * page_size b) (joined_bytes β b g i n h k bytes) ≡ drop (P * page_size b) bytes
    unfolding joined_bytes
    drop-joined_bytes true P lg lh =
        drop-carried_pages b g 0 (n - 1) h k removed lent-own lent_other (omega arith) (omega arith) (omega arith) P lg
        lh
        ∙ drop-removed_bytes P lg
    drop-joined_bytes false P lg lh =
        drop-carried_pages b h 0 k g (n - 1) removed lent_other lent-own (omega arith) some (omega arith) P lh lg
        ∙ drop-removed_bytes P lg

    pub page_at-joined_bytes-other : (β : Bool) (q : ℕ) → (q ≡ g → ⊥) → (q ≡ h → ⊥)
        → page_at b (joined_bytes β b g i n h k bytes) q ≡ page_at b bytes q
    unfolding joined_bytes
    page_at-joined_bytes-other true q ng nh =
        page_at-carried_pages-other b g 0 (n - 1) h k removed lent-own lent_other (omega arith) (omega arith)
        (omega arith) q ng nh
        ∙ page_at-removed_bytes-other q ng
    page_at-joined_bytes-other false q ng nh =
        page_at-carried_pages-other b h 0 k g (n - 1) removed lent_other lent-own (omega arith) some (omega arith) q nh ng
        ∙ page_at-removed_bytes-other q ng

    module _ (apart : h ≡ g → ⊥) where
      same-other : page_at b removed h ≡ page_at b bytes h
      same-other = page_at-removed_bytes-other h apart

      long : (q : ℕ) → PageLent b q removed → 2 ≤ length (page_at b removed q)
      long q lq = omega (arith, length-page_at b q removed lq.whole)

      -- the page that is freed
      pub count_of-joined_bytes-freed : (β : Bool)
          → count_of (page_at b (joined_bytes β b g i n h k bytes) (freed_page β g h)) ≡ 0
      unfolding joined_bytes
      count_of-joined_bytes-freed true =
          ap count_of
          (page_at-carried_pages-from b g 0 (n - 1) h k removed lent-own lent_other (omega arith) (omega arith)
          (omega arith) apart)
          ∙ count_of-counted_page 0 (page_at b removed g) (long g lent-own) (omega arith)
      count_of-joined_bytes-freed false =
          ap count_of
          (page_at-carried_pages-from b h 0 k g (n - 1) removed lent_other lent-own (omega arith) some (omega arith)
          (λ e. apart (sym e)))
          ∙ count_of-counted_page 0 (page_at b removed h) (long h lent_other) (omega arith)

      -- the page that is kept: the records of both in split order
      pub records_of-joined_bytes-kept : (s : Shape) → count_of (page_at b bytes g) ≡ n → count_of (page_at b bytes h) ≡ k
          → (β : Bool) → records_of s (page_at b (joined_bytes β b g i n h k bytes) (kept_page β g h))
          ≡ in_order β (remove_at i (records_of s (page_at b bytes g))) (records_of s (page_at b bytes h))
      unfolding joined_bytes
      records_of-joined_bytes-kept s cg ch true =
          records_of-carried_pages-to b g 0 (n - 1) h k removed lent-own lent_other (omega arith) (omega arith)
          (omega arith) apart s (count_of-removed_bytes s cg) (ap count_of same-other ∙ ch)
          ∙ (λ t. records_of s (same-other t) ++ records_of-removed_bytes s cg t)
      records_of-joined_bytes-kept s cg ch false =
          records_of-carried_pages-to b h 0 k g (n - 1) removed lent_other lent-own (omega arith) some (omega arith)
          (λ e. apart (sym e)) s (ap count_of same-other ∙ ch) (count_of-removed_bytes s cg)
          ∙ (λ t. records_of-removed_bytes s cg t ++ records_of s (same-other t))

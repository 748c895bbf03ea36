-- Laws of pages in use: a page is counted where it shows a record. Assumes nothing.
use Prim.Native.Nat.{ℕ, zero, suc, ◌+◌}
use mathlib.Core.Path.{◌≡◌, refl, ap}
use mathlib.Core.Bool.{cond}
use mathlib.Core.List.{List}
use native.Mathlib.Omega.{arith}
use lib.Dec.{eqb}
use borrow.Author.Tests.{ne_eqb}
use Rattle.lists.specs.Filter.{non_empty}
use Rattle.shape.specs.declared.Shape.{Shape}
use Rattle.record.specs.Record.{Record}
use Rattle.page.specs.Page.{count_of, records_from, records_of, page_at}
use Rattle.check_test.specs.Walk.{View, pages_in_use}
use Rattle.check_counts.specs.Counts.{used_pages}

-- a page with a count shows a record
pub pages_in_use-used_pages : (v : View Record) (s : Shape) (b : ℕ) (bytes : List ℕ)
    → ((g : ℕ) → v.shown g ≡ records_of s (page_at b bytes g)) → (n : ℕ) → pages_in_use v n ≡ used_pages b bytes n
pages_in_use-used_pages v s b bytes shown zero = refl
pages_in_use-used_pages v s b bytes shown (suc n) =
    rw (shown n, pages_in_use-used_pages v s b bytes shown n)
    (ap (λ k. k + used_pages b bytes n) (by_count (count_of (page_at b bytes n))))
  where
    page : List ℕ
    page = page_at b bytes n

    by_count : (k : ℕ) → ◌≡◌ {A = ℕ} (cond (non_empty (records_from s k 2 page)) 1 0) (cond (eqb k 0) 0 1)
    by_count zero = refl
    by_count (suc k) = rw (ne_eqb (suc k) 0 (λ e. omega arith))

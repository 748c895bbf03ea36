-- A store's words and pages: what `Shows` says of a division is what the walk's laws say of it. Assumes nothing.
use Prim.Native.Nat.{ℕ, zero, suc, pred, ◌≤◌, ◌<◌}
use mathlib.Core.Path.{◌≡◌, refl, sym, ap, ◌∙◌}
use mathlib.Core.Bool.{Bool, true, false, not, false≢true, true≢false}
use mathlib.Core.List.{List, [], ◌∷◌}
use native.Mathlib.Omega.{arith}
use native.Mathlib.Nat.{zero-add}
use lib.Dec.{eqb}
use lib.ListN.{length, get_or}
use borrow.Author.Tests.{ne_eqb}
use Rattle.lists.specs.Filter.{non_empty}
use Rattle.shape.specs.Shape.{shape_number, widths_of, total}
use Rattle.shape.specs.declared.Shape.{Shape}
use Rattle.shape.proofs.ShapeLaws.{widths_of-fit}
use Rattle.address.specs.Address.{address}
use Rattle.cell.specs.Cell.{cell_address, Agree}
use Rattle.cell.proofs.CellLaws.{cell_agree}
use Rattle.region.specs.Strings.{same_bits, empty_string}
use Rattle.region.specs.Division.{Division, leaf_depth, leaf_records, non_empty_leaves}
use Rattle.region.proofs.StringLaws.{same_bits-below, bit-of-same_bits}
use Rattle.record.specs.Record.{Record}
use Rattle.page.specs.Page.{count_of, records_from, records_of, page_at}
use Rattle.directory_word.specs.Word.{word_of}
use Rattle.directory_word.specs.declared.Leaf.TheVariants.{Page}
use Rattle.model.specs.Sets.{division_of}
use Rattle.store.specs.Store.{Store, word_at}
use Rattle.store.specs.Sound.{LeafWord, Shows}
use Rattle.page.proofs.FieldLaws.{length-records_from}
use Rattle.directory_word.specs.Word.{depth_field, page_field}
use Rattle.check_test.specs.Walk.{pages_in_use}
use Rattle.check_test.specs.Test.{view_of}
use Rattle.check_test.proofs.ViewLaws.{Holds, Shown}
use Rattle.check_test.proofs.InUseLaws.{Holds-non_empty, pages-apart, free-of-count, count-of-free}

-- ---- strings

pub agree-of-same_bits : (p q : ℕ → Bool) (n : ℕ) → same_bits p q n 0 ≡ true → Agree n p q
agree-of-same_bits p q n e s l = sym (bit-of-same_bits p q n 0 e s (omega arith) (omega arith))

pub same_bits-of-agree : (p q : ℕ → Bool) (n : ℕ) → Agree n p q → same_bits p q n 0 ≡ true
same_bits-of-agree p q n a = same_bits-below p q n n 0 (omega arith) a

-- ---- the halves of a word

-- a word with a page number
word_of-page : (w g : ℕ) → page_field w ≡ suc g → w ≡ word_of (Page g (depth_field w))
word_of-page w g e = omega arith

pub page_field-word_of : (w g x : ℕ) → g < 4096 → w ≡ word_of (Page g x) → page_field w ≡ suc g
page_field-word_of w g x h e = omega arith

-- ---- counts

pub non_empty-records_from : (s : Shape) (n offset : ℕ) (bytes : List ℕ)
    → non_empty (records_from s n offset bytes) ≡ not (eqb n 0)
non_empty-records_from s zero offset bytes = refl
non_empty-records_from s (suc n) offset bytes = rw (ne_eqb (suc n) 0 (λ e. omega arith))

non_empty-length : {A : Type 0} (xs : List A) → non_empty xs ≡ false → length xs ≡ 0
non_empty-length [] e = refl
non_empty-length (x ∷ xs) e = absurd (true≢false e)

-- ---- words and pages

module _ (store : Store) where
  abbrev s : Shape
  s = store.state.shape

  abbrev P : ℕ
  P = store.state.limits.pages

  abbrev word : (ℕ → Bool) → ℕ
  word p = word_at s store.state.deepest store.memory.words p

  -- a cell's word depends on the first T bits of its string
  pub word_at-local : shape_number s ≡ 0 → (p q : ℕ → Bool) → same_bits p q store.state.deepest 0 ≡ true
      → word p ≡ word q
  unfolding cell_address
  word_at-local n p q e =
      ap (λ c. get_or store.memory.words (address (widths_of s) c) 0)
      (cell_agree (widths_of s) (widths_of-fit s n) store.state.deepest p q
      (agree-of-same_bits p q store.state.deepest e))

  LeafWord-fields : (rs : List Record) (x w : ℕ) → P ≤ 4096 → LeafWord s P store.memory.bytes rs x w
      → (depth_field w ≡ x) × Holds (view_of store) rs (page_field w)
  LeafWord-fields [] x w h k = (omega arith, omega arith)
  LeafWord-fields (r ∷ rs) x w h k =
      let e : page_field w ≡ suc k.0 = page_field-word_of w k.0 x (omega (arith, k.1)) k.2 in
      let d : depth_field w ≡ x = omega (arith, k.1, k.2) in
      (d, rw e (k.1, k.3))

  LeafWord-of-fields : (rs : List Record) (x w : ℕ) → depth_field w ≡ x → Holds (view_of store) rs (page_field w)
      → LeafWord s P store.memory.bytes rs x w
  LeafWord-of-fields [] x w d k = omega arith
  LeafWord-of-fields (r ∷ rs) x w d k = by_field (page_field w) refl k
    where
      by_field : (f : ℕ) → page_field w ≡ f → Holds (view_of store) (r ∷ rs) f
          → LeafWord s P store.memory.bytes (r ∷ rs) x w
      by_field zero e k = absurd k
      by_field (suc g) e k = (g, k.0, word_of-page w g e ∙ ap (λ y. word_of (Page g y)) d, k.1)

  pub shown-of-Shows : (D : Division Record) → P ≤ 4096 → Shows s P store.state.deepest store.memory D
      → Shown (view_of store) empty_string 0 D
  shown-of-Shows D h k =
      record {
        depth = λ q a.
            (LeafWord-fields (leaf_records q 0 D) (leaf_depth q 0 D) (word q) h (k.word q)).0
            ∙ sym (zero-add (leaf_depth q 0 D));
        page = λ q a. (LeafWord-fields (leaf_records q 0 D) (leaf_depth q 0 D) (word q) h (k.word q)).1;
        same = λ q q' a a' e. k.same_word q q' (agree-of-same_bits q q' (leaf_depth q 0 D) e);
      }

  -- a page without a leaf is free, so that there are as many pages in use as leaves with a page
  pub pages_in_use-Shows : (S : List Record) → P ≤ 4096
      → Shows s P store.state.deepest store.memory (division_of s S)
      → pages_in_use (view_of store) P ≡ non_empty_leaves (division_of s S)
  unfolding division_of
  pages_in_use-Shows S h k =
      count-of-free (view_of store) (total (widths_of s)) S (shown-of-Shows (division_of s S) h k)
      (λ g l busy none.
      let page = page_at s.capacity store.memory.bytes g in
      no_record (records_of s page) busy
      (length-records_from s (count_of page) 2 page
      ∙ k.free g l (λ p x e. none p (page_field-word_of (word p) g x (omega arith) e))))
    where
      no_record : (rs : List Record) → non_empty rs ≡ true → length rs ≡ 0 → ⊥
      no_record [] e d = false≢true e
      no_record (r ∷ rs) e d = omega arith

  pub Shows-of-shown : (S : List Record) → P ≤ 4096 → Shown (view_of store) empty_string 0 (division_of s S)
      → pages_in_use (view_of store) P ≡ non_empty_leaves (division_of s S)
      → Shows s P store.state.deepest store.memory (division_of s S)
  unfolding division_of
  Shows-of-shown S h k count =
      record {
        word = λ p. LeafWord-of-fields (leaf_records p 0 (division_of s S)) (leaf_depth p 0 (division_of s S)) (word p)
            (k.depth p refl ∙ zero-add (leaf_depth p 0 (division_of s S))) (k.page p refl);
        same_word = λ p q a. k.same p q refl refl (same_bits-of-agree p q (leaf_depth p 0 (division_of s S)) a);
        own-page = λ p q apart g x y l e e'. apart (agree-of-same_bits p q (leaf_depth p 0 (division_of s S))
            (one p q (page_field-word_of (word p) g x (omega arith) e) (page_field-word_of (word q) g y (omega arith) e')));
        free = λ g l none.
            let page = page_at s.capacity store.memory.bytes g in
            sym (length-records_from s (count_of page) 2 page)
            ∙ non_empty-length (records_of s page)
            (free-of-count (view_of store) (total (widths_of s)) S k count g l
            (λ q e. none q (depth_field (word q)) (word_of-page (word q) g e)));
      }
    where
      one : (p q : ℕ → Bool) {g : ℕ} → page_field (word p) ≡ suc g → page_field (word q) ≡ suc g
          → same_bits p q (leaf_depth p 0 (division_of s S)) 0 ≡ true
      one p q {g} e e' =
          pages-apart (view_of store) (total (widths_of s)) S k p q
          (Holds-non_empty (view_of store) (leaf_records p 0 (division_of s S)) g (rw e at (k.page p refl)))
          (Holds-non_empty (view_of store) (leaf_records q 0 (division_of s S)) g (rw e' at (k.page q refl)))
          (ap pred (e ∙ sym e'))

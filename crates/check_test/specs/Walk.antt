-- The test of words and pages, by recursion over regions (document 01, "Regions of a set", "Lent memory"). It is over
-- any records with split bits. A region of depth t is given by a string p whose first t bits count; the walk sets the
-- others to 0, so that p is the string of the region's first cell too. Assumes nothing.
use Rattle.std.specs.Prelude.{ℕ, zero, suc, ◌+◌, Bool, true, false, ◌&&◌, cond, List, [], leb, ltb, eqb, length}
use Rattle.lists.specs.Filter.{all, non_empty}
use Rattle.region.specs.Strings.{same_bits, with_bit}
use Rattle.region.specs.Sets.{sorted}
use Rattle.region.specs.Division.{Division, leaf, divided, all_records}
use Rattle.directory_word.specs.Word.{depth_field, page_field}

-- "Every cell whose split bits begin with a leaf holds that leaf's word": the cells that begin with the first t bits of
-- p, n steps more, hold the word x, where `word` gives the word at the cell of a string
module _ (word : (ℕ → Bool) → ℕ) where
  abbrev pub same_words : ℕ → (ℕ → Bool) → ℕ → ℕ → Bool
  same_words zero p t x = eqb (word p) x
  same_words (suc n) p t x = same_words n (with_bit p t false) (suc t) x && same_words n (with_bit p t true) (suc t) x

-- ---- what the test looks at

pub record View (R : Type 0) : Type 0 where
  -- the split bits of a record, and whether it is within the shape
  pub bit : R → ℕ → Bool
  pub fits : R → Bool
  -- W, b and P
  pub bits : ℕ
  pub capacity : ℕ
  pub pages : ℕ
  -- the word at the cell of a string, and the records on a page
  pub word : (ℕ → Bool) → ℕ
  pub shown : ℕ → List R

module _ {R : Type 0} (v : View R) where
  -- ---- one leaf

  -- the records that a leaf has, by its word's page field
  abbrev pub field_records : ℕ → List R
  field_records zero = []
  field_records (suc g) = v.shown g

  -- a record within the shape that begins with the first t bits of p
  abbrev pub record_test : (ℕ → Bool) → ℕ → R → Bool
  record_test p t r = v.fits r && same_bits p (v.bit r) t 0

  -- "A leaf is empty or has one page": a number below P, 1 to b records in split order, each of them the leaf's
  abbrev pub page_test : (ℕ → Bool) → ℕ → ℕ → Bool
  page_test p t zero = true
  page_test p t (suc g) =
      ltb g v.pages
      && (non_empty (v.shown g)
      && (leb (length (v.shown g)) v.capacity
      && (sorted v.bit v.bits 0 (v.shown g) && all (record_test p t) (v.shown g))))

  -- the region is a leaf, and words and page are as they must be
  abbrev pub leaf_test : ℕ → (ℕ → Bool) → ℕ → Bool
  leaf_test n p t =
      eqb (depth_field (v.word p)) t
      && (page_test p t (page_field (v.word p)) && same_words v.word n p t (v.word p))

  -- ---- all leaves of a region, with n steps left

  -- the division that the words show: a region is a leaf if the word of its first cell has no greater depth
  abbrev pub read_division : ℕ → (ℕ → Bool) → ℕ → Division R
  read_division zero p t = leaf (field_records (page_field (v.word p)))
  read_division (suc n) p t =
      elim (leb (depth_field (v.word p)) t) [
        | true ↦ leaf (field_records (page_field (v.word p)))
        | false ↦ divided (read_division n (with_bit p t false) (suc t)) (read_division n (with_bit p t true) (suc t))
      ]

  -- how many records it holds
  abbrev pub record_count : ℕ → (ℕ → Bool) → ℕ → ℕ
  record_count n p t = length (all_records (read_division n p t))

  -- each leaf passes, and "divided exactly if more than b keys begin with it"
  abbrev pub region_test : ℕ → (ℕ → Bool) → ℕ → Bool
  region_test zero p t = leaf_test zero p t
  region_test (suc n) p t =
      elim (leb (depth_field (v.word p)) t) [
        | true ↦ leaf_test (suc n) p t
        | false ↦
            region_test n (with_bit p t false) (suc t)
            && (region_test n (with_bit p t true) (suc t)
            && ltb v.capacity
            (record_count n (with_bit p t false) (suc t) + record_count n (with_bit p t true) (suc t)))
      ]

  -- ---- pages

  -- how many of the first k pages are not free
  abbrev pub pages_in_use : ℕ → ℕ
  pages_in_use zero = 0
  pages_in_use (suc k) = cond (non_empty (v.shown k)) 1 0 + pages_in_use k

-- The words that the steps of a change keep, from what the steps do and the tests tell: a region set; a directory
-- doubled and a leaf divided; a directory halved and leaves joined. Assumes nothing.
use Prim.Native.Nat.{ℕ, suc, ◌-◌, ◌^◌, ◌≤◌, ◌<◌}
use mathlib.Core.Path.{◌≡◌, refl, sym, ap, ◌∙◌}
use mathlib.Core.Bool.{Bool, true, false}
use mathlib.Core.List.{List}
use Rattle.directory.specs.Directory.{Filled}
use Rattle.cell.proofs.AgreeLaws.{agree-le}
use Rattle.directory_word.specs.Word.{word_of}
use Rattle.directory_word.specs.Word.{word_of, depth_field}
use Rattle.directory_word.specs.declared.Leaf.TheVariants.{Page}
use Rattle.directory_word.proofs.WordLaws.{word_of-depth}
use Rattle.store.specs.Contained.{Whole, WordsKept}
use Rattle.change.specs.Divided.{Deepened, LeavesSet}
use Rattle.directory_tests.specs.Intact.{cell_word, RegionHolds, Folds}
use Rattle.change_kept.proofs.WordLaws.{whole-of-holds, SiblingLeaf, kept-leaf, kept-joined}

module _ (ws : List ℕ) (T : ℕ) (key : ℕ → Bool) (words : List ℕ) where
  abbrev own : ℕ
  own = cell_word ws T words key

  module _ (x : ℕ) (depth : depth_field own ≡ x) (whole : RegionHolds ws T x key own words) where
    -- the leaf gets a page, or loses it
    pub filled-kept : (joins : Bool) (word : ℕ) (words' : List ℕ) → Filled ws T x key word words words'
        → WordsKept joins (cell_word ws T words) (cell_word ws T words') key
    filled-kept joins word words' f =
        kept-leaf (cell_word ws T words) (cell_word ws T words') key joins x depth whole f.outside

    -- the leaf is divided
    pub divided-kept : (u m g h : ℕ) (doubled words' : List ℕ) → Deepened ws T u words doubled
        → LeavesSet ws u x m key g h doubled words' → WordsKept false (cell_word ws T words) (cell_word ws u words') key
    divided-kept u m g h doubled words' d l =
        kept-leaf (cell_word ws T words) (cell_word ws u words') key false x depth whole
        (λ p n. l.siblings.outside p n ∙ d.cells p)

  -- a region that is set to one word is one leaf
  pub filled-whole : (T' y kept : ℕ) → kept < 2 ^ 16 - 1 → (words' : List ℕ)
      → Filled ws T' y key (word_of (Page kept y)) words words' → Whole (cell_word ws T' words') key
  filled-whole T' y kept few words' f =
      whole-of-holds (cell_word ws T' words') y (word_of (Page kept y)) key key (word_of-depth kept y few) f.inside
      (λ i l. refl)

  -- the leaf is joined with its siblings from depth y + 1 on
  pub joined-kept : (m y T' kept : ℕ) → y ≤ m → y ≤ T' → depth_field own ≡ suc m
      → RegionHolds ws T (suc m) key own words
      → ((z : ℕ) → y ≤ z → z ≤ m → SiblingLeaf (cell_word ws T words) key z) → kept < 2 ^ 16 - 1
      → Folds ws T' T key words
      → (words' : List ℕ) → Filled ws T' y key (word_of (Page kept y)) words words'
      → WordsKept true (cell_word ws T words) (cell_word ws T' words') key
  joined-kept m y T' kept l b depth whole siblings few folds words' f =
      kept-joined (cell_word ws T words) (cell_word ws T' words') key m y l depth whole siblings
      (ap depth_field (f.inside key (λ i k. refl)) ∙ word_of-depth kept y few) (filled-whole T' y kept few words' f)
      (λ p n. f.outside p n ∙ sym (folds p (λ a. n (agree-le y T' key p b a))))

-- Laws of directory words: their bound; depth and page field read back; no page number and no depth is lost. A store's
-- page numbers are below 4,096. Assumes nothing.
use Prim.Native.Nat.{ℕ, ◌+◌, ◌-◌, ◌/◌, ◌%◌, ◌^◌, ◌<◌}
use mathlib.Core.Path.{◌≡◌}
use native.Mathlib.Omega.{arith}
use Rattle.directory_word.specs.Word.{word_of}
use Rattle.directory_word.specs.declared.Leaf.TheVariants.{Empty, Page}

-- ---- fields

-- the depth stands above bit 16
pub word_of-depth : (g x : ℕ) → g < 2 ^ 16 - 1 → word_of (Page g x) / 2 ^ 16 ≡ x
word_of-depth g x h = omega arith

pub word_of-depth-empty : (x : ℕ) → word_of (Empty x) / 2 ^ 16 ≡ x
word_of-depth-empty x = omega arith

-- the page number plus one below it
pub word_of-page : (g x : ℕ) → g < 2 ^ 16 - 1 → word_of (Page g x) % 2 ^ 16 ≡ g + 1
word_of-page g x h = omega arith

pub word_of-page-empty : (x : ℕ) → word_of (Empty x) % 2 ^ 16 ≡ 0
word_of-page-empty x = omega arith

-- ---- one to one

pub word_of-one-to-one : (g h x y : ℕ) → g < 2 ^ 16 - 1 → h < 2 ^ 16 - 1 → word_of (Page g x) ≡ word_of (Page h y)
    → (g ≡ h) × (x ≡ y)
word_of-one-to-one g h x y k l e = (omega arith, omega arith)

pub word_of-one-to-one-empty : (x y : ℕ) → word_of (Empty x) ≡ word_of (Empty y) → x ≡ y
word_of-one-to-one-empty x y e = omega arith

-- a leaf with a page and one without have different words
pub word_of-apart : (g x y : ℕ) → g < 2 ^ 16 - 1 → word_of (Page g x) ≡ word_of (Empty y) → ⊥
word_of-apart g x y k e = omega arith

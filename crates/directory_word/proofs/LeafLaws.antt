-- Laws of directory words: packing by shifts; what a word names; leaves and words read back. Masks are in `lib.Bits`.
-- Assumes nothing.
use Prim.Native.Nat.{ℕ, zero, suc, ◌+◌, ◌*◌, ◌/◌, ◌%◌, ◌-◌, ◌^◌, ◌<◌}
use mathlib.Core.Path.{◌≡◌, refl, sym, ap, ◌∙◌}
use native.Mathlib.Omega.{arith}
use lib.Bits.{bit_or, or_shifted}
use lib.Pow.{shl_exact}
use Rattle.directory_word.specs.Word.{word_of, field_leaf, leaf_of}
use Rattle.directory_word.specs.declared.Leaf.{Leaf}
use Rattle.directory_word.specs.declared.Leaf.TheVariants.{Empty, Page}

-- ---- packing

pub shifted-empty : (depth : ℕ) → depth < 2 ^ 4 → (depth * 2 ^ 16) % 2 ^ 32 ≡ word_of (Empty depth)
shifted-empty depth d = shl_exact 4 16 32 d (omega arith)

pub or-page : (page depth : ℕ) → page + 1 < 2 ^ 16 → depth < 2 ^ 4
    → bit_or ((depth * 2 ^ 16) % 2 ^ 32) (page + 1) ≡ word_of (Page page depth)
or-page page depth p d = ap (λ x. bit_or x (page + 1)) (shifted-empty depth d) ∙ or_shifted depth 16 (page + 1) p

-- ---- what a word names

pub leaf_of-empty : (word : ℕ) → word % 2 ^ 16 ≡ 0 → leaf_of word ≡ Empty (word / 2 ^ 16)
unfolding leaf_of
leaf_of-empty word e = rw e

pub leaf_of-page : (word field : ℕ) → word % 2 ^ 16 ≡ field → (field ≡ 0 → ⊥)
    → leaf_of word ≡ Page (field - 1) (word / 2 ^ 16)
unfolding leaf_of
leaf_of-page word zero e n = absurd (n refl)
leaf_of-page word (suc page) e n =
    let one : page ≡ suc page - 1 = omega arith in rw e (ap (λ p. Page p (word / 2 ^ 16)) one)

-- ---- leaves and words read back: for a reader, no page number and no depth is lost

pub leaf_of-word_of-empty : (depth : ℕ) → leaf_of (word_of (Empty depth)) ≡ Empty depth
leaf_of-word_of-empty depth =
    let high : depth * 2 ^ 16 / 2 ^ 16 ≡ depth = omega arith in
    leaf_of-empty (depth * 2 ^ 16) (omega arith) ∙ ap Empty high

pub leaf_of-word_of-page : (page depth : ℕ) → page + 1 < 2 ^ 16 → leaf_of (word_of (Page page depth)) ≡ Page page depth
leaf_of-word_of-page page depth p =
    let high : (depth * 2 ^ 16 + (page + 1)) / 2 ^ 16 ≡ depth = omega arith in
    let low : page + 1 - 1 ≡ page = omega arith in
    leaf_of-page (depth * 2 ^ 16 + (page + 1)) (page + 1) (omega arith) (λ e. omega arith)
    ∙ ap (λ d. Page (page + 1 - 1) d) high
    ∙ ap (λ g. Page g depth) low

word_of-field_leaf : (field depth : ℕ) → word_of (field_leaf field depth) ≡ depth * 2 ^ 16 + field
word_of-field_leaf zero depth = omega arith
word_of-field_leaf (suc page) depth = omega arith

-- every number is the word of the leaf that it names
pub word_of-leaf_of : (word : ℕ) → word_of (leaf_of word) ≡ word
unfolding leaf_of
word_of-leaf_of word = word_of-field_leaf (word % 2 ^ 16) (word / 2 ^ 16) ∙ omega arith

pub word_of-of-leaf_of : (word : ℕ) (leaf : Leaf) → leaf_of word ≡ leaf → word ≡ word_of leaf
word_of-of-leaf_of word leaf e = sym (word_of-leaf_of word) ∙ ap word_of e

-- ---- for a reader, no word for two leaves

pub word_of-page-inj : (page page' depth depth' : ℕ) → page + 1 < 2 ^ 16 → page' + 1 < 2 ^ 16
    → word_of (Page page depth) ≡ word_of (Page page' depth') → (page ≡ page') × (depth ≡ depth')
word_of-page-inj page page' depth depth' p q e = (omega arith, omega arith)

pub word_of-empty-page : (page depth depth' : ℕ) → page + 1 < 2 ^ 16 → word_of (Empty depth) ≡ word_of (Page page depth')
    → ⊥
word_of-empty-page page depth depth' p e = omega arith

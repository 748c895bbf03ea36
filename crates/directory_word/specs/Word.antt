-- Directory words (document 01, "Lent memory"). Assumes nothing.
use Rattle.std.specs.Prelude.{ℕ, zero, suc, ◌+◌, ◌*◌, ◌/◌, ◌%◌, ◌^◌}
use Rattle.directory_word.specs.declared.Leaf.{Leaf}
use Rattle.directory_word.specs.declared.Leaf.TheVariants.{Empty, Page}

-- "packs the page number plus one into bits 0–15, or 0 for no page, and the leaf's depth into bits 16–19; .. the rest
-- are zero": page 0 at depth 3 is 0x30001, no page at depth 2 is 0x20000
abbrev pub word_of : Leaf → ℕ
word_of (Empty depth) = depth * 2 ^ 16
word_of (Page page depth) = depth * 2 ^ 16 + (page + 1)

-- the depth that a word names: "bits 16–19; .. the rest are zero". All bits from 16 on, so that it is 16 or more
-- exactly if one of bits 20–31 is not 0: 0x30001 gives 3
abbrev pub depth_field : ℕ → ℕ
depth_field word = word / 2 ^ 16

-- "the page number plus one .. or 0 for no page": 0x30001 gives 1
abbrev pub page_field : ℕ → ℕ
page_field word = word % 2 ^ 16

-- the leaf of a page field and a depth
abbrev pub field_leaf : ℕ → ℕ → Leaf
field_leaf zero depth = Empty depth
field_leaf (suc page) depth = Page page depth

-- the leaf that a word names; where one of bits 20–31 is not 0 the word is no leaf's
unfoldable pub leaf_of : ℕ → Leaf
leaf_of word = field_leaf (page_field word) (depth_field word)

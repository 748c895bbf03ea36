-- What holds of the division of a set, in document 01's own words ("Regions of a set"): its leaves are the undivided
-- regions whose every shorter beginning is divided, each listed once, and T, tally, pages and reads are counts of them.
-- Assumes nothing.
use Rattle.std.specs.Prelude.{ℕ, max, ◌≤◌, ◌<◌, ◌≡◌, Bool, true, ◌↔◌, eqb, length}
use mathlib.Core.List.{List, map, foldr}
use Rattle.lists.specs.Filter.{filter, non_empty}
use Rattle.lists.specs.Members.{Member, All, NoRepeat}
use Rattle.region.specs.Strings.{list_bit}
use Rattle.region.specs.Sets.{sorted, with_prefix}
use Rattle.region.specs.Division.{IsLeaf, Division, depth, string_bit, leaves, leaf_depth, leaf_records}
use Rattle.region.specs.Division.{greatest_depth, tally, non_empty_leaves}
use Rattle.region.specs.Query.{QueryBit, agrees, reads}

-- "Undivided regions whose every shorter beginning is divided are the leaves": these words alone, for strings of any
-- length, where `IsLeaf` also lets a region of all W bits be one
abbrev pub LeafInWords : {R : Type 0} → (R → ℕ → Bool) → ℕ → List R → (ℕ → Bool) → ℕ → Type 0
LeafInWords bit b S p x =
    (length (with_prefix bit p x 0 S) ≤ b) × ((y : ℕ) → y < x → b < length (with_prefix bit p y 0 S))

-- the strings of the leaves, in the order of the walk
abbrev pub leaf_strings : {R : Type 0} → Division R → List (List Bool)
leaf_strings D = map (λ l. l.string) (leaves D)

-- what holds of the division D of a list S of records with W split bits, `divide bit b W 0 S`
pub record DivisionLaws {R : Type 0} (bit : R → ℕ → Bool) (b W : ℕ) (S : List R) (D : Division R) : Type 0 where
  -- the strings listed are those of the leaves, ..
  pub are-leaves : (bits : List Bool) → Member bits (leaf_strings D) ↔ IsLeaf bit b W S (list_bit bits) (length bits)
  -- .. each once, ..
  pub once : NoRepeat (leaf_strings D)
  -- .. with the keys that "begin with it"
  pub begin-with : All (λ l. l.records ≡ with_prefix bit (string_bit l) (depth l) 0 S) (leaves D)
  -- in a set no two records have one key: there `IsLeaf` says no more than document 01
  pub in_words : 1 ≤ b → sorted bit W 0 S ≡ true → (p : ℕ → Bool) (x : ℕ)
      → IsLeaf bit b W S p x ↔ LeafInWords bit b S p x
  -- a string leads to the leaf that it begins with
  pub leads : (p : ℕ → Bool) (x : ℕ) → IsLeaf bit b W S p x ↔ (leaf_depth p 0 D ≡ x)
  pub leads-records : (p : ℕ → Bool) → leaf_records p 0 D ≡ with_prefix bit p (leaf_depth p 0 D) 0 S
  -- "T is the greatest leaf depth"
  pub greatest : greatest_depth D ≡ foldr max 0 (map depth (leaves D))
  -- "the tally of leaves (empty ones too)"
  pub tallied : (x : ℕ) → tally D x ≡ length (filter (λ l. eqb (depth l) x) (leaves D))
  -- "A leaf is empty or has one page"
  pub paged : non_empty_leaves D ≡ length (filter (λ l. non_empty l.records) (leaves D))
  -- "Reads are the non-empty agreeing leaves"
  pub read : (q : ℕ → QueryBit) → reads q D
      ≡ length (filter (λ l. non_empty l.records) (filter (λ l. agrees q (string_bit l) (depth l) 0) (leaves D)))

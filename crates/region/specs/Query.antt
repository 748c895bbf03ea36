-- Queries: agreement with regions (document 01, "Regions of a set") and the walk over them ("Calls"). The values beside
-- the definitions are of the proof table's query (b) on its set: bit 0 given at step 1, bit 1 at step 3. Assumes
-- nothing.
use Rattle.std.specs.Prelude.{ℕ, zero, suc, ◌+◌, Bool, true, false, ◌&&◌, cond, List, [], ◌++◌}
use Rattle.std.specs.Bool.{beq}
use Rattle.lists.specs.Filter.{filter, non_empty}
use Rattle.region.specs.Strings.{with_bit, empty_string}
use Rattle.region.specs.Division.{Division, leaf, divided}

-- ---- agreement

-- "each attribute is either given a value or free": so is each of its bits
pub data QueryBit : Type 0 where
  free : QueryBit
  given : Bool → QueryBit

-- a bit of a free attribute, or one that "equals the query's"
abbrev pub bit_agrees : QueryBit → Bool → Bool
bit_agrees free β = true
bit_agrees (given α) β = beq α β

-- "A query agrees with a region if every bit of a given attribute in its string equals the query's": in the n bits of p
-- from step t on. It agrees with 0, 100, 101, and not with 11
abbrev pub agrees : (ℕ → QueryBit) → (ℕ → Bool) → ℕ → ℕ → Bool
agrees q p zero t = true
agrees q p (suc n) t = bit_agrees (q t) (p t) && agrees q p n (suc t)

-- the step is of a given attribute
abbrev pub is_given_bit : QueryBit → Bool
is_given_bit free = false
is_given_bit (given β) = true

-- how many of the n steps from t on the query gives: of the first three, 1
abbrev pub given_steps : (ℕ → QueryBit) → ℕ → ℕ → ℕ
given_steps q t zero = 0
given_steps q t (suc n) = cond (is_given_bit (q t)) 1 0 + given_steps q (suc t) n

-- and how many it leaves free: 2
abbrev pub free_steps : (ℕ → QueryBit) → ℕ → ℕ → ℕ
free_steps q t zero = 0
free_steps q t (suc n) = cond (is_given_bit (q t)) 0 1 + free_steps q (suc t) n

-- ---- walks over the regions of a division

-- a test of a leaf by its string, its depth and its records
abbrev pub LeafTest : Type 0 → Type 0
LeafTest R = (ℕ → Bool) → ℕ → List R → Bool

-- the leaf is not empty
abbrev pub holds_records : {R : Type 0} → LeafTest R
holds_records p x rs = non_empty rs

-- `enter x p` tests the region of the first x bits of p, `opens` a leaf. The walk stands in the region of the first t
-- bits of p.
module _ {R : Type 0} (enter : ℕ → (ℕ → Bool) → Bool) (opens : LeafTest R) where
  -- "It walks the regions .. by recursion, bit 0 before bit 1": the records that match, of the leaves that it opens
  abbrev pub walk_records : (R → Bool) → (ℕ → Bool) → ℕ → Division R → List R
  walk_records matches p t (leaf rs) = cond (opens p t rs) (filter matches rs) []
  walk_records matches p t (divided l u) =
      cond (enter (suc t) (with_bit p t false)) (walk_records matches (with_bit p t false) (suc t) l) []
      ++ cond (enter (suc t) (with_bit p t true)) (walk_records matches (with_bit p t true) (suc t) u) []

  -- how many leaves it opens
  abbrev pub walk_reads : (ℕ → Bool) → ℕ → Division R → ℕ
  walk_reads p t (leaf rs) = cond (opens p t rs) 1 0
  walk_reads p t (divided l u) =
      cond (enter (suc t) (with_bit p t false)) (walk_reads (with_bit p t false) (suc t) l) 0
      + cond (enter (suc t) (with_bit p t true)) (walk_reads (with_bit p t true) (suc t) u) 0

-- ---- a query's walk

-- it enters the regions that the query agrees with
abbrev pub query_enters : (ℕ → QueryBit) → ℕ → (ℕ → Bool) → Bool
query_enters q x p = agrees q p x 0

module _ {R : Type 0} (q : ℕ → QueryBit) where
  -- the matching records, "from the empty string": 1001, 1011
  abbrev pub walk_found : (R → Bool) → Division R → List R
  walk_found matches D = walk_records (query_enters q) holds_records matches empty_string 0 D

  -- "Reads are the non-empty agreeing leaves": 3
  abbrev pub reads : Division R → ℕ
  reads D = walk_reads (query_enters q) holds_records empty_string 0 D

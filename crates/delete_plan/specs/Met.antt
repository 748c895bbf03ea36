-- What the plan of a delete meets on its way: the key's record on the page of its leaf, the leaf's sibling, and the
-- join that it makes of both. Private functions' contracts cite these. Assumes nothing.
use Rattle.std.specs.Prelude.{Option, Some, None, Result, Ok, Err, ℕ, zero, suc, ◌-◌, ◌≤◌, ◌<◌, ◌≡◌, cond, List, ltb}
use Rattle.shape.specs.declared.refusal.Refusal.{Refusal}
use Rattle.shape.specs.declared.refusal.Refusal.TheVariants as why
use Rattle.shape.specs.Shape.{widths_of}
use Rattle.split.specs.Bits.{split_bit}
use Rattle.record.specs.Lanes.{lane_difference}
use Rattle.record.specs.Packed.{packed_key}
use Rattle.page.specs.Page.{count_of}
use Rattle.page_ends.specs.Ends.{fixed_bits, ends_agree}
use Rattle.page_ends.specs.Fair.{fair_count}
use Rattle.page_matches.specs.KeyPlace.{key_place}
use Rattle.directory_word.specs.Word.{word_of}
use Rattle.directory_word.specs.declared.Leaf.TheVariants.{Page}
use Rattle.store.specs.Store.{Store}
use Rattle.store.specs.declared.State.{State}
use Rattle.change.specs.Delete.{AtSibling}
use Rattle.directory_lent.specs.Lent.{DirectoryLent}
use Rattle.delete_siblings.specs.Siblings.{SiblingKey, Climbed}
use Rattle.delete_plan.specs.Plan.{RecordFound}
use Rattle.delete_plan.specs.declared.Stored.{Stored}
use Rattle.delete_plan.specs.declared.Join.{Join}

-- a page has n records, 1 to b of them, and the first and the last agree with a packed key in the bits of a mask
pub record Counted (b bias mask key : ℕ) (page : List ℕ) (n : ℕ) : Type 0 where
  pub is : n ≡ fair_count b (ends_agree bias mask key page (count_of page)) page
  pub some : n ≡ 0 → ⊥
  pub few : n ≤ b

-- so many it has, or it is another page
abbrev pub LeafCount : ℕ → ℕ → ℕ → ℕ → List ℕ → Option ℕ → Type 0
LeafCount b bias mask key page (Some n) = Counted b bias mask key page n
LeafCount b bias mask key page None = 0 ≡ fair_count b (ends_agree bias mask key page (count_of page)) page

-- where a packed key is on page g of a leaf of depth x, among n records: 5 at place n
abbrev pub sought_at : ℕ → ℕ → ℕ → ℕ → Result Stored Refusal
sought_at g x n i = cond (ltb i n) (Ok (record { page = g; depth = x; place = i; count = n })) (Err (why.Absent x))

-- among the n records of its page; 9 for no records, as a page has that is not the leaf's
abbrev pub sought_among : ℕ → List ℕ → ℕ → ℕ → ℕ → Result Stored Refusal
sought_among fields page g x zero = Err why.Unsound
sought_among fields page g x (suc n) = sought_at g x (suc n) (key_place fields page (suc n) 0)

-- on the page of a leaf that fixes the bits of a mask
unfoldable pub sought : ℕ → ℕ → ℕ → ℕ → List ℕ → ℕ → ℕ → Result Stored Refusal
sought b bias key mask page g x =
    sought_among (lane_difference key bias) page g x (fair_count b (ends_agree bias mask key page (count_of page)) page)

module _ (before : Store) (encoded : List ℕ) where
  -- the key's record is found, in a leaf below depth 0 that fixes the bits of a mask
  pub record LeafFound (r : Stored) (mask : ℕ) : Type 0 where
    pub found : RecordFound before encoded r
    pub divided : 0 < r.depth
    pub fixed : mask ≡ fixed_bits (widths_of before.state.shape) r.depth

  -- the sibling is a leaf of the same depth, with page h, and a packed key falls there
  pub record SiblingMet (r : Stored) (mask h beside : ℕ) : Type 0 where
    pub leaf : LeafFound r mask
    pub other-within : h < before.state.limits.pages
    pub other : AtSibling before encoded (r.depth - 1) (λ w. w ≡ word_of (Page h r.depth))
    pub key-there : SiblingKey before.state.shape (packed_key encoded) (r.depth - 1) beside

-- what is asked to join a leaf of depth x with its sibling
pub record JoinAsked (st : State) (size x : ℕ) : Type 0 where
  pub lent : DirectoryLent st size
  pub divided : 0 < x
  pub deep : x ≤ st.deepest

-- the join of a leaf of depth x with its sibling, which has page h and k records
pub record JoinMade (st : State) (words encoded : List ℕ) (x h k : ℕ) (j : Join) : Type 0 where
  pub other : j.other ≡ h
  pub count : j.count ≡ k
  pub depth-step : x ≡ suc j.step
  pub bit : j.bit ≡ split_bit (widths_of st.shape) encoded j.step
  pub climbed : Climbed st words encoded j.step j.top

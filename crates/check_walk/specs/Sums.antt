-- What the walk tells of a region: whether it passes, and the sums over its leaves. Assumes nothing.
use Rattle.std.specs.Prelude.{ℕ, suc, ◌+◌, ◌-◌, ◌^◌, ◌≤◌, ◌<◌, ◌≡◌, Bool, true, cond, ◌&&◌, List, eqb, get_or, length, Option, Some, is_some}
use Rattle.shape.specs.Shape.{shape_number, Fit, total, index_fits}
use Rattle.split.specs.Bits.{split_bit}
use Rattle.directory.specs.Directory.{DirectoryFits}
use Rattle.region.specs.Division.{Division, leaf, divided, all_records, non_empty_leaves, greatest_depth}
use Rattle.record.specs.Record.{Record}
use Rattle.page.specs.Page.{records_of, page_at}
use Rattle.store.specs.Store.{pages_size}
use Rattle.store.specs.declared.State.{State}
use Rattle.directory_word.specs.Word.{page_field}
use Rattle.check_test.specs.Walk.{View, field_records, page_test, leaf_test, read_division, region_test}
use Rattle.check_seen.specs.declared.Seen.{Seen}
use Rattle.check_walk.specs.declared.regions.Region.{Region}
use Rattle.directory_tests.specs.Intact.{cell_word}
use Rattle.check_walk.specs.Regions.{RegionNamed, RegionIn}

-- what words and pages show, by the widths that count
abbrev pub view_by : List ℕ → State → List ℕ → List ℕ → View Record
view_by ws st words bytes =
    record {
      bit = λ r t. split_bit ws r.key t;
      fits = λ r. eqb (length r.key) 4 && index_fits ws r.key;
      bits = total ws;
      capacity = st.shape.capacity;
      pages = st.limits.pages;
      word = cell_word ws st.deepest words;
      shown = λ g. records_of st.shape (page_at st.shape.capacity bytes g);
    }

-- how many leaves have depth y, in the division of a region of depth x
abbrev pub leaves_at : Division Record → ℕ → ℕ → ℕ
leaves_at (leaf rs) x y = cond (eqb y x) 1 0
leaves_at (divided l u) x y = leaves_at l (suc x) y + leaves_at u (suc x) y

-- the sums over the leaves of a division
pub record SumsOf (D : Division Record) (seen : Seen) : Type 0 where
  pub records : seen.records ≡ length (all_records D)
  pub pages : seen.pages ≡ non_empty_leaves D
  pub depth : seen.depth ≡ greatest_depth D

-- what is told of a region by its test and its division: none if it does not pass
pub record Sees (test : Bool) (D : Division Record) (told : Option Seen) : Type 0 where
  pub ok : is_some told ≡ test
  pub sums : (seen : Seen) → told ≡ Some seen → SumsOf D seen

-- the leaves of a region of depth x are added to a tally of depths 0 to 12
abbrev pub Tallied : Division Record → ℕ → List ℕ → List ℕ → Type 0
Tallied D x before after = (y : ℕ) → y < 13 → get_or after y 0 ≡ get_or before y 0 + leaves_at D x y

-- both
pub record Tells (x : ℕ) (before : List ℕ) (told : Option Seen) (after : List ℕ) (test : Bool) (D : Division Record)
    : Type 0 where
  pub sees : Sees test D told
  pub tallied : test ≡ true → Tallied D x before after

module _ (st : State) (ws : List ℕ) where
  -- a region, and pages that are lent
  pub record PageAsked (bytes : ℕ) (r : Region) : Type 0 where
    pub shape : shape_number st.shape ≡ 0
    pub fit : Fit ws
    pub bits : r.depth ≤ total ws
    pub region : RegionIn ws r
    pub capacity : st.shape.capacity ≤ 16
    pub pages-lent : pages_size st ≤ bytes

  -- a region, and a directory and pages that are lent
  pub record Walks (words bytes : ℕ) (r : Region) : Type 0 where
    pub shape : shape_number st.shape ≡ 0
    pub directory : DirectoryFits ws st.deepest words
    pub within : r.depth ≤ st.deepest
    pub region : RegionIn ws r
    pub capacity : st.shape.capacity ≤ 16
    pub pages-lent : pages_size st ≤ bytes

  -- what is told of the page of a leaf, by its word's page field
  abbrev pub PageSeen : List ℕ → Region → ℕ → Option Seen → Type 0
  PageSeen bytes r f told = (words : List ℕ) (p : ℕ → Bool) → RegionNamed ws r p → let v = view_by ws st words bytes in
      Sees (page_test v p r.depth f) (leaf (field_records v f)) told

  module _ (words bytes : List ℕ) (r : Region) (before : List ℕ) (told : Option Seen) (after : List ℕ) where
    -- of a leaf
    abbrev pub LeafSeen : Type 0
    LeafSeen = (p : ℕ → Bool) → RegionNamed ws r p → let v = view_by ws st words bytes in
        Tells r.depth before told after (leaf_test v (st.deepest - r.depth) p r.depth)
        (leaf (field_records v (page_field (v.word p))))

    -- and of a region
    abbrev pub Walked : Type 0
    Walked = (p : ℕ → Bool) → RegionNamed ws r p → let v = view_by ws st words bytes in
        Tells r.depth before told after (region_test v (st.deepest - r.depth) p r.depth)
        (read_division v (st.deepest - r.depth) p r.depth)

-- the tally has room for the leaves of a region, n steps above the cells
pub record TallyRoom (n : ℕ) (tally : List ℕ) : Type 0 where
  pub depths : length tally ≡ 13
  pub room : (y : ℕ) → y < 13 → get_or tally y 0 + 2 ^ n ≤ 8192

-- Laws of regions as the code hands them on: the whole, the halves, the word of the first cell, the words of all cells.
-- Assumes nothing.
use Prim.Native.Nat.{ℕ, suc, ◌+◌, ◌-◌, ◌*◌, ◌/◌, ◌%◌, ◌^◌, ◌≤◌, ◌<◌}
use mathlib.Core.Path.{◌≡◌, refl, sym, ap, ◌∙◌, subst}
use mathlib.Core.Bool.{Bool, true, false, ◌&&◌}
use mathlib.Core.List.{List, [], ◌∷◌}
use native.Mathlib.Omega.{arith}
use native.Mathlib.Nat.{mod-eq_of_lt, two-pow-succ}
use native.Mathlib.Numerals.{add-one}
use lib.Bits.{bit_or, or_shifted}
use lib.Dec.{eqb}
use lib.ListN.{get_or, length}
use lib.Pow.{pow_mono}
use Rattle.shape.specs.Shape.{Fit}
use Rattle.split.specs.Steps.{steps, bit_value}
use Rattle.split.proofs.StepLaws.{length-steps}
use Rattle.address.specs.Address.{address, address_from, latest_step, created_by}
use Rattle.address_formula.specs.Index.{index_list}
use Rattle.pairs.specs.Pairs.{StepPair, StepsBefore}
use Rattle.address.specs.Vectors.{InBox}
use Rattle.cell.specs.Cell.{cell, cell_address}
use Rattle.cell.proofs.CellLaws.{cell-zero, cell_address-lt, cell_address-zero-bits}
use Rattle.directory.specs.Directory.{DirectoryFits}
use Rattle.address_bits.specs.Bits.{bit_set}
use Rattle.pairs.proofs.PlaceLaws.{step_pair-lt, steps_before-zero, steps_before-pair}
use Rattle.cell.proofs.HalfLaws.{in_box-cell, cell-lower}
use Rattle.directory.proofs.CellLaws.{cell-upper, get_d-cell-lt}
use Rattle.region.specs.Strings.{with_bit, empty_string}
use Rattle.region.proofs.StringLaws.{with_bit-other}
use Rattle.check_test.specs.Codes.{code}
use Rattle.check_test.specs.Walk.{same_words}
use Rattle.check_test.proofs.CodeLaws.{code_lt, code-side}
use Rattle.directory_tests.specs.Intact.{cell_word}
use Rattle.check_walk.specs.declared.regions.Region.{Region}
use Rattle.check_walk.specs.declared.regions.Sides.{Sides}
use Rattle.check_walk.specs.Regions.{whole_region, RegionNamed, RegionIn, SidesOf}

-- ---- the whole

module _ (ws : List ℕ) where
  pub names-whole : RegionNamed ws whole_region empty_string
  unfolding whole_region
  names-whole = record { vector = cell-zero ws empty_string; string = refl; zeros = λ t l. refl }

  address-zero : address ws (0 ∷ 0 ∷ 0 ∷ 0 ∷ []) ≡ 0
  unfolding address address_from latest_step created_by
  address-zero = refl

  pub region_in-whole : RegionIn ws whole_region
  unfolding whole_region
  region_in-whole = record { named = (empty_string, names-whole); at = sym address-zero; place = steps_before-zero ws }

-- ---- a region

module _ (ws : List ℕ) (r : Region) (i : RegionIn ws r) where
  pub string-lt : r.string < 2 ^ r.depth
  string-lt =
      let n = i.named.1 in
      subst (λ s. s < 2 ^ r.depth) n.string (code_lt r.depth 0 i.named.0)

  -- step x, at place g
  module _ (fit : Fit ws) (g : ℕ) (pair : StepPair ws r.depth g) where
    pub region-small : get_or (index_list r.index) (g % 4) 0 < 2 ^ (g / 4)
    region-small =
        subst (λ v. get_or v (g % 4) 0 < 2 ^ (g / 4)) i.named.1.vector
        (get_d-cell-lt ws fit r.depth g pair i.named.0)

    -- the strings of the sides, by their bit
    module _ (β : Bool) (s : Region) (deeper : s.depth ≡ r.depth + 1)
        (bits : s.string ≡ 2 * r.string + bit_value β) where
      names-side : (p : ℕ → Bool) → RegionNamed ws r p
          → cell ws (suc r.depth) (with_bit p r.depth β) ≡ index_list s.index
          → RegionNamed ws s (with_bit p r.depth β)
      names-side p n v =
          let x = r.depth in
          let e : s.depth ≡ suc x = deeper ∙ add-one x in
          record {
            vector = ap (λ y. cell ws y (with_bit p x β)) e ∙ v;
            string = ap (λ y. code y 0 (with_bit p x β)) e ∙ code-side x p β
                ∙ ap (λ y. 2 * y + bit_value β) n.string ∙ sym bits;
            zeros = λ t l. with_bit-other p x β t (λ d. omega arith) ∙ n.zeros t (omega arith);
          }

    module _ (h : Sides) (step : h.lower.place ≡ g + 1) (step' : h.upper.place ≡ g + 1)
        (deeper : h.lower.depth ≡ r.depth + 1) (deeper' : h.upper.depth ≡ r.depth + 1)
        (bits : h.lower.string ≡ 2 * r.string) (bits' : h.upper.string ≡ 2 * r.string + 1)
        (same : h.lower.index ≡ r.index) (set : index_list h.upper.index ≡ bit_set g (index_list r.index))
        (at : h.lower.address ≡ r.address) (at' : h.upper.address ≡ address ws (index_list h.upper.index)) where
      lower : (p : ℕ → Bool) → RegionNamed ws r p → RegionNamed ws h.lower (with_bit p r.depth false)
      lower p n =
          names-side false h.lower deeper (omega arith) p n
          (cell-lower ws fit r.depth (step_pair-lt ws r.depth g pair fit) p ∙ n.vector ∙ ap index_list (sym same))

      upper : (p : ℕ → Bool) → RegionNamed ws r p → RegionNamed ws h.upper (with_bit p r.depth true)
      upper p n =
          names-side true h.upper deeper' bits' p n
          (cell-upper ws fit r.depth g pair p ∙ ap (bit_set g) n.vector ∙ sym set)

      place : (s : Region) → s.depth ≡ r.depth + 1 → s.place ≡ g + 1 → StepsBefore ws s.depth s.place
      place s d e =
          subst (λ y. StepsBefore ws y s.place) (sym d)
          (subst (λ y. StepsBefore ws (r.depth + 1) y) (sym e) (steps_before-pair ws r.depth g pair))

      pub sides_of-parts : SidesOf ws r h
      sides_of-parts = record {
        lower_in = record {
          named = (with_bit i.named.0 r.depth false, lower i.named.0 i.named.1);
          at = at ∙ i.at ∙ ap (λ v. address ws (index_list v)) (sym same);
          place = place h.lower deeper step;
        };
        lower-depth = deeper;
        lower-names = lower;
        upper_in = record {
          named = (with_bit i.named.0 r.depth true, upper i.named.0 i.named.1);
          at = at';
          place = place h.upper deeper' step';
        };
        upper-depth = deeper';
        upper-names = upper;
      }

    -- the vector of the upper side, before it is one
    pub upper-in_box : (v : List ℕ) → v ≡ bit_set g (index_list r.index) → InBox ws v
    upper-in_box v e =
        subst (InBox ws)
        (cell-upper ws fit r.depth g pair i.named.0 ∙ ap (bit_set g) i.named.1.vector ∙ sym e)
        (in_box-cell ws fit (suc r.depth) (with_bit i.named.0 r.depth true))

-- ---- strings as numbers: s << 1, and (s << 1) | 1

module _ (s x : ℕ) (low : s < 2 ^ x) (few : x < 64) where
  doubled-lt : s * 2 < 2 ^ 64
  doubled-lt =
      let m : 2 ^ suc x ≤ 2 ^ 64 = pow_mono {j = 64} (omega arith) in
      omega (arith, two-pow-succ x)

  pub string-lower : s * 2 % 2 ^ 64 ≡ 2 * s
  string-lower = mod-eq_of_lt doubled-lt ∙ omega arith

  pub string-upper : bit_or (s * 2 % 2 ^ 64) 1 ≡ 2 * s + 1
  string-upper =
      ap (λ y. bit_or y 1) (mod-eq_of_lt doubled-lt) ∙ or_shifted s 1 1 (omega arith) ∙ omega arith

-- ---- the word of the first cell

module _ (w0 w1 w2 w3 : ℕ) (r : Region) (i : RegionIn (w0 ∷ w1 ∷ w2 ∷ w3 ∷ []) r) (t size : ℕ)
    (d : DirectoryFits (w0 ∷ w1 ∷ w2 ∷ w3 ∷ []) t size) (within : r.depth ≤ t) where
  abbrev ws : List ℕ
  ws = w0 ∷ w1 ∷ w2 ∷ w3 ∷ []

  enough : t ≤ length (steps ws)
  enough = subst (λ n. t ≤ n) (sym (length-steps w0 w1 w2 w3 d.fit)) d.deep

  first_cell : (p : ℕ → Bool) → RegionNamed ws r p → cell_address ws t p ≡ r.address
  unfolding cell_address
  first_cell p n =
      cell_address-zero-bits ws d.fit r.depth t within enough p (λ s l u. n.zeros s l)
      ∙ ap (address ws) n.vector
      ∙ sym i.at

  pub cell_word-first : (words : List ℕ) (p : ℕ → Bool) → RegionNamed ws r p
      → cell_word ws t words p ≡ get_or words r.address 0
  cell_word-first words p n = ap (λ a. get_or words a 0) (first_cell p n)

  pub region-lt : (r.address < size) × (r.address < 4096)
  region-lt =
      let low = cell_address-lt ws d.fit t enough i.named.0 in
      let e = first_cell i.named.0 i.named.1 in
      let top : 2 ^ t ≤ 2 ^ 12 = pow_mono d.short in
      (omega (arith, low, e, d.room), omega (arith, low, e))

-- ---- the words of all cells

module _ (word : (ℕ → Bool) → ℕ) (t x : ℕ) (p : ℕ → Bool) (w : ℕ) where
  pub same_words-cell : t ≤ x → x ≤ t → (v : ℕ) → word p ≡ v → eqb v w ≡ same_words word (t - x) p x w
  same_words-cell h k v e =
      let n : 0 ≡ t - x = omega arith in
      ap (λ y. eqb y w) (sym e) ∙ ap (λ n. same_words word n p x w) n

  module _ (l : x < t) (y : ℕ) (deeper : y ≡ x + 1) where
    same_words-sides : same_words word (t - x) p x w
        ≡ (same_words word (t - y) (with_bit p x false) y w && same_words word (t - y) (with_bit p x true) y w)
    same_words-sides =
        let n : t - x ≡ suc (t - y) = omega arith in
        let e : suc x ≡ y = omega arith in
        ap (λ n. same_words word n p x w) n
        ∙ ap (λ z. same_words word (t - y) (with_bit p x false) z w && same_words word (t - y) (with_bit p x true) z w) e

    pub same_words-lower-fails : same_words word (t - y) (with_bit p x false) y w ≡ false
        → false ≡ same_words word (t - x) p x w
    same_words-lower-fails e = sym (same_words-sides ∙ rw e)

    pub same_words-upper : same_words word (t - y) (with_bit p x false) y w ≡ true → (z : ℕ) → z ≡ x + 1 → (β : Bool)
        → β ≡ same_words word (t - z) (with_bit p x true) z w → β ≡ same_words word (t - x) p x w
    same_words-upper e z same β h =
        let d : z ≡ y = omega arith in
        h ∙ ap (λ z. same_words word (t - z) (with_bit p x true) z w) d ∙ sym (same_words-sides ∙ rw e)

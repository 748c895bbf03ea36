-- Laws of the vectors that one step appends: they are those whose new bit is set, and the formula gives their
-- positions. Assumes nothing.
use Prim.Native.Nat.{ℕ, suc, ◌+◌, ◌*◌, ◌-◌, ◌^◌, ◌≤◌, ◌<◌}
use mathlib.Core.Path.{◌≡◌, sym, ap, ◌∙◌, subst}
use mathlib.Core.Bool.{cond}
use mathlib.Core.List.{List, [], ◌∷◌}
use mathlib.Core.Logic.{◌⊎◌, inl, inr}
use native.Mathlib.Omega.{arith}
use native.Mathlib.Nat.{le_trans, lt_of_mul-lt-mul_right}
use lib.Dec.{eqb}
use lib.Pow.{pow_mono, pow_pos}
use lib.ListN.{get_or, length, length-map}
use borrow.Author.Tests.{eq-eqb, ne_eqb}
use Rattle.lists.proofs.Numbers.{lt-or-le, eq-or-ne, digit_lt}
use Rattle.lists.proofs.Sequences.{get_d_map}
use Rattle.shape.specs.Shape.{Fit}
use Rattle.split.specs.Steps.{step, step_number, attribute_depth}
use Rattle.split.proofs.StepLaws.{depth_before, step_number-lt}
use Rattle.split.proofs.DepthLaws.{attribute_depth-width, step-here, attribute_depth-here, attribute_depth-z}
use Rattle.split.proofs.DepthLaws.{attribute_depth-next, attribute_depth-next-other}
use Rattle.address.specs.Doubling.{In, layers, box, without, put_among, move_first, sides, appended}
use Rattle.address.specs.Address.{product, rank, highest_bit, created_by, latest_step, formula, address_from, address}
use Rattle.address.proofs.BoxLaws.{length-layers, get_d-layers, layer-of, length-box, get_d-box, box-onto, rank_lt}
use Rattle.address.proofs.BoxLaws.{In-without, In-put_among, In-others, put_among-without}
use Rattle.address.proofs.LatestLaws.{highest_bit-is, highest_bit-below, created_by-is, latest_step-is}
use Rattle.address.proofs.SideLaws.{get_d-sides, length-sides, In-sides-get, In-sides-length, In-sides-of}
use Rattle.address.proofs.SideLaws.{pow-step_number, without-sides-next}

-- the position of a vector among those that the step (k, z) appends; Js are the other attributes' sides
abbrev pub appended_position : ℕ → ℕ → List ℕ → List ℕ → ℕ
appended_position k z Js is = (get_or is z 0 - 2 ^ k) * length (box Js) + rank Js (without z is)

-- step t is (k, z)
module _ (ws : List ℕ) (fit : Fit ws) (k z : ℕ) (hz : z < 4) (hk : k < get_or ws z 0)
    {t : ℕ} (number : step_number ws k z ≡ t) where
  -- ---- the step that creates an index

  -- the highest bit of an index below its side is an earlier pair's
  highest_bit-earlier : (r i : ℕ) → r < 4 → 0 < i → i < 2 ^ attribute_depth ws t r
      → (highest_bit 64 i < get_or ws r 0) × (4 * highest_bit 64 i + r < 4 * k + z)
  unfolding depth_before
  highest_bit-earlier r i hr hi h =
      let d = attribute_depth-here ws fit k z hz hk number r hr in
      let b = highest_bit-below (attribute_depth ws t r) i hi h (omega (arith, attribute_depth-width ws r t hr, fit r)) in
      (omega (arith, b, d), omega (arith, b, d))

  -- an index below its side is not new ..
  pub created_by-old : (r i : ℕ) → r < 4 → i < 2 ^ attribute_depth ws t r → created_by ws r i ≤ t
  unfolding created_by
  created_by-old r i hr h = go (eq-or-ne i 0)
    where
      go : (i ≡ 0) ⊎ (i ≡ 0 → ⊥) → cond (eqb i 0) 0 (suc (step_number ws (highest_bit 64 i) r)) ≤ t
      go (inl e) = rw (eq-eqb i 0 e) (omega arith)
      go (inr ne) =
          let b = highest_bit-earlier r i hr (omega arith) h in
          rw (ne_eqb i 0 ne) (omega (arith, number, step_number-lt ws (highest_bit 64 i) r hr b.0 k z b.1))

  -- .. and one of attribute z with the bit k is
  pub created_by-new : (i : ℕ) → 2 ^ k ≤ i → i < 2 ^ suc k → created_by ws z i ≡ suc t
  created_by-new i l u =
      let d : k < 64 = omega (arith, fit z) in
      created_by-is ws i z k (omega (arith, pow_pos k)) (highest_bit-is 64 k i d l u) ∙ ap suc number

  -- ---- the vectors appended

  pub length-appended : length (appended ws t (step ws t)) ≡ 2 ^ t
  unfolding appended
  length-appended =
      let Js = without z (sides ws t) in
      ap (λ s. length (appended ws t s)) (step-here ws fit k z hz hk number)
      ∙ length-map (layers (2 ^ k) (2 ^ k) (box Js)) (move_first z)
      ∙ length-layers (2 ^ k) (2 ^ k) (box Js)
      ∙ ap (λ n. 2 ^ k * n) (length-box Js)
      ∙ sym (pow-step_number ws fit k z hz hk number)

  -- ---- a vector whose new bit is set

  module _ (is : List ℕ) (b : In (sides ws (suc t)) is) (new : 2 ^ k ≤ get_or is z 0) where
    below-z : get_or is z 0 < 2 ^ suc k
    below-z =
        subst (λ h. get_or is z 0 < 2 ^ h) (attribute_depth-next ws fit k z hz hk number)
        (In-sides-get ws (suc t) b z hz)

    below_other : (r : ℕ) → r < 4 → (r ≡ z → ⊥) → get_or is r 0 < 2 ^ attribute_depth ws t r
    below_other r hr ne =
        subst (λ h. get_or is r 0 < 2 ^ h) (attribute_depth-next-other ws fit k z hz hk number r hr ne)
        (In-sides-get ws (suc t) b r hr)

    others-in : In (without z (sides ws t)) (without z is)
    others-in = subst (λ Js. In Js (without z is)) (without-sides-next ws fit k z hz hk number) (In-without b z)

    digit-z : get_or is z 0 - 2 ^ k < 2 ^ k
    digit-z = omega (arith, below-z, new)

    rank-others : rank (without z (sides ws t)) (without z is) < length (box (without z (sides ws t)))
    rank-others = rw (length-box (without z (sides ws t))) (rank_lt others-in)

    latest_step-new : latest_step ws is ≡ suc t
    latest_step-new = latest_step-is ws is (suc t) z hz (λ r hr. each r hr (eq-or-ne r z)) now
      where
        now : created_by ws z (get_or is z 0) ≡ suc t
        now = created_by-new (get_or is z 0) new below-z

        each : (r : ℕ) → r < 4 → (r ≡ z) ⊎ (r ≡ z → ⊥) → created_by ws r (get_or is r 0) ≤ suc t
        each r hr (inl e) = subst (λ x. created_by ws x (get_or is x 0) ≤ suc t) (sym e) (omega (arith, now))
        each r hr (inr ne) = omega (arith, created_by-old r (get_or is r 0) hr (below_other r hr ne))

    pub address-new : address ws is ≡ formula z (sides ws t) is
    unfolding address address_from
    address-new =
        ap (address_from ws is) latest_step-new
        ∙ ap (λ s. formula s.attribute (sides ws t) is) (step-here ws fit k z hz hk number)

    -- the formula's address: 2 ^ t, and the position among the vectors appended
    pub formula-new : formula z (sides ws t) is ≡ 2 ^ t + appended_position k z (without z (sides ws t)) is
    unfolding formula
    formula-new =
        let Js = without z (sides ws t) in
        let x = get_or is z 0 - 2 ^ k in
        let e : get_or is z 0 ≡ 2 ^ k + x = omega arith in
        ap (λ i. i * product Js + rank Js (without z is)) e
        ∙ omega (arith, pow-step_number ws fit k z hz hk number, ap (λ n. x * n) (length-box Js))

    pub appended_position-lt : appended_position k z (without z (sides ws t)) is < 2 ^ t
    appended_position-lt =
        let Js = without z (sides ws t) in
        subst (λ n. appended_position k z Js is < n)
        (ap (λ n. 2 ^ k * n) (length-box Js) ∙ sym (pow-step_number ws fit k z hz hk number))
        (digit_lt (get_or is z 0 - 2 ^ k) (2 ^ k) (length (box Js)) (rank Js (without z is)) digit-z rank-others)

    pub get_d-appended : get_or (appended ws t (step ws t)) (appended_position k z (without z (sides ws t)) is) [] ≡ is
    unfolding appended
    get_d-appended =
        let Js = without z (sides ws t) in
        let B = box Js in
        let x = get_or is z 0 - 2 ^ k in
        let q = rank Js (without z is) in
        let e : 2 ^ k + x ≡ get_or is z 0 = omega (arith, new) in
        ap (λ s. get_or (appended ws t s) (appended_position k z Js is) []) (step-here ws fit k z hz hk number)
        ∙ get_d_map (move_first z) (layers (2 ^ k) (2 ^ k) B) (x * length B + q) [] []
        (subst (λ n. x * length B + q < n) (sym (length-layers (2 ^ k) (2 ^ k) B))
        (digit_lt x (2 ^ k) (length B) q digit-z rank-others))
        ∙ ap (move_first z)
        (get_d-layers (2 ^ k) (2 ^ k) B x q digit-z rank-others
        ∙ ap (λ v. (2 ^ k + x) ∷ v) (get_d-box others-in)
        ∙ ap (λ i. i ∷ without z is) e)
        ∙ put_among-without is z (subst (λ n. z < n) (sym (In-sides-length ws (suc t) b)) hz)

  -- a vector of the box after the step has its new bit set, or is of the box before
  pub old-or-new : (is : List ℕ) → In (sides ws (suc t)) is → (2 ^ k ≤ get_or is z 0) ⊎ (In (sides ws t) is)
  old-or-new is b = go (lt-or-le (get_or is z 0) (2 ^ k))
    where
      each : get_or is z 0 < 2 ^ k → (r : ℕ) → r < 4 → (r ≡ z) ⊎ (r ≡ z → ⊥) → get_or is r 0 < 2 ^ attribute_depth ws t r
      each l r hr (inl e) =
          subst (λ x. get_or is x 0 < 2 ^ attribute_depth ws t x) (sym e)
          (subst (λ h. get_or is z 0 < 2 ^ h) (sym (attribute_depth-z ws fit k z hz hk number)) l)
      each l r hr (inr ne) =
          subst (λ h. get_or is r 0 < 2 ^ h) (attribute_depth-next-other ws fit k z hz hk number r hr ne)
          (In-sides-get ws (suc t) b r hr)

      go : (get_or is z 0 < 2 ^ k) ⊎ (2 ^ k ≤ get_or is z 0) → (2 ^ k ≤ get_or is z 0) ⊎ (In (sides ws t) is)
      go (inl l) = inr (In-sides-of ws t is (In-sides-length ws (suc t) b) (λ r hr. each l r hr (eq-or-ne r z)))
      go (inr l) = inl l

  -- ---- from addresses to vectors

  -- each address that the step appends is a vector's
  pub address-onto-appended : (p : ℕ) → p < 2 ^ t
      → (is : List ℕ) × (In (sides ws (suc t)) is) × (address ws is ≡ 2 ^ t + p)
  unfolding formula
  address-onto-appended p h =
      let Js = without z (sides ws t) in
      let size = pow-step_number ws fit k z hz hk number in
      let l = layer-of (2 ^ k) (product Js) p (subst (λ n. p < n) size h) in
      let v = box-onto Js l.1 l.3 in
      let i = 2 ^ k + l.0 in
      let is = put_among z i v.0 in
      let side = get_d-sides ws (suc t) z hz ∙ ap (λ x. 2 ^ x) (attribute_depth-next ws fit k z hz hk number) in
      let low : i < 2 ^ suc k = omega (arith, l.2) in
      let put = In-put_among (sides ws (suc t)) v.0 z i (subst (λ n. z < n) (sym (length-sides ws (suc t))) hz)
      (subst (λ n. i < n) (sym side) low)
      (subst (λ Ks. In Ks v.0) (sym (without-sides-next ws fit k z hz hk number)) v.1) in
      let new : 2 ^ k ≤ get_or is z 0 = omega (arith, put.1) in (
        is,
        put.0,
        address-new is put.0 new
            ∙ ap (λ x. x * product Js + rank Js (without z is)) put.1
            ∙ ap (λ x. i * product Js + rank Js x) put.2
            ∙ omega (arith, v.2, l.4, size),
      )

  -- a vector for which the formula at this step gives such an address is of the whole box, and has that address
  pub address-of-formula : (is : List ℕ) (a : ℕ) → length is ≡ 4
      → ((r : ℕ) → r < 4 → (r ≡ z → ⊥) → get_or is r 0 < 2 ^ attribute_depth ws t r)
      → formula z (sides ws t) is ≡ a → 2 ^ t ≤ a → a < 2 ^ suc t
      → ((r : ℕ) → r < 4 → get_or is r 0 < 2 ^ get_or ws r 0) × (address ws is ≡ a)
  unfolding formula sides
  address-of-formula is a e o f lo hi =
      let P = product (without z (sides ws t)) in
      let size = pow-step_number ws fit k z hz hk number in
      let q = rank_lt (In-others (sides ws t) is z e
      (λ r l ne. subst (λ x. get_or is r 0 < x) (sym (get_d-sides ws t r l)) (o r l ne))) in
      let new : 2 ^ k < suc (get_or is z 0) = lt_of_mul-lt-mul_right P (omega (arith, q, f, lo, size)) in
      let past : get_or is z 0 < 2 ^ k + 2 ^ k = lt_of_mul-lt-mul_right P (omega (arith, f, hi, size)) in
      let low : get_or is z 0 < 2 ^ suc k = omega arith in
      let b = In-sides-of ws (suc t) is e (λ r l. each low r l (eq-or-ne r z)) in (
        λ r l. le_trans (In-sides-get ws (suc t) b r l) (pow_mono (attribute_depth-width ws r (suc t) l)),
        address-new is b (omega arith) ∙ f,
      )
    where
      each : get_or is z 0 < 2 ^ suc k → (r : ℕ) → r < 4 → (r ≡ z) ⊎ (r ≡ z → ⊥)
          → get_or is r 0 < 2 ^ attribute_depth ws (suc t) r
      each low r l (inl q) =
          subst (λ x. get_or is x 0 < 2 ^ attribute_depth ws (suc t) x) (sym q)
          (subst (λ h. get_or is z 0 < 2 ^ h) (sym (attribute_depth-next ws fit k z hz hk number)) low)
      each low r l (inr ne) =
          subst (λ h. get_or is r 0 < 2 ^ h) (sym (attribute_depth-next-other ws fit k z hz hk number r l ne)) (o r l ne)

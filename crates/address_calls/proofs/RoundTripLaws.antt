-- The two calls of the address map accept the box at T = W and the addresses below 2^W, and each undoes the other.
-- Assumes nothing.
use Prim.Native.Nat.{ℕ, ◌^◌, ◌<◌}
use mathlib.Core.Path.{◌≡◌, refl, sym, ap, ◌∙◌, subst}
use mathlib.Core.Bool.{Bool, true, false, not}
use mathlib.Core.List.{List, [], ◌∷◌, ◌++◌, map}
use mathlib.Core.Logic.{◌↔◌}
use native.Mathlib.Omega.{arith}
use lib.Dec.{ltb}
use lib.ListN.{get_or, length}
use borrow.Author.Tests.{ltb-true, lt-ltb}
use Rattle.lists.proofs.Bools.{and_split, and_both}
use Rattle.shape.specs.Refusal.{accepted, refusal, first_number}
use Rattle.shape.specs.Shape.{shape_conditions, shape_number, widths_of, total, Fit, index_fits}
use Rattle.shape.specs.declared.Shape.{Shape}
use Rattle.shape.proofs.RefusalLaws.{first_number-shape, accepted-answered_by}
use Rattle.shape.proofs.ShapeLaws.{widths_of-fit}
use Rattle.split.specs.Steps.{attribute_depth}
use Rattle.split.proofs.StepLaws.{length-steps}
use Rattle.split.proofs.DepthLaws.{attribute_depth-all}
use Rattle.address.specs.Address.{address}
use Rattle.address_calls.specs.Answers.{address_refusals, address_number, address_answer}
use Rattle.address_calls.specs.Answers.{index_refusals, index_number, index_answer}
use Rattle.address.specs.Doubling.{In, done, also, sides, doubling_array}
use Rattle.address.specs.Map.{EqualsDoublingArray}
use Rattle.address_calls.specs.RoundTrip.{InWholeBox, RoundTrip}
use Rattle.address_calls.proofs.AnswerLaws.{address_answer-address, index_answer-index}
use Rattle.address.proofs.MapLaws.{equals-doubling_array}

-- ---- vectors that fit

index_fits-of-In : (ws is : List ℕ) → In (map (λ w. 2 ^ w) ws) is → index_fits ws is ≡ true
index_fits-of-In [] is b = refl
index_fits-of-In (w ∷ ws) [] b = refl
index_fits-of-In (w ∷ ws) (i ∷ is) (also l b) = and_both _ _ (lt-ltb i (2 ^ w) l) (index_fits-of-In ws is b)

In-of-index_fits : (ws is : List ℕ) → length is ≡ length ws → index_fits ws is ≡ true → In (map (λ w. 2 ^ w) ws) is
In-of-index_fits [] [] e f = done
In-of-index_fits [] (i ∷ is) e f = absurd (omega arith)
In-of-index_fits (w ∷ ws) [] e f = absurd (omega arith)
In-of-index_fits (w ∷ ws) (i ∷ is) e f =
    let k = and_split (ltb i (2 ^ w)) (index_fits ws is) f in
    also (ltb-true i (2 ^ w) k.0) (In-of-index_fits ws is (omega arith) k.1)

-- at T = W each depth is the width
sides_total : (w0 w1 w2 w3 : ℕ) → Fit (w0 ∷ w1 ∷ w2 ∷ w3 ∷ [])
    → sides (w0 ∷ w1 ∷ w2 ∷ w3 ∷ []) (total (w0 ∷ w1 ∷ w2 ∷ w3 ∷ [])) ≡ map (λ w. 2 ^ w) (w0 ∷ w1 ∷ w2 ∷ w3 ∷ [])
unfolding sides
sides_total w0 w1 w2 w3 fit =
    cc (whole 0 (omega arith), whole 1 (omega arith), whole 2 (omega arith), whole 3 (omega arith))
  where
    ws : List ℕ
    ws = w0 ∷ w1 ∷ w2 ∷ w3 ∷ []

    whole : (j : ℕ) → j < 4 → attribute_depth (w0 ∷ w1 ∷ w2 ∷ w3 ∷ []) (total (w0 ∷ w1 ∷ w2 ∷ w3 ∷ [])) j ≡ get_or ws j 0
    whole j h = ap (λ t. attribute_depth ws t j) (sym (length-steps w0 w1 w2 w3 fit)) ∙ attribute_depth-all ws fit j h

-- ---- answers by their numbers

-- with one condition after the shape's
first_number-one : (s : Shape) (β : Bool) → shape_number s ≡ 0
    → (first_number (shape_conditions s ++ refusal 3 (not β) ∷ []) ≡ 0) ↔ (β ≡ true)
unfolding first_number
first_number-one s β n = (λ e. holds β (sym (first_number-shape s _ n) ∙ e), λ e. first_number-shape s _ n ∙ rw e)
  where
    holds : (γ : Bool) → first_number (refusal 3 (not γ) ∷ []) ≡ 0 → γ ≡ true
    holds true e = refl
    holds false e = absurd (omega arith)

accepted-same : {A : Type 0} (x y : A) → accepted x ≡ accepted y → x ≡ y
accepted-same x y e = cc

-- ---- the two calls

module _ (s : Shape) (n : shape_number s ≡ 0) where
  abbrev ws : List ℕ
  ws = widths_of s

  abbrev W : ℕ
  W = total (widths_of s)

  -- what stands at an address in the doubling array
  abbrev vector : ℕ → List ℕ
  vector a = get_or (doubling_array ws W) a []

  equal : EqualsDoublingArray ws
  equal = equals-doubling_array s n

  whole-box : sides ws W ≡ map (λ w. 2 ^ w) ws
  unfolding widths_of
  whole-box = sides_total _ _ _ _ (widths_of-fit s n)

  four : length ws ≡ 4
  unfolding widths_of
  four = refl

  fits-of-box : (is : List ℕ) → InWholeBox s is → index_fits ws is ≡ true
  fits-of-box is b = index_fits-of-In ws is (subst (λ Js. In Js is) whole-box b)

  box-of-fits : (is : List ℕ) → length is ≡ 4 → index_fits ws is ≡ true → InWholeBox s is
  box-of-fits is e f = subst (λ Js. In Js is) (sym whole-box) (In-of-index_fits ws is (e ∙ sym four) f)

  index-accepted : (is : List ℕ) → length is ≡ 4 → (address_number s is ≡ 0) ↔ InWholeBox s is
  unfolding address_refusals
  index-accepted is e =
      let one = first_number-one s (index_fits ws is) n in
      (λ h. box-of-fits is e (one.0 h), λ b. one.1 (fits-of-box is b))

  address-accepted : (a : ℕ) → (index_number s a ≡ 0) ↔ (a < 2 ^ W)
  unfolding index_refusals
  address-accepted a =
      let one = first_number-one s (ltb a (2 ^ W)) n in
      (λ h. ltb-true a (2 ^ W) (one.0 h), λ l. one.1 (lt-ltb a (2 ^ W) l))

  -- the address of a vector of the box, and the vector there
  located : (is : List ℕ) → InWholeBox s is → address_answer s is ≡ accepted (address ws is)
  located is b = sym (address_answer-address s ws n refl is (address ws is) (fits-of-box is b) refl)

  at_address : (a : ℕ) → a < 2 ^ W → index_answer s a ≡ accepted (vector a)
  at_address a l = sym (index_answer-index s ws n refl a _ (lt-ltb a (2 ^ W) l) refl)

  back : (is : List ℕ) → InWholeBox s is → index_answer s (address ws is) ≡ accepted is
  back is b =
      at_address (address ws is) (equal.in-range W (omega arith) is b)
      ∙ ap accepted (equal.place W (omega arith) is b)

  forth : (a : ℕ) → a < 2 ^ W → address_answer s (vector a) ≡ accepted a
  forth a l =
      located (vector a) (equal.onto W (omega arith) a l) ∙ ap accepted (equal.inverse W (omega arith) a l)

  index-of-address : (is : List ℕ) (a : ℕ) → length is ≡ 4 → address_answer s is ≡ accepted a
      → index_answer s a ≡ accepted is
  unfolding address_answer
  index-of-address is a e h =
      let b = (index-accepted is e).0 (accepted-answered_by a (address ws is) (address_refusals s is) (sym h)) in
      let same = accepted-same (address ws is) a (sym (located is b) ∙ h) in
      subst (λ x. index_answer s x ≡ accepted is) same (back is b)

  address-of-index : (is : List ℕ) (a : ℕ) → index_answer s a ≡ accepted is → address_answer s is ≡ accepted a
  unfolding index_answer
  address-of-index is a h =
      let l = (address-accepted a).0 (accepted-answered_by is (vector a) (index_refusals s a) (sym h)) in
      let same = accepted-same (vector a) is (sym (at_address a l) ∙ h) in
      subst (λ v. address_answer s v ≡ accepted a) same (forth a l)

  -- for every shape within its bounds
  pub round_trip : RoundTrip s
  round_trip =
      record {
        whole-box = whole-box;
        fits = λ is e. (box-of-fits is e, fits-of-box is);
        index-accepted = index-accepted;
        address-accepted = address-accepted;
        to-address = λ is b. (address ws is, equal.in-range W (omega arith) is b, located is b, back is b);
        to-index = λ a l. (vector a, equal.onto W (omega arith) a l, at_address a l, forth a l);
        undoes = λ is a e. (index-of-address is a e, address-of-index is a);
      }

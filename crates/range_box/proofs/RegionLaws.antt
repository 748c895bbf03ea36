-- Laws of a region's lowest and highest encodings: their bits; the encodings of a key that begins with the region lie
-- between them; an encoding between them has the region's bits; shorter strings. Assumes nothing.
use Prim.Native.Nat.{ℕ, ◌+◌, ◌-◌, ◌^◌, ◌≤◌, ◌<◌}
use mathlib.Core.Path.{◌≡◌, sym, ap, ◌∙◌, subst}
use mathlib.Core.Bool.{Bool, true, false, false≢true}
use mathlib.Core.List.{List}
use mathlib.Core.Logic.{◌⊎◌, inl, inr}
use native.Mathlib.Omega.{arith}
use native.Mathlib.Nat.{zero-add}
use lib.Dec.{leb}
use lib.ListN.{get_or}
use borrow.Author.Tests.{lt-ltb, le-ltb, leb-true, le-leb}
use Rattle.lists.proofs.Numbers.{lt-or-le}
use Rattle.shape.specs.Shape.{widths_of, shape_number}
use Rattle.shape.specs.declared.Shape.{Shape}
use Rattle.shape.proofs.ShapeLaws.{widths_of-fit}
use Rattle.split.specs.Steps.{step_number, attribute_depth}
use Rattle.split.specs.Bits.{bit_of, split_bit}
use Rattle.split.proofs.BitLaws.{split_bit-step_number}
use Rattle.split.proofs.DepthLaws.{lt-attribute_depth, step_number-lt-attribute_depth, attribute_depth-width}
use Rattle.cell.specs.Cell.{Agree, attribute_bit}
use Rattle.region.specs.Strings.{same_bits}
use Rattle.region.proofs.StringLaws.{bit-of-same_bits}
use Rattle.range_box.specs.Box.{number, filled, corner, lowest, highest}
use Rattle.range_box.proofs.NumberLaws.{number-agree, number-mono, number_lt, number-bit_of}
use Rattle.range_box.proofs.NumberLaws.{number-le-zeros, number-le-ones}

-- ---- strings

filled-below : (p : ℕ → Bool) (x : ℕ) (β : Bool) (t : ℕ) → t < x → filled p x β t ≡ p t
filled-below p x β t l = rw (lt-ltb t x l)

filled-above : (p : ℕ → Bool) (x : ℕ) (β : Bool) (t : ℕ) → x ≤ t → filled p x β t ≡ β
filled-above p x β t l = rw (le-ltb t x l)

filled-agree : (p q : ℕ → Bool) (x : ℕ) (β : Bool) (t : ℕ) → Agree x p q → filled p x β t ≡ filled q x β t
filled-agree p q x β t a = go (lt-or-le t x)
  where
    go : (t < x) ⊎ (x ≤ t) → filled p x β t ≡ filled q x β t
    go (inl l) = filled-below p x β t l ∙ a t l ∙ sym (filled-below q x β t l)
    go (inr l) = filled-above p x β t l ∙ sym (filled-above q x β t l)

-- a bit that is set stays set when bits 0 become those of a longer string ..
filled-zeros : (p : ℕ → Bool) (x y : ℕ) (t : ℕ) → x ≤ y → filled p x false t ≡ true → filled p y false t ≡ true
filled-zeros p x y t h e = go (lt-or-le t x)
  where
    go : (t < x) ⊎ (x ≤ t) → filled p y false t ≡ true
    go (inl l) = filled-below p y false t (omega arith) ∙ sym (filled-below p x false t l) ∙ e
    go (inr l) = absurd (false≢true (sym (filled-above p x false t l) ∙ e))

-- .. and when the bits of a longer string become 1
filled-ones : (p : ℕ → Bool) (x y : ℕ) (t : ℕ) → x ≤ y → filled p y true t ≡ true → filled p x true t ≡ true
filled-ones p x y t h e = go (lt-or-le t x)
  where
    go : (t < x) ⊎ (x ≤ t) → filled p x true t ≡ true
    go (inl l) = filled-below p x true t l ∙ sym (filled-below p y true t (omega arith)) ∙ e
    go (inr l) = filled-above p x true t l

-- ---- corners

module _ (s : Shape) (p : ℕ → Bool) (j : ℕ) where
  pub corner-agree : (q : ℕ → Bool) (x : ℕ) (β : Bool) → Agree x p q → corner s p x β j ≡ corner s q x β j
  corner-agree q x β a =
      number-agree (get_or (widths_of s) j 0) (attribute_bit (widths_of s) (filled p x β) j)
      (attribute_bit (widths_of s) (filled q x β) j) (λ k l. filled-agree p q x β (step_number (widths_of s) k j) a)

  pub lowest-mono : (x y : ℕ) → x ≤ y → lowest s p x j ≤ lowest s p y j
  lowest-mono x y h =
      number-mono (get_or (widths_of s) j 0) (attribute_bit (widths_of s) (filled p x false) j)
      (attribute_bit (widths_of s) (filled p y false) j)
      (λ k l e. filled-zeros p x y (step_number (widths_of s) k j) h e)

  pub highest-mono : (x y : ℕ) → x ≤ y → highest s p y j ≤ highest s p x j
  highest-mono x y h =
      number-mono (get_or (widths_of s) j 0) (attribute_bit (widths_of s) (filled p y true) j)
      (attribute_bit (widths_of s) (filled p x true) j)
      (λ k l e. filled-ones p x y (step_number (widths_of s) k j) h e)

  pub lowest-le-highest : (x : ℕ) → lowest s p x j ≤ highest s p x j
  lowest-le-highest x =
      number-mono (get_or (widths_of s) j 0) (attribute_bit (widths_of s) (filled p x false) j)
      (attribute_bit (widths_of s) (filled p x true) j) (λ k l. up (step_number (widths_of s) k j))
    where
      up : (t : ℕ) → filled p x false t ≡ true → filled p x true t ≡ true
      up t e = go (lt-or-le t x)
        where
          go : (t < x) ⊎ (x ≤ t) → filled p x true t ≡ true
          go (inl l) = filled-below p x true t l ∙ sym (filled-below p x false t l) ∙ e
          go (inr l) = filled-above p x true t l

  pub highest-lt : (x : ℕ) → highest s p x j < 2 ^ get_or (widths_of s) j 0
  highest-lt x = number_lt (get_or (widths_of s) j 0) (attribute_bit (widths_of s) (filled p x true) j)

module _ (s : Shape) (n : shape_number s ≡ 0) (p : ℕ → Bool) (x j : ℕ) (hj : j < 4) where
  abbrev ws : List ℕ
  ws = widths_of s

  abbrev w : ℕ
  w = get_or ws j 0

  abbrev h : ℕ
  h = attribute_depth ws x j

  deep : h + (w - h) ≡ w
  deep = omega (arith, attribute_depth-width ws j x hj)

  -- ---- the first bits of a corner are the region's, and the rest are β

  corner-below : (β : Bool) → Agree h (attribute_bit ws (filled p x β) j) (attribute_bit ws p j)
  corner-below β k l =
      filled-below p x β (step_number ws k j) (step_number-lt-attribute_depth ws (widths_of-fit s n) x k j hj l)

  corner-above : (β : Bool) (k : ℕ) → h ≤ k → k < w → attribute_bit ws (filled p x β) j k ≡ β
  corner-above β k l m = go (lt-or-le (step_number ws k j) x)
    where
      go : (step_number ws k j < x) ⊎ (x ≤ step_number ws k j) → attribute_bit ws (filled p x β) j k ≡ β
      go (inl a) = absurd (omega (arith, lt-attribute_depth ws (widths_of-fit s n) x k j hj m a))
      go (inr a) = filled-above p x β (step_number ws k j) a

  -- ---- a number against a corner: the first bits decide

  module _ (v : ℕ) (f : v < 2 ^ w) where
    pub lowest-leb : leb (lowest s p x j) v ≡ leb (number (attribute_bit ws p j) h) (number (bit_of w v) h)
    lowest-leb =
        let low = attribute_bit ws (filled p x false) j in
        let whole : leb (number low (h + (w - h))) (number (bit_of w v) (h + (w - h)))
        ≡ leb (number low h) (number (bit_of w v) h) =
        number-le-zeros h (w - h) low (bit_of w v) (λ k l m. corner-above false k l (omega arith)) in
        ap (leb (lowest s p x j)) (sym (number-bit_of w v f))
        ∙ subst (λ m. leb (number low m) (number (bit_of w v) m) ≡ leb (number low h) (number (bit_of w v) h)) deep whole
        ∙ ap (λ m. leb m (number (bit_of w v) h)) (number-agree h low (attribute_bit ws p j) (corner-below false))

    pub leb-highest : leb v (highest s p x j) ≡ leb (number (bit_of w v) h) (number (attribute_bit ws p j) h)
    leb-highest =
        let high = attribute_bit ws (filled p x true) j in
        let whole : leb (number (bit_of w v) (h + (w - h))) (number high (h + (w - h)))
        ≡ leb (number (bit_of w v) h) (number high h) =
        number-le-ones h (w - h) (bit_of w v) high (λ k l m. corner-above true k l (omega arith)) in
        ap (λ m. leb m (highest s p x j)) (sym (number-bit_of w v f))
        ∙ subst (λ m. leb (number (bit_of w v) m) (number high m) ≡ leb (number (bit_of w v) h) (number high h)) deep
        whole
        ∙ ap (leb (number (bit_of w v) h)) (number-agree h high (attribute_bit ws p j) (corner-below true))

    -- between the corners exactly if it has the region's bits
    pub bits-of-between : lowest s p x j ≤ v → v ≤ highest s p x j
        → number (bit_of w v) h ≡ number (attribute_bit ws p j) h
    bits-of-between a b =
        let c : number (attribute_bit ws p j) h ≤ number (bit_of w v) h =
        leb-true _ _ (sym lowest-leb ∙ le-leb (lowest s p x j) v a) in
        let d : number (bit_of w v) h ≤ number (attribute_bit ws p j) h =
        leb-true _ _ (sym leb-highest ∙ le-leb v (highest s p x j) b) in
        omega arith

    pub between-of-bits : number (bit_of w v) h ≡ number (attribute_bit ws p j) h
        → (lowest s p x j ≤ v) × (v ≤ highest s p x j)
    between-of-bits e =
        let a : number (attribute_bit ws p j) h ≤ number (bit_of w v) h = omega arith in
        let b : number (bit_of w v) h ≤ number (attribute_bit ws p j) h = omega arith in
        (leb-true _ _ (lowest-leb ∙ le-leb _ _ a), leb-true _ _ (leb-highest ∙ le-leb _ _ b))

  -- a key that begins with the region
  pub key-between : (key : List ℕ) → get_or key j 0 < 2 ^ w → same_bits p (split_bit ws key) x 0 ≡ true
      → (lowest s p x j ≤ get_or key j 0) × (get_or key j 0 ≤ highest s p x j)
  key-between key f e =
      between-of-bits (get_or key j 0) f
      (number-agree h (bit_of w (get_or key j 0)) (attribute_bit ws p j)
      (λ k l.
      let below : step_number ws k j < 0 + x =
      omega (arith, step_number-lt-attribute_depth ws (widths_of-fit s n) x k j hj l, zero-add x) in
      sym (split_bit-step_number ws (widths_of-fit s n) key k j hj (omega (arith, attribute_depth-width ws j x hj)))
      ∙ bit-of-same_bits p (split_bit ws key) x 0 e (step_number ws k j) (omega arith) below))

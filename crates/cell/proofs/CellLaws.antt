-- Laws of cells: one step more; strings of t bits and the vectors of the box at t, one to one; the same for addresses.
-- Assumes nothing.
use Prim.Native.Nat.{ℕ, zero, suc, ◌+◌, ◌*◌, ◌^◌, ◌≤◌, ◌<◌}
use mathlib.Core.Path.{◌≡◌, refl, sym, ap, ◌∙◌, subst}
use mathlib.Core.Bool.{Bool, false}
use mathlib.Core.List.{List, [], ◌∷◌}
use mathlib.Core.Logic.{◌⊎◌, inl, inr, ◌↔◌}
use native.Mathlib.Omega.{arith}
use native.Mathlib.Nat.{le_trans}
use lib.ListN.{get_or, length, set, length-set}
use lib.Seq.{get_or-set_same, get_or-set_other, ext_get_or, set-get_or}
use Rattle.lists.proofs.Numbers.{lt-or-le, eq-or-ne}
use Rattle.shape.specs.Shape.{Fit, total}
use Rattle.split.specs.Steps.{steps, step, step_number, bit_value, steps_of, attribute_depth}
use Rattle.split.proofs.StepLaws.{length-steps}
use Rattle.split.proofs.DepthLaws.{step_of, step-here, attribute_depth-z, attribute_depth-next, attribute_depth-next-other}
use Rattle.split.proofs.DepthLaws.{lt-attribute_depth, step_number-lt-attribute_depth}
use Rattle.split.proofs.BitLaws.{split_bit-step_number}
use Rattle.address.specs.Doubling.{In, done, also, sides}
use Rattle.address.specs.Address.{address}
use Rattle.address.proofs.DoublingLaws.{address-place, address-onto, address-one-to-one}
use Rattle.cell.specs.Cell.{sum_bits, attribute_bit, cell, cell_address, Agree}
use Rattle.cell.specs.Laws.{CellLaws}
use Rattle.cell.proofs.Strings.{sum_bits-lt, sum_bits-agree, agree-of-sum_bits, string_of, sum_bits-string_of}

-- ---- the four indices

pub get_d-cell : (ws : List ℕ) (t : ℕ) (p : ℕ → Bool) (j : ℕ) → j < 4
    → get_or (cell ws t p) j 0 ≡ sum_bits (attribute_bit ws p j) (attribute_depth ws t j)
unfolding cell
get_d-cell ws t p zero h = refl
get_d-cell ws t p (suc zero) h = refl
get_d-cell ws t p (suc (suc zero)) h = refl
get_d-cell ws t p (suc (suc (suc zero))) h = refl
get_d-cell ws t p (suc (suc (suc (suc j)))) h = absurd (omega arith)

pub length-cell : (ws : List ℕ) (t : ℕ) (p : ℕ → Bool) → length (cell ws t p) ≡ 4
unfolding cell
length-cell ws t p = refl

-- no bits: the zero vector
pub cell-zero : (ws : List ℕ) (p : ℕ → Bool) → cell ws 0 p ≡ 0 ∷ 0 ∷ 0 ∷ 0 ∷ []
unfolding cell sum_bits attribute_depth steps_of
cell-zero ws p = refl

pub In-cell : (ws : List ℕ) (t : ℕ) (p : ℕ → Bool) → In (sides ws t) (cell ws t p)
unfolding cell sides
In-cell ws t p = also (below 0) (also (below 1) (also (below 2) (also (below 3) done)))
  where
    below : (j : ℕ) → sum_bits (attribute_bit ws p j) (attribute_depth ws t j) < 2 ^ attribute_depth ws t j
    below j = sum_bits-lt (attribute_bit ws p j) (attribute_depth ws t j)

-- ---- one step more

-- x more at attribute z
abbrev pub plus : ℕ → ℕ → List ℕ → List ℕ
plus z x v = set v z (get_or v z 0 + x)

module _ (ws : List ℕ) (fit : Fit ws) where
  -- step t is (k, z)
  pub cell-suc-pair : (t : ℕ) (p : ℕ → Bool) (k z : ℕ) → z < 4 → k < get_or ws z 0 → step_number ws k z ≡ t
      → cell ws (suc t) p ≡ plus z (bit_value (p t) * 2 ^ k) (cell ws t p)
  unfolding sum_bits
  cell-suc-pair t p k z hz hk number =
      ext_get_or 0 new (plus z x old) (length-cell ws (suc t) p ∙ sym len)
      (λ r l. each r (subst (λ n. r < n) (length-cell ws (suc t) p) l) (eq-or-ne r z))
    where
      x : ℕ
      x = bit_value (p t) * 2 ^ k

      old : List ℕ
      old = cell ws t p

      new : List ℕ
      new = cell ws (suc t) p

      len : length (plus z x old) ≡ 4
      len = length-set old z (get_or old z 0 + x) ∙ length-cell ws t p

      at-z : get_or new z 0 ≡ get_or old z 0 + x
      at-z =
          get_d-cell ws (suc t) p z hz
          ∙ ap (sum_bits (attribute_bit ws p z)) (attribute_depth-next ws fit k z hz hk number)
          ∙ ap (λ u. sum_bits (attribute_bit ws p z) k + bit_value (p u) * 2 ^ k) number
          ∙ ap (λ h. sum_bits (attribute_bit ws p z) h + x) (sym (attribute_depth-z ws fit k z hz hk number))
          ∙ ap (λ i. i + x) (sym (get_d-cell ws t p z hz))

      each : (r : ℕ) → r < 4 → (r ≡ z) ⊎ (r ≡ z → ⊥) → get_or new r 0 ≡ get_or (plus z x old) r 0
      each r l (inl e) =
          subst (λ i. get_or new i 0 ≡ get_or (plus z x old) i 0) (sym e)
          (at-z ∙ sym (get_or-set_same old z (get_or old z 0 + x) 0 (subst (λ n. z < n) (sym (length-cell ws t p)) hz)))
      each r l (inr ne) =
          get_d-cell ws (suc t) p r l
          ∙ ap (sum_bits (attribute_bit ws p r)) (attribute_depth-next-other ws fit k z hz hk number r l ne)
          ∙ sym (get_or-set_other old z r (get_or old z 0 + x) 0 ne ∙ get_d-cell ws t p r l)

  pub cell-suc : (t : ℕ) → t < length (steps ws) → (p : ℕ → Bool)
      → cell ws (suc t) p ≡ plus (step ws t).attribute (bit_value (p t) * 2 ^ (step ws t).bit) (cell ws t p)
  cell-suc t h p =
      let s = step_of ws t h in
      rw (step-here ws fit s.0 s.1 s.2 s.3 s.4) (cell-suc-pair t p s.0 s.1 s.2 s.3 s.4)

  pub cell-zero-bit : (t : ℕ) → t < length (steps ws) → (p : ℕ → Bool) → p t ≡ false → cell ws (suc t) p ≡ cell ws t p
  cell-zero-bit t h p e =
      let z = (step ws t).attribute in
      let x = get_or (cell ws t p) z 0 in
      let none : x + bit_value (p t) * 2 ^ (step ws t).bit ≡ x = rw e (omega arith) in
      cell-suc t h p ∙ ap (set (cell ws t p) z) none ∙ set-get_or (cell ws t p) z 0

  -- further bits 0 change no index
  pub cell-zero-bits : (t u : ℕ) → t ≤ u → u ≤ length (steps ws) → (p : ℕ → Bool)
      → ((s : ℕ) → t ≤ s → s < u → p s ≡ false) → cell ws u p ≡ cell ws t p
  cell-zero-bits t zero h b p z = let e : zero ≡ t = omega arith in ap (λ x. cell ws x p) e
  cell-zero-bits t (suc u) h b p z =
      go (lt-or-le u t) (λ l. cell-zero-bits t u l (omega arith) p (λ s f g. z s f (omega arith)))
    where
      go : (u < t) ⊎ (t ≤ u) → (t ≤ u → cell ws u p ≡ cell ws t p) → cell ws (suc u) p ≡ cell ws t p
      go (inl l) ih = let e : suc u ≡ t = omega arith in ap (λ x. cell ws x p) e
      go (inr l) ih = cell-zero-bit u b p (z u l (omega arith)) ∙ ih l

  -- ---- strings of t bits and vectors of the box at t

  pub cell-string_of : (t : ℕ) (v : List ℕ) → In (sides ws t) v → cell ws t (string_of ws v) ≡ v
  unfolding cell sides
  cell-string_of t v (also ha (also hb (also hc (also hd done)))) = cc (
    sum_bits-string_of ws fit v t 0 (omega arith) ha,
    sum_bits-string_of ws fit v t 1 (omega arith) hb,
    sum_bits-string_of ws fit v t 2 (omega arith) hc,
    sum_bits-string_of ws fit v t 3 (omega arith) hd,
  )

  pub cell-onto : (t : ℕ) (v : List ℕ) → In (sides ws t) v → (p : ℕ → Bool) × (cell ws t p ≡ v)
  cell-onto t v i = (string_of ws v, cell-string_of t v i)

  -- the cell depends on the first t bits alone
  pub cell_agree : (t : ℕ) (p q : ℕ → Bool) → Agree t p q → cell ws t p ≡ cell ws t q
  unfolding cell
  cell_agree t p q a = cc (each 0 (omega arith), each 1 (omega arith), each 2 (omega arith), each 3 (omega arith))
    where
      each : (j : ℕ) → j < 4
          → sum_bits (attribute_bit ws p j) (attribute_depth ws t j)
          ≡ sum_bits (attribute_bit ws q j) (attribute_depth ws t j)
      each j hj = sum_bits-agree (attribute_depth ws t j) (attribute_bit ws p j) (attribute_bit ws q j)
          (λ k l. a (step_number ws k j) (step_number-lt-attribute_depth ws fit t k j hj l))

  -- and has each of them
  pub agree-of-cell : (t : ℕ) → t ≤ length (steps ws) → (p q : ℕ → Bool) → cell ws t p ≡ cell ws t q → Agree t p q
  agree-of-cell t h p q e s l =
      let d = step_of ws s (le_trans l h) in
      subst (λ u. p u ≡ q u) d.4 (at d.0 d.1 d.2 d.3 (subst (λ u. u < t) (sym d.4) l))
    where
      at : (k j : ℕ) → j < 4 → k < get_or ws j 0 → step_number ws k j < t → p (step_number ws k j) ≡ q (step_number ws k j)
      at k j hj hk b = agree-of-sum_bits (attribute_depth ws t j) (attribute_bit ws p j) (attribute_bit ws q j)
          (sym (get_d-cell ws t p j hj) ∙ ap (λ v. get_or v j 0) e ∙ get_d-cell ws t q j hj)
          k (lt-attribute_depth ws fit t k j hj hk b)

  pub cell_same : (t : ℕ) → t ≤ length (steps ws) → (p q : ℕ → Bool) → (cell ws t p ≡ cell ws t q) ↔ Agree t p q
  cell_same t h p q = (agree-of-cell t h p q, cell_agree t p q)

  -- ---- addresses

  pub cell_address-lt : (t : ℕ) → t ≤ length (steps ws) → (p : ℕ → Bool) → cell_address ws t p < 2 ^ t
  unfolding cell_address
  cell_address-lt t h p = (address-place ws fit t h (cell ws t p) (In-cell ws t p)).0

  pub cell_address-onto : (t : ℕ) → t ≤ length (steps ws) → (a : ℕ) → a < 2 ^ t
      → (p : ℕ → Bool) × (cell_address ws t p ≡ a)
  unfolding cell_address
  cell_address-onto t h a l =
      let v = address-onto ws fit t h a l in
      let s = cell-onto t v.0 v.1 in
      (s.0, ap (address ws) s.1 ∙ v.2)

  pub cell_address-same : (t : ℕ) → t ≤ length (steps ws) → (p q : ℕ → Bool)
      → (cell_address ws t p ≡ cell_address ws t q) ↔ Agree t p q
  unfolding cell_address
  cell_address-same t h p q = (
    λ e. agree-of-cell t h p q (address-one-to-one ws fit t h _ _ (In-cell ws t p) (In-cell ws t q) e),
    λ a. ap (address ws) (cell_agree t p q a),
  )

  -- an address does not depend on how many bits 0 follow
  pub cell_address-zero-bits : (t u : ℕ) → t ≤ u → u ≤ length (steps ws) → (p : ℕ → Bool)
      → ((s : ℕ) → t ≤ s → s < u → p s ≡ false) → cell_address ws u p ≡ cell_address ws t p
  unfolding cell_address
  cell_address-zero-bits t u h b p z = ap (address ws) (cell-zero-bits t u h b p z)

-- ---- all together

pub cell_laws : (w0 w1 w2 w3 : ℕ) → Fit (w0 ∷ w1 ∷ w2 ∷ w3 ∷ []) → CellLaws (w0 ∷ w1 ∷ w2 ∷ w3 ∷ [])
cell_laws w0 w1 w2 w3 fit = record {
  in-box = λ t h p. In-cell ws t p;
  onto = λ t h v i. cell-onto ws fit t v i;
  same = λ t h p q. cell_same ws fit t (below t h) p q;
  address-lt = λ t h p. cell_address-lt ws fit t (below t h) p;
  address-onto = λ t h a l. cell_address-onto ws fit t (below t h) a l;
  address_same = λ t h p q. cell_address-same ws fit t (below t h) p q;
  zero_bits = λ t u l h p z. cell_address-zero-bits ws fit t u l (below u h) p z;
  key-bits = λ key k j hj hk. split_bit-step_number ws fit key k j hj hk;
}
  where
    ws : List ℕ
    ws = w0 ∷ w1 ∷ w2 ∷ w3 ∷ []

    below : (t : ℕ) → t ≤ total (w0 ∷ w1 ∷ w2 ∷ w3 ∷ []) → t ≤ length (steps (w0 ∷ w1 ∷ w2 ∷ w3 ∷ []))
    below t h = subst (λ n. t ≤ n) (sym (length-steps w0 w1 w2 w3 fit)) h

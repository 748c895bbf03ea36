-- Laws of boxes: how many vectors a box has, and where each stands in lexicographic order; a vector of the box by its
-- indices; one index taken out and put back. Assumes nothing.
use Prim.Native.Nat.{ℕ, zero, suc, ◌+◌, ◌*◌, ◌-◌, ◌≤◌, ◌<◌}
use mathlib.Core.Path.{◌≡◌, refl, sym, ap, ◌∙◌, subst}
use mathlib.Core.List.{List, [], ◌∷◌, ◌++◌, map}
use mathlib.Core.Logic.{◌⊎◌, inl, inr}
use native.Mathlib.Omega.{arith}
use native.Mathlib.Nat.{zero-mul, zero-add}
use lib.ListN.{get_or, length, length-append, length-map, get_or-append}
use lib.Seq.{get_or-append-add}
use Rattle.lists.proofs.Numbers.{lt-or-le, digit_lt}
use Rattle.lists.proofs.Sequences.{get_d_map}
use Rattle.address.specs.Doubling.{In, done, also, layers, box, without, put_among}
use Rattle.address.specs.Address.{product, rank}

-- ---- layers

pub length-layers : (lo n : ℕ) (B : List (List ℕ)) → length (layers lo n B) ≡ n * length B
unfolding layers
length-layers lo zero B = sym (zero-mul (length B))
length-layers lo (suc n) B =
    length-append (map (λ v. lo ∷ v) B) (layers (suc lo) n B)
    ∙ omega (arith, length-map B (λ v. lo ∷ v), length-layers (suc lo) n B)

-- where a vector of layer x stands
pub get_d-layers : (lo n : ℕ) (B : List (List ℕ)) (x p : ℕ) → x < n → p < length B
    → get_or (layers lo n B) (x * length B + p) [] ≡ (lo + x) ∷ get_or B p []
unfolding layers
get_d-layers lo zero B x p hx hp = absurd (omega arith)
get_d-layers lo (suc n) B zero p hx hp =
    let first = map (λ v. lo ∷ v) B in
    let e : zero * length B + p ≡ p = omega arith in
    let f : lo ≡ lo + zero = omega arith in
    let l : p < length first = omega (arith, length-map B (λ v. lo ∷ v)) in
    ap (λ q. get_or (first ++ layers (suc lo) n B) q []) e
    ∙ get_or-append first (layers (suc lo) n B) [] p l
    ∙ get_d_map (λ v. lo ∷ v) B p [] [] hp
    ∙ ap (λ q. q ∷ get_or B p []) f
get_d-layers lo (suc n) B (suc x) p hx hp =
    let first = map (λ v. lo ∷ v) B in
    let e : suc x * length B + p ≡ length first + (x * length B + p) = omega (arith, length-map B (λ v. lo ∷ v)) in
    let f : suc lo + x ≡ lo + suc x = omega arith in
    ap (λ q. get_or (first ++ layers (suc lo) n B) q []) e
    ∙ get_or-append-add first (layers (suc lo) n B) (x * length B + p) []
    ∙ get_d-layers (suc lo) n B x p (omega arith) hp
    ∙ ap (λ q. q ∷ get_or B p []) f

-- a number below n * m is x * m + q with x < n and q < m
pub layer-of : (n m p : ℕ) → p < n * m → (x : ℕ) × (q : ℕ) × (x < n) × (q < m) × (p ≡ x * m + q)
layer-of zero m p h = absurd (omega arith)
layer-of (suc n) m p h = go (lt-or-le p m) (layer-of n m (p - m))
  where
    go : (p < m) ⊎ (m ≤ p)
        → (p - m < n * m → (x : ℕ) × (q : ℕ) × (x < n) × (q < m) × (p - m ≡ x * m + q))
        → (x : ℕ) × (q : ℕ) × (x < suc n) × (q < m) × (p ≡ x * m + q)
    go (inl l) ih = (zero, p, omega arith, l, omega arith)
    go (inr l) ih = let r = ih (omega arith) in (suc r.0, r.1, omega arith, r.3, omega arith)

-- ---- the box, and the rank that is the position in it

pub length-box : (Js : List ℕ) → length (box Js) ≡ product Js
unfolding box
length-box [] = refl
length-box (J ∷ Js) = length-layers 0 J (box Js) ∙ ap (λ x. J * x) (length-box Js)

pub rank_lt : {Js is : List ℕ} → In Js is → rank Js is < product Js
rank_lt done = omega arith
rank_lt (also {J} {i} {Js} {is} h r) = digit_lt i J (product Js) (rank Js is) h (rank_lt r)

pub get_d-box : {Js is : List ℕ} → In Js is → get_or (box Js) (rank Js is) [] ≡ is
unfolding box
get_d-box done = refl
get_d-box (also {J} {i} {Js} {is} h r) =
    let q = rank Js is in
    let len : product Js ≡ length (box Js) = sym (length-box Js) in
    ap (λ x. get_or (layers 0 J (box Js)) (i * x + q) []) len
    ∙ get_d-layers 0 J (box Js) i q h (subst (λ x. q < x) len (rank_lt r))
    ∙ ap (λ x. x ∷ get_or (box Js) q []) (zero-add i)
    ∙ ap (λ x. i ∷ x) (get_d-box r)

pub box-onto : (Js : List ℕ) (p : ℕ) → p < product Js → (is : List ℕ) × (In Js is) × (rank Js is ≡ p)
box-onto [] p h = ([], done, omega arith)
box-onto (J ∷ Js) p h =
    let l = layer-of J (product Js) p h in
    let r = box-onto Js l.1 l.3 in
    (l.0 ∷ r.0, also l.2 r.1, omega (arith, l.4, r.2))

-- ---- a vector of the box by its indices

pub In-get : {Js is : List ℕ} → In Js is → (z : ℕ) → z < length Js → get_or is z 0 < get_or Js z 0
In-get done z h = absurd (omega arith)
In-get (also l r) zero h = l
In-get (also l r) (suc z) h = In-get r z (omega arith)

pub In-length : {Js is : List ℕ} → In Js is → length is ≡ length Js
In-length done = refl
In-length (also l r) = ap suc (In-length r)

pub In-of : (Js is : List ℕ) → length is ≡ length Js → ((r : ℕ) → r < length Js → get_or is r 0 < get_or Js r 0)
    → In Js is
In-of [] [] e h = done
In-of [] (i ∷ is) e h = absurd (omega arith)
In-of (J ∷ Js) [] e h = absurd (omega arith)
In-of (J ∷ Js) (i ∷ is) e h =
    also (h zero (omega arith)) (In-of Js is (omega arith) (λ r l. h (suc r) (omega arith)))

-- ---- one index taken out and put back

pub In-without : {Js is : List ℕ} → In Js is → (z : ℕ) → In (without z Js) (without z is)
In-without done z = done
In-without (also l r) zero = r
In-without (also l r) (suc z) = also l (In-without r z)

-- nothing is asked of index z
pub In-others : (Js is : List ℕ) (z : ℕ) → length is ≡ length Js
    → ((r : ℕ) → r < length Js → (r ≡ z → ⊥) → get_or is r 0 < get_or Js r 0) → In (without z Js) (without z is)
In-others [] [] z e h = done
In-others [] (i ∷ is) z e h = absurd (omega arith)
In-others (J ∷ Js) [] z e h = absurd (omega arith)
In-others (J ∷ Js) (i ∷ is) zero e h = In-of Js is (omega arith) (λ r l. h (suc r) (omega arith) (omega arith))
In-others (J ∷ Js) (i ∷ is) (suc z) e h =
    also (h zero (omega arith) (omega arith))
    (In-others Js is z (omega arith) (λ r l ne. h (suc r) (omega arith) (λ q. ne (omega arith))))

pub product-without : (Js : List ℕ) (z : ℕ) → z < length Js → product Js ≡ get_or Js z 0 * product (without z Js)
product-without [] z h = absurd (omega arith)
product-without (J ∷ Js) zero h = refl
product-without (J ∷ Js) (suc z) h = ap (λ x. J * x) (product-without Js z (omega arith)) ∙ omega arith

pub put_among-without : (is : List ℕ) (z : ℕ) → z < length is → put_among z (get_or is z 0) (without z is) ≡ is
put_among-without [] z h = absurd (omega arith)
put_among-without (i ∷ is) zero h = refl
put_among-without (i ∷ is) (suc z) h = ap (λ x. i ∷ x) (put_among-without is z (omega arith))

pub In-put_among : (Js v : List ℕ) (z x : ℕ) → z < length Js → x < get_or Js z 0 → In (without z Js) v
    → (In Js (put_among z x v)) × (get_or (put_among z x v) z 0 ≡ x) × (without z (put_among z x v) ≡ v)
In-put_among [] v z x h l n = absurd (omega arith)
In-put_among (J ∷ Js) v zero x h l n = (also l n, refl, refl)
In-put_among (J ∷ Js) [] (suc z) x h l n = elim n [ ]
In-put_among (J ∷ Js) (y ∷ v) (suc z) x h l (also m n) =
    let r = In-put_among Js v z x (omega arith) l n in
    (also m r.0, r.1, ap (λ u. y ∷ u) r.2)

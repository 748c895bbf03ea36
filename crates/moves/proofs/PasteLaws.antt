-- Laws of `paste`, the library's name for a run of elements put over others: single elements, windows, two runs side by
-- side. A window is `take n (drop offset xs)`. Lengths and the ends of a paste are in `lib.Seq`. Assumes nothing.
use Prim.Native.Nat.{ℕ, zero, suc, ◌+◌, ◌-◌, ◌≤◌, ◌<◌}
use mathlib.Core.Path.{◌≡◌, refl, sym, ap, ◌∙◌}
use mathlib.Core.List.{List, [], ◌∷◌, ◌++◌, append_assoc}
use native.Mathlib.Omega.{arith}
use lib.ListN.{length, take, drop, get_or, set}
use lib.Seq.{paste, take-paste, drop-paste, length-take-le, get_or-take, get_or-drop, take-take, drop-drop, take-nil}
use lib.Seq.{take_at, drop_at, take-add, take-append-add, append_snoc, set-append_left, take-set-lt, take-suc-set}

module _ {A : Type 0} where
  -- ---- windows

  drop-take : (offset n : ℕ) (xs : List A) → drop offset (take (offset + n) xs) ≡ take n (drop offset xs)
  drop-take zero n xs = let e : 0 + n ≡ n = omega arith in ap (λ k. take k xs) e
  drop-take (suc offset) n [] = ap (drop (suc offset)) (take-nil (suc offset + n)) ∙ sym (take-nil n)
  drop-take (suc offset) n (x ∷ xs) =
      let e : suc offset + n ≡ suc (offset + n) = omega arith in
      ap (λ k. drop (suc offset) (take k (x ∷ xs))) e ∙ drop-take offset n xs

  -- a window that ends within the first m elements shows nothing else
  pub window-of-take : (m offset n : ℕ) (xs ys : List A) → take m xs ≡ take m ys → offset + n ≤ m
      → take n (drop offset xs) ≡ take n (drop offset ys)
  window-of-take m offset n xs ys e h =
      sym (drop-take offset n xs)
      ∙ ap (drop offset)
      (sym (take-take (offset + n) m xs h) ∙ ap (take (offset + n)) e ∙ take-take (offset + n) m ys h)
      ∙ drop-take offset n ys

  module _ (d : List A) (at : ℕ) (s : List A) (n : ℕ) (hd : at ≤ length d) (hs : n ≤ length s) where
    take-before-paste : take at (paste d at s n) ≡ take at d
    take-before-paste =
        ap (take at) (append_assoc (take at d) (take n s) (drop (at + n) d))
        ∙ take_at (take at d) (take n s ++ drop (at + n) d) at (length-take-le at d hd)

    -- before the run, in it, past it
    pub window-paste-before : (offset k : ℕ) → offset + k ≤ at
        → take k (drop offset (paste d at s n)) ≡ take k (drop offset d)
    window-paste-before offset k h = window-of-take at offset k (paste d at s n) d take-before-paste h

    pub drop-paste-past : (offset : ℕ) → at + n ≤ offset → drop offset (paste d at s n) ≡ drop offset d
    drop-paste-past offset h =
        let e : at + n + (offset - (at + n)) ≡ offset = omega arith in
        let rest = offset - (at + n) in
        ap (λ k. drop k (paste d at s n)) (sym e)
        ∙ sym (drop-drop rest (at + n) (paste d at s n))
        ∙ ap (drop rest) (drop-paste d at s n hd hs)
        ∙ drop-drop rest (at + n) d
        ∙ ap (λ k. drop k d) e

    pub window-paste-in : (i k : ℕ) → i + k ≤ n → take k (drop (at + i) (paste d at s n)) ≡ take k (drop i s)
    window-paste-in i k h =
        let tail = take n s ++ drop (at + n) d in
        let behind : drop at (paste d at s n) ≡ tail =
        ap (drop at) (append_assoc (take at d) (take n s) (drop (at + n) d))
        ∙ drop_at (take at d) tail at (length-take-le at d hd) in
        ap (take k) (sym (drop-drop i at (paste d at s n)) ∙ ap (drop i) behind)
        ∙ window-of-take n i k tail s (take_at (take n s) (drop (at + n) d) n (length-take-le n s hs)) h

  -- ---- single elements

  module _ (z : A) (d : List A) (at : ℕ) (s : List A) (n : ℕ) (hd : at ≤ length d) (hs : n ≤ length s) where
    pub get_d-paste-before : (i : ℕ) → i < at → get_or (paste d at s n) i z ≡ get_or d i z
    get_d-paste-before i h =
        sym (get_or-take at (paste d at s n) i z h)
        ∙ ap (λ l. get_or l i z) (take-before-paste d at s n hd hs)
        ∙ get_or-take at d i z h

    pub get_d-paste-past : (i : ℕ) → at + n ≤ i → get_or (paste d at s n) i z ≡ get_or d i z
    get_d-paste-past i h =
        let e : at + n + (i - (at + n)) ≡ i = omega arith in
        let k = i - (at + n) in
        ap (λ j. get_or (paste d at s n) j z) (sym e)
        ∙ sym (get_or-drop (at + n) (paste d at s n) k z)
        ∙ ap (λ l. get_or l k z) (drop-paste d at s n hd hs)
        ∙ get_or-drop (at + n) d k z
        ∙ ap (λ j. get_or d j z) e

  -- ---- runs side by side

  -- one element in front of a run
  pub set-paste : (d : List A) (at : ℕ) (y : A) (ys : List A) (n : ℕ) → suc at ≤ length d
      → set (paste d (suc at) ys n) at y ≡ paste d at (y ∷ ys) (suc n)
  set-paste d at y ys n h =
      let first : length (take (suc at) d) ≡ suc at = length-take-le (suc at) d h in
      let rest = take n ys ++ drop (suc at + n) d in
      let e : suc at + n ≡ at + suc n = omega arith in
      ap (λ l. set l at y) (append_assoc (take (suc at) d) (take n ys) (drop (suc at + n) d))
      ∙ set-append_left (take (suc at) d) rest at y (omega arith)
      ∙ ap (λ l. l ++ rest) (sym (take-set-lt (suc at) d at y (omega arith)) ∙ take-suc-set d at y h)
      ∙ append_snoc (take at d) y rest
      ∙ ap (λ k. take at d ++ (y ∷ (take n ys ++ drop k d))) e
      ∙ sym (append_assoc (take at d) (y ∷ take n ys) (drop (at + suc n) d))

  -- a run behind a run
  pub paste-paste : (d : List A) (at : ℕ) (ys zs : List A) (n m : ℕ) → length ys ≡ n → m ≤ length zs → at + n ≤ length d
      → paste (paste d at ys n) (at + n) zs m ≡ paste d at (ys ++ zs) (n + m)
  paste-paste d at ys zs n m e hz hd =
      let hat : at ≤ length d = omega arith in
      let hy : n ≤ length ys = omega arith in
      let same : at + n + m ≡ at + (n + m) = omega arith in
      let whole : take n ys ≡ ys = ap (λ k. take k ys) (sym e) ∙ take_whole ys in
      let both : take n ys ++ take m zs ≡ take (n + m) (ys ++ zs) =
      ap (λ l. l ++ take m zs) whole ∙ sym (ap (λ k. take (k + m) (ys ++ zs)) (sym e) ∙ take-append-add ys zs m) in
      ap (λ l. l ++ take m zs ++ drop (at + n + m) (paste d at ys n)) (take-paste d at ys n hat hy)
      ∙ ap (λ l. ((take at d ++ take n ys) ++ take m zs) ++ l)
      (drop-paste-past d at ys n hat hy (at + n + m) (omega arith))
      ∙ ap (λ l. l ++ drop (at + n + m) d) (append_assoc (take at d) (take n ys) (take m zs))
      ∙ ap (λ l. (take at d ++ l) ++ drop (at + n + m) d) both
      ∙ ap (λ k. (take at d ++ take (n + m) (ys ++ zs)) ++ drop k d) same
    where
      take_whole : (l : List A) → take (length l) l ≡ l
      take_whole [] = refl
      take_whole (x ∷ l) = ap (λ k. x ∷ k) (take_whole l)

  -- a run put on with its next part, which may begin before the run's end
  pub paste-over : (d : List A) (at : ℕ) (s : List A) (k m j : ℕ) → m ≤ k → k ≤ m + j → m + j ≤ length s
      → at + (m + j) ≤ length d → paste (paste d at s k) (at + m) (drop m s) j ≡ paste d at s (m + j)
  paste-over d at s k m j hm hk hs hd =
      let whole = paste d at s k in
      let l : at ≤ length d = omega arith in
      let r : k ≤ length s = omega arith in
      let first : at + 0 ≡ at = omega arith in
      let same : at + m + j ≡ at + (m + j) = omega arith in
      let run : take m (drop at whole) ≡ take m s =
      ap (λ o. take m (drop o whole)) (sym first) ∙ window-paste-in d at s k l r 0 m (omega arith) in
      let head : take (at + m) whole ≡ take at d ++ take m s =
      take-add at m whole ∙ (λ i. take-before-paste d at s k l r i ++ run i) in
      ap (λ l. (l ++ take j (drop m s)) ++ drop (at + m + j) whole) head
      ∙ ap (λ l. ((take at d ++ take m s) ++ take j (drop m s)) ++ l)
      (drop-paste-past d at s k l r (at + m + j) (omega arith))
      ∙ ap (λ l. l ++ drop (at + m + j) d) (append_assoc (take at d) (take m s) (take j (drop m s)))
      ∙ ap (λ l. (take at d ++ l) ++ drop (at + m + j) d) (sym (take-add m j s))
      ∙ ap (λ o. (take at d ++ take (m + j) s) ++ drop o d) same

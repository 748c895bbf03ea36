-- Laws of a run of stores (`lib.Seq.sets`): what it leaves, and where. Assumes nothing.
use Prim.Native.Nat.{ℕ, zero, suc, ◌+◌, ◌≤◌, ◌<◌}
use mathlib.Core.Path.{◌≡◌, refl, sym, ap, ◌∙◌}
use mathlib.Core.List.{List, [], ◌∷◌, ◌++◌, append_assoc, append-nil}
use native.Mathlib.Omega.{arith}
use native.Mathlib.Nat.{add-zero}
use lib.ListN.{get_or, take, length, set, length-set}
use lib.Seq.{sets, get_or-set_same, get_or-set_other, take-suc, take-set-le}

pub sets-append : (list : List ℕ) (n : ℕ) (xs ys : List ℕ)
    → sets list n (xs ++ ys) ≡ sets (sets list n xs) (n + length xs) ys
sets-append list n [] ys = rw add-zero
sets-append list n (x ∷ xs) ys =
    let e : suc n + length xs ≡ n + suc (length xs) = omega arith in
    sets-append (set list n x) (suc n) xs ys ∙ ap (λ k. sets (sets (set list n x) (suc n) xs) k ys) e

-- what stands before them stays
pub get_d_sets_before : (list : List ℕ) (n : ℕ) (xs : List ℕ) (i : ℕ) → i < n → get_or (sets list n xs) i 0 ≡ get_or list i 0
get_d_sets_before list n [] i h = refl
get_d_sets_before list n (x ∷ xs) i h =
    get_d_sets_before (set list n x) (suc n) xs i (omega arith) ∙ get_or-set_other list n i x 0 (λ e. omega arith)

-- and what stands behind them
pub get_d-sets-after : (list : List ℕ) (n : ℕ) (xs : List ℕ) (i : ℕ) → n + length xs ≤ i
    → get_or (sets list n xs) i 0 ≡ get_or list i 0
get_d-sets-after list n [] i h = refl
get_d-sets-after list n (x ∷ xs) i h =
    get_d-sets-after (set list n x) (suc n) xs i (omega arith) ∙ get_or-set_other list n i x 0 (λ e. omega arith)

-- and they stand there
pub get_d_sets : (list : List ℕ) (n : ℕ) (xs : List ℕ) (i : ℕ) → n + length xs ≤ length list → i < length xs
    → get_or (sets list n xs) (n + i) 0 ≡ get_or xs i 0
get_d_sets list n [] i h l = absurd (omega arith)
get_d_sets list n (x ∷ xs) zero h l =
    ap (λ k. get_or (sets (set list n x) (suc n) xs) k 0) (add-zero n)
    ∙ get_d_sets_before (set list n x) (suc n) xs n (omega arith)
    ∙ get_or-set_same list n x 0 (omega arith)
get_d_sets list n (x ∷ xs) (suc i) h l =
    let e : n + suc i ≡ suc n + i = omega arith in
    ap (λ k. get_or (sets (set list n x) (suc n) xs) k 0) e
    ∙ get_d_sets (set list n x) (suc n) xs i (omega (arith, length-set list n x)) (omega arith)

pub take-sets : (list : List ℕ) (n : ℕ) (xs : List ℕ) → n + length xs ≤ length list
    → take (n + length xs) (sets list n xs) ≡ take n list ++ xs
take-sets list n [] h = ap (λ k. take k list) (add-zero n) ∙ sym (append-nil (take n list))
take-sets list n (x ∷ xs) h =
    let e : n + suc (length xs) ≡ suc n + length xs = omega arith in
    ap (λ k. take k (sets (set list n x) (suc n) xs)) e
    ∙ take-sets (set list n x) (suc n) xs (omega (arith, length-set list n x))
    ∙ ap (λ l. l ++ xs) (take-suc (set list n x) n 0 (omega (arith, length-set list n x)) ∙ front)
    ∙ append_assoc (take n list) (x ∷ []) xs
  where
    front : take n (set list n x) ++ (get_or (set list n x) n 0 ∷ []) ≡ take n list ++ (x ∷ [])
    front =
        let same : n ≤ n = omega arith in
        rw (take-set-le n list n x same, get_or-set_same list n x 0 (omega arith))

-- Laws of the turns of the loops that copy and move bytes, of which k bytes have been moved. Assumes nothing.
use Prim.Native.Nat.{ℕ, zero, suc, ◌+◌, ◌-◌, ◌≤◌, ◌<◌}
use mathlib.Core.Path.{◌≡◌, sym, ap, ◌∙◌}
use mathlib.Core.List.{List, ◌∷◌}
use mathlib.Core.Logic.{◌⊎◌, inl, inr}
use native.Mathlib.Numerals.{add-one}
use native.Mathlib.Omega.{arith}
use lib.ListN.{length, drop, get_or, set, length-drop}
use lib.Seq.{paste, paste-zero, paste-suc, get_or-drop, drop-cons}
use Rattle.moves.proofs.PasteLaws.{get_d-paste-before, get_d-paste-past, set-paste}

-- from one list to another
pub paste-copied : (d : List ℕ) (to : ℕ) (s : List ℕ) (from k : ℕ) → to + k < length d → from + k < length s
    → set (paste d to (drop from s) k) (to + k) (get_or s (from + k) 0) ≡ paste d to (drop from s) (k + 1)
paste-copied d to s from k hd hs =
    ap (set (paste d to (drop from s) k) (to + k)) (sym (get_or-drop from s k 0))
    ∙ paste-suc d to (drop from s) k 0 hd (simp length-drop (omega arith))
    ∙ ap (paste d to (drop from s)) (sym (add-one k))

-- within one list, the first one first
module _ (s : List ℕ) (from to n k : ℕ) (apart : (to ≤ from) ⊎ (from + n ≤ to)) (l : k < n)
    (hfrom : from + n ≤ length s) (hto : to + n ≤ length s) where
  get_d_moved : (to ≤ from) ⊎ (from + n ≤ to) → get_or (paste s to (drop from s) k) (from + k) 0 ≡ get_or s (from + k) 0
  get_d_moved (inl h) =
      get_d-paste-past 0 s to (drop from s) k (omega arith) (simp length-drop (omega arith)) (from + k) (omega arith)
  get_d_moved (inr h) =
      get_d-paste-before 0 s to (drop from s) k (omega arith) (simp length-drop (omega arith)) (from + k) (omega arith)

  pub paste-moved-down : set (paste s to (drop from s) k) (to + k) (get_or (paste s to (drop from s) k) (from + k) 0)
      ≡ paste s to (drop from s) (k + 1)
  paste-moved-down =
      ap (set (paste s to (drop from s) k) (to + k)) (get_d_moved apart)
      ∙ paste-copied s to s from k (omega arith) (omega arith)

-- within one list, the last one first: the bytes from k on have been moved
module _ (s : List ℕ) (from to n : ℕ) (h : from ≤ to) (hto : to + n ≤ length s) where
  abbrev moved_from : ℕ → List ℕ
  moved_from k = paste s (to + k) (drop (from + k) s) (n - k)

  pub moved_from-none : s ≡ moved_from n
  moved_from-none =
      let e : n - n ≡ 0 = omega arith in
      paste-zero s (to + n) (drop (from + n) s) ∙ ap (paste s (to + n) (drop (from + n) s)) (sym e)

  set-moved_from : (k : ℕ) → k < n
      → set (moved_from (suc k)) (to + k) (get_or (moved_from (suc k)) (from + k) 0) ≡ moved_from k
  set-moved_from k l =
      let m : suc (n - suc k) ≡ n - k = omega arith in
      let f : from + suc k ≡ suc (from + k) = omega arith in
      let t : to + suc k ≡ suc (to + k) = omega arith in
      let byte = get_or s (from + k) 0 in
      let bytes : byte ∷ drop (from + suc k) s ≡ drop (from + k) s =
      ap (λ j. byte ∷ drop j s) f ∙ sym (drop-cons s (from + k) 0 (omega arith)) in
      ap (set (moved_from (suc k)) (to + k))
      (get_d-paste-before 0 s (to + suc k) (drop (from + suc k) s) (n - suc k) (omega arith)
      (simp length-drop (omega arith))
      (from + k) (omega arith))
      ∙ ap (λ j. set (paste s j (drop (from + suc k) s) (n - suc k)) (to + k) byte) t
      ∙ set-paste s (to + k) byte (drop (from + suc k) s) (n - suc k) (omega arith)
      ∙ ap (paste s (to + k) (byte ∷ drop (from + suc k) s)) m
      ∙ ap (λ l. paste s (to + k) l (n - k)) bytes

  pub paste-moved-up : (k : ℕ) → 0 < k → k ≤ n
      → set (moved_from k) (to + (k - 1)) (get_or (moved_from k) (from + (k - 1)) 0) ≡ moved_from (k - 1)
  paste-moved-up zero z l = absurd (omega arith)
  paste-moved-up (suc k) z l = let e : suc k - 1 ≡ k = omega arith in rw e (set-moved_from k (omega arith))

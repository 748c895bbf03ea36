-- Laws of runs of bytes that are copied in parts: eight bytes, read and written as one number; a part put to those
-- copied. Assumes nothing.
use Prim.Native.Nat.{ℕ, ◌+◌, ◌≤◌, min}
use mathlib.Core.Path.{◌≡◌, sym, ap, ◌∙◌}
use mathlib.Core.List.{List, ◌++◌}
use native.Mathlib.Omega.{arith}
use lib.ListN.{length, take, drop, length-drop}
use lib.Seq.{paste, take-take, drop-drop}
use Rattle.moves.proofs.PasteLaws.{paste-over}
use Rattle.record.specs.Bytes.{little_endian, number_of, field}
use Rattle.record.proofs.ByteLaws.{AreBytes, little_endian-number_of-field}

pub paste-number : (s d : List ℕ) (from to x : ℕ) → AreBytes s → from + 8 ≤ length s → x ≡ number_of (field s from 8)
    → (after : List ℕ) → after ≡ paste d to (little_endian 8 x) 8 → after ≡ paste d to (drop from s) 8
paste-number s d from to x are h e after w =
    w
    ∙ ap (λ y. paste d to (little_endian 8 y) 8) e
    ∙ ap (λ l. paste d to l 8) (little_endian-number_of-field s are from 8 h)
    ∙ ap (λ l. take to d ++ l ++ drop (to + 8) d) (take-take 8 8 (drop from s) (omega arith))

-- k bytes are copied, then j from byte m on
pub paste-part : (j : ℕ) (s d : List ℕ) (from to k m : ℕ) → m ≤ k → k ≤ m + j → from + (m + j) ≤ length s
    → to + (m + j) ≤ length d → (now after : List ℕ) → now ≡ paste d to (drop from s) k
    → after ≡ paste now (to + m) (drop (from + m) s) j → after ≡ paste d to (drop from s) (m + j)
paste-part j s d from to k m hm hk hs hd now after e w =
    w
    ∙ ap (λ l. paste l (to + m) (drop (from + m) s) j) e
    ∙ ap (λ l. paste (paste d to (drop from s) k) (to + m) l j) (sym (drop-drop m from s))
    ∙ paste-over d to (drop from s) k m j hm hk (simp length-drop (omega arith)) hd

-- sixteen bytes three times are a block
pub paste-sixteens : (s d : List ℕ) (from to : ℕ) → from + 48 ≤ length s → to + 48 ≤ length d
    → (d1 d2 d3 : List ℕ) → d1 ≡ paste d to (drop from s) 16 → d2 ≡ paste d1 (to + 16) (drop (from + 16) s) 16
    → d3 ≡ paste d2 (to + 32) (drop (from + 32) s) 16
    → d3 ≡ paste d to (drop from s) 48
paste-sixteens s d from to hs hd d1 d2 d3 e1 e2 e3 =
    let two = paste-part 16 s d from to 16 16 (omega arith) (omega arith) (omega arith) (omega arith) d1 d2 e1 e2 in
    paste-part 16 s d from to 32 32 (omega arith) (omega arith) (omega arith) (omega arith) d2 d3 two e3

-- four blocks, each but the first begun with the last one where it would begin behind that
pub paste-four : (s d : List ℕ) (from to last : ℕ) → last ≤ 144 → from + (last + 48) ≤ length s
    → to + (last + 48) ≤ length d → (second third : ℕ) → second ≡ min last 48 → third ≡ min last 96
    → (d1 d2 d3 d4 : List ℕ) → d1 ≡ paste d to (drop from s) 48
    → d2 ≡ paste d1 (to + second) (drop (from + second) s) 48 → d3 ≡ paste d2 (to + third) (drop (from + third) s) 48
    → d4 ≡ paste d3 (to + last) (drop (from + last) s) 48
    → d4 ≡ paste d to (drop from s) (last + 48)
paste-four s d from to last h hs hd second third e f d1 d2 d3 d4 w1 w2 w3 w4 =
    let two =
    paste-part 48 s d from to 48 second (omega arith) (omega arith) (omega arith) (omega arith) d1 d2 w1 w2 in
    let three =
    paste-part 48 s d from to (second + 48) third (omega arith) (omega arith) (omega arith) (omega arith) d2 d3 two
    w3 in
    paste-part 48 s d from to (third + 48) last (omega arith) (omega arith) (omega arith) (omega arith) d3 d4 three w4

-- Laws of little-endian numbers: read and written by halves. Assumes nothing.
use Prim.Native.Nat.{ℕ, suc, ◌+◌, ◌*◌, ◌/◌, ◌%◌, ◌^◌, ◌≤◌, ◌<◌}
use mathlib.Core.Path.{◌≡◌, refl, ap, ◌∙◌}
use mathlib.Core.List.{List, [], ◌∷◌, ◌++◌}
use native.Mathlib.Nat.{mul_comm, mod-eq_of_lt}
use native.Mathlib.Numerals.{add-one}
use native.Mathlib.Omega.{arith}
use lib.Bits.{bit_or, or_shifted_r}
use lib.ListN.{length, take, drop, get_or, set}
use lib.Seq.{paste, sets-eq, get_or-drop, drop-drop, take-nil}
use Rattle.moves.proofs.PasteLaws.{paste-paste}
use Rattle.record.specs.Bytes.{little_endian, number_of, field}

-- ---- the number of some bytes

pub number_of-two : (bytes : List ℕ) → number_of (take 2 bytes) ≡ get_or bytes 0 0 + 2 ^ 8 * get_or bytes 1 0
number_of-two [] = refl
number_of-two (x ∷ []) = refl
number_of-two (x ∷ y ∷ bytes) = omega arith

-- the first two bytes, then the others
pub number_of-take-two : (n : ℕ) (bytes : List ℕ)
    → number_of (take (suc (suc n)) bytes) ≡ number_of (take 2 bytes) + 2 ^ 16 * number_of (take n (drop 2 bytes))
number_of-take-two n [] = omega (arith, ap number_of (take-nil {A = ℕ} n))
number_of-take-two n (x ∷ []) = omega (arith, ap number_of (take-nil {A = ℕ} n))
number_of-take-two n (x ∷ y ∷ bytes) = omega arith

-- the first four bytes, then the others
number_of-take-four : (n : ℕ) (bytes : List ℕ)
    → number_of (take (suc (suc (suc (suc n)))) bytes)
    ≡ number_of (take 4 bytes) + 2 ^ 32 * number_of (take n (drop 4 bytes))
number_of-take-four n bytes =
    omega (
      arith,
      number_of-take-two (suc (suc n)) bytes,
      number_of-take-two 2 bytes,
      number_of-take-two n (drop 2 bytes),
      ap (λ l. number_of (take n l)) (drop-drop 2 2 bytes),
    )

-- ---- read by halves

-- a shifted number above another one
pub or_above : (k x y : ℕ) → x < 2 ^ k → y * 2 ^ k < 2 ^ 64 → bit_or x ((y * 2 ^ k) % 2 ^ 64) ≡ x + 2 ^ k * y
or_above k x y l h = ap (bit_or x) (mod-eq_of_lt h) ∙ or_shifted_r y k x l ∙ omega (arith, mul_comm y (2 ^ k))

module _ (bytes : List ℕ) (at x y : ℕ) where
  abbrev Reads : ℕ → ℕ → ℕ → Type 0
  Reads n k r = (r ≡ number_of (field bytes at n)) × (r < 2 ^ k)

  pub read-two : x ≡ get_or bytes at 0 → x < 2 ^ 8 → y ≡ get_or bytes (at + 1) 0 → y < 2 ^ 8
      → Reads 2 16 (bit_or x ((y * 2 ^ 8) % 2 ^ 64))
  read-two e h f l =
      let joined = or_above 8 x y h (omega arith) in
      let first : get_or (drop at bytes) 0 0 ≡ get_or bytes at 0 =
      get_or-drop at bytes 0 0 ∙ ap (λ i. get_or bytes i 0) (let z : at + 0 ≡ at = omega arith in z) in
      (omega (arith, joined, number_of-two (drop at bytes), first, get_or-drop at bytes 1 0), omega (arith, joined))

  pub read-four : x ≡ number_of (field bytes at 2) → x < 2 ^ 16 → y ≡ number_of (field bytes (at + 2) 2) → y < 2 ^ 16
      → Reads 4 32 (bit_or x ((y * 2 ^ 16) % 2 ^ 64))
  read-four e h f l =
      let joined = or_above 16 x y h (omega arith) in
      let high = ap (λ l. number_of (take 2 l)) (drop-drop 2 at bytes) in
      (omega (arith, joined, number_of-take-two 2 (drop at bytes), high), omega (arith, joined))

  pub read-eight : x ≡ number_of (field bytes at 4) → x < 2 ^ 32 → y ≡ number_of (field bytes (at + 4) 4) → y < 2 ^ 32
      → bit_or x ((y * 2 ^ 32) % 2 ^ 64) ≡ number_of (field bytes at 8)
  read-eight e h f l =
      let high = ap (λ l. number_of (take 4 l)) (drop-drop 4 at bytes) in
      omega (arith, or_above 32 x y h (omega arith), number_of-take-four 4 (drop at bytes), high)

-- ---- written by halves

pub paste-two : (bytes : List ℕ) (at a b : ℕ) → at + 2 ≤ length bytes
    → set (set bytes at a) (at + 1) b ≡ paste bytes at (a ∷ b ∷ []) 2
paste-two bytes at a b h = rw add-one (sets-eq (a ∷ b ∷ []) bytes at h)

little_endian-four : (x : ℕ) → little_endian 2 x ++ little_endian 2 (x / 2 ^ 16) ≡ little_endian 4 x
little_endian-four x =
    let e : x / 2 ^ 16 ≡ x / 256 / 256 = omega arith in
    ap (λ y. little_endian 2 x ++ little_endian 2 y) e

little_endian-eight : (x : ℕ) → little_endian 4 x ++ little_endian 4 (x / 2 ^ 32) ≡ little_endian 8 x
little_endian-eight x =
    let e : x / 2 ^ 32 ≡ x / 256 / 256 / 256 / 256 = omega arith in
    ap (λ y. little_endian 4 x ++ little_endian 4 y) e

module _ (bytes b c : List ℕ) (at x : ℕ) where
  pub write-four : at + 4 ≤ length bytes → b ≡ paste bytes at (little_endian 2 x) 2
      → c ≡ paste b (at + 2) (little_endian 2 (x / 2 ^ 16)) 2 → c ≡ paste bytes at (little_endian 4 x) 4
  write-four h e f =
      f
      ∙ ap (λ l. paste l (at + 2) (little_endian 2 (x / 2 ^ 16)) 2) e
      ∙ paste-paste bytes at (little_endian 2 x) (little_endian 2 (x / 2 ^ 16)) 2 2 refl (omega arith) (omega arith)
      ∙ ap (λ l. paste bytes at l 4) (little_endian-four x)

  pub write-eight : at + 8 ≤ length bytes → b ≡ paste bytes at (little_endian 4 x) 4
      → c ≡ paste b (at + 4) (little_endian 4 (x / 2 ^ 32)) 4 → c ≡ paste bytes at (little_endian 8 x) 8
  write-eight h e f =
      f
      ∙ ap (λ l. paste l (at + 4) (little_endian 4 (x / 2 ^ 32)) 4) e
      ∙ paste-paste bytes at (little_endian 4 x) (little_endian 4 (x / 2 ^ 32)) 4 4 refl (omega arith) (omega arith)
      ∙ ap (λ l. paste bytes at l 8) (little_endian-eight x)

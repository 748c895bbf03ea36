-- The number of a word decides whether it is a command's. Assumes nothing.
use Prim.Native.Nat.{ℕ, zero, suc, ◌+◌, ◌*◌, ◌/◌, ◌%◌, ◌≤◌, ◌<◌}
use mathlib.Core.Path.{◌≡◌, refl, sym, ap, ◌∙◌}
use mathlib.Core.Bool.{Bool, true, false, cond, false≢true}
use mathlib.Core.List.{List, [], ◌∷◌, ◌++◌, append-nil}
use mathlib.Core.Logic.{◌⊎◌, inl, inr}
use native.Mathlib.Omega.{arith}
use native.Mathlib.Nat.{zero-add}
use lib.Arith.{digits_div, digits_mod}
use lib.Dec.{eqb, ltb}
use lib.ListN.{length}
use borrow.Author.Tests.{lt-ltb, ltb-true, eq-eqb, ne_eqb, eqb-true}
use Rattle.lists.specs.Filter.{all}
use Rattle.lists.proofs.Bools.{and_split, and_both, eq-of-iff}
use Rattle.lists.proofs.Numbers.{lt-or-le}
use Rattle.stock_line.specs.Line.{same_bytes, kind_in}
use Rattle.stock_line.specs.LineBytes.{word_with, kind_of}
use Rattle.stock_line.proofs.ReadingLaws.{word_from}

-- ---- numbers of words

word-step : (w c : ℕ) → w < 281474976710656 → word_with w c ≡ w * 256 + c
unfolding word_with
word-step w c l = rw (lt-ltb w 281474976710656 l)

-- of six bytes or more
word-long : (w : ℕ) (cs : List ℕ) → 281474976710656 ≤ w → 281474976710656 ≤ word_from w cs
unfolding word_with
word-long w [] l = l
word-long w (c ∷ cs) l = word-long (word_with w c) cs (by-test (ltb w 281474976710656) refl)
  where
    by-test : (β : Bool) → ltb w 281474976710656 ≡ β → 281474976710656 ≤ cond β (w * 256 + c) w
    by-test true e = absurd (omega (arith, ltb-true w 281474976710656 e))
    by-test false e = l

-- the first byte of some, and the others
module _ (c : ℕ) (cs : List ℕ) (h : all (λ d. ltb d 256) (c ∷ cs) ≡ true) where
  byte-lt : c < 256
  byte-lt = ltb-true c 256 (and_split (ltb c 256) (all (λ d. ltb d 256) cs) h).0

  bytes_rest : all (λ d. ltb d 256) cs ≡ true
  bytes_rest = (and_split (ltb c 256) (all (λ d. ltb d 256) cs) h).1

-- ---- a word from its number

-- its bytes, before some that follow; k bounds their number
unfoldable undo : ℕ → ℕ → List ℕ → List ℕ
undo zero n cs = cs
undo (suc k) n cs = cond (eqb n 1) cs (undo k (n / 256) (n % 256 ∷ cs))

undo-one : (k : ℕ) (cs : List ℕ) → undo k 1 cs ≡ cs
unfolding undo
undo-one zero cs = refl
undo-one (suc k) cs = refl

undo-word : (f : List ℕ) (w k : ℕ) (cs : List ℕ) → 1 ≤ w → all (λ c. ltb c 256) f ≡ true
    → word_from w f < 281474976710656 → undo (length f + k) (word_from w f) cs ≡ undo k w (f ++ cs)
unfolding undo
undo-word [] w k cs l h m = rw (zero-add k)
undo-word (c ∷ f) w k cs l h m =
    let b = byte-lt c f h in
    let small = short (lt-or-le w 281474976710656) in
    let e = word-step w c small in
    let fuel : suc (length f) + k ≡ length f + suc k = omega arith in
    rw (fuel, e)
    (undo-word f (w * 256 + c) (suc k) cs (omega arith) (bytes_rest c f h) (rw e at m)
    ∙ rw (ne_eqb (w * 256 + c) 1 (λ d. omega arith), digits_div w {m = 256} b, digits_mod w {m = 256} b))
  where
    short : (w < 281474976710656) ⊎ (281474976710656 ≤ w) → w < 281474976710656
    short (inl s) = s
    short (inr s) = absurd (omega (arith, m, word-long w (c ∷ f) s))

-- the word of a number below 2^48
word_of : (f : List ℕ) (n : ℕ) → all (λ c. ltb c 256) f ≡ true → n < 281474976710656 → word_from 1 f ≡ n
    → f ≡ undo (suc (suc (suc (suc (suc (suc (length f))))))) n []
word_of f n h l e =
    let fuel : length f + 6 ≡ suc (suc (suc (suc (suc (suc (length f)))))) = omega arith in
    sym (append-nil f)
    ∙ sym (undo-one 6 (f ++ []))
    ∙ sym (undo-word f 1 6 [] (omega arith) h (rw e l))
    ∙ ap (λ k. undo k (word_from 1 f) []) fuel
    ∙ ap (λ m. undo (suc (suc (suc (suc (suc (suc (length f))))))) m []) e

same_bytes-true : (f g : List ℕ) → same_bytes f g ≡ true → f ≡ g
same_bytes-true [] [] e = refl
same_bytes-true [] (d ∷ g) e = absurd (false≢true e)
same_bytes-true (c ∷ f) [] e = absurd (false≢true e)
same_bytes-true (c ∷ f) (d ∷ g) e =
    let k = and_split (eqb c d) (same_bytes f g) e in
    rw (eqb-true c d k.0, same_bytes-true f g k.1)

same_bytes-refl : (f : List ℕ) → same_bytes f f ≡ true
same_bytes-refl [] = refl
same_bytes-refl (c ∷ f) = and_both (eqb c c) (same_bytes f f) (eq-eqb c c refl) (same_bytes-refl f)

-- ---- the commands

module _ (f : List ℕ) (h : all (λ c. ltb c 256) f ≡ true) where
  named : (g : List ℕ) (n : ℕ) → word_from 1 g ≡ n → n < 281474976710656
      → undo (suc (suc (suc (suc (suc (suc (length f))))))) n [] ≡ g → eqb (word_from 1 f) n ≡ same_bytes f g
  named g n number l bytes =
      eq-of-iff (eqb (word_from 1 f) n) (same_bytes f g)
      (λ e. rw (word_of f n h l (eqb-true (word_from 1 f) n e) ∙ bytes) (same_bytes-refl g))
      (λ e. eq-eqb (word_from 1 f) n (ap (word_from 1) (same_bytes-true f g e) ∙ number))

  pub kind-of-word : kind_of (word_from 1 f) ≡ kind_in f
  unfolding kind_of kind_in undo word_with
  kind-of-word =
      rw (
        named (115 ∷ 104 ∷ 97 ∷ 112 ∷ 101 ∷ []) 1595184083045 refl (omega arith) refl,
        named (112 ∷ 117 ∷ 116 ∷ []) 24147316 refl (omega arith) refl,
        named (99 ∷ 117 ∷ 116 ∷ []) 23295348 refl (omega arith) refl,
        named (108 ∷ 105 ∷ 115 ∷ 116 ∷ []) 6113817460 refl (omega arith) refl,
      )

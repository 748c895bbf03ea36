-- Laws of a query's walk: agreement bit by bit, what it finds in a set's division, what it finds and reads over the
-- leaves by their strings, and the bound of its reads. Assumes nothing.
use Prim.Native.Nat.{ℕ, zero, suc, ◌+◌, ◌-◌, ◌^◌, ◌≤◌, ◌<◌}
use mathlib.Core.Path.{◌≡◌, refl, sym, ◌∙◌}
use mathlib.Core.Bool.{Bool, true, false, ◌&&◌, cond, and-true, and_assoc, false≢true}
use mathlib.Core.List.{List, [], ◌∷◌}
use native.Mathlib.Omega.{arith}
use native.Mathlib.Nat.{add-zero, zero-add, suc-add, add-suc, two-pow-succ, add_comm}
use native.Mathlib.Numerals.{add-one}
use lib.ListN.{length}
use lib.Pow.{pow_pos}
use Rattle.lists.specs.Filter.{filter, all, non_empty}
use Rattle.lists.proofs.Bools.{and_split, and_both}
use Rattle.lists.proofs.FilterLaws.{all-imp, cond-le-one}
use Rattle.region.specs.Strings.{same_bits, with_bit, empty_string}
use Rattle.region.specs.Sets.{sorted}
use Rattle.region.specs.Division.{Division, leaf, divided, divide, greatest_depth, depth, string_bit, leaves}
use Rattle.region.specs.Query.{QueryBit, free, given, bit_agrees, agrees, is_given_bit, given_steps, free_steps}
use Rattle.region.specs.Query.{holds_records, walk_records, walk_reads, query_enters, walk_found, reads}
use Rattle.region.proofs.StringLaws.{bit-of-same_bits, with_bit-same, with_bit-other}
use Rattle.region.proofs.WalkLaws.{good_in, walk_records-divide}
use Rattle.region.proofs.LeafWalkLaws.{walk_reads-leaves}

-- ---- agreement

module _ (q : ℕ → QueryBit) where
  pub agrees-ext : (p p' : ℕ → Bool) (n t : ℕ) → ((s : ℕ) → t ≤ s → s < t + n → p s ≡ p' s)
      → agrees q p n t ≡ agrees q p' n t
  agrees-ext p p' zero t h = refl
  agrees-ext p p' (suc n) t h =
      let here : p t ≡ p' t = h t (omega arith) (omega arith) in
      let later = agrees-ext p p' n (suc t) (λ s k l. h s (omega arith) (omega arith)) in
      cc

  -- strings with the same bits
  pub agrees-same : (p p' : ℕ → Bool) (n t : ℕ) → same_bits p p' n t ≡ true → agrees q p n t ≡ agrees q p' n t
  agrees-same p p' n t e = agrees-ext p p' n t (λ s h k. sym (bit-of-same_bits p p' n t e s h k))

  -- one bit more, the last
  pub agrees-suc : (p : ℕ → Bool) (n t : ℕ)
      → agrees q p (suc n) t ≡ (agrees q p n t && bit_agrees (q (t + n)) (p (t + n)))
  agrees-suc p zero t = rw (add-zero t, and-true (bit_agrees (q t) (p t)))
  agrees-suc p (suc n) t =
      rw (agrees-suc p n (suc t), suc-add t n, ← add-suc t n)
      (sym (and_assoc (bit_agrees (q t) (p t)) (agrees q p n (suc t)) (bit_agrees (q (t + suc n)) (p (t + suc n)))))

  -- fewer bits
  pub agrees-le : (p : ℕ → Bool) (m n t : ℕ) → m ≤ n → agrees q p n t ≡ true → agrees q p m t ≡ true
  agrees-le p zero n t h e = refl
  agrees-le p (suc m) zero t h e = absurd (omega arith)
  agrees-le p (suc m) (suc n) t h e =
      let k = and_split (bit_agrees (q t) (p t)) (agrees q p n (suc t)) e in
      and_both (bit_agrees (q t) (p t)) (agrees q p m (suc t)) k.0 (agrees-le p m n (suc t) (omega arith) k.1)

  -- a side of a region
  pub agrees-with_bit : (p : ℕ → Bool) (t : ℕ) (β : Bool)
      → agrees q (with_bit p t β) (suc t) 0 ≡ (agrees q p t 0 && bit_agrees (q t) β)
  agrees-with_bit p t β =
      agrees-suc (with_bit p t β) t 0
      ∙ rw (
        zero-add t,
        with_bit-same p t β,
        agrees-ext (with_bit p t β) p t 0 (λ s h k. with_bit-other p t β s (λ e. omega arith)),
      )

  -- of a region that is entered: the side's bit decides
  pub query_enters-side : (p : ℕ → Bool) (t : ℕ) (β : Bool) → agrees q p t 0 ≡ true
      → query_enters q (suc t) (with_bit p t β) ≡ bit_agrees (q t) β
  query_enters-side p t β e = agrees-with_bit p t β ∙ rw e

-- ---- what it finds

pub no-records : {R : Type 0} (matches : R → Bool) (rs : List R) → non_empty rs ≡ false → filter matches rs ≡ []
no-records matches [] e = refl
no-records matches (x ∷ xs) e = absurd (false≢true (sym e))

module _ {R : Type 0} (bit : R → ℕ → Bool) (q : ℕ → QueryBit) (matches good : R → Bool) (W : ℕ)
    -- a good record that matches has the bits that the query gives
    (agreeing : (r : R) → good r ≡ true → matches r ≡ true → agrees q (bit r) W 0 ≡ true) where
  -- in the region of the first t bits of p, whose records are S
  pub walk_records-query-divide : (b n t : ℕ) (S : List R) (p : ℕ → Bool) → t + n ≤ W → sorted bit n t S ≡ true
      → all (good_in bit good p t) S ≡ true
      → walk_records (query_enters q) holds_records matches p t (divide bit b n t S) ≡ filter matches S
  walk_records-query-divide =
      walk_records-divide bit (query_enters q) holds_records matches good W (λ x p p' e. agrees-same q p p' x 0 e)
      (λ r g m x h. agrees-le q (bit r) x W 0 h (agreeing r g m)) (λ p x rs k e. no-records matches rs e)

  -- the matching records of the set, in split order
  pub walk_found-divide : (b : ℕ) (S : List R) → sorted bit W 0 S ≡ true → all good S ≡ true
      → walk_found q matches (divide bit b W 0 S) ≡ filter matches S
  walk_found-divide b S e g =
      walk_records-query-divide b W 0 S empty_string (omega arith) e
      (all-imp good (good_in bit good empty_string 0) (λ r k. rw k) S g)

-- ---- over the leaves by their strings

module _ {R : Type 0} (q : ℕ → QueryBit) (D : Division R) where
  -- "Reads are the non-empty agreeing leaves"
  pub reads-leaves : reads q D
      ≡ length (filter (λ l. non_empty l.records) (filter (λ l. agrees q (string_bit l) (depth l) 0) (leaves D)))
  reads-leaves =
      walk_reads-leaves (query_enters q) (λ x p p' e. agrees-same q p p' x 0 e)
      (λ x p e. agrees-le q p x (suc x) 0 (omega arith) e)
      holds_records (λ x p p' rs e. refl) empty_string D refl

-- ---- the bound

-- given + free = all
pub given_steps-add-free_steps : (q : ℕ → QueryBit) (t n : ℕ) → given_steps q t n + free_steps q t n ≡ n
given_steps-add-free_steps q t zero = refl
given_steps-add-free_steps q t (suc n) = omega (arith, one (is_given_bit (q t)), given_steps-add-free_steps q (suc t) n)
  where
    one : (β : Bool) → cond β 1 0 + cond β 0 1 ≡ 1
    one true = refl
    one false = refl

two-sides : (w : QueryBit) (x y m : ℕ) → (bit_agrees w false ≡ true → x ≤ 2 ^ m) → (bit_agrees w true ≡ true → y ≤ 2 ^ m)
    → cond (bit_agrees w false) x 0 + cond (bit_agrees w true) y 0 ≤ 2 ^ (cond (is_given_bit w) 0 1 + m)
two-sides free x y m h k = rw (add_comm 1 m, add-one m, two-pow-succ m) (omega (arith, h refl, k refl))
two-sides (given true) x y m h k = rw (zero-add m) (omega (arith, k refl))
two-sides (given false) x y m h k = rw (zero-add m) (omega (arith, h refl))

module _ {R : Type 0} (q : ℕ → QueryBit) where
  -- in the region of the first t bits of p, whose leaves lie at most m deeper
  pub walk_reads-query-le : (D : Division R) (p : ℕ → Bool) (t m : ℕ) → agrees q p t 0 ≡ true → greatest_depth D ≤ m
      → walk_reads (query_enters q) holds_records p t D ≤ 2 ^ free_steps q t m
  walk_reads-query-le (leaf rs) p t m e h = omega (arith, cond-le-one (non_empty rs), pow_pos (free_steps q t m))
  walk_reads-query-le (divided l u) p t zero e h = absurd (omega arith)
  walk_reads-query-le (divided l u) p t (suc m) e h =
      rw (query_enters-side q p t false e, query_enters-side q p t true e)
      (two-sides (q t) (walk_reads (query_enters q) holds_records (with_bit p t false) (suc t) l)
      (walk_reads (query_enters q) holds_records (with_bit p t true) (suc t) u) (free_steps q (suc t) m)
      (λ d. walk_reads-query-le l (with_bit p t false) (suc t) m (query_enters-side q p t false e ∙ d) (omega arith))
      (λ d. walk_reads-query-le u (with_bit p t true) (suc t) m (query_enters-side q p t true e ∙ d) (omega arith)))

  -- at most 2 to the free steps below T, that is to T less the given ones
  pub reads-le-free : (D : Division R) → reads q D ≤ 2 ^ free_steps q 0 (greatest_depth D)
  reads-le-free D = walk_reads-query-le D empty_string 0 (greatest_depth D) refl (omega arith)

  pub reads-le : (D : Division R) → reads q D ≤ 2 ^ (greatest_depth D - given_steps q 0 (greatest_depth D))
  reads-le D =
      let rest : free_steps q 0 (greatest_depth D) ≡ greatest_depth D - given_steps q 0 (greatest_depth D) =
      omega (arith, given_steps-add-free_steps q 0 (greatest_depth D)) in
      rw (← rest) (reads-le-free D)

-- The tally and T after a join: the numbers of `joined_tally` and `tally_depth`, and that these are those of the set
-- without the key. Assumes nothing.
use Prim.Native.Nat.{ℕ, zero, suc, ◌+◌, ◌-◌, ◌≤◌, ◌<◌}
use mathlib.Core.Path.{◌≡◌, refl, sym, ap, ◌∙◌}
use mathlib.Core.Bool.{Bool, true, false, cond}
use mathlib.Core.List.{List}
use mathlib.Core.Logic.{◌⊎◌, inl, inr}
use native.Mathlib.Omega.{arith}
use native.Mathlib.Nat.{zero-add}
use native.Mathlib.Numerals.{add-one}
use lib.Dec.{eqb}
use lib.ListN.{length, get_or, set, length-set}
use lib.Seq.{get_or-set_same, get_or-set_other}
use borrow.Author.Tests.{eqb-true, eqb-false}
use Rattle.lists.proofs.Numbers.{eq-or-ne, lt-or-le}
use Rattle.region.specs.Division.{Division, greatest_depth, tally}
use Rattle.region.proofs.CountLaws.{tally-past, tally-greatest_depth}
use Rattle.region.proofs.TallyLaws.{greatest_depth-of-tally}
use Rattle.record.specs.Record.{Record}
use Rattle.store.specs.Sound.{tallies}
use Rattle.change.specs.Delete.{joined_once, joined_tally, tally_depth}
use Rattle.change.proofs.TallyLaws.{get_d-tallies}

-- ---- two leaves joined

module _ (x : ℕ) (leaves : List ℕ) where
  abbrev less : List ℕ
  less = set leaves (x + 1) (get_or leaves (x + 1) 0 - 2)

  length-joined_once : length (joined_once x leaves) ≡ length leaves
  unfolding joined_once
  length-joined_once = simp length-set

  get_d-joined_once-other : (i : ℕ) → (i ≡ x → ⊥) → (i ≡ suc x → ⊥) → get_or (joined_once x leaves) i 0 ≡ get_or leaves i 0
  unfolding joined_once
  get_d-joined_once-other i n v =
      get_or-set_other less x i (get_or less x 0 + 1) 0 n
      ∙ get_or-set_other leaves (x + 1) i (get_or leaves (x + 1) 0 - 2) 0 (λ e. omega arith)

  module _ (l : suc x < length leaves) where
    get_d-joined_once-at : get_or (joined_once x leaves) x 0 ≡ get_or leaves x 0 + 1
    unfolding joined_once
    get_d-joined_once-at =
        get_or-set_same less x (get_or less x 0 + 1) 0
        (omega (arith, length-set leaves (x + 1) (get_or leaves (x + 1) 0 - 2)))
        ∙ ap (λ c. c + 1) (get_or-set_other leaves (x + 1) x (get_or leaves (x + 1) 0 - 2) 0 (λ e. omega arith))

    get_d-joined_once-below : get_or (joined_once x leaves) (suc x) 0 ≡ get_or leaves (suc x) 0 - 2
    unfolding joined_once
    get_d-joined_once-below =
        get_or-set_other less x (suc x) (get_or less x 0 + 1) 0 (λ e. omega arith)
        ∙ rw (add-one x) (get_or-set_same leaves (suc x) (get_or leaves (suc x) 0 - 2) 0 l)

-- ---- so n times

pub length-joined_tally : (x n : ℕ) (leaves : List ℕ) → length (joined_tally x n leaves) ≡ length leaves
unfolding joined_tally
length-joined_tally x zero leaves = refl
length-joined_tally x (suc n) leaves =
    length-joined_once x (joined_tally (suc x) n leaves) ∙ length-joined_tally (suc x) n leaves

-- the depths above x, and those past x + n
pub get_d-joined_tally-above : (x n : ℕ) (leaves : List ℕ) (i : ℕ) → i < x
    → get_or (joined_tally x n leaves) i 0 ≡ get_or leaves i 0
unfolding joined_tally
get_d-joined_tally-above x zero leaves i h = refl
get_d-joined_tally-above x (suc n) leaves i h =
    get_d-joined_once-other x (joined_tally (suc x) n leaves) i (λ e. omega arith) (λ e. omega arith)
    ∙ get_d-joined_tally-above (suc x) n leaves i (omega arith)

pub get_d-joined_tally-past : (x n : ℕ) (leaves : List ℕ) (i : ℕ) → x + n < i
    → get_or (joined_tally x n leaves) i 0 ≡ get_or leaves i 0
unfolding joined_tally
get_d-joined_tally-past x zero leaves i h = refl
get_d-joined_tally-past x (suc n) leaves i h =
    get_d-joined_once-other x (joined_tally (suc x) n leaves) i (λ e. omega arith) (λ e. omega arith)
    ∙ get_d-joined_tally-past (suc x) n leaves i (omega arith)

-- one more at x
pub get_d-joined_tally-at : (x n : ℕ) (leaves : List ℕ) → suc x < length leaves
    → get_or (joined_tally x (suc n) leaves) x 0 ≡ get_or leaves x 0 + 1
unfolding joined_tally
get_d-joined_tally-at x n leaves l =
    get_d-joined_once-at x (joined_tally (suc x) n leaves) (rw (length-joined_tally (suc x) n leaves) l)
    ∙ ap (λ c. c + 1) (get_d-joined_tally-above (suc x) n leaves x (omega arith))

-- one less at each depth between
pub get_d-joined_tally-between : (x n : ℕ) (leaves : List ℕ) (i : ℕ) → x < i → i ≤ x + n → x + suc n < length leaves
    → get_or (joined_tally x (suc n) leaves) i 0 ≡ get_or leaves i 0 + 1 - 2
unfolding joined_tally
get_d-joined_tally-between x zero leaves i h k l = absurd (omega arith)
get_d-joined_tally-between x (suc n) leaves i h k l =
    by-depth (eq-or-ne i (suc x))
    (λ c. get_d-joined_tally-between (suc x) n leaves i c (omega arith) (omega arith))
  where
    inner : List ℕ
    inner = joined_tally (suc x) (suc n) leaves

    by-depth : (i ≡ suc x) ⊎ (i ≡ suc x → ⊥) → (suc x < i → get_or inner i 0 ≡ get_or leaves i 0 + 1 - 2)
        → get_or (joined_once x inner) i 0 ≡ get_or leaves i 0 + 1 - 2
    by-depth (inl e) ih =
        rw e
        (get_d-joined_once-below x inner (omega (arith, length-joined_tally (suc x) (suc n) leaves))
        ∙ ap (λ c. c - 2) (get_d-joined_tally-at (suc x) n leaves (omega arith)))
    by-depth (inr v) ih = get_d-joined_once-other x inner i (λ e. omega arith) v ∙ ih (omega arith)

-- two less at x + n + 1
pub get_d-joined_tally-end : (x n : ℕ) (leaves : List ℕ) (i : ℕ) → x + suc n ≡ i → i < length leaves
    → get_or (joined_tally x (suc n) leaves) i 0 ≡ get_or leaves i 0 - 2
unfolding joined_tally
get_d-joined_tally-end x zero leaves i e l =
    let last : i ≡ suc x = omega arith in rw last (get_d-joined_once-below x leaves (omega arith))
get_d-joined_tally-end x (suc n) leaves i e l =
    get_d-joined_once-other x (joined_tally (suc x) (suc n) leaves) i (λ d. omega arith) (λ d. omega arith)
    ∙ get_d-joined_tally-end (suc x) n leaves i (omega arith) l

-- ---- the greatest depth with a count other than 0

module _ (leaves : List ℕ) where
  pub tally_depth-le : (n : ℕ) → tally_depth n leaves ≤ n
  unfolding tally_depth
  tally_depth-le zero = omega arith
  tally_depth-le (suc n) = by-test (eqb (get_or leaves (suc n) 0) 0) (tally_depth-le n)
    where
      by-test : (β : Bool) → tally_depth n leaves ≤ n → cond β (tally_depth n leaves) (suc n) ≤ suc n
      by-test true h = omega arith
      by-test false h = omega arith

  pub tally_depth-past : (n i : ℕ) → tally_depth n leaves < i → i ≤ n → get_or leaves i 0 ≡ 0
  unfolding tally_depth
  tally_depth-past zero i h k = absurd (omega arith)
  tally_depth-past (suc n) i h k =
      by-test (eqb (get_or leaves (suc n) 0) 0) refl h (eq-or-ne i (suc n)) (tally_depth-past n i)
    where
      by-test : (β : Bool) → eqb (get_or leaves (suc n) 0) 0 ≡ β → cond β (tally_depth n leaves) (suc n) < i
          → (i ≡ suc n) ⊎ (i ≡ suc n → ⊥) → (tally_depth n leaves < i → i ≤ n → get_or leaves i 0 ≡ 0)
          → get_or leaves i 0 ≡ 0
      by-test true e d (inl c) ih = rw c (eqb-true (get_or leaves (suc n) 0) 0 e)
      by-test true e d (inr c) ih = ih d (omega arith)
      by-test false e d c ih = absurd (omega arith)

  pub tally_depth-at : (n : ℕ) → (tally_depth n leaves ≡ 0) ⊎ (1 ≤ get_or leaves (tally_depth n leaves) 0)
  unfolding tally_depth
  tally_depth-at zero = inl refl
  tally_depth-at (suc n) = by-test (eqb (get_or leaves (suc n) 0) 0) refl (tally_depth-at n)
    where
      Holds : ℕ → Type 0
      Holds x = (x ≡ 0) ⊎ (1 ≤ get_or leaves x 0)

      by-test : (β : Bool) → eqb (get_or leaves (suc n) 0) 0 ≡ β → Holds (tally_depth n leaves)
          → Holds (cond β (tally_depth n leaves) (suc n))
      by-test true e ih = ih
      by-test false e ih =
          let some : get_or leaves (suc n) 0 ≡ 0 → ⊥ = eqb-false (get_or leaves (suc n) 0) 0 e in inr (omega arith)

  -- a depth with a count is no deeper, on any store: the joined leaf lies within the directory
  pub le-tally_depth : (n i : ℕ) → i ≤ n → 1 ≤ get_or leaves i 0 → i ≤ tally_depth n leaves
  le-tally_depth n i h k = by_order (lt-or-le (tally_depth n leaves) i)
    where
      by_order : (tally_depth n leaves < i) ⊎ (i ≤ tally_depth n leaves) → i ≤ tally_depth n leaves
      by_order (inl a) = absurd (omega (arith, tally_depth-past n i a h))
      by_order (inr a) = a

-- of a division's tally it is T
pub tally_depth-tallies : (D : Division Record) (T n : ℕ) → greatest_depth D ≤ T → T < n
    → tally_depth T (tallies D 0 n) ≡ greatest_depth D
tally_depth-tallies D T n h l = by_count (tally_depth-at (tallies D 0 n) T)
  where
    T' : ℕ
    T' = tally_depth T (tallies D 0 n)

    read : (i : ℕ) → i ≤ T → get_or (tallies D 0 n) i 0 ≡ tally D i
    read i k = get_d-tallies D 0 n i (omega arith) ∙ ap (tally D) (zero-add i)

    within : T' ≤ T
    within = tally_depth-le (tallies D 0 n) T

    none : (i : ℕ) → T' < i → tally D i ≡ 0
    none i k = by_order (lt-or-le T i)
      where
        by_order : (T < i) ⊎ (i ≤ T) → tally D i ≡ 0
        by_order (inl c) = tally-past D i (omega arith)
        by_order (inr c) = sym (read i c) ∙ tally_depth-past (tallies D 0 n) T i k c

    top : T' ≡ 0 → (T' < greatest_depth D) ⊎ (greatest_depth D ≤ T') → T' ≡ greatest_depth D
    top e (inl c) = absurd (omega (arith, none (greatest_depth D) c, tally-greatest_depth D))
    top e (inr c) = omega arith

    by_count : (T' ≡ 0) ⊎ (1 ≤ get_or (tallies D 0 n) T' 0) → T' ≡ greatest_depth D
    by_count (inl e) = top e (lt-or-le T' (greatest_depth D))
    by_count (inr e) = sym (greatest_depth-of-tally D T' (omega (arith, read T' within)) none)

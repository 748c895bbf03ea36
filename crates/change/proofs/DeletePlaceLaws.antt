-- The place of a key's record on its page, as a scan finds it: the page without the record, and where none has the key.
-- Assumes nothing.
use Prim.Native.Nat.{ℕ, zero, suc, ◌+◌, ◌%◌, ◌^◌, ◌≤◌, ◌<◌}
use mathlib.Core.Path.{◌≡◌, refl, sym, ap}
use mathlib.Core.Bool.{Bool, true, false, not, cond, false≢true}
use mathlib.Core.List.{List, [], ◌∷◌, ◌++◌}
use native.Mathlib.Omega.{arith}
use lib.ListN.{length, get_or, take, drop}
use Rattle.lists.specs.Filter.{filter, all, non_empty}
use Rattle.lists.proofs.Bools.{and_both}
use Rattle.lists.proofs.FilterLaws.{filter-all}
use Rattle.shape.specs.Shape.{widths_of, index_fits}
use Rattle.record.specs.Record.{Record, same_key}
use Rattle.model.specs.Sets.{without_key}
use Rattle.model.proofs.SetLaws.{length-stored-le}
use Rattle.store.specs.Store.{Store}
use Rattle.store.specs.Sound.{Sound}
use Rattle.store.proofs.ShownLaws.{page_records, shape-of-Sound}
use Rattle.store.proofs.KeyLaws.{key_word, stored-page}

-- ---- lists

module _ {A : Type 0} (f : A → Bool) where
  -- one that passes the test
  pub non_empty-filter : (xs : List A) (i : ℕ) (d : A) → i < length xs → f (get_or xs i d) ≡ true
      → non_empty (filter f xs) ≡ true
  non_empty-filter [] i d l e = absurd (omega arith)
  non_empty-filter (x ∷ xs) zero d l e = rw e
  non_empty-filter (x ∷ xs) (suc i) d l e = by-test (f x) (non_empty-filter xs i d (omega arith) e)
    where
      by-test : (β : Bool) → non_empty (filter f xs) ≡ true → non_empty (cond β (x ∷ []) [] ++ filter f xs) ≡ true
      by-test true h = refl
      by-test false h = h

  -- none that does
  pub non_empty-filter-none : (xs : List A) (d : A) → ((i : ℕ) → i < length xs → f (get_or xs i d) ≡ false)
      → non_empty (filter f xs) ≡ false
  non_empty-filter-none [] d h = refl
  non_empty-filter-none (x ∷ xs) d h =
      rw (h 0 (omega arith)) (non_empty-filter-none xs d (λ i l. h (suc i) (omega arith)))

  all-not-filter : (xs : List A) → length (filter f xs) ≤ 0 → all (λ x. not (f x)) xs ≡ true
  all-not-filter [] h = refl
  all-not-filter (x ∷ xs) h = by-test (f x) refl (all-not-filter xs)
    where
      by-test : (β : Bool) → f x ≡ β → (length (filter f xs) ≤ 0 → all (λ y. not (f y)) xs ≡ true)
          → all (λ y. not (f y)) (x ∷ xs) ≡ true
      by-test true e ih = let k = rw e at h in absurd (omega arith)
      by-test false e ih = and_both (not (f x)) (all (λ y. not (f y)) xs) (rw e refl) (ih (rw e at h))

  -- the one that passes the test taken out
  pub filter-not-place : (xs : List A) (i : ℕ) (d : A) → i < length xs → f (get_or xs i d) ≡ true
      → length (filter f xs) ≤ 1 → filter (λ x. not (f x)) xs ≡ take i xs ++ drop (suc i) xs
  filter-not-place [] i d l e h = absurd (omega arith)
  filter-not-place (x ∷ xs) zero d l e h =
      let rest : length (filter f xs) ≤ 0 = let k = rw e at h in omega arith in
      rw e (filter-all (λ y. not (f y)) (λ y. not (f y)) (λ y k. k) xs (all-not-filter xs rest))
  filter-not-place (x ∷ xs) (suc i) d l e h = by-test (f x) refl (filter-not-place xs i d (omega arith) e)
    where
      some : {B : Type 0} (ys : List B) → non_empty ys ≡ true → 1 ≤ length ys
      some [] k = absurd (false≢true k)
      some (y ∷ ys) k = omega arith

      by-test : (β : Bool) → f x ≡ β
          → (length (filter f xs) ≤ 1 → filter (λ y. not (f y)) xs ≡ take i xs ++ drop (suc i) xs)
          → filter (λ y. not (f y)) (x ∷ xs) ≡ take (suc i) (x ∷ xs) ++ drop (suc (suc i)) (x ∷ xs)
      by-test true c ih =
          let k = rw c at h in
          absurd (omega (arith, some (filter f xs) (non_empty-filter xs i d (omega arith) e)))
      by-test false c ih = rw c (ap (λ l. x ∷ l) (ih (rw c at h)))

-- ---- the page of a key's leaf, in a sound store

module _ (before : Store) (S : List Record) (sound : Sound before S) (key : List ℕ)
    (fits : index_fits (widths_of before.state.shape) key ≡ true) (g : ℕ)
    (word : key_word before key % 2 ^ 16 ≡ g + 1) where
  abbrev rs : List Record
  rs = page_records before.state.shape before.memory.bytes g

  -- record i is the key's
  pub without_key-place : (i : ℕ) (d : Record) → i < length rs → same_key key (get_or rs i d) ≡ true
      → without_key key rs ≡ take i rs ++ drop (suc i) rs
  without_key-place i d l e =
      filter-not-place (same_key key) rs i d l e
      (rw (sym (stored-page before S sound key g word).1)
      (length-stored-le before.state.shape (shape-of-Sound before S sound) S sound.set key fits))

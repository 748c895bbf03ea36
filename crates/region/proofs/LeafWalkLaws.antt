-- Walks over the leaves by their strings: what a walk reads, if a region that it enters has only beginnings that it
-- enters. Assumes nothing.
use Prim.Native.Nat.{ℕ, suc, ◌+◌}
use mathlib.Core.Path.{◌≡◌, refl, sym, ap, ◌∙◌}
use mathlib.Core.Bool.{Bool, true, false, cond, false≢true}
use mathlib.Core.List.{List, [], ◌∷◌, ◌++◌, map}
use native.Mathlib.Omega.{arith}
use native.Mathlib.Nat.{add-zero, zero-add}
use lib.ListN.{length, length-append, length-map}
use Rattle.lists.specs.Filter.{filter}
use Rattle.lists.proofs.Bools.{eq-of-iff}
use Rattle.lists.proofs.FilterLaws.{filter-ext, filter-append, filter_map, filter-false}
use Rattle.region.specs.Strings.{same_bits, with_bit}
use Rattle.region.specs.Division.{Division, leaf, divided, Leaf, depth, string_bit, on_side, leaves}
use Rattle.region.specs.Query.{LeafTest, walk_reads}
use Rattle.region.proofs.StringLaws.{same_bits-below, with_bit-other, follow, follow-whole}

-- a region that is entered has only beginnings that are
enter-beginning : (enter : ℕ → (ℕ → Bool) → Bool)
    → ((x : ℕ) (p q : ℕ → Bool) → same_bits p q x 0 ≡ true → enter x p ≡ enter x q)
    → ((x : ℕ) (p : ℕ → Bool) → enter (suc x) p ≡ true → enter x p ≡ true)
    → (p : ℕ → Bool) (t : ℕ) (bits : List Bool) → enter (t + length bits) (follow p t bits) ≡ true → enter t p ≡ true
enter-beginning enter local shorter p t [] e = rw (add-zero t) at e
enter-beginning enter local shorter p t (β ∷ bits) e =
    let next : t + suc (length bits) ≡ suc t + length bits = omega arith in
    let longer = enter-beginning enter local shorter (with_bit p t β) (suc t) bits (rw next at e) in
    let same =
    same_bits-below p (with_bit p t β) t t 0 (omega arith) (λ s h. sym (with_bit-other p t β s (λ d. omega arith))) in
    local t p (with_bit p t β) same ∙ shorter t (with_bit p t β) longer

module _ {R : Type 0} (enter : ℕ → (ℕ → Bool) → Bool)
    -- the test of a string looks at its own bits only, and lets in every beginning of a string that it lets in
    (local : (x : ℕ) (p q : ℕ → Bool) → same_bits p q x 0 ≡ true → enter x p ≡ enter x q)
    (shorter : (x : ℕ) (p : ℕ → Bool) → enter (suc x) p ≡ true → enter x p ≡ true) where
  -- ---- the leaves that a walk from the region of the first t bits of p enters

  abbrev entered : (ℕ → Bool) → ℕ → Division R → List (Leaf R)
  entered p t D = filter (λ l. enter (t + depth l) (follow p t l.string)) (leaves D)

  -- those on side β, as leaves of the region
  abbrev entered_side : (ℕ → Bool) → ℕ → Bool → Division R → List (Leaf R)
  entered_side p t β D = cond (enter (suc t) (with_bit p t β)) (map (on_side β) (entered (with_bit p t β) (suc t) D)) []

  entered-side : (p : ℕ → Bool) (t : ℕ) (β : Bool) (D : Division R)
      → filter (λ l. enter (t + depth l) (follow p t l.string)) (map (on_side β) (leaves D)) ≡ entered_side p t β D
  entered-side p t β D = filter_map _ (on_side β) (leaves D) ∙ by-test (enter (suc t) (with_bit p t β)) refl
    where
      below : Leaf R → Bool
      below l = enter (t + suc (depth l)) (follow (with_bit p t β) (suc t) l.string)

      next : (l : Leaf R) → t + suc (depth l) ≡ suc t + depth l
      next l = omega arith

      by-test : (γ : Bool) → enter (suc t) (with_bit p t β) ≡ γ
          → map (on_side β) (filter below (leaves D)) ≡ entered_side p t β D
      by-test true e = rw e (ap (map (on_side β)) (filter-ext below _ same (leaves D)))
        where
          same : (l : Leaf R) → below l ≡ enter (suc t + depth l) (follow (with_bit p t β) (suc t) l.string)
          same l = rw (next l)
      by-test false e =
          rw e (ap (map (on_side β)) (filter-ext below (λ l. false) none (leaves D) ∙ filter-false (leaves D)))
        where
          none : (l : Leaf R) → below l ≡ false
          none l =
              eq-of-iff (below l) false
              (λ d. sym e ∙ enter-beginning enter local shorter (with_bit p t β) (suc t) l.string (rw (next l) at d))
              (λ d. absurd (false≢true d))

  entered-divided : (p : ℕ → Bool) (t : ℕ) (l u : Division R)
      → entered p t (divided l u) ≡ entered_side p t false l ++ entered_side p t true u
  entered-divided p t l u =
      filter-append _ (map (on_side false) (leaves l)) (map (on_side true) (leaves u))
      ∙ cc (entered-side p t false l, entered-side p t true u)

  -- those that a walk from the empty string enters
  entered-whole : (p : ℕ → Bool) (D : Division R)
      → entered p 0 D ≡ filter (λ l. enter (depth l) (string_bit l)) (leaves D)
  entered-whole p D = filter-ext _ _ same (leaves D)
    where
      same : (l : Leaf R) → enter (0 + depth l) (follow p 0 l.string) ≡ enter (depth l) (string_bit l)
      same l =
          rw (zero-add (depth l))
          (local (depth l) (follow p 0 l.string) (string_bit l)
          (same_bits-below (follow p 0 l.string) (string_bit l) (depth l) (depth l) 0 (omega arith)
          (λ s h. follow-whole p l.string s h)))

  -- ---- what the walk reads

  module _ (opens : LeafTest R)
      -- the test of a leaf looks at its own bits only
      (local-opens : (x : ℕ) (p q : ℕ → Bool) (rs : List R) → same_bits p q x 0 ≡ true
      → opens p x rs ≡ opens q x rs) where
    -- of the region of the first t bits of p
    abbrev opened : (ℕ → Bool) → ℕ → Leaf R → Bool
    opened p t l = opens (follow p t l.string) (t + depth l) l.records

    -- a leaf of side β, as a leaf of the region
    opened-side : (p : ℕ → Bool) (t : ℕ) (β : Bool) (l : Leaf R)
        → opened p t (on_side β l) ≡ opened (with_bit p t β) (suc t) l
    opened-side p t β l = let next : t + suc (depth l) ≡ suc t + depth l = omega arith in rw next

    opened-whole : (p : ℕ → Bool) (l : Leaf R) → opened p 0 l ≡ opens (string_bit l) (depth l) l.records
    opened-whole p l =
        rw (zero-add (depth l))
        (local-opens (depth l) (follow p 0 l.string) (string_bit l) l.records
        (same_bits-below (follow p 0 l.string) (string_bit l) (depth l) (depth l) 0 (omega arith)
        (λ s h. follow-whole p l.string s h)))

    reads-side : (p : ℕ → Bool) (t : ℕ) (β : Bool) (D : Division R)
        → (enter (suc t) (with_bit p t β) ≡ true
        → walk_reads enter opens (with_bit p t β) (suc t) D
        ≡ length (filter (opened (with_bit p t β) (suc t)) (entered (with_bit p t β) (suc t) D)))
        → cond (enter (suc t) (with_bit p t β)) (walk_reads enter opens (with_bit p t β) (suc t) D) 0
        ≡ length (filter (opened p t) (entered_side p t β D))
    reads-side p t β D ih = by-test (enter (suc t) (with_bit p t β)) refl
      where
        E : List (Leaf R)
        E = entered (with_bit p t β) (suc t) D

        by-test : (γ : Bool) → enter (suc t) (with_bit p t β) ≡ γ
            → cond (enter (suc t) (with_bit p t β)) (walk_reads enter opens (with_bit p t β) (suc t) D) 0
            ≡ length (filter (opened p t) (entered_side p t β D))
        by-test true e =
            rw e
            (ih e
            ∙ sym (ap length (filter_map (opened p t) (on_side β) E)
            ∙ length-map (filter (λ l. opened p t (on_side β l)) E) (on_side β)
            ∙ ap length
            (filter-ext (λ l. opened p t (on_side β l)) (opened (with_bit p t β) (suc t)) (opened-side p t β) E)))
        by-test false e = rw e

    reads-entered : (p : ℕ → Bool) (t : ℕ) (D : Division R) → enter t p ≡ true
        → walk_reads enter opens p t D ≡ length (filter (opened p t) (entered p t D))
    reads-entered p t (leaf rs) e = rw (add-zero t, e, add-zero t) (by-test (opens p t rs))
      where
        whole : Leaf R
        whole = record { string = []; records = rs }

        by-test : (β : Bool) → cond β 1 0 ≡ length (cond β (whole ∷ []) [] ++ [])
        by-test true = refl
        by-test false = refl
    reads-entered p t (divided l u) e =
        rw (
          entered-divided p t l u,
          filter-append (opened p t) (entered_side p t false l) (entered_side p t true u),
          length-append,
          ← reads-side p t false l (reads-entered (with_bit p t false) (suc t) l),
          ← reads-side p t true u (reads-entered (with_bit p t true) (suc t) u),
        )

    -- the reads are the opened leaves among the entered
    pub walk_reads-leaves : (p : ℕ → Bool) (D : Division R) → enter 0 p ≡ true
        → walk_reads enter opens p 0 D
        ≡ length (filter (λ l. opens (string_bit l) (depth l) l.records)
        (filter (λ l. enter (depth l) (string_bit l)) (leaves D)))
    walk_reads-leaves p D e =
        reads-entered p 0 D e
        ∙ ap (λ ls. length (filter (opened p 0) ls)) (entered-whole p D)
        ∙ ap length
        (filter-ext (opened p 0) _ (opened-whole p) (filter (λ l. enter (depth l) (string_bit l)) (leaves D)))

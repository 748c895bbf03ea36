-- Laws of what the walk tells of a region: one that does not pass, a leaf; bounds of the sums. Those of a divided
-- region are in `DividedLaws`. Assumes nothing.
use Prim.Native.Nat.{ℕ, zero, suc, ◌+◌, ◌*◌, ◌^◌, ◌≤◌}
use mathlib.Core.Path.{◌≡◌, refl, sym, ap, ◌∙◌, subst}
use mathlib.Core.Bool.{Bool, true, false, cond, ◌&&◌, false≢true}
use mathlib.Core.List.{List}
use mathlib.Core.Logic.{◌⊎◌, inl, inr}
use native.Mathlib.Omega.{arith}
use native.Mathlib.Nat.{le_trans, le-mul_of_pos_right, mul-add, two-pow-succ}
use Rattle.std.specs.Prelude.{Option, Some, None}
use Rattle.std.proofs.lemmas.Option.{none-some, same_Some}
use lib.Dec.{leb, ltb, eqb}
use lib.ListN.{get_or, length, set}
use lib.Pow.{pow_pos}
use lib.Seq.{get_or-set_same, get_or-set_other}
use borrow.Author.Tests.{leb-true, leb-false, eq-eqb, ne_eqb}
use Rattle.lists.proofs.Bools.{and_split}
use Rattle.lists.proofs.FilterLaws.{cond-le-one}
use Rattle.lists.proofs.Numbers.{eq-or-ne}
use Rattle.region.specs.Strings.{with_bit}
use Rattle.region.specs.Division.{Division, leaf}
use Rattle.record.specs.Record.{Record}
use Rattle.directory_word.specs.Word.{depth_field, page_field}
use Rattle.check_test.specs.Walk.{View, field_records}
use Rattle.check_test.specs.Walk.{page_test, same_words, leaf_test, read_division}
use Rattle.check_test.specs.Walk.{record_count, region_test}
use Rattle.check_test.proofs.ViewLaws.{page-of-test}
use Rattle.check_test.proofs.WalkLaws.{read_division-leaf, region_test-leaf, record_count-divided}
use Rattle.check_test.proofs.WalkLaws.{region_test-divided, read_division-all}
use Rattle.check_seen.specs.declared.Seen.{Seen}
use Rattle.check_walk.specs.Sums.{leaves_at, SumsOf, Sees, Tallied, Tells}

-- ---- a region that does not pass

pub sees-some : (D : Division Record) (seen : Seen) → SumsOf D seen → Sees true D (Some seen)
sees-some D seen k = record { ok = refl; sums = λ other e. subst (SumsOf D) (same_Some seen other e) k }

pub sees-none : (test : Bool) (D : Division Record) → test ≡ false → Sees test D None
sees-none test D e = record { ok = sym e; sums = λ seen some. absurd (none-some seen some) }

pub tells-none : (x : ℕ) (before after : List ℕ) (test : Bool) (D : Division Record) → test ≡ false
    → Tells x before None after test D
tells-none x before after test D e =
    record { sees = sees-none test D e; tallied = λ k. absurd (false≢true (sym e ∙ k)) }

-- ---- a leaf

-- one leaf more in the tally
tallied-one : (rs : List Record) (x : ℕ) (before : List ℕ) → length before ≡ 13
    → Tallied (leaf rs) x before (set before x (get_or before x 0 + 1))
tallied-one rs x before len y l = by-case (eq-or-ne y x)
  where
    after : List ℕ
    after = set before x (get_or before x 0 + 1)

    by-case : (y ≡ x) ⊎ (y ≡ x → ⊥) → get_or after y 0 ≡ get_or before y 0 + cond (eqb y x) 1 0
    by-case (inl e) =
        rw (eq-eqb y x e, e) (get_or-set_same before x (get_or before x 0 + 1) 0 (omega (arith, len)))
    by-case (inr e) =
        rw (ne_eqb y x e) (get_or-set_other before x y (get_or before x 0 + 1) 0 e ∙ omega arith)

module _ (v : View Record) (n : ℕ) (p : ℕ → Bool) (x w : ℕ) (here : v.word p ≡ w) (before after : List ℕ) where
  abbrev shown : Division Record
  shown = leaf (field_records v (page_field (v.word p)))

  test : leaf_test v n p x
      ≡ (eqb (depth_field w) x && (page_test v p x (page_field w) && same_words v.word n p x w))
  test =
      ap (λ y. eqb (depth_field y) x && (page_test v p x (page_field y) && same_words v.word n p x y)) here

  pub leaf-depth-fails : (depth_field w ≡ x → ⊥) → Tells x before None after (leaf_test v n p x) shown
  leaf-depth-fails ne = tells-none x before after (leaf_test v n p x) shown (test ∙ rw (ne_eqb (depth_field w) x ne))

  module _ (depth : depth_field w ≡ x) where
    abbrev Told : Option Seen → Type 0
    Told told = Sees (page_test v p x (page_field w)) (leaf (field_records v (page_field w))) told

    pub leaf-page-fails : Told None → Tells x before None after (leaf_test v n p x) shown
    leaf-page-fails page =
        tells-none x before after (leaf_test v n p x) shown
        (test ∙ rw (eq-eqb (depth_field w) x depth, sym page.ok))

    module _ (seen : Seen) (page : Told (Some seen)) where
      rest : leaf_test v n p x ≡ same_words v.word n p x w
      rest = test ∙ rw (eq-eqb (depth_field w) x depth, sym page.ok)

      pub leaf-words-fail : same_words v.word n p x w ≡ false → Tells x before None after (leaf_test v n p x) shown
      leaf-words-fail e = tells-none x before after (leaf_test v n p x) shown (rest ∙ e)

      pub leaf-passes : same_words v.word n p x w ≡ true → length before ≡ 13
          → after ≡ set before x (get_or before x 0 + 1) → Tells x before (Some seen) after (leaf_test v n p x) shown
      leaf-passes e len set = record {
        sees = subst (λ y. Sees (leaf_test v n p x) (leaf (field_records v (page_field y))) (Some seen)) (sym here)
            (record { ok = sym (rest ∙ e); sums = page.sums });
        tallied = λ k. rw set (tallied-one (field_records v (page_field (v.word p))) x before len);
      }

-- ---- bounds

module _ (v : View Record) where
  pub leaves_at-read_division-le : (n : ℕ) (p : ℕ → Bool) (t x y : ℕ) → leaves_at (read_division v n p t) x y ≤ 2 ^ n
  leaves_at-read_division-le =
      read_division-all v (λ n D. (x y : ℕ) → leaves_at D x y ≤ 2 ^ n)
      (λ n p x y. omega (arith, cond-le-one (eqb y x), pow_pos n))
      (λ n l u h k x y. omega (arith, h (suc x) y, k (suc x) y, two-pow-succ n))

  leaf-le : (n : ℕ) (p : ℕ → Bool) (t m : ℕ) → leaf_test v m p t ≡ true
      → length (field_records v (page_field (v.word p))) ≤ v.capacity * 2 ^ n
  leaf-le n p t m e =
      let w = v.word p in
      let page = page_test v p t (page_field w) in
      let same = same_words v.word m p t w in
      let k = (and_split page same (and_split (eqb (depth_field w) t) (page && same) e).1).0 in
      le_trans (page-of-test v p t (page_field w) k).short (le-mul_of_pos_right v.capacity (pow_pos n))

  -- a region that passes has at most b records in each of its cells
  pub record_count-le-capacity : (n : ℕ) (p : ℕ → Bool) (t : ℕ) → region_test v n p t ≡ true
      → record_count v n p t ≤ v.capacity * 2 ^ n
  record_count-le-capacity zero p t e = leaf-le zero p t zero e
  record_count-le-capacity (suc n) p t e =
      by-depth (leb (depth_field (v.word p)) t) refl (record_count-le-capacity n (with_bit p t false) (suc t))
      (record_count-le-capacity n (with_bit p t true) (suc t))
    where
      by-depth : (γ : Bool) → leb (depth_field (v.word p)) t ≡ γ
          → (region_test v n (with_bit p t false) (suc t) ≡ true
          → record_count v n (with_bit p t false) (suc t) ≤ v.capacity * 2 ^ n)
          → (region_test v n (with_bit p t true) (suc t) ≡ true
          → record_count v n (with_bit p t true) (suc t) ≤ v.capacity * 2 ^ n)
          → record_count v (suc n) p t ≤ v.capacity * 2 ^ suc n
      by-depth true d h k =
          let shallow = leb-true (depth_field (v.word p)) t d in
          rw (read_division-leaf v (suc n) p t shallow)
          (leaf-le (suc n) p t (suc n) (sym (region_test-leaf v (suc n) p t shallow) ∙ e))
      by-depth false d h k =
          let deeper = leb-false (depth_field (v.word p)) t d in
          let lower = region_test v n (with_bit p t false) (suc t) in
          let upper = region_test v n (with_bit p t true) (suc t) in
          let more = ltb v.capacity (record_count v (suc n) p t) in
          let q₁ = and_split lower (upper && more) (sym (region_test-divided v n p t deeper) ∙ e) in
          let q₂ = and_split upper more q₁.1 in
          let twice : v.capacity * 2 ^ suc n ≡ v.capacity * 2 ^ n + v.capacity * 2 ^ n =
          ap (λ c. v.capacity * c) (two-pow-succ n) ∙ mul-add v.capacity (2 ^ n) (2 ^ n) in
          omega (arith, record_count-divided v n p t deeper, h q₁.0, k q₂.0)

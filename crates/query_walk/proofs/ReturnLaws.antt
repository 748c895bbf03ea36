-- Laws of a turn of the walk by rows: what each return promises. Assumes nothing.
use Prim.Native.Nat.{ℕ, zero, suc, ◌+◌, ◌*◌, ◌-◌, ◌^◌, ◌≤◌, ◌<◌}
use mathlib.Core.Path.{◌≡◌, refl, sym, ap, ◌∙◌, subst}
use mathlib.Core.List.{List}
use native.Mathlib.Omega.{arith}
use lib.ListN.{get_or, length}
use borrow.Author.Tests.{ne_eqb}
use Rattle.directory_word.specs.Word.{depth_field}
use Rattle.query_rows.specs.Rows.{wanted_bit_in, deepest_in, most_pages}
use Rattle.query_rows.specs.Vectors.{row_address}
use Rattle.query_rows.proofs.MostLaws.{most_pages-free, most_pages-le}
use Rattle.query_seen.specs.Seen.{Seen, damaged, after, met}
use Rattle.query_seen.proofs.BoundLaws.{OnePage}
use Rattle.query_seen.proofs.SeenLaws.{met-divided}
use Rattle.query_walk.specs.Private.{wanted_sides, given_side, seen_by}
use Rattle.query_walk.specs.Turns.{Wrote, Turn}
use Rattle.query_walk.proofs.BoundLaws.{length-seen_by-le}
use Rattle.query_walk.proofs.TurnLaws.{Inside, upper_vector, upper_corner, fuel, fuel-halves, Turn-upper}
use Rattle.query_walk.proofs.WroteLaws.{sound-of-next, Wrote-after, Wrote-stop}
use Rattle.query_walk.proofs.WroteLaws.{Wrote-met-leaf, Wrote-met-above, Wrote-met-deep}

-- ---- a divided region

module _ {rows words : List ℕ} {bytes room v corner x n word : ℕ}
    (i : Inside rows words bytes room v corner x n word) where
  abbrev h : Turn rows words bytes room v corner x n
  h = i.turn

  abbrev T : ℕ
  T = deepest_in rows

  module _ (leaf : ℕ → ℕ → ℕ → Seen) (few : OnePage leaf) where
    abbrev by : ℕ → ℕ → ℕ → ℕ → ℕ → Seen
    by = seen_by rows words leaf T

    abbrev upper_word : ℕ
    upper_word = get_or words (row_address rows (x * 6) (upper_vector i)) 0

    first-le : (length (by (T - (x + 1)) (x + 1) v corner word).pages ≤ most_pages rows (T - (x + 1)) (x + 1))
        × (length (by (T - (x + 1)) (x + 1) v corner word).pages ≤ 2 ^ (T - (x + 1)))
    first-le =
        let l = length-seen_by-le rows words leaf T few (T - (x + 1)) (x + 1) v corner word in
        (l, omega (arith, l, most_pages-le rows (T - (x + 1)) (x + 1)))

    seen_by-inside : by (T - x) x v corner word
        ≡ wanted_sides (wanted_bit_in rows x) (by (T - (x + 1)) (x + 1) v corner word)
        (by (T - (x + 1)) (x + 1) (upper_vector i) (upper_corner i) upper_word)
    unfolding seen_by
    seen_by-inside =
        ap (λ f. by f x v corner word) (fuel i) ∙ met-divided T x word _ _ i.below i.within

    -- one side, which the query gives
    one_side : (wanted : ℕ) → wanted < 2
        → wanted_sides wanted (by (T - (x + 1)) (x + 1) v corner word)
        (by (T - (x + 1)) (x + 1) (upper_vector i) (upper_corner i) upper_word)
        ≡ by (T - (x + 1)) (x + 1) (given_side wanted v (upper_vector i)) (given_side wanted corner (upper_corner i))
        (given_side wanted word upper_word)
    unfolding wanted_sides
    one_side zero l = refl
    one_side (suc zero) l = refl
    one_side (suc (suc w)) l = absurd (omega arith)

    module _ (wanted : ℕ) (e : wanted_bit_in rows x ≡ wanted) (given : wanted < 2) where
      seen_by-given : by (T - x) x v corner word
          ≡ by (T - (x + 1)) (x + 1) (given_side wanted v (upper_vector i)) (given_side wanted corner (upper_corner i))
          (given_side wanted word upper_word)
      seen_by-given = seen_by-inside ∙ rw e (one_side wanted given)

      pub Wrote-given : (list later : List ℕ) (r a side low own : ℕ) → a ≡ row_address rows (x * 6) (upper_vector i)
          → side ≡ given_side wanted v (upper_vector i) → low ≡ given_side wanted corner (upper_corner i)
          → own ≡ given_side wanted word (get_or words a 0)
          → Wrote list n (by (T - (x + 1)) (x + 1) side low own) r later
          → Wrote list n (by (T - x) x v corner word) r later
      Wrote-given list later r a side low own at es el eo o =
          let there : own ≡ given_side wanted word upper_word =
          eo ∙ ap (λ y. given_side wanted word (get_or words y 0)) at in
          subst (λ s. Wrote list n s r later)
          (sym (seen_by-given ∙ (λ i. by (T - (x + 1)) (x + 1) (sym es i) (sym el i) (sym there i)))) o

    -- both sides
    module _ (two : 2 ≤ wanted_bit_in rows x) (list mid : List ℕ) (r : ℕ)
        (o : Wrote list n (by (T - (x + 1)) (x + 1) v corner word) r mid) where
      n0 : wanted_bit_in rows x ≡ 0 → ⊥
      n0 e = omega arith

      n1 : wanted_bit_in rows x ≡ 1 → ⊥
      n1 e = omega arith

      seen_by-both : by (T - x) x v corner word
          ≡ after (by (T - (x + 1)) (x + 1) v corner word)
          (by (T - (x + 1)) (x + 1) (upper_vector i) (upper_corner i) upper_word)
      unfolding wanted_sides
      seen_by-both = seen_by-inside ∙ rw (ne_eqb _ 0 n0, ne_eqb _ 1 n1)

      -- after the first side there is room for the second
      pub Turn-upper-next : (size : ℕ) → size ≡ room → r ≤ 4096
          → Turn rows words bytes size (upper_vector i) (upper_corner i) (x + 1) r
      Turn-upper-next size e k =
          let d = (sound-of-next list mid n _ r o k).1 in
          let both = ap (λ f. most_pages rows f x) (fuel i) ∙ most_pages-free rows (T - (x + 1)) x n0 n1 in
          Turn-upper i r size (omega (arith, d, h.count, fuel-halves i, first-le.1))
          (omega (arith, d, e, h.left, both, first-le.0))

      pub Wrote-first : 4096 < r → Wrote list n (by (T - x) x v corner word) r mid
      Wrote-first k =
          subst (λ s. Wrote list n s r mid) (sym seen_by-both)
          (Wrote-stop list mid n _ r o _ k (omega (arith, h.count, fuel-halves i, first-le.1)))

      pub Wrote-both : (later : List ℕ) (z a : ℕ) → a ≡ row_address rows (x * 6) (upper_vector i) → r ≤ 4096
          → Wrote mid r (by (T - (x + 1)) (x + 1) (upper_vector i) (upper_corner i) (get_or words a 0)) z later
          → Wrote list n (by (T - x) x v corner word) z later
      Wrote-both later z a at k o' =
          subst (λ s. Wrote list n s z later) (sym seen_by-both)
          (Wrote-after list mid n _ r o _ later z k
          (subst
          (λ y. Wrote mid r (by (T - (x + 1)) (x + 1) (upper_vector i) (upper_corner i) (get_or words y 0)) z later)
          at o'))

-- ---- a leaf, and damage

module _ (rows words : List ℕ) (leaf : ℕ → ℕ → ℕ → Seen) (T x v corner word : ℕ) (list : List ℕ) (n : ℕ) where
  -- a turn meets its region's word
  seen_by-met : (f : ℕ)
      → (below : Seen) × (met T x word (leaf x corner word) below ≡ seen_by rows words leaf T f x v corner word)
  unfolding seen_by
  seen_by-met zero = (damaged, refl)
  seen_by-met (suc f) = (_, refl)

  pub Wrote-leaf : (later : List ℕ) (r : ℕ) → depth_field word ≡ x → Wrote list n (leaf x corner word) r later
      → Wrote list n (seen_by rows words leaf T (T - x) x v corner word) r later
  Wrote-leaf later r e o =
      let m = seen_by-met (T - x) in
      subst (λ s. Wrote list n s r later) m.1 (Wrote-met-leaf T x word _ m.0 list n later r e o)

  pub Wrote-above : depth_field word < x → Wrote list n (seen_by rows words leaf T (T - x) x v corner word) 65535 list
  Wrote-above h =
      let m = seen_by-met (T - x) in
      subst (λ s. Wrote list n s 65535 list) m.1 (Wrote-met-above T x word _ m.0 list n h)

  pub Wrote-deep : x ≤ depth_field word → (depth_field word ≡ x → ⊥) → T < depth_field word
      → Wrote list n (seen_by rows words leaf T (T - x) x v corner word) 65535 list
  Wrote-deep k d u =
      let m = seen_by-met (T - x) in
      subst (λ s. Wrote list n s 65535 list) m.1 (Wrote-met-deep T x word _ m.0 list n k d u)

-- Laws of a turn of the range call's walk by rows: what its calls ask and what each return promises. Assumes nothing.
use Prim.Native.Nat.{ℕ, zero, suc, ◌+◌, ◌*◌, ◌-◌, ◌^◌, ◌≤◌, ◌<◌}
use mathlib.Core.Path.{◌≡◌, refl, sym, ap, ◌∙◌, subst}
use mathlib.Core.Bool.{Bool, true, false, cond}
use mathlib.Core.List.{List}
use native.Mathlib.Omega.{arith}
use lib.ListN.{get_or, length}
use Rattle.directory_word.specs.Word.{depth_field}
use Rattle.query_rows.specs.Rows.{deepest_in}
use Rattle.query_rows.specs.Vectors.{row_address}
use Rattle.query_rows.proofs.MostLaws.{most_pages-le}
use Rattle.query_seen.specs.Seen.{Seen, nothing, damaged, after, met}
use Rattle.query_seen.proofs.BoundLaws.{OnePage}
use Rattle.query_seen.proofs.SeenLaws.{met-divided, after_nothing}
use Rattle.query_walk.specs.Turns.{Wrote, Turn}
use Rattle.query_walk.proofs.TurnLaws.{Inside, upper_vector, upper_corner, fuel, fuel-halves, Turn-upper}
use Rattle.query_walk.proofs.WroteLaws.{Wrote-nothing, sound-of-next, Wrote-after, Wrote-stop}
use Rattle.query_walk.proofs.WroteLaws.{Wrote-met-leaf, Wrote-met-above, Wrote-met-deep}
use Rattle.range_walk.specs.Private.{seen_meeting}
use Rattle.range_walk.proofs.BoundLaws.{length-side-le, length-seen_meeting-le}

-- ---- a side

-- one that is not entered writes nothing
pub Wrote-closed : (list : List ℕ) (n : ℕ) (s : Seen) {β : Bool} → β ≡ false → Wrote list n (cond β s nothing) n list
Wrote-closed list n s e = rw e (Wrote-nothing list n)

pub Wrote-entered : {list later : List ℕ} {n r : ℕ} {β : Bool} {s : Seen} → β ≡ true → Wrote list n s r later
    → Wrote list n (cond β s nothing) r later
Wrote-entered e o = rw e o

-- ---- a divided region

module _ {rows words : List ℕ} {bytes room v corner x n word : ℕ}
    (i : Inside rows words bytes room v corner x n word) (fits : n + 2 ^ (deepest_in rows - x) ≤ room)
    (leaf : ℕ → ℕ → ℕ → Seen) (few : OnePage leaf) (enters : ℕ → ℕ → Bool) where
  abbrev h : Turn rows words bytes room v corner x n
  h = i.turn

  abbrev T : ℕ
  T = deepest_in rows

  -- what is seen below a side with this vector, corner and word
  abbrev by : ℕ → ℕ → ℕ → Seen
  by = seen_meeting rows words leaf enters T (T - (x + 1)) (x + 1)

  abbrev whole : Seen
  whole = seen_meeting rows words leaf enters T (T - x) x v corner word

  -- what is seen of the two sides
  abbrev pub lower_side : Seen
  lower_side = cond (enters (x + 1) corner) (by v corner word) nothing

  abbrev upper_side : Seen
  upper_side =
      cond (enters (x + 1) (upper_corner i))
      (by (upper_vector i) (upper_corner i) (get_or words (row_address rows (x * 6) (upper_vector i)) 0))
      nothing

  seen_meeting-inside : whole ≡ after lower_side upper_side
  unfolding seen_meeting
  seen_meeting-inside =
      ap (λ f. seen_meeting rows words leaf enters T f x v corner word) (fuel i)
      ∙ met-divided T x word _ _ i.below i.within

  lower-le : length lower_side.pages ≤ 2 ^ (T - (x + 1))
  lower-le =
      length-side-le rows words leaf enters T (T - (x + 1)) (x + 1) v corner word (2 ^ (T - (x + 1)))
      (length-seen_meeting-le rows words leaf enters T few (T - (x + 1)) (x + 1) v corner word)

  -- what is left below one side has room
  pub lower-left : n + 2 ^ (T - (x + 1)) ≤ room
  lower-left = omega (arith, fits, fuel-halves i)

  module _ (list mid : List ℕ) (r : ℕ) (o : Wrote list n lower_side r mid) where
    -- after the first side there is room for the second
    pub upper-left : (size : ℕ) → size ≡ room → r ≤ 4096 → r + 2 ^ (T - (x + 1)) ≤ size
    upper-left size e k =
        omega (arith, e, (sound-of-next list mid n _ r o k).1, fits, fuel-halves i, lower-le)

    pub Turn-upper-next : (size : ℕ) → size ≡ room → r ≤ 4096
        → Turn rows words bytes size (upper_vector i) (upper_corner i) (x + 1) r
    Turn-upper-next size e k =
        Turn-upper i r size
        (omega (arith, (sound-of-next list mid n _ r o k).1, h.count, fuel-halves i, lower-le))
        (omega (arith, upper-left size e k, most_pages-le rows (T - (x + 1)) (x + 1)))

    pub Wrote-first : 4096 < r → Wrote list n whole r mid
    Wrote-first k =
        subst (λ s. Wrote list n s r mid) (sym seen_meeting-inside)
        (Wrote-stop list mid n _ r o _ k (omega (arith, h.count, fuel-halves i, lower-le)))

    -- the 1-side is not entered
    pub Wrote-lower : enters (x + 1) (upper_corner i) ≡ false → Wrote list n whole r mid
    Wrote-lower c =
        let none : upper_side ≡ nothing = rw c in
        subst (λ s. Wrote list n s r mid)
        (sym (seen_meeting-inside ∙ ap (after lower_side) none ∙ after_nothing lower_side)) o

    pub Wrote-both : (later : List ℕ) (z a : ℕ) → a ≡ row_address rows (x * 6) (upper_vector i) → r ≤ 4096
        → enters (x + 1) (upper_corner i) ≡ true
        → Wrote mid r (by (upper_vector i) (upper_corner i) (get_or words a 0)) z later
        → Wrote list n whole z later
    Wrote-both later z a at k c o' =
        subst (λ s. Wrote list n s z later) (sym seen_meeting-inside)
        (Wrote-after list mid n _ r o _ later z k
        (Wrote-entered c
        (subst (λ y. Wrote mid r (by (upper_vector i) (upper_corner i) (get_or words y 0)) z later) at o')))

-- ---- a leaf, and damage

module _ (rows words : List ℕ) (leaf : ℕ → ℕ → ℕ → Seen) (enters : ℕ → ℕ → Bool) (T x v corner word : ℕ)
    (list : List ℕ) (n : ℕ) where
  -- a turn meets its region's word
  seen_meeting-met : (f : ℕ)
      → (below : Seen)
      × (met T x word (leaf x corner word) below ≡ seen_meeting rows words leaf enters T f x v corner word)
  unfolding seen_meeting
  seen_meeting-met zero = (damaged, refl)
  seen_meeting-met (suc f) = (_, refl)

  pub Wrote-leaf : (later : List ℕ) (r : ℕ) → depth_field word ≡ x → Wrote list n (leaf x corner word) r later
      → Wrote list n (seen_meeting rows words leaf enters T (T - x) x v corner word) r later
  Wrote-leaf later r e o =
      let m = seen_meeting-met (T - x) in
      subst (λ s. Wrote list n s r later) m.1 (Wrote-met-leaf T x word _ m.0 list n later r e o)

  pub Wrote-above : depth_field word < x
      → Wrote list n (seen_meeting rows words leaf enters T (T - x) x v corner word) 65535 list
  Wrote-above h =
      let m = seen_meeting-met (T - x) in
      subst (λ s. Wrote list n s 65535 list) m.1 (Wrote-met-above T x word _ m.0 list n h)

  pub Wrote-deep : x ≤ depth_field word → (depth_field word ≡ x → ⊥) → T < depth_field word
      → Wrote list n (seen_meeting rows words leaf enters T (T - x) x v corner word) 65535 list
  Wrote-deep k d u =
      let m = seen_meeting-met (T - x) in
      subst (λ s. Wrote list n s 65535 list) m.1 (Wrote-met-deep T x word _ m.0 list n k d u)

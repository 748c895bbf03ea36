-- Where words show the leaves of a division, the walk sees exactly the pages of the leaves that it enters and opens, in
-- order; their number is that of the leaves opened, and their records are those of the leaves. Assumes nothing.
use Prim.Native.Nat.{ℕ, zero, suc, ◌+◌, ◌-◌, ◌≤◌, ◌<◌}
use mathlib.Core.Path.{◌≡◌, refl, sym, ap, ◌∙◌}
use mathlib.Core.Bool.{Bool, true, false, cond}
use mathlib.Core.List.{List, [], ◌∷◌, ◌++◌, flat_map, append-nil}
use native.Mathlib.Omega.{arith}
use native.Mathlib.Nat.{zero-add, add-zero}
use lib.ListN.{length, length-append}
use Rattle.lists.specs.Filter.{filter}
use Rattle.lists.proofs.Sequences.{flat_map-append}
use Rattle.cell.specs.Cell.{Agree}
use Rattle.region.specs.Strings.{with_bit, empty_string}
use Rattle.region.specs.Division.{Division, leaf, divided, greatest_depth, leaf_depth, leaf_records}
use Rattle.region.specs.Query.{LeafTest, walk_records, walk_reads}
use Rattle.region.proofs.StringLaws.{with_bit-same, with_bit-other}
use Rattle.region.proofs.StringLeafLaws.{leaf_depth-le}
use Rattle.directory_word.specs.Word.{page_field, depth_field}
use Rattle.query_seen.specs.Pages.{walk_pages}
use Rattle.query_seen.specs.Seen.{Seen, nothing, damaged, after, met, seen}
use Rattle.query_seen.proofs.SeenLaws.{met-leaf, met-divided}

-- all that was met is as in a sound store
abbrev pub sound_seen : List ℕ → Seen
sound_seen gs = record { pages = gs; sound = true }

-- bits 0 from t on
abbrev pub Zeros : ℕ → (ℕ → Bool) → Type 0
Zeros t p = (s : ℕ) → t ≤ s → p s ≡ false

Zeros-with_bit : (p : ℕ → Bool) (t : ℕ) (β : Bool) → Zeros t p → Zeros (suc t) (with_bit p t β)
Zeros-with_bit p t β z s h = with_bit-other p t β s (λ e. omega arith) ∙ z s (omega arith)

-- ---- a region of a division

module _ {R : Type 0} (D : Division R) where
  -- E is the division of the region of the first t bits of p
  abbrev pub Under : ℕ → (ℕ → Bool) → Division R → Type 0
  Under t p E =
      (r : ℕ → Bool) → Agree t p r → (leaf_depth r 0 D ≡ t + leaf_depth r t E) × (leaf_records r 0 D ≡ leaf_records r t E)

  pub Under-all : Under 0 empty_string D
  Under-all r a = (sym (zero-add (leaf_depth r 0 D)), refl)

  module _ (t : ℕ) (p : ℕ → Bool) (l u : Division R) (h : Under t p (divided l u)) where
    -- a string of a side
    side-string : (β : Bool) (r : ℕ → Bool) → Agree (suc t) (with_bit p t β) r → (Agree t p r) × (r t ≡ β)
    side-string β r a = (
      λ s k. sym (with_bit-other p t β s (λ e. omega arith)) ∙ a s (omega arith),
      sym (a t (omega arith)) ∙ with_bit-same p t β,
    )

    pub Under-lower : Under (suc t) (with_bit p t false) l
    Under-lower r a =
        let d = side-string false r a in
        let k = h r d.0 in
        let deep : leaf_depth r t (divided l u) ≡ suc (leaf_depth r (suc t) l) = rw d.1 in
        let kept : leaf_records r t (divided l u) ≡ leaf_records r (suc t) l = rw d.1 in
        (omega (arith, k.0), k.1 ∙ kept)

    pub Under-upper : Under (suc t) (with_bit p t true) u
    Under-upper r a =
        let d = side-string true r a in
        let k = h r d.0 in
        let deep : leaf_depth r t (divided l u) ≡ suc (leaf_depth r (suc t) u) = rw d.1 in
        let kept : leaf_records r t (divided l u) ≡ leaf_records r (suc t) u = rw d.1 in
        (omega (arith, k.0), k.1 ∙ kept)

-- ---- what is seen

-- two sides that are sound where they are entered
after-sound : (β γ : Bool) (s u : Seen) (gs hs : List ℕ) → (β ≡ true → s ≡ sound_seen gs) → (γ ≡ true → u ≡ sound_seen hs)
    → after (cond β s nothing) (cond γ u nothing) ≡ sound_seen (cond β gs [] ++ cond γ hs [])
unfolding after
after-sound true true s u gs hs h k = rw (h refl, k refl)
after-sound true false s u gs hs h k = rw (h refl)
after-sound false true s u gs hs h k = rw (k refl)
after-sound false false s u gs hs h k = refl

module _ {R : Type 0} (word : ℕ → (ℕ → Bool) → ℕ) (own : ℕ → (ℕ → Bool) → ℕ → Seen)
    (enter : ℕ → (ℕ → Bool) → Bool) (opens : LeafTest R) (T : ℕ) (D : Division R) where
  -- the page of the leaf that a string leads to
  abbrev page_of : (ℕ → Bool) → ℕ
  page_of p = page_field (word T p) - 1

  -- words and pages show the leaves, as far as the walk enters them
  pub record ShowsLeaves : Type 0 where
    -- a region's word is that of its cell with bits 0
    pub own-word : (t : ℕ) (p : ℕ → Bool) → t ≤ T → Zeros t p → word t p ≡ word T p
    pub word-depth : (p : ℕ → Bool) → depth_field (word T p) ≡ leaf_depth p 0 D
    pub word-noted : (p : ℕ → Bool) → enter (leaf_depth p 0 D) p ≡ true
        → own (leaf_depth p 0 D) p (word T p)
        ≡ sound_seen (cond (opens p (leaf_depth p 0 D) (leaf_records p 0 D)) (page_of p ∷ []) [])

  module _ (shown : ShowsLeaves) where
    seen-leaf : (rs : List R) (f t : ℕ) (p : ℕ → Bool) → t + f ≡ T → Zeros t p → Under D t p (leaf rs)
        → enter t p ≡ true → seen word own enter T f p t ≡ sound_seen (walk_pages enter opens page_of p t (leaf rs))
    unfolding seen
    seen-leaf rs f t p e z h k =
        is-met f
        ∙ ap (own t p) same
        ∙ ap (λ x. own x p (word T p)) (sym at-depth)
        ∙ shown.word-noted p (rw at-depth k)
        ∙ ap (λ l. sound_seen (cond (opens p (leaf_depth p 0 D) l) (page_of p ∷ []) [])) (h p (λ s l. refl)).1
        ∙ ap (λ x. sound_seen (cond (opens p x rs) (page_of p ∷ []) [])) at-depth
      where
        at-depth : leaf_depth p 0 D ≡ t
        at-depth = (h p (λ s l. refl)).0 ∙ add-zero t

        same : word t p ≡ word T p
        same = shown.own-word t p (omega arith) z

        met-here : (below : Seen) → met T t (word t p) (own t p (word t p)) below ≡ own t p (word t p)
        met-here below = met-leaf T t (word t p) _ below (ap depth_field same ∙ shown.word-depth p ∙ at-depth)

        is-met : (f : ℕ) → seen word own enter T f p t ≡ own t p (word t p)
        is-met zero = met-here damaged
        is-met (suc f) = met-here _

    pub seen-division : (E : Division R) (f t : ℕ) (p : ℕ → Bool) → t + f ≡ T → greatest_depth E ≤ f → Zeros t p
        → Under D t p E → enter t p ≡ true
        → seen word own enter T f p t ≡ sound_seen (walk_pages enter opens page_of p t E)
    unfolding seen
    seen-division (leaf rs) f t p e d z h k = seen-leaf rs f t p e z h k
    seen-division (divided l u) zero t p e d z h k = absurd (omega arith)
    seen-division (divided l u) (suc f) t p e d z h k =
        met-divided T t (word t p) _ _ below within
        ∙ after-sound (enter (suc t) (with_bit p t false)) (enter (suc t) (with_bit p t true)) _ _ _ _
        (λ k₀. seen-division l f (suc t) (with_bit p t false) (omega arith) (omega arith) (Zeros-with_bit p t false z)
        (Under-lower D t p l u h) k₀)
        (λ k₁. seen-division u f (suc t) (with_bit p t true) (omega arith) (omega arith) (Zeros-with_bit p t true z)
        (Under-upper D t p l u h) k₁)
      where
        deep : depth_field (word t p) ≡ t + leaf_depth p t (divided l u)
        deep =
            ap depth_field (shown.own-word t p (omega arith) z) ∙ shown.word-depth p ∙ (h p (λ s l. refl)).0

        below : t < depth_field (word t p)
        below = omega (arith, deep)

        within : depth_field (word t p) ≤ T
        within = omega (arith, deep, leaf_depth-le p t (divided l u))

    -- from the empty string
    pub seen-sound : greatest_depth D ≤ T → enter 0 empty_string ≡ true
        → seen word own enter T T empty_string 0 ≡ sound_seen (walk_pages enter opens page_of empty_string 0 D)
    seen-sound d k = seen-division D T 0 empty_string (zero-add T) d (λ s l. refl) (Under-all D) k

-- ---- how many pages, and their records

module _ {R : Type 0} (enter : ℕ → (ℕ → Bool) → Bool) (opens : LeafTest R) (page : (ℕ → Bool) → ℕ) where
  pub length-walk_pages : (D : Division R) (p : ℕ → Bool) (t : ℕ)
      → length (walk_pages enter opens page p t D) ≡ walk_reads enter opens p t D
  length-walk_pages (leaf rs) p t = one (opens p t rs)
    where
      one : (β : Bool) → length (cond β (page p ∷ []) []) ≡ cond β 1 0
      one true = refl
      one false = refl
  length-walk_pages (divided l u) p t =
      length-append
      (cond (enter (suc t) (with_bit p t false)) (walk_pages enter opens page (with_bit p t false) (suc t) l) [])
      (cond (enter (suc t) (with_bit p t true)) (walk_pages enter opens page (with_bit p t true) (suc t) u) [])
      ∙ sum _ _ _ _ (side (enter (suc t) (with_bit p t false)) _ _ (length-walk_pages l (with_bit p t false) (suc t)))
      (side (enter (suc t) (with_bit p t true)) _ _ (length-walk_pages u (with_bit p t true) (suc t)))
    where
      sum : (a b c d : ℕ) → a ≡ b → c ≡ d → a + c ≡ b + d
      sum a b c d i j = cc

      side : (β : Bool) (gs : List ℕ) (n : ℕ) → length gs ≡ n → length (cond β gs []) ≡ cond β n 0
      side true gs n e = e
      side false gs n e = refl

  module _ (D : Division R) (matches : R → Bool) (records : ℕ → List R)
      -- a page that is read has its leaf's records
      (has : (p : ℕ → Bool) → enter (leaf_depth p 0 D) p ≡ true
      → opens p (leaf_depth p 0 D) (leaf_records p 0 D) ≡ true → records (page p) ≡ leaf_records p 0 D) where
    abbrev gathered : List ℕ → List R
    gathered gs = flat_map (λ g. filter matches (records g)) gs

    pub gathered-walk_pages : (E : Division R) (p : ℕ → Bool) (t : ℕ) → Under D t p E → enter t p ≡ true
        → gathered (walk_pages enter opens page p t E) ≡ walk_records enter opens matches p t E
    unfolding flat_map
    gathered-walk_pages (leaf rs) p t h k = one (opens p t rs) refl
      where
        at-depth : leaf_depth p 0 D ≡ t
        at-depth = (h p (λ s l. refl)).0 ∙ add-zero t

        here : leaf_records p 0 D ≡ rs
        here = (h p (λ s l. refl)).1

        one : (β : Bool) → opens p t rs ≡ β → gathered (cond β (page p ∷ []) []) ≡ cond β (filter matches rs) []
        one true e =
            append-nil (filter matches (records (page p)))
            ∙ ap (filter matches) (has p (rw at-depth k) (rw (at-depth, here) e) ∙ here)
        one false e = refl
    gathered-walk_pages (divided l u) p t h k =
        flat_map-append _
        (cond (enter (suc t) (with_bit p t false)) (walk_pages enter opens page (with_bit p t false) (suc t) l) [])
        (cond (enter (suc t) (with_bit p t true)) (walk_pages enter opens page (with_bit p t true) (suc t) u) [])
        ∙ join _ _ _ _
        (side (enter (suc t) (with_bit p t false)) _ _
        (λ e. gathered-walk_pages l (with_bit p t false) (suc t) (Under-lower D t p l u h) e))
        (side (enter (suc t) (with_bit p t true)) _ _
        (λ e. gathered-walk_pages u (with_bit p t true) (suc t) (Under-upper D t p l u h) e))
      where
        side : (β : Bool) (gs : List ℕ) (rs : List R) → (β ≡ true → gathered gs ≡ rs)
            → gathered (cond β gs []) ≡ cond β rs []
        side true gs rs i = i refl
        side false gs rs i = refl

        join : (a b c d : List R) → a ≡ b → c ≡ d → a ++ c ≡ b ++ d
        join a b c d i j = cc

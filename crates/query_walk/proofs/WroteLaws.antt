-- Laws of what a part of the walk writes: nothing, one page, one part after another, a leaf or damage, and what each
-- return of `note` writes. Assumes nothing.
use Prim.Native.Nat.{ℕ, ◌+◌, ◌-◌, ◌≤◌, ◌<◌}
use mathlib.Core.Path.{◌≡◌, refl, sym, ap, ◌∙◌, subst}
use mathlib.Core.Bool.{Bool, true, false, cond}
use mathlib.Core.List.{List, ◌++◌}
use native.Mathlib.Omega.{arith}
use native.Mathlib.Nat.{add-zero}
use lib.ListN.{length, set, length-append}
use Rattle.directory_word.specs.Word.{page_field, depth_field}
use Rattle.query_rows.proofs.StoreRunLaws.{sets-append}
use Rattle.query_seen.specs.Seen.{Seen, nothing, damaged, single, after, noted, met}
use Rattle.query_seen.proofs.SeenLaws.{met-leaf, met-above, met-deep}
use Rattle.query_seen.proofs.SeenLaws.{noted-untold, noted-none, noted-past, noted-unfair, noted-fair}
use Rattle.query_walk.specs.Turns.{Wrote}

pub Wrote-nothing : (list : List ℕ) (n : ℕ) → Wrote list n nothing n list
Wrote-nothing list n = record { next = sym (add-zero n); lines = refl }

pub Wrote-damaged : (list : List ℕ) (n : ℕ) → Wrote list n damaged 65535 list
Wrote-damaged list n = record { next = refl; lines = refl }

pub Wrote-single : (list : List ℕ) (n g : ℕ) → Wrote list n (single g) (n + 1) (set list n g)
Wrote-single list n g = record { next = refl; lines = refl }

-- an equal place and an equal list: where the two arms of a test meet
pub Wrote-same : {list later later' : List ℕ} {n r r' : ℕ} {s : Seen} → r' ≡ r → later' ≡ later
    → Wrote list n s r later → Wrote list n s r' later'
Wrote-same e d o = record { next = e ∙ o.next; lines = d ∙ o.lines }

-- a place up to 4096 tells that all is sound, if there is room for the pages
module _ (list mid : List ℕ) (n : ℕ) (s : Seen) (r : ℕ) (p : Wrote list n s r mid) where
  pub sound-of-next : r ≤ 4096 → (s.sound ≡ true) × (r ≡ n + length s.pages)
  sound-of-next h = go s.sound p.next
    where
      go : (β : Bool) → r ≡ cond β (n + length s.pages) 65535 → (β ≡ true) × (r ≡ n + length s.pages)
      go true e = (refl, e)
      go false e = absurd (omega arith)

  pub damaged-of-next : 4096 < r → n + length s.pages ≤ 4096 → s.sound ≡ false
  damaged-of-next h l = go s.sound p.next
    where
      go : (β : Bool) → r ≡ cond β (n + length s.pages) 65535 → β ≡ false
      go true e = absurd (omega arith)
      go false e = refl

  -- the first is sound: the second follows
  pub Wrote-after : (u : Seen) (later : List ℕ) (z : ℕ) → r ≤ 4096 → Wrote mid r u z later
      → Wrote list n (after s u) z later
  unfolding after
  Wrote-after u later z h o =
      let d = sound-of-next h in
      let sum : r + length u.pages ≡ n + length (s.pages ++ u.pages) =
      omega (arith, d.1, length-append s.pages u.pages) in
      rw d.0
      (record {
        next = o.next ∙ ap (λ y. cond u.sound y 65535) sum;
        lines = o.lines ∙ rw (d.1, p.lines) (sym (sets-append list n s.pages u.pages));
      })

  -- the first meets damage: the walk ends
  pub Wrote-stop : (u : Seen) → 4096 < r → n + length s.pages ≤ 4096 → Wrote list n (after s u) r mid
  unfolding after
  Wrote-stop u h l =
      subst (λ β. Wrote list n (cond β (record { pages = s.pages ++ u.pages; sound = u.sound }) s) r mid)
      (sym (damaged-of-next h l)) p

-- a region that meets its word: a leaf, and damage
module _ (T x word : ℕ) (own below : Seen) (list : List ℕ) (n : ℕ) where
  pub Wrote-met-leaf : (later : List ℕ) (r : ℕ) → depth_field word ≡ x → Wrote list n own r later
      → Wrote list n (met T x word own below) r later
  Wrote-met-leaf later r e o = subst (λ s. Wrote list n s r later) (sym (met-leaf T x word own below e)) o

  pub Wrote-met-above : depth_field word < x → Wrote list n (met T x word own below) 65535 list
  Wrote-met-above h = rw (met-above T x word own below h) (Wrote-damaged list n)

  pub Wrote-met-deep : x ≤ depth_field word → (depth_field word ≡ x → ⊥) → T < depth_field word
      → Wrote list n (met T x word own below) 65535 list
  Wrote-met-deep k d u =
      let inner : x < depth_field word = omega arith in
      rw (met-deep T x word own below inner u) (Wrote-damaged list n)

-- the returns of `note`: field is the word's
pub Wrote-noted-untold : (list : List ℕ) (n P : ℕ) (has : Bool) (fair : ℕ → Bool) (word : ℕ) → has ≡ false
    → Wrote list n (noted P has fair word) 65535 list
Wrote-noted-untold list n P has fair word h = rw (h, noted-untold P fair word) (Wrote-damaged list n)

module _ (list : List ℕ) (n P : ℕ) (has : Bool) (fair : ℕ → Bool) (word field : ℕ) (told : has ≡ true)
    (e : field ≡ page_field word) where
  pub Wrote-noted-none : field ≡ 0 → Wrote list n (noted P has fair word) n list
  Wrote-noted-none z = rw (told, noted-none P fair word (sym e ∙ z)) (Wrote-nothing list n)

  pub Wrote-noted-past : P < field → Wrote list n (noted P has fair word) 65535 list
  Wrote-noted-past h = rw (told, noted-past P fair word (subst (λ x. P < x) e h)) (Wrote-damaged list n)

  module _ (m : field ≡ 0 → ⊥) (h : field ≤ P) where
    pub Wrote-noted-unfair : fair (field - 1) ≡ false → Wrote list n (noted P has fair word) 65535 list
    Wrote-noted-unfair g =
        rw (
          told,
          noted-unfair P fair word (λ z. m (e ∙ z)) (subst (λ x. x ≤ P) e h) (ap (λ x. fair (x - 1)) (sym e) ∙ g),
        )
        (Wrote-damaged list n)

    pub Wrote-noted-fair : fair (field - 1) ≡ true
        → Wrote list n (noted P has fair word) (n + 1) (set list n (field - 1))
    Wrote-noted-fair g =
        rw (
          told,
          noted-fair P fair word (λ z. m (e ∙ z)) (subst (λ x. x ≤ P) e h) (ap (λ x. fair (x - 1)) (sym e) ∙ g),
        )
        (subst (λ x. Wrote list n (single (x - 1)) (n + 1) (set list n (field - 1))) e
        (Wrote-single list n (field - 1)))

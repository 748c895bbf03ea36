-- Laws of the page of a leaf, by its first and its last record: the test with a mask, where the widths are those of a
-- shape; a sound store's page passes it. Assumes nothing.
use Prim.Native.Nat.{ℕ, ◌-◌, ◌/◌, ◌%◌, ◌^◌, ◌≤◌, ◌<◌}
use mathlib.Core.Path.{◌≡◌, refl, sym, ap, ◌∙◌, subst}
use mathlib.Core.Bool.{Bool, true}
use mathlib.Core.List.{List}
use Rattle.shape.specs.Shape.{Fit, widths_of, total, index_fits, shape_number}
use Rattle.shape.specs.declared.Shape.{Shape}
use Rattle.shape.proofs.ShapeLaws.{widths_of-fit, widths-fit}
use Rattle.split.specs.Bits.{split_bit}
use Rattle.cell.specs.Cell.{Agree}
use Rattle.region.specs.Division.{leaf_depth}
use Rattle.record.specs.Record.{Record}
use Rattle.record.specs.Lanes.{bias_key}
use Rattle.record.specs.Packed.{unpacked_key}
use Rattle.page.specs.Page.{count_of, page_at}
use Rattle.directory_word.specs.Word.{word_of}
use Rattle.directory_word.specs.declared.Leaf.TheVariants.{Page}
use Rattle.directory_word.proofs.WordLaws.{word_of-depth, word_of-page}
use Rattle.store.specs.Store.{Store}
use Rattle.store.specs.Sound.{Sound}
use Rattle.store.proofs.ShownLaws.{word_on, division_on, word_on-depth}
use Rattle.page_ends.specs.Ends.{ends_begin, fixed_bits, ends_agree}
use Rattle.page_ends.proofs.AgreeLaws.{ends_begin-agree, ends_agree-ends_begin}
use Rattle.page_ends.proofs.SoundLaws.{ends_begin-sound}

-- ---- the test with a mask

module _ (s : Shape) (good : shape_number s ≡ 0) (x : ℕ) (deep : x ≤ total (widths_of s)) (ws : List ℕ)
    (same : ws ≡ widths_of s) where
  pub fixed-bits-asks : Fit ws × (x ≤ total ws)
  fixed-bits-asks = (widths-fit s ws good same, subst (λ v. x ≤ total v) (sym same) deep)

  -- a page's ends agree with a key in the bits that are fixed at depth x: they begin with the key's first x split bits
  pub ends_agree-mask : (bias mask : ℕ) → mask ≡ fixed_bits ws x → (key : ℕ)
      → index_fits (widths_of s) (unpacked_key key) ≡ true → (page : List ℕ) (n : ℕ)
      → ends_agree bias mask key page n ≡ ends_begin (widths_of s) bias x (split_bit (widths_of s) (unpacked_key key)) page n
  unfolding widths_of
  ends_agree-mask bias mask e key fits page n =
      ap (λ m. ends_agree bias m key page n) (e ∙ ap (λ v. fixed_bits v x) same)
      ∙ ends_agree-ends_begin (widths_of s) refl (widths_of-fit s good) x deep key fits bias page n

-- ---- a sound store

-- the page that the word of a string names, against a key of the string's region
pub ends_begin-word : (store : Store) (S : List Record) → Sound store S → (p : ℕ → Bool) (g x : ℕ) → g < 2 ^ 16 - 1
    → word_on store p ≡ word_of (Page g x) → (q : ℕ → Bool) → Agree x q p
    → let s = store.state.shape in
    let page = page_at s.capacity store.memory.bytes g in
    ends_begin (widths_of s) (bias_key s) x q page (count_of page) ≡ true
ends_begin-word store S sound p g x l e q a =
    let s = store.state.shape in
    let page = page_at s.capacity store.memory.bytes g in
    let depth : x ≡ leaf_depth p 0 (division_on store S) =
    sym (ap (λ w. w / 2 ^ 16) e ∙ word_of-depth g x l) ∙ word_on-depth store S sound p in
    ends_begin-agree (widths_of s) (bias_key s) x q p a page (count_of page)
    ∙ ap (λ y. ends_begin (widths_of s) (bias_key s) y p page (count_of page)) depth
    ∙ ends_begin-sound store S sound p g (ap (λ w. w % 2 ^ 16) e ∙ word_of-page g x l)

-- Laws of the record put into its half of a full page, on a sound store: there it stands in split order, and two pages
-- that show the halves show those of the set with the record. Where the page is cut is in `insert_planned`. Assumes
-- nothing.
use Prim.Native.Nat.{ℕ, ◌-◌, ◌≤◌, ◌<◌}
use mathlib.Core.Path.{◌≡◌, refl, sym, ap, ◌∙◌, subst}
use mathlib.Core.Bool.{Bool, true, false, cond}
use mathlib.Core.List.{List}
use lib.ListN.{length, take, drop}
use Rattle.shape.specs.Shape.{widths_of, total}
use Rattle.region.specs.Sets.{sorted, insert}
use Rattle.region.specs.Division.{side}
use Rattle.record.specs.declared.Content.{Content}
use Rattle.record.specs.Lanes.{bias_key}
use Rattle.record.specs.Record.{Record, record_bit}
use Rattle.record.specs.Packed.{packed_key, unpacked_key}
use Rattle.page.specs.Page.{page_at}
use Rattle.page.specs.Changes.{insert_at}
use Rattle.pairs.specs.Pairs.{pair_bit}
use Rattle.page_place.specs.Find.{first_one}
use Rattle.page_place.proofs.SortedLaws.{Between}
use Rattle.insert_planned.proofs.MetLaws.{record_with}
use Rattle.store.specs.Store.{Store}
use Rattle.store.specs.Sound.{Sound}
use Rattle.change.proofs.SharedLaws.{half_with}
use Rattle.change.proofs.HalfLaws.{halves-of-carried}
use Rattle.insert_planned.specs.Found.{InsertAsked, EndsMet}
use Rattle.insert_planned.proofs.CutLaws.{insert-low, insert-high}
use Rattle.insert_planned.proofs.FullLaws.{rs, order, between, step-lt}
use Rattle.insert_planned.proofs.HalfLaws.{take-cut, drop-cut, cut-within, bit_is}

module _ (before : Store) (encoded : List ℕ) (content : Content) (a : InsertAsked before encoded) (g x i pair m : ℕ)
    (e : EndsMet before encoded g x i pair m) (split : pair < 64) (cut : ℕ)
    (cut_at : cut
    ≡ first_one (widths_of before.state.shape) (bias_key before.state.shape) pair
    (page_at before.state.shape.capacity before.memory.bytes g) before.state.shape.capacity 0)
    (S : List Record) (sound : Sound before S) where
  abbrev bit : Record → ℕ → Bool
  bit = record_bit before.state.shape

  abbrev ws : List ℕ
  ws = widths_of before.state.shape

  abbrev W : ℕ
  W = total ws

  abbrev r : Record
  r = record_with encoded content

  abbrev records : List Record
  records = rs before encoded content a g x i pair m e S sound

  abbrev half : Bool → List Record
  half β = cond β (drop cut records) (take cut records)

  low_half : take cut records ≡ side bit false m records
  low_half = take-cut before encoded content a g x i pair m e split cut cut_at S sound

  high_half : drop cut records ≡ side bit true m records
  high_half = drop-cut before encoded content a g x i pair m e split cut cut_at S sound

  in_order : sorted bit W 0 records ≡ true
  in_order = order before encoded content a g x i pair m e S sound

  placed : Between bit W 0 r r records i
  placed = between before encoded content a g x i pair m e S sound

  m-lt : m < W
  m-lt = step-lt before encoded content a g x i pair m e S sound split

  within : cut ≤ length records
  within = cut-within before encoded content a g x i pair m e split cut cut_at S sound

  insert_at-half : (β : Bool) (place : ℕ) → (β ≡ false → (i ≤ cut) × (place ≡ i))
      → (β ≡ true → (cut ≤ i) × (place ≡ i - cut)) → insert_at place r (half β) ≡ insert bit W 0 r (half β)
  insert_at-half true place low high =
      let k = high refl in
      ap (λ j. insert_at j r (drop cut records)) k.1
      ∙ insert-high bit W r r records i in_order placed m m-lt cut within low_half high_half k.0
      ∙ ap (insert bit W 0 r) (sym high_half)
  insert_at-half false place low high =
      let k = low refl in
      ap (λ j. insert_at j r (take cut records)) k.1
      ∙ insert-low bit W r r records i in_order placed m m-lt cut within low_half high_half k.0
      ∙ ap (insert bit W 0 r) (sym low_half)

  -- page g shows the lower half and another the upper one; then that of the key's bit takes the record
  pub halves-with : (h : ℕ) (carried shown : ℕ → List Record) → carried g ≡ take cut records
      → carried h ≡ drop cut records → (β : Bool) → β ≡ pair_bit ws (unpacked_key (packed_key encoded)) pair → (place : ℕ)
      → (β ≡ false → (i ≤ cut) × (place ≡ i)) → (β ≡ true → (cut ≤ i) × (place ≡ i - cut))
      → shown (cond β h g) ≡ insert_at place r (half β) → shown (cond β g h) ≡ carried (cond β g h)
      → (γ : Bool) → shown (cond γ h g) ≡ half_with bit W m r γ records
  halves-with h carried shown c₀ c₁ β there place low high own other =
      let key-bit = bit_is before encoded content a g x i pair m e split cut cut_at S sound β there in
      let taken = own ∙ insert_at-half β place low high ∙ ap (insert bit W 0 r) (sym (half-carried β)) in
      halves-of-carried bit W m r records g h carried shown (c₀ ∙ low_half) (c₁ ∙ high_half)
      (subst (λ δ. shown (cond δ h g) ≡ insert bit W 0 r (carried (cond δ h g))) (sym key-bit) taken)
      (subst (λ δ. shown (cond δ g h) ≡ carried (cond δ g h)) (sym key-bit) other)
    where
      half-carried : (δ : Bool) → carried (cond δ h g) ≡ half δ
      half-carried true = c₁
      half-carried false = c₀

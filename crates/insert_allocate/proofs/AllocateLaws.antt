-- Laws of a page that a leaf newly gets: where none is free, where the leaf is not whole, and else. Assumes nothing.
use Prim.Native.Nat.{ℕ, ◌-◌, ◌^◌, ◌<◌}
use mathlib.Core.Path.{◌≡◌, sym, ap, ◌∙◌, subst}
use mathlib.Core.Bool.{Bool, true, false}
use mathlib.Core.List.{List}
use native.Mathlib.Omega.{arith}
use Rattle.shape.specs.Shape.{widths_of}
use Rattle.shape.specs.declared.Shape.{Shape}
use Rattle.shape.specs.declared.refusal.Refusal.TheVariants as why
use Rattle.split.specs.Bits.{split_bit}
use Rattle.record.specs.Record.{record_bit}
use Rattle.page.specs.Page.{count_of, page_at}
use Rattle.pages.specs.Pages.{free_page}
use Rattle.pages.proofs.FreeLaws.{free_page-le, free_page-none, count_of-free_page}
use Rattle.directory_word.specs.Word.{word_of, depth_field}
use Rattle.directory_word.specs.declared.Leaf.TheVariants.{Empty, Page}
use Rattle.directory_word.proofs.WordLaws.{word_of-depth, word_of-depth-empty}
use Rattle.directory_tests.specs.Intact.{RegionTold}
use Rattle.store.specs.Store.{Store}
use Rattle.store.proofs.ShownLaws.{word_on}
use Rattle.change.proofs.NumberLaws.{NoFreePage}
use Rattle.change.proofs.AddPromiseLaws.{OnSound, add-empty-none, add-full-none}
use Rattle.change.proofs.InsertLaws.{MeetsFull}
use Rattle.change_guard.proofs.LeafLaws.{leaf-told}
use Rattle.insert_cut.specs.declared.Cut.{Cut}
use Rattle.insert_planned.specs.Planned.{NullFound, FullFound, RefusalMet}
use Rattle.insert_planned.specs.declared.Split.{Split}
use Rattle.insert_planned.proofs.RefusalLaws.{refused-by, nine-unsound}
use Rattle.insert_planned.proofs.SplitLaws.{meets-full}
use Rattle.insert_allocate.specs.Planned.{LeafWhole, PageAllocated}
use Rattle.insert_allocate.specs.declared.Plan.TheVariants.{Get, Divide}

module _ (before : Store) (encoded : List ℕ) where
  abbrev s : Shape
  s = before.state.shape

  abbrev P : ℕ
  P = before.state.limits.pages

  abbrev page : ℕ → List ℕ
  page g = page_at s.capacity before.memory.bytes g

  -- what the test of a leaf told
  abbrev Told : ℕ → ℕ → Bool → Type 0
  Told x word held =
      RegionTold (widths_of s) before.state.deepest x (split_bit (widths_of s) encoded) word before.memory.words
      held

  -- ---- the leaf

  -- 9: the key's leaf, of depth x, is not whole
  nine-leaf : (x word : ℕ) → word_on before (split_bit (widths_of s) encoded) ≡ word → depth_field word ≡ x
      → (held : Bool) → Told x word held → held ≡ false → RefusalMet before encoded why.Unsound
  nine-leaf x word own depth held told e =
      nine-unsound before encoded
      (λ S sound. leaf-told before.state before.memory.words encoded x word held told e before.memory.bytes
      own depth S sound)

  -- its word, as the code packs it
  whole_of : (x word own : ℕ) → word ≡ own → (held : Bool) → Told x word held → held ≡ true
      → LeafWhole before encoded x own
  whole_of x word own e held told h = subst (LeafWhole before encoded x) e (told.yes h)

  -- ---- the page

  module _ (free start : ℕ) (e : free ≡ free_page s.capacity before.memory.bytes P start) where
    -- none where the search ends at P
    no-free-page : free ≡ P → NoFreePage before
    no-free-page f = free_page-none s.capacity before.memory.bytes P start (sym e ∙ f)

    -- else one of the P, without records
    free-page : (free ≡ P → ⊥) → (free < P) × (count_of (page free) ≡ 0)
    free-page n =
        let within : free < P = omega (arith, free_page-le s.capacity before.memory.bytes P start) in (
          within,
          subst (λ h. count_of (page h) ≡ 0) (sym e)
              (count_of-free_page s.capacity before.memory.bytes P start (subst (λ h. h < P) e within)),
        )

    -- ---- a leaf without a page

    module _ (x : ℕ) (m : NullFound before encoded x) where
      pub seven-empty : free ≡ P → RefusalMet before encoded why.Pages
      seven-empty f =
          refused-by before encoded why.Pages (λ r. word_on before (record_bit s r) ≡ word_of (Empty x))
          (λ values content early e.
          add-empty-none before values content early x (λ S sound. e) (λ S sound. no-free-page f))
          (λ content. m.own)

      module _ (word : ℕ) (ew : word ≡ word_of (Empty x)) (held : Bool) (told : Told x word held) where
        pub nine-empty : held ≡ false → RefusalMet before encoded why.Unsound
        nine-empty =
            nine-leaf x word (m.own ∙ sym ew) (ap depth_field ew ∙ word_of-depth-empty x) held told

        pub get-planned : (free ≡ P → ⊥) → held ≡ true → PageAllocated before encoded (Get free x)
        get-planned n h =
            let f = free-page n in (
              record { found = m; within = f.0; free = f.1 },
              whole_of x word (word_of (Empty x)) ew held told h,
            )

    -- ---- a full leaf

    module _ (split : Split) (cut : Cut) (m : FullFound before encoded split cut) where
      abbrev own : ℕ
      own = word_of (Page split.page split.depth)

      pub seven-full : free ≡ P → RefusalMet before encoded why.Pages
      seven-full f =
          refused-by before encoded why.Pages
          (λ r. OnSound before (MeetsFull before r split.page split.depth split.step))
          (λ values content early met.
          add-full-none before values content early _ _ _ met (λ S sound. no-free-page f))
          (meets-full before encoded m.asked _ _ _ _ _ m.met.ends-met m.met.differ m.met.below
          m.met.deep)

      module _ (word : ℕ) (ew : word ≡ own) (held : Bool) (told : Told split.depth word held) where
        pub nine-full : held ≡ false → RefusalMet before encoded why.Unsound
        nine-full =
            let met = m.met.ends-met.met in
            let few : split.page < 2 ^ 16 - 1 = omega (arith, met.within, m.asked.pages-lent.few) in
            nine-leaf split.depth word (met.own ∙ sym ew)
            (ap depth_field ew ∙ word_of-depth split.page split.depth few) held told

        pub divide-planned : (free ≡ P → ⊥) → held ≡ true → PageAllocated before encoded (Divide split cut free)
        divide-planned n h =
            let f = free-page n in (
              record { found = m; free-within = f.0; free-none = f.1 },
              whole_of split.depth word own ew held told h,
            )

  -- the word of a full leaf fits its fields
  pub own-word-fits : (split : Split) (cut : Cut) → FullFound before encoded split cut
      → (split.page < 65535) × (split.depth < 16)
  own-word-fits split cut m =
      let a = m.asked in
      let met = m.met.ends-met.met in (
        omega (arith, met.within, a.pages-lent.few),
        omega (arith, met.depth_le, a.within-limit, a.short),
      )

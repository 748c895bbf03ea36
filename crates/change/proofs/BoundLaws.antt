-- Bounds that a sound store keeps. Where the code finds one broken, the store is not sound, and the answer is 9.
-- Assumes nothing.
use Prim.Native.Nat.{ℕ, ◌-◌, ◌^◌, ◌≤◌, ◌<◌}
use mathlib.Core.Path.{◌≡◌, ap, ◌∙◌}
use mathlib.Core.Bool.{Bool, true, false≢true}
use mathlib.Core.List.{List, [], ◌∷◌}
use native.Mathlib.Omega.{arith}
use native.Mathlib.Nat.{zero-add}
use lib.ListN.{length, get_or}
use Rattle.lists.specs.Filter.{non_empty}
use Rattle.region.specs.Division.{tally, leaf_depth, leaf_records}
use Rattle.record.specs.Record.{Record}
use Rattle.page.specs.Page.{count_of, page_at}
use Rattle.page.proofs.FieldLaws.{length-records_from}
use Rattle.directory_word.specs.Word.{word_of}
use Rattle.directory_word.specs.declared.Leaf.TheVariants.{Empty, Page}
use Rattle.store.specs.Store.{Store}
use Rattle.store.specs.Sound.{Sound}
use Rattle.store.proofs.ShownLaws.{page_records, word_on, division_on, LeafWord-page, LeafWord-empty, leaf_depth-le-depth}
use Rattle.store.proofs.SetLaws.{length-leaf_records}
use Rattle.change.proofs.TallyLaws.{get_d-tallies, tally-leaf_depth, tally-le}

module _ (before : Store) (S : List Record) (sound : Sound before S) where
  -- ---- the tally

  pub get_d-leaves : (i : ℕ) → i < 13 → get_or before.state.tally.leaves i 0 ≡ tally (division_on before S) i
  get_d-leaves i l =
      ap (λ leaves. get_or leaves i 0) sound.tallied
      ∙ get_d-tallies (division_on before S) 0 13 i l
      ∙ ap (tally (division_on before S)) (zero-add i)

  pub leaves-le : (i : ℕ) → i < 13 → get_or before.state.tally.leaves i 0 ≤ 2 ^ i
  leaves-le i l = omega (arith, get_d-leaves i l, tally-le (division_on before S) i)

  -- ---- the word of a string

  module _ (p : ℕ → Bool) where
    -- its leaf is counted
    pub leaf-counted : 1 ≤ get_or before.state.tally.leaves (leaf_depth p 0 (division_on before S)) 0
    leaf-counted =
        omega (
          arith,
          get_d-leaves (leaf_depth p 0 (division_on before S))
              (omega (arith, leaf_depth-le-depth before S sound p, sound.depth-within, sound.depth-limit)),
          tally-leaf_depth p 0 (division_on before S),
        )

    module _ (x : ℕ) (word : word_on before p ≡ word_of (Empty x)) where
      empty-depth : leaf_depth p 0 (division_on before S) ≡ x
      empty-depth =
          (LeafWord-empty before.state.shape before.state.limits.pages before.memory.bytes
          sound.most-pages (leaf_records p 0 (division_on before S)) (leaf_depth p 0 (division_on before S))
          (word_on before p) (sound.shown.word p) x word).0

    module _ (g x : ℕ) (l : g < 2 ^ 16 - 1) (word : word_on before p ≡ word_of (Page g x)) where
      parts : (g < before.state.limits.pages) × (leaf_depth p 0 (division_on before S) ≡ x)
          × (page_records before.state.shape before.memory.bytes g ≡ leaf_records p 0 (division_on before S))
          × (non_empty (leaf_records p 0 (division_on before S)) ≡ true)
      parts =
          LeafWord-page before.state.shape before.state.limits.pages before.memory.bytes
          sound.most-pages (leaf_records p 0 (division_on before S)) (leaf_depth p 0 (division_on before S))
          (word_on before p) (sound.shown.word p) g x l word

      -- "word with page number P"
      pub page-lt : g < before.state.limits.pages
      page-lt = parts.0

      -- from 1 to b records
      pub count-bounds : (1 ≤ count_of (page_at before.state.shape.capacity before.memory.bytes g))
          × (count_of (page_at before.state.shape.capacity before.memory.bytes g)
          ≤ before.state.shape.capacity)
      count-bounds =
          let b = before.state.shape.capacity in
          let page = page_at b before.memory.bytes g in
          let shown = length-records_from before.state.shape (count_of page) 2 page in
          let same = ap length parts.2 in (
            omega (arith, shown, same, some (leaf_records p 0 (division_on before S)) parts.3),
            omega (arith, shown, same, length-leaf_records before.state.shape S sound.set sound.shape p),
          )
        where
          some : (rs : List Record) → non_empty rs ≡ true → 1 ≤ length rs
          some [] e = absurd (false≢true e)
          some (r ∷ rs) e = omega arith

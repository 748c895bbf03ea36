-- Laws of a record that is added to a full leaf: what the steps ask holds, and what they leave keeps the promise.
-- Assumes nothing.
use Prim.Native.Nat.{ℕ, suc, ◌+◌, ◌-◌, ◌^◌, max, ◌≤◌, ◌<◌}
use mathlib.Core.Path.{◌≡◌, refl, sym, ap, ◌∙◌, subst}
use mathlib.Core.Bool.{false}
use mathlib.Core.List.{List}
use native.Mathlib.Omega.{arith}
use native.Mathlib.Nat.{le_trans}
use lib.ListN.{length}
use lib.Pow.{pow_mono}
use Rattle.shape.specs.Shape.{widths_of, total, shape_number}
use Rattle.shape.specs.declared.Shape.{Shape}
use Rattle.shape.proofs.ShapeLaws.{widths_of-fit, capacity-bounds}
use Rattle.split.specs.Bits.{split_bit}
use Rattle.directory_lent.specs.Lent.{DirectoryLent}
use Rattle.record.specs.declared.Content.{Content}
use Rattle.record.specs.Lanes.{fields_key}
use Rattle.record.specs.Packed.{packed_key, packed_bytes}
use Rattle.pairs.specs.Pairs.{pair_bit}
use Rattle.pairs.proofs.PlaceLaws.{split_bit-place}
use Rattle.pages.specs.Pages.{PageLent}
use Rattle.directory_word.specs.Word.{word_of}
use Rattle.directory_word.specs.declared.Leaf.TheVariants.{Page}
use Rattle.store.specs.Store.{Store, memory, store}
use Rattle.store.specs.Contained.{Contained}
use Rattle.store.specs.declared.State.{State}
use Rattle.tally.specs.Tally.{tally_holds}
use Rattle.refusals.proofs.PassedLaws.{unpacked_key-passed}
use Rattle.change.specs.Divided.{Deepened, LeavesSet, divided_tally}
use Rattle.change.proofs.RegionLaws.{changed_store}
use Rattle.change_kept.specs.Tested.{LeafTested}
use Rattle.change_kept.proofs.ContainedLaws.{contained-divided}
use Rattle.insert_cut.specs.declared.Cut.{Cut}
use Rattle.insert_planned.specs.Found.{InsertAsked}
use Rattle.insert_planned.specs.Planned.{SplitMet, DividePlanned}
use Rattle.insert_planned.specs.declared.Split.{Split}
use Rattle.insert_pages.specs.Inserted.{CutFits, divided_pages}
use Rattle.insert_words.specs.Divided.{DoublingAsked, DirectoryDoubled, LeavesAsked, TallyAsked, LeavesCounted}
use Rattle.insert_words.specs.Divided.{WordsDivided}
use Rattle.insert_promise.proofs.TakeLaws.{AcceptedMet}
use Rattle.insert_promise.proofs.DividedLaws.{lent-own, lent-free, start-le, place-le}
use Rattle.insert_promise.proofs.SplitLaws.{promise-divided}

module _ (before : Store) (encoded : List ℕ) (content : Content) where
  abbrev s : Shape
  s = before.state.shape

  abbrev b : ℕ
  b = s.capacity

  abbrev bytes : List ℕ
  bytes = before.memory.bytes

  module _ (small : content.payload < 2 ^ 32) (key : ℕ) (ek : key ≡ fields_key s (packed_key encoded)) where
    module _ (split : Split) (cut : Cut) (free : ℕ) (dividing : DividePlanned before encoded split cut free)
        (whole : LeafTested before.state before.memory.words encoded split.depth
        (word_of (Page split.page split.depth))) where
      abbrev a : InsertAsked before encoded
      a = dividing.found.asked

      abbrev met : SplitMet before encoded split
      met = dividing.found.met

      key-bit : cut.bit ≡ split_bit (widths_of s) encoded split.step
      key-bit =
          dividing.found.half.bit-there
          ∙ ap (λ k. pair_bit (widths_of s) k split.pair) (unpacked_key-passed before encoded a.passed)
          ∙ sym (split_bit-place (widths_of s) (widths_of-fit s a.passed.shape) encoded split.pair
          (met.ends-met.ends.step-there met.differ))
          ∙ ap (split_bit (widths_of s) encoded) (sym met.ends-met.step)

      pub doubling-asked : DoublingAsked before.state split (length before.memory.words)
      doubling-asked =
          record {
            shape = a.passed.shape;
            lent = a.passed.words-lent;
            short = a.short;
            bits = a.bits;
            within-limit = a.within-limit;
            deep = met.deep;
          }

      pub tally-asked : (st : State) → st.tally ≡ before.state.tally → TallyAsked st split
      tally-asked st e =
          record {
            below = met.below;
            short = omega (arith, met.deep, a.short);
            tally = ap (λ y. tally_holds y.leaves) e ∙ met.tally;
          }

      pub pages-lent : PageLent b split.page bytes × PageLent b free bytes
      pages-lent = (
        lent-own before encoded content a small split cut free dividing,
        lent-free before encoded content a small split cut free dividing,
      )

      pub cut_fits : CutFits b cut
      cut_fits =
          record {
            capacity-le = (capacity-bounds s a.passed.shape).1;
            start-le = start-le before encoded content a small split cut free dividing;
            place-le = place-le before encoded content a small split cut free dividing;
            room = dividing.found.half.room;
          }

      -- ---- once the directory is doubled

      module _ (deeper : State) (doubled : List ℕ)
          (d : DirectoryDoubled before.state split before.memory.words deeper doubled) where
        pub leaves-asked : DirectoryLent deeper (length doubled)
            × LeavesAsked deeper encoded split cut.bit free
        leaves-asked =
            let deep : deeper.deepest ≡ max before.state.deepest (suc split.step) =
            ap (λ st. st.deepest) d.state in
            let limit : deeper.deepest ≤ before.state.limits.depth =
            omega (arith, deep, a.within-limit, met.deep) in
            let same : deeper.shape ≡ s = ap (λ st. st.shape) d.state in (
              record {
                shape = ap shape_number same ∙ a.passed.shape;
                deep =
                    subst (λ v. deeper.deepest ≤ total (widths_of v)) (sym same) (le_trans limit a.bits);
                short = le_trans limit a.short;
                room =
                    subst (λ n. 2 ^ deeper.deepest ≤ n) (sym d.deepened.size)
                    (le_trans (pow_mono limit) a.passed.words-lent);
              },
              record {
                below = met.below;
                deep = omega (arith, deep);
                page-lt = omega (arith, met.ends-met.met.within, a.pages-lent.few);
                free-lt = omega (arith, dividing.free-within, a.pages-lent.few);
                bit_is = key-bit ∙ ap (λ v. split_bit (widths_of v) encoded split.step) (sym same);
              },
            )

        -- the words set and the leaves counted
        words-divided : (words' : List ℕ)
            → LeavesSet (widths_of deeper.shape) deeper.deepest split.depth split.step
            (split_bit (widths_of deeper.shape) encoded) split.page free doubled words'
            → (after : State) → LeavesCounted deeper split after
            → WordsDivided before.state encoded split free before.memory.words after words'
        words-divided words' l after c =
            record {
              doubled = doubled;
              state =
                  c.state
                  ∙ ap (with-depth deeper) (sym same-depth)
                  ∙ ap (λ st. with-depth st after.deepest) d.state;
              deeper = same-depth ∙ ap (λ st. st.deepest) d.state;
              tallied =
                  c.tallied
                  ∙ ap (λ st. divided_tally split.depth (suc (split.step - split.depth)) st.tally.leaves)
                  d.state;
              deepened =
                  subst
                  (λ u. Deepened (widths_of s) before.state.deepest u before.memory.words doubled)
                  (sym same-depth) d.deepened;
              leaves =
                  subst (λ v. leaves_at v after.deepest) (ap (λ st. st.shape) d.state)
                  (subst (leaves_at deeper.shape) (sym same-depth) l);
            }
          where
            same-depth : after.deepest ≡ deeper.deepest
            same-depth = ap (λ st. st.deepest) c.state

            with-depth : State → ℕ → State
            with-depth st t = record { shape = st.shape; limits = st.limits; deepest = t; tally = after.tally }

            leaves_at : Shape → ℕ → Type 0
            leaves_at v t =
                LeavesSet (widths_of v) t split.depth split.step (split_bit (widths_of v) encoded) split.page free
                doubled words'

        pub by-divided : (words' : List ℕ)
            → LeavesSet (widths_of deeper.shape) deeper.deepest split.depth split.step
            (split_bit (widths_of deeper.shape) encoded) split.page free doubled words'
            → (after : State) → LeavesCounted deeper split after → (bytes' : List ℕ)
            → bytes' ≡ divided_pages b split.page free cut (packed_bytes key content) bytes
            → AcceptedMet before encoded content (split.step + 1) (store after words' bytes')
        by-divided words' l after c bytes' e =
            subst (λ st. AcceptedMet before encoded content (split.step + 1) (store st words' bytes'))
            (sym w.state)
            (subst
            (λ bs. AcceptedMet before encoded content (split.step + 1)
            (changed_store before after.deepest after.tally (memory words' bs)))
            (sym (e ∙ ap (λ k. divided_pages b split.page free cut (packed_bytes k content) bytes) ek))
            (promise-divided before encoded content a small split cut free dividing after.deepest after.tally
            w.doubled words' w.deeper w.tallied w.deepened w.leaves contained))
          where
            w : WordsDivided before.state encoded split free before.memory.words after words'
            w = words-divided words' l after c

            new : List ℕ
            new = divided_pages b split.page free cut (packed_bytes (fields_key s (packed_key encoded)) content) bytes

            contained : Contained false before
                (changed_store before after.deepest after.tally (memory words' new))
                (split_bit (widths_of s) encoded)
            contained =
                subst (λ st. Contained false before (store st words' new) (split_bit (widths_of s) encoded)) w.state
                (contained-divided before encoded (fields_key s (packed_key encoded)) content split cut free dividing pages-lent
                cut_fits whole after words' w new refl)

-- Laws of an insert that divides a full leaf: what was planned and done keeps the promise of `add`. Assumes nothing.
use Prim.Native.Nat.{ℕ, suc, ◌+◌, ◌-◌, max, ◌^◌, ◌≤◌, ◌<◌}
use mathlib.Core.Path.{◌≡◌, refl, sym, subst}
use mathlib.Core.Bool.{false, cond}
use mathlib.Core.List.{List}
use native.Mathlib.Omega.{arith}
use native.Mathlib.Numerals.{add-one}
use Rattle.lists.proofs.Bools.{cond_cases}
use Rattle.shape.specs.Shape.{widths_of}
use Rattle.shape.specs.declared.Shape.{Shape}
use Rattle.split.specs.Bits.{split_bit}
use Rattle.record.specs.declared.Content.{Content}
use Rattle.record.specs.Record.{Record}
use Rattle.record.specs.Lanes.{fields_key}
use Rattle.record.specs.Packed.{packed_key, packed_bytes}
use Rattle.store.specs.Store.{Store, memory}
use Rattle.store.specs.Contained.{Contained}
use Rattle.store.specs.declared.Tally.{Tally}
use Rattle.change.specs.Divided.{Deepened, LeavesSet, divided_tally}
use Rattle.change.proofs.RegionLaws.{changed_store}
use Rattle.change.proofs.PromiseLaws.{drop-of-past, keeps-others}
use Rattle.change.proofs.DirectoryLaws.{divided-past, divided-size}
use Rattle.change.proofs.InsertLaws.{DividedLeaf}
use Rattle.change.proofs.AddPromiseLaws.{OnSound, add-divided}
use Rattle.insert_planned.specs.Found.{InsertAsked}
use Rattle.insert_planned.specs.Planned.{DividePlanned}
use Rattle.insert_planned.specs.declared.Split.{Split}
use Rattle.insert_cut.specs.declared.Cut.{Cut}
use Rattle.insert_planned.proofs.MetLaws.{record_with}
use Rattle.insert_planned.proofs.SplitLaws.{meets-full}
use Rattle.insert_pages.specs.Inserted.{divided_pages}
use Rattle.insert_promise.proofs.TakeLaws.{AcceptedMet, depth-there}
use Rattle.insert_promise.proofs.DividedLaws.{length-divided, drop-divided, others-divided, shows-divided}

module _ (before : Store) (encoded : List ℕ) (content : Content) (a : InsertAsked before encoded)
    (small : content.payload < 2 ^ 32) (split : Split) (cut : Cut) (free : ℕ)
    (t : DividePlanned before encoded split cut free) (depth' : ℕ) (tally' : Tally) (words₁ words' : List ℕ)
    (deeper : depth' ≡ max before.state.deepest (suc split.step))
    (tallied : tally'.leaves
    ≡ divided_tally split.depth (suc (split.step - split.depth)) before.state.tally.leaves)
    (deepened : Deepened (widths_of before.state.shape) before.state.deepest depth' before.memory.words
    words₁)
    (leaves : LeavesSet (widths_of before.state.shape) depth' split.depth split.step
    (split_bit (widths_of before.state.shape) encoded) split.page free words₁ words') where
  abbrev s : Shape
  s = before.state.shape

  abbrev r : Record
  r = record_with encoded content

  abbrev after : List ℕ
  after = divided_pages s.capacity split.page free cut (packed_bytes (fields_key s (packed_key encoded)) content)
      before.memory.bytes

  divided : OnSound before
      (DividedLeaf before r split.page free split.depth split.step depth' tally' words₁ words' after)
  divided S sound =
      record {
        met =
            meets-full before encoded a split.page split.depth split.behind split.pair split.step
            t.found.met.ends-met t.found.met.differ t.found.met.below t.found.met.deep content S
            sound;
        within = t.free-within;
        free = t.free-none;
        depth = deeper;
        tally = tallied;
        deepened = deepened;
        leaves = leaves;
        shows = shows-divided before encoded content a small split cut free t S sound;
        others = λ k l n o. others-divided before encoded content a small split cut free t k n o;
      }

  pub depth-le-limit : depth' ≤ before.state.limits.depth
  depth-le-limit = omega (arith, deeper, a.within-limit, t.found.met.deep)

  -- the page of the key's half has a number
  page-few : cond (split_bit (widths_of s) encoded split.step) free split.page < 2 ^ 16 - 1
  page-few =
      cond_cases (λ g. g < 2 ^ 16 - 1) (split_bit (widths_of s) encoded split.step) free split.page
      (λ e. omega (arith, t.free-within, a.pages-lent.few))
      (λ e. omega (arith, t.found.met.ends-met.met.within, a.pages-lent.few))

  pub promise-divided : Contained false before (changed_store before depth' tally' (memory words' after))
      (split_bit (widths_of s) encoded)
      → AcceptedMet before encoded content (split.step + 1) (changed_store before depth' tally' (memory words' after))
  promise-divided contained values early same =
      rw (add-one split.step)
      (add-divided before values content early split.page free split.depth split.step depth' tally'
      words₁ words' after
      (subst
      (λ k. OnSound before
      (DividedLeaf before (record_with k content) split.page free split.depth split.step depth' tally' words₁
      words' after))
      (sym same) divided)
      (record {
        words-length =
            divided-size (widths_of s) before.state.deepest depth' split.depth split.step _ split.page free
            before.memory.words words₁ words' deepened leaves;
        bytes-length = length-divided before encoded content a small split cut free t;
        words-past =
            drop-of-past depth' before.state.limits.depth before.memory.words words' depth-le-limit
            (divided-size (widths_of s) before.state.deepest depth' split.depth split.step _ split.page free
            before.memory.words words₁ words' deepened leaves)
            (divided-past (widths_of s) before.state.deepest depth' split.depth split.step _ split.page free
            before.memory.words words₁ words' deepened leaves);
        bytes_past = drop-divided before encoded content a small split cut free t;
      })
      (keeps-others false before encoded values same _ contained)
      (depth-there (changed_store before depth' tally' (memory words' after)) encoded values same _ _ page-few
      (leaves.half _ (λ i l. refl))))

-- Laws of the halves of a full page, on a sound store: the cut parts the records by their bit at the step, and a new
-- key falls into its own half, which has room. Assumes nothing.
use Prim.Native.Nat.{ℕ, suc, ◌+◌, ◌-◌, ◌/◌, ◌%◌, ◌≤◌, ◌<◌}
use mathlib.Core.Path.{◌≡◌, sym, ap, ◌∙◌, subst}
use mathlib.Core.Bool.{Bool, true, false, cond}
use mathlib.Core.List.{List}
use native.Mathlib.Omega.{arith}
use native.Mathlib.Nat.{zero-add}
use lib.ListN.{length, get_or, take, drop, length-take, length-drop}
use Rattle.shape.specs.Shape.{widths_of, total}
use Rattle.shape.specs.declared.Shape.{Shape}
use Rattle.split.specs.Steps.{steps_below}
use Rattle.split.specs.Bits.{split_bit}
use Rattle.region.specs.Sets.{sorted}
use Rattle.region.specs.Division.{side}
use Rattle.record.specs.declared.Content.{Content}
use Rattle.record.specs.Record.{Record, record_bit}
use Rattle.record.specs.Lanes.{bias_key}
use Rattle.record.specs.Packed.{packed_key, unpacked_key}
use Rattle.page.specs.Page.{page_at}
use Rattle.pairs.specs.Pairs.{pair_bit}
use Rattle.pairs.proofs.PlaceLaws.{split_bit-place}
use Rattle.page_place.specs.Find.{first_one}
use Rattle.page_place.proofs.OneLaws.{first_one-le, take-first_one, drop-first_one}
use Rattle.store.specs.Store.{Store}
use Rattle.store.specs.Sound.{Sound}
use Rattle.change.proofs.SharedLaws.{sorted-shared}
use Rattle.insert_planned.specs.Found.{InsertAsked, EndsMet}
use Rattle.lists.proofs.FilterLaws.{length-filter-lt}
use Rattle.insert_planned.proofs.CutLaws.{place-low, place-high}
use Rattle.insert_planned.proofs.MetLaws.{record_with, page-bytes, key-is}
use Rattle.insert_planned.proofs.FullLaws.{rs, order, between, size, fit, step-lt, shared-bits, differ}

module _ (before : Store) (encoded : List ℕ) (content : Content) (a : InsertAsked before encoded) (g x i pair m : ℕ)
    (e : EndsMet before encoded g x i pair m) (split : pair < 64) (cut : ℕ)
    (cut_at : cut
    ≡ first_one (widths_of before.state.shape) (bias_key before.state.shape) pair
    (page_at before.state.shape.capacity before.memory.bytes g) before.state.shape.capacity 0) where
  abbrev s : Shape
  s = before.state.shape

  abbrev ws : List ℕ
  ws = widths_of s

  abbrev b : ℕ
  b = s.capacity

  abbrev r : Record
  r = record_with encoded content

  abbrev page : List ℕ
  page = page_at b before.memory.bytes g

  -- on any store
  pub cut-le : cut ≤ b
  cut-le = omega (arith, cut_at, first_one-le ws (bias_key s) pair page b 0)

  module _ (S : List Record) (sound : Sound before S) where
    abbrev records : List Record
    records = rs before encoded content a g x i pair m e S sound

    abbrev t : ℕ
    t = length (steps_below ws pair)

    live : pair / 4 < get_or ws (pair % 4) 0
    live = e.ends.step-there split

    m-lt : m < total ws
    m-lt = step-lt before encoded content a g x i pair m e S sound split

    -- from the step on the records are in split order
    order-there : sorted (record_bit s) (suc (total ws - suc m)) t records ≡ true
    order-there =
        let rest : m + suc (total ws - suc m) ≡ total ws = omega (arith, m-lt) in
        subst (λ u. sorted (record_bit s) (suc (total ws - suc m)) u records ≡ true) e.step
        (sorted-shared (record_bit s) m (suc (total ws - suc m)) 0 m (zero-add m) (record_bit s r) records
        (shared-bits before encoded content a g x i pair m e S sound split)
        (ap (λ n. sorted (record_bit s) n 0 records) rest
        ∙ order before encoded content a g x i pair m e S sound))

    pub take-cut : take cut records ≡ side (record_bit s) false m records
    take-cut =
        rw (cut_at, e.step)
        (take-first_one s a.passed.shape (fit before encoded content a g x i pair m e S sound) pair live page
        (page-bytes before encoded content a g x b e.met) (total ws - suc m) b order-there)

    pub drop-cut : drop cut records ≡ side (record_bit s) true m records
    drop-cut =
        rw (cut_at, e.step)
        (drop-first_one s a.passed.shape (fit before encoded content a g x i pair m e S sound) pair live page
        (page-bytes before encoded content a g x b e.met) (total ws - suc m) b order-there)

    pub cut-within : cut ≤ length records
    cut-within = omega (arith, cut-le, size before encoded content a g x i pair m e S sound)

    module _ (bit : Bool) (bit-there : bit ≡ pair_bit ws (unpacked_key (packed_key encoded)) pair) where
      -- the key's bit
      pub bit_is : record_bit s r m ≡ bit
      bit_is =
          ap (record_bit s r) e.step
          ∙ ap (λ k. split_bit ws k t) (key-is before encoded content a g x b e.met)
          ∙ split_bit-place ws (fit before encoded content a g x i pair m e S sound)
          (unpacked_key (packed_key encoded)) pair live
          ∙ sym bit-there

      pub falls-low : bit ≡ false → i ≤ cut
      falls-low c =
          place-low (record_bit s) (total ws) r r records i
          (order before encoded content a g x i pair m e S sound)
          (between before encoded content a g x i pair m e S sound) m m-lt cut cut-within take-cut drop-cut
          (shared-bits before encoded content a g x i pair m e S sound split) (bit_is ∙ c)

      pub falls-high : bit ≡ true → cut ≤ i
      falls-high c =
          place-high (record_bit s) (total ws) r r records i
          (order before encoded content a g x i pair m e S sound)
          (between before encoded content a g x i pair m e S sound) m m-lt cut cut-within take-cut drop-cut
          (shared-bits before encoded content a g x i pair m e S sound split) (bit_is ∙ c)

      -- not all records have it
      pub half_room : cond bit (b - cut) cut < b
      half_room = go bit bit_is
        where
          fewer : (β : Bool) → record_bit s r m ≡ β → length (side (record_bit s) β m records) < b
          fewer β c =
              let none = differ before encoded content a g x i pair m e S sound split in
              omega (
                arith,
                length-filter-lt _ records (rw c at none),
                size before encoded content a g x i pair m e S sound,
              )

          go : (β : Bool) → record_bit s r m ≡ β → cond β (b - cut) cut < b
          go true c =
              omega (
                arith,
                fewer true c,
                ap length drop-cut,
                length-drop cut records,
                size before encoded content a g x i pair m e S sound,
              )
          go false c =
              omega (
                arith,
                fewer false c,
                ap length take-cut,
                length-take cut records,
                size before encoded content a g x i pair m e S sound,
              )

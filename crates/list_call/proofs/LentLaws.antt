-- Laws of a tested state: what a walk asks of it; the early numbers on a sound store. Assumes nothing.
use Prim.Native.Nat.{ℕ, ◌^◌, ◌≤◌}
use mathlib.Core.Path.{◌≡◌}
use mathlib.Core.Bool.{true}
use mathlib.Core.List.{List}
use native.Mathlib.Omega.{arith}
use lib.ListN.{length}
use lib.Pow.{pow_mono}
use Rattle.shape.proofs.ShapeLaws.{in_bounds-of, shape_number-true}
use Rattle.region.specs.Query.{QueryBit, LeafTest}
use Rattle.record.specs.Record.{Record}
use Rattle.store.specs.declared.State.{State}
use Rattle.store.specs.Store.{store}
use Rattle.store.specs.Promises.{SoundWhere}
use Rattle.refusals.specs.Limits.{limits_hold}
use Rattle.refusals.specs.Lengths.{MemoryLent, lent_number_by}
use Rattle.refusals.proofs.LentLaws.{lent_number_by-none}
use Rattle.refusals.proofs.LimitsLaws.{limited}
use Rattle.query_rows.specs.Rows.{Table, most_pages}
use Rattle.query_walk.specs.Noting.{Walkable}
use Rattle.list_call.specs.Lent.{LimitsLent}

module _ (st : State) (words bytes : ℕ) where
  -- nothing is refused with 1, 14, 15 or 2, and the limits hold
  pub limits_lent : MemoryLent st words bytes → limits_hold st ≡ true → LimitsLent st words bytes
  limits_lent lent can =
      let l = limited st can in
      let p : 2 ^ st.deepest ≤ 2 ^ st.limits.depth =
      pow_mono {i = st.deepest} {j = st.limits.depth} l.depth-within in
      record {
        shape = in_bounds-of st.shape lent.shape;
        depth-twelve = omega (arith, l.depth-within, l.depth-limit);
        depth-bits = omega (arith, l.depth-within, l.depth-bits);
        words-lent = omega (arith, lent.words-lent, p);
        most-pages = l.most-pages;
        pages-lent = lent.pages-lent;
      }

  module _ (lent : LimitsLent st words bytes) where
    -- no walk notes more than 4,096 pages
    pub deepest-few : 2 ^ st.deepest ≤ 4096
    deepest-few = pow_mono {i = st.deepest} {j = 12} lent.depth-twelve

    -- with the table of a query, and room for the pages that its rows let in
    pub walkable : (q : ℕ → QueryBit) (rows : List ℕ) (room : ℕ) → Table st q rows
        → most_pages rows st.deepest 0 ≤ room
        → Walkable st rows words bytes room
    walkable q rows room t l = record {
      shape = lent.shape;
      depth-twelve = lent.depth-twelve;
      depth-bits = lent.depth-bits;
      words-lent = lent.words-lent;
      most-pages = lent.most-pages;
      pages-lent = lent.pages-lent;
      query = q;
      table = t;
      list-lent = l;
    }

-- a store that is sound where a call reads it has the memory
pub lent_number_by-sound : (st : State) (words bytes : List ℕ) (reads : LeafTest Record) (S : List Record)
    → SoundWhere (store st words bytes) reads S → lent_number_by st (length words) (length bytes) ≡ 0
lent_number_by-sound st words bytes reads S h =
    lent_number_by-none st (length words) (length bytes)
    (record {
      shape = shape_number-true st.shape h.1.shape;
      words-lent = h.1.words-lent;
      pages-lent = omega (arith, h.1.pages-lent, h.2);
    })

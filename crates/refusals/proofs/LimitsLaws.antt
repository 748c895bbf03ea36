-- Laws of the limits: one for each way that the test ends; what it leaves; a sound store passes it. Assumes nothing.
use Prim.Native.Nat.{ℕ, ◌≤◌, ◌<◌}
use mathlib.Core.Path.{◌≡◌, sym, ◌∙◌}
use mathlib.Core.Bool.{true, false, ◌&&◌}
use mathlib.Core.List.{List}
use native.Mathlib.Omega.{arith}
use lib.Dec.{leb}
use borrow.Author.Tests.{le-leb, lt-leb, leb-true}
use Rattle.lists.proofs.Bools.{and_split}
use Rattle.shape.specs.Shape.{within, widths_of, total}
use Rattle.record.specs.Record.{Record}
use Rattle.store.specs.Store.{Store}
use Rattle.store.specs.Sound.{Sound}
use Rattle.store.specs.declared.State.{State}
use Rattle.refusals.specs.Limits.{limits_hold}

module _ (st : State) where
  abbrev P : ℕ
  P = st.limits.pages

  abbrev L : ℕ
  L = st.limits.depth

  abbrev W : ℕ
  W = total (widths_of st.shape)

  -- ---- by case

  pub limits_hold-no-page : P < 1 → false ≡ limits_hold st
  unfolding limits_hold
  limits_hold-no-page h = rw (lt-leb 1 P h)

  pub limits_hold-pages : 4096 < P → false ≡ limits_hold st
  unfolding limits_hold
  limits_hold-pages h = rw (le-leb 1 P (omega arith), lt-leb P 4096 h)

  module _ (some : 1 ≤ P) (few : P ≤ 4096) where
    pub limits_hold-deep : 12 < L → false ≡ limits_hold st
    unfolding limits_hold
    limits_hold-deep h = rw (le-leb 1 P some, le-leb P 4096 few, lt-leb L 12 h)

    pub limits_hold-bits : L ≤ 12 → W < L → false ≡ limits_hold st
    unfolding limits_hold
    limits_hold-bits l h = rw (le-leb 1 P some, le-leb P 4096 few, le-leb L 12 l, lt-leb L W h)

    -- within the others, T decides
    pub limits_hold-depth : L ≤ 12 → L ≤ W → leb st.deepest L ≡ limits_hold st
    unfolding limits_hold
    limits_hold-depth l h = rw (le-leb 1 P some, le-leb P 4096 few, le-leb L 12 l, le-leb L W h)

  -- ---- what the test leaves

  -- under the names that `Sound` has for them
  pub record Limited : Type 0 where
    pub some-page : 1 ≤ P
    pub most-pages : P ≤ 4096
    pub depth-limit : L ≤ 12
    pub depth-bits : L ≤ W
    pub depth-within : st.deepest ≤ L

  pub limited : limits_hold st ≡ true → Limited
  unfolding limits_hold
  limited e =
      let T = st.deepest in
      let pages = and_split (within 1 4096 P) (leb L 12 && (leb L W && leb T L)) e in
      let some = and_split (leb 1 P) (leb P 4096) pages.0 in
      let depth = and_split (leb L 12) (leb L W && leb T L) pages.1 in
      let last = and_split (leb L W) (leb T L) depth.1 in
      record {
        some-page = leb-true 1 P some.0;
        most-pages = leb-true P 4096 some.1;
        depth-limit = leb-true L 12 depth.0;
        depth-bits = leb-true L W last.0;
        depth-within = leb-true T L last.1;
      }

  -- the same by place
  pub limits-parts : limits_hold st ≡ true
      → (1 ≤ P) × (P ≤ 4096) × (L ≤ 12) × (L ≤ W) × (st.deepest ≤ L)
  limits-parts e =
      let l = limited e in
      (l.some-page, l.most-pages, l.depth-limit, l.depth-bits, l.depth-within)

-- ---- a sound store

pub limits-of-sound : (before : Store) (S : List Record) → Sound before S → limits_hold before.state ≡ true
limits-of-sound before S sound =
    let st = before.state in
    sym (limits_hold-depth st sound.some-page sound.most-pages sound.depth-limit sound.depth-bits)
    ∙ le-leb st.deepest st.limits.depth sound.depth-within

-- Each way that the function ends is a law of a region's test; T − x falls.
use Rattle.std.proofs.Common.{◌≡◌, ◌-◌, ◌≤◌, ◌<◌, ℕ, Bool, true, false, List, length, get_or, None, Some, refl, sym, ap, ◌∙◌, arith}
use mathlib.Core.Path.{subst}
use Rattle.std.specs.Prelude.{Option}
use Rattle.shape.specs.declared.Widths.{Widths}
use Rattle.shape.specs.Shape.{width_list}
use Rattle.store.specs.declared.State.{State}
use Rattle.region.specs.Strings.{with_bit}
use Rattle.record.specs.Record.{Record}
use Rattle.directory_word.specs.Word.{depth_field}
use Rattle.check_test.specs.Walk.{View, region_test, read_division}
use Rattle.check_seen.specs.declared.Seen.{Seen}
use Rattle.check_seen.specs.Seen.{joined_seen, JoinFits}
use Rattle.check_walk.specs.declared.regions.Region.{Region}
use Rattle.check_walk.specs.declared.regions.Sides.{Sides}
use Rattle.check_walk.specs.Regions.{RegionNamed, SidesOf}
use Rattle.check_walk.specs.Sums.{view_by, Tells, Walks, Walked, TallyRoom}
use Rattle.check_walk.proofs.RegionLaws.{cell_word-first, region-lt}
use Rattle.check_walk.proofs.LeafLaws.{sub-walks}
use Rattle.check_walk.proofs.DividedLaws.{region-leaf, region-too-deep, Divided, room-lower, region-lower-fails}
use Rattle.check_walk.proofs.DividedLaws.{room-upper, region-upper-fails, sums-fit, region-joined}
use Rattle.check_walk.proofs.+walk.Goals as goal

module _ (st : State) (w : Widths) (r : Region) (words bytes : List ℕ)
    (k : Walks st (width_list w) (length words) (length bytes) r) where
  low : (r.address < length words) × (r.address < 4096)
  low = region-lt w.w0 w.w1 w.w2 w.w3 r k.region st.deepest _ k.directory k.within

  module _ (p : ℕ → Bool) (n : RegionNamed (width_list w) r p) where
    abbrev view : View Record
    view = view_by (width_list w) st words bytes

    -- what is told of the region
    abbrev Tell : List ℕ → Option Seen → List ℕ → Type 0
    Tell before told after =
        Tells r.depth before told after (region_test view (st.deepest - r.depth) p r.depth)
        (read_division view (st.deepest - r.depth) p r.depth)

    module _ (d : ℕ) (e : d ≡ depth_field (get_or words r.address 0)) where
      -- the depth of the word, as the test has it
      depth : d ≡ depth_field (view.word p)
      depth =
          e ∙ ap depth_field
          (sym (cell_word-first w.w0 w.w1 w.w2 w.w3 r k.region st.deepest _ k.directory k.within words p n))

      shallow : d ≤ r.depth → depth_field (view.word p) ≤ r.depth
      shallow l = subst (λ y. y ≤ r.depth) depth l

      module _ (l : r.depth < d) where
        deeper : r.depth < depth_field (view.word p)
        deeper = subst (λ y. r.depth < y) depth l

        -- the region is divided, and a step is left
        module _ (left : r.depth < st.deepest) (h : Sides) (s : SidesOf (width_list w) r h) where
          abbrev y : ℕ
          y = h.lower.depth

          divided : Divided view (st.deepest - r.depth) (st.deepest - y) p r.depth y
          divided =
              record {
                deeper = deeper;
                steps = omega (arith, left, s.lower-depth);
                next = omega (arith, s.lower-depth);
              }

          level : h.upper.depth ≡ y
          level = s.upper-depth ∙ sym s.lower-depth

          -- what is told of a side with the bit β, at the depth z
          abbrev Side : Bool → List ℕ → Option Seen → List ℕ → ℕ → Type 0
          Side β before told after z =
              let q = with_bit p r.depth β in
              Tells z before told after (region_test view (st.deepest - z) q z) (read_division view (st.deepest - z) q z)

          lower : (before : List ℕ) (told : Option Seen) (after : List ℕ)
              → Walked st (width_list w) words bytes h.lower before told after → Side false before told after y
          lower before told after f = f _ (s.lower-names p n)

          upper : (before : List ℕ) (told : Option Seen) (after : List ℕ)
              → Walked st (width_list w) words bytes h.upper before told after → Side true before told after y
          upper before told after f = subst (Side true before told after) level (f _ (s.upper-names p n))

          lower-fails : (before after : List ℕ) → Walked st (width_list w) words bytes h.lower before None after
              → Tell before None after
          lower-fails before after f =
              region-lower-fails view _ _ p _ _ divided before after (lower before None after f)

          module _ (before : List ℕ) (a : Seen) (middle : List ℕ)
              (f : Walked st (width_list w) words bytes h.lower before (Some a) middle) where
            room : TallyRoom (st.deepest - r.depth) before → length middle ≡ length before
                → TallyRoom (st.deepest - h.upper.depth) middle
            room k len =
                subst (λ z. TallyRoom (st.deepest - z) middle) (sym level)
                (room-upper view _ _ p _ _ divided before a middle (lower before (Some a) middle f) k len)

            upper-fails : (after : List ℕ) → Walked st (width_list w) words bytes h.upper middle None after
                → Tell before None after
            upper-fails after g =
                region-upper-fails view _ _ p _ _ divided before a middle (lower before (Some a) middle f) after
                (upper middle None after g)

            module _ (b : Seen) (after : List ℕ)
                (g : Walked st (width_list w) words bytes h.upper middle (Some b) after) where
              fits : JoinFits a b
              fits =
                  sums-fit view _ _ p _ _ divided before a middle (lower before (Some a) middle f) b after
                  (upper middle (Some b) after g) k.capacity (omega (arith, k.directory.short))

              both : Tell before (joined_seen st.shape.capacity a b) after
              both =
                  region-joined view _ _ p _ _ divided before a middle (lower before (Some a) middle f) b after
                  (upper middle (Some b) after g)

pub offset_bounds-dir-region : goal.offset_bounds-dir-region
offset_bounds-dir-region t c =
    let a = c.args in
    record { fits = omega (arith, (low a.state a.widths a.region a.dir.now a.pages.now c.requires.0).1) }

pub bounds-dir-region : goal.bounds-dir-region
bounds-dir-region t c =
    let a = c.args in
    (low a.state a.widths a.region a.dir.now a.pages.now c.requires.0).0

pub leaf-requires : goal.leaf-requires
leaf-requires t c = (c.requires.0, c.requires.1, refl)

pub returns-then-depth_of-region : goal.returns-then-depth_of-region
returns-then-depth_of-region t c p n =
    let a = c.args in
    region-leaf (view_by (width_list a.widths) a.state a.dir.now a.pages.now) (a.state.deepest - a.region.depth) p
    a.region.depth
    (shallow a.state a.widths a.region a.dir.now a.pages.now c.requires.0 p n _ c.depth_of.ensures
    c.if-depth_of-region.true)
    _ _ _ (c.leaf.ensures p n)

pub returns-then-state-region : goal.returns-then-state-region
returns-then-state-region t c p n =
    let a = c.args in
    region-too-deep (view_by (width_list a.widths) a.state a.dir.now a.pages.now) (a.state.deepest - a.region.depth) p
    a.region.depth
    (deeper a.state a.widths a.region a.dir.now a.pages.now c.requires.0 p n _ c.depth_of.ensures
    c.if-depth_of-region.false)
    (omega (arith, c.if-state-region.true)) a.tally.now

pub sides_of-sides-requires : goal.sides_of-sides-requires
sides_of-sides-requires t c =
    let k = c.requires.0 in
    (k.directory.fit, omega (arith, c.if-state-region.false, k.directory.deep), k.region)

pub walk-requires : goal.walk-requires
walk-requires t c =
    let k = c.requires.0 in
    let s = c.sides_of-sides.ensures in
    let left = c.if-state-region.false in (
      omega (arith, c.decreases, left, s.lower-depth),
      (
        sub-walks _ _ _ _ _ k _ s.lower_in s.lower-depth left,
        room-lower _ _ (omega (arith, left, s.lower-depth)) _ c.requires.1,
      ),
    )

pub returns-in_err-lower : goal.returns-in_err-lower
returns-in_err-lower t c p n =
    let a = c.args in
    let gone : c.from_residual.result ≡ None = grind arith in
    rw gone
    (lower-fails a.state a.widths a.region a.dir.now a.pages.now c.requires.0 p n _ c.depth_of.ensures
    c.if-depth_of-region.false c.if-state-region.false _ c.sides_of-sides.ensures a.tally.now c.walk.new.tally
    c.in_err-lower.ensures)

pub walk-requires-2 : goal.walk-requires-2
walk-requires-2 t c =
    let a = c.args in
    let k = c.requires.0 in
    let s = c.sides_of-sides.ensures in
    let left = c.if-state-region.false in (
      omega (arith, c.decreases, left, s.upper-depth),
      (
        sub-walks _ _ _ _ _ k _ s.upper_in s.upper-depth left,
        room a.state a.widths a.region a.dir.now a.pages.now k k.region.named.0 k.region.named.1 _ c.depth_of.ensures
            c.if-depth_of-region.false left _ s a.tally.now c.in_ok-lower.lower c.walk.new.tally c.in_ok-lower.ensures
            c.requires.1 c.walk.auto.tally,
      ),
    )

pub returns-in_err-upper : goal.returns-in_err-upper
returns-in_err-upper t c p n =
    let a = c.args in
    let gone : c.from_residual-in_err-upper.result ≡ None = grind arith in
    rw gone
    (upper-fails a.state a.widths a.region a.dir.now a.pages.now c.requires.0 p n _ c.depth_of.ensures
    c.if-depth_of-region.false c.if-state-region.false _ c.sides_of-sides.ensures a.tally.now c.in_ok-lower.lower
    c.walk.new.tally c.in_ok-lower.ensures c.walk-2.new.tally c.in_err-upper.ensures)

pub joined-requires : goal.joined-requires
joined-requires t c =
    let a = c.args in
    let k = c.requires.0 in
    fits a.state a.widths a.region a.dir.now a.pages.now k k.region.named.0 k.region.named.1 _ c.depth_of.ensures
    c.if-depth_of-region.false c.if-state-region.false _ c.sides_of-sides.ensures a.tally.now c.in_ok-lower.lower
    c.walk.new.tally c.in_ok-lower.ensures c.in_ok-upper.upper c.walk-2.new.tally c.in_ok-upper.ensures

pub returns : goal.returns
returns t c p n =
    let a = c.args in
    rw c.joined.ensures
    (both a.state a.widths a.region a.dir.now a.pages.now c.requires.0 p n _ c.depth_of.ensures
    c.if-depth_of-region.false c.if-state-region.false _ c.sides_of-sides.ensures a.tally.now c.in_ok-lower.lower
    c.walk.new.tally c.in_ok-lower.ensures c.in_ok-upper.upper c.walk-2.new.tally c.in_ok-upper.ensures)

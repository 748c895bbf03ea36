-- `range_walk::walk` meets its contract: T less the depth falls, and each return is one law of a turn; a side that is a
-- leaf is noted, which is what the walk sees of it. Assumes nothing.
use Prim.Native.Nat.{ℕ, ◌+◌, ◌-◌, ◌^◌, ◌≤◌, ◌<◌}
use mathlib.Core.Path.{◌≡◌, sym, ◌∙◌, subst}
use mathlib.Core.Bool.{Bool, true}
use mathlib.Core.List.{List}
use native.Mathlib.Omega.{arith}
use lib.Dec.{eqb}
use lib.ListN.{get_or, length}
use Rattle.directory_word.specs.Word.{depth_field}
use Rattle.query_rows.specs.Rows.{deepest_in}
use Rattle.query_seen.specs.Seen.{Seen}
use Rattle.query_seen.proofs.BoundLaws.{OnePage}
use Rattle.query_walk.specs.Turns.{leaf_by, Wrote, Turn}
use Rattle.query_walk.proofs.BoundLaws.{OnePage-leaf_by}
use Rattle.query_walk.proofs.TurnLaws.{Inside, inside_of, leaf-asked, row-lent, Turn-lower, upper-corner-fits}
use Rattle.query_walk.proofs.TurnLaws.{upper_fits, upper-room, upper-addressable, upper_vector, upper_corner}
use Rattle.query_walk.proofs.WroteLaws.{Wrote-same}
use Rattle.range_walk.specs.Private.{seen_meeting, meets_by_row}
use Rattle.range_walk.proofs.TurnLaws.{Wrote-closed, Wrote-entered, lower_side, lower-left, upper-left}
use Rattle.range_walk.proofs.TurnLaws.{Turn-upper-next, Wrote-first, Wrote-lower, Wrote-both, Wrote-leaf}
use Rattle.range_walk.proofs.TurnLaws.{Wrote-above, Wrote-deep}
use borrow.Author.Tests.{eqb-true, eqb-false}
use borrow.Fn.Kinds.{In}
use borrow.Fn.PlainCycle.{Measures, is, falls, and}
use Rattle.range_walk.proofs.walk.Reads as walk
use Rattle.range_walk.proofs.walk.Kinds as walk-kinds
use Rattle.range_walk.proofs.+walk.Lts-walk as walk-lts
use Rattle.range_walk.proofs.+walk.Lts-walk.{then-not-lies_between, else-not-lies_between+then-is_leaf}
use Rattle.range_walk.proofs.+walk.Lts-walk.{else-not-lies_between+else-is_leaf}
use Rattle.directory_word.proofs.depth_of.Reads as depth-of-reads
use Rattle.key_between.proofs.lies_between.Reads as lies-between-reads
use Rattle.query_rows.proofs.address_by.Reads as address-by-reads
use Rattle.query_walk.proofs.is_leaf.Reads as is-leaf-reads
use Rattle.query_walk.proofs.note.Reads as note-reads
use Rattle.range_walk.proofs.+walk.{statement}
use Rattle.range_walk.proofs.+walk.Tie.{close}

abbrev μ-walk : Measures 4 walk-kinds.ps ℕ
μ-walk κs a = deepest_in a.0.now - a.1.1.1.1.1.1.1.1.1.0

abbrev walk_at : ℕ → In 4 walk-kinds.ps
walk_at t = and 4 walk-kinds.ps (is 4 walk-kinds.ps μ-walk t) walk.Pre

abbrev walk-below : ℕ → In 4 walk-kinds.ps
walk-below t = and 4 walk-kinds.ps (falls 4 walk-kinds.ps ◌<◌ μ-walk t) walk.Pre

-- what the callees ask and give
abbrev near : ℕ → walk-lts.Claims
near t = (
  depth-of-reads.Asked,
  depth-of-reads.Learnt,
  lies-between-reads.Asked,
  lies-between-reads.Learnt,
  is-leaf-reads.Asked,
  is-leaf-reads.Learnt,
  note-reads.Asked,
  note-reads.Learnt,
  walk-below t,
  walk.Post,
  address-by-reads.Asked,
  address-by-reads.Learnt,
)

-- past the tests of the word's depth: the region is divided
abbrev Past : ℕ → Type 0
Past t = walk-lts.Else-t-depth (near t) (walk_at t) walk.Post

here : (t : ℕ) (c : Past t)
    → let a = c.args in
    Inside a.rows.now a.dir.now (length a.pages.now) (length a.list.now) a.index a.corner
    a.x a.n a.word
here t c =
    let h = c.requires.1 in
    inside_of h.0 h.1.1 _ c.depth_of-depth.ensures.0 c.if-depth-x.false c.if-t-depth.false

-- there is room for what is left
left : (t : ℕ) (c : Past t)
    → let a = c.args in
    a.n + 2 ^ (deepest_in a.rows.now - a.x) ≤ length a.list.now
left t c = c.requires.1.1.0

-- what is seen of a leaf
abbrev own : (t : ℕ) → Past t → ℕ → ℕ → ℕ → Seen
own t c = leaf_by c.args.rows.now c.args.pages.now

own-page : (t : ℕ) (c : Past t) → OnePage (own t c)
own-page t c = OnePage-leaf_by c.args.rows.now c.args.pages.now

-- which corners are entered
abbrev enters : (t : ℕ) → Past t → ℕ → ℕ → Bool
enters t c = meets_by_row c.args.rows.now c.args.low c.args.high

-- what is seen from a side with this vector, corner and word
abbrev below : (t : ℕ) → Past t → ℕ → ℕ → ℕ → Seen
below t c =
    let a = c.args in
    seen_meeting a.rows.now a.dir.now (own t c) (enters t c) (deepest_in a.rows.now)
    (deepest_in a.rows.now - (a.x + 1))
    (a.x + 1)

-- what is seen from the region itself
abbrev whole : (t : ℕ) → Past t → Seen
whole t c =
    let a = c.args in
    seen_meeting a.rows.now a.dir.now (own t c) (enters t c) (deepest_in a.rows.now)
    (deepest_in a.rows.now - a.x)
    a.x a.index a.corner a.word

-- what is seen from a side that is a leaf is what is noted
side-noted : (t : ℕ) (c : Past t) (v corner word : ℕ) {list later : List ℕ} {n r : ℕ} {β : Bool}
    → β ≡ eqb (depth_field word) (c.args.x + 1) → β ≡ true
    → Wrote list n (own t c (c.args.x + 1) corner word) r later
    → Wrote list n (below t c v corner word) r later
side-noted t c v corner word e y o =
    let a = c.args in
    Wrote-leaf a.rows.now a.dir.now (own t c) (enters t c) (deepest_in a.rows.now) (a.x + 1) v corner word
    _ _ _ _ (eqb-true _ _ (sym e ∙ y)) o

-- T less the depth falls
falling : (t : ℕ) (c : Past t) → deepest_in c.args.rows.now - (c.args.x + 1) < t
falling t c = omega (arith, c.requires.0, (here t c).inner)

walk-depth-of-requires : (t : ℕ) → walk-lts.Need-depth_of-depth-requires (near t) (walk_at t) walk.Post
walk-depth-of-requires t c κs = tt

walk-cast-depth : (t : ℕ) → walk-lts.Need-overflow_cast-depth (near t) (walk_at t) walk.Post
walk-cast-depth t c = omega (arith, c.depth_of-depth.ensures.1)

walk-returns : (t : ℕ) → walk-lts.Need-returns-then-depth-x (near t) (walk_at t) walk.Post
walk-returns t c =
    let a = c.args in
    Wrote-above a.rows.now a.dir.now (leaf_by a.rows.now a.pages.now)
    (meets_by_row a.rows.now a.low a.high) (deepest_in a.rows.now) a.x a.index a.corner a.word
    a.list.now a.n
    (subst (λ d. d < a.x) c.depth_of-depth.ensures.0 c.if-depth-x.true)

walk-element-copy-out-t : (t : ℕ) → walk-lts.Need-bounds-rows-80 (near t) (walk_at t) walk.Post
walk-element-copy-out-t t c = omega arith

walk-returns-2 : (t : ℕ) → walk-lts.Need-returns-then-t-depth (near t) (walk_at t) walk.Post
walk-returns-2 t c =
    let a = c.args in
    let depth = c.depth_of-depth.ensures.0 in
    Wrote-deep a.rows.now a.dir.now (leaf_by a.rows.now a.pages.now)
    (meets_by_row a.rows.now a.low a.high) (deepest_in a.rows.now) a.x a.index a.corner a.word
    a.list.now a.n
    (subst (λ d. a.x ≤ d) depth c.if-depth-x.false)
    c.requires.1.1.1
    (subst (λ d. deepest_in a.rows.now < d) depth c.if-t-depth.true)

walk-add-deeper : (t : ℕ) → walk-lts.Need-overflow_add-deeper (near t) (walk_at t) walk.Post
walk-add-deeper t c = omega (arith, (row-lent (here t c)).0)

walk-mul-at : (t : ℕ) → walk-lts.Need-overflow_mul-at (near t) (walk_at t) walk.Post
walk-mul-at t c = omega (arith, (row-lent (here t c)).0)

walk-mul-floor : (t : ℕ) → walk-lts.Need-overflow_mul-floor (near t) (walk_at t) walk.Post
walk-mul-floor t c = omega (arith, (row-lent (here t c)).0)

walk-add-floor : (t : ℕ) → walk-lts.Need-overflow_add-floor (near t) (walk_at t) walk.Post
walk-add-floor t c = omega (arith, (row-lent (here t c)).0)

walk-mul-floor-2 : (t : ℕ) → walk-lts.Need-offset_bounds-rows-deeper (near t) (walk_at t) walk.Post
walk-mul-floor-2 t c = omega (arith, (row-lent (here t c)).0)

walk-element-copy-out-floor : (t : ℕ) → walk-lts.Need-bounds-rows-deeper (near t) (walk_at t) walk.Post
walk-element-copy-out-floor t c = omega (arith, (row-lent (here t c)).0)

walk-add-upper : (t : ℕ) → walk-lts.Need-overflow_add-upper (near t) (walk_at t) walk.Post
walk-add-upper t c = omega (arith, (row-lent (here t c.before)).0)

walk-mul-upper : (t : ℕ) → walk-lts.Need-offset_bounds-rows-at (near t) (walk_at t) walk.Post
walk-mul-upper t c = omega (arith, (row-lent (here t c.before)).0)

walk-element-copy-out-upper : (t : ℕ) → walk-lts.Need-bounds-rows-at (near t) (walk_at t) walk.Post
walk-element-copy-out-upper t c = omega (arith, (row-lent (here t c.before)).0)

walk-add-upper-2 : (t : ℕ) → walk-lts.Need-overflow_add-upper-2 (near t) (walk_at t) walk.Post
walk-add-upper-2 t c = record { fits = upper_fits (here t c.before.before) }

walk-add-top : (t : ℕ) → walk-lts.Need-overflow_add-top (near t) (walk_at t) walk.Post
walk-add-top t c = omega (arith, (row-lent (here t c.before.before)).0)

walk-mul-top : (t : ℕ) → walk-lts.Need-offset_bounds-rows-at-2 (near t) (walk_at t) walk.Post
walk-mul-top t c = omega (arith, (row-lent (here t c.before.before)).0)

walk-element-copy-out-top : (t : ℕ) → walk-lts.Need-bounds-rows-at-2 (near t) (walk_at t) walk.Post
walk-element-copy-out-top t c = omega (arith, (row-lent (here t c.before.before)).0)

walk-add-top-2 : (t : ℕ) → walk-lts.Need-overflow_add-top-2 (near t) (walk_at t) walk.Post
walk-add-top-2 t c = record { fits = upper-corner-fits (here t c.before.before.before) }

walk-lies-between-requires : (t : ℕ) → walk-lts.Need-lies_between-requires (near t) (walk_at t) walk.Post
walk-lies-between-requires t c κs = tt

-- ---- the 0-side

walk-is-leaf-requires : (t : ℕ) → walk-lts.Need-is_leaf-requires (near t) (walk_at t) walk.Post
walk-is-leaf-requires t c κs = tt

walk-note-requires : (t : ℕ) → walk-lts.Need-note-requires (near t) (walk_at t) walk.Post
walk-note-requires t c κs =
    let past = c.before.before.before.before.before.before.before.before in
    leaf-asked (Turn-lower (here t past))

walk-walk-requires : (t : ℕ) → walk-lts.Need-walk-requires (near t) (walk_at t) walk.Post
walk-walk-requires t c κs =
    let past = c.before.before.before.before.before.before.before.before in (
      falling t past,
      (
        Turn-lower (here t past),
        (
          lower-left (here t past) (left t past) (own t past) (own-page t past) (enters t past),
          eqb-false _ _ (sym c.is_leaf.ensures ∙ c.if-is_leaf.false),
        ),
      ),
    )

-- past the 0-side
abbrev Lower : ℕ → Type 0
Lower t = walk-lts.Joined-not-lies_between (near t) (walk_at t) walk.Post

abbrev lower-past : (t : ℕ) → Lower t → Past t
lower-past t c = c.before.before.before.before.before

-- it wrote what is seen of that side
abbrev Noted : (t : ℕ) → Lower t → Type 0
Noted t c =
    let past = lower-past t c in
    let a = past.args in
    Wrote a.list.now a.n (lower_side (here t past) (left t past) (own t past) (own-page t past) (enters t past))
    c.if-not-lies_between.m c.if-not-lies_between.list

lower-wrote : (t : ℕ) (c : Lower t) → Noted t c
lower-wrote t c =
    let past = lower-past t c in
    let a = c.args in
    let seen = below t past a.index a.corner a.word in
    let told = sym c.lies_between.ensures in
    elim c.if-not-lies_between.branch [
      | then-not-lies_between w ↦
          Wrote-same w.m-is w.list-is (Wrote-closed a.list.now a.n _ (told ∙ w.if-not-lies_between.true))
      | else-not-lies_between+then-is_leaf w ↦
          Wrote-same w.m-is w.list-is
          (Wrote-entered {s = seen} (told ∙ w.if-not-lies_between.false)
          (side-noted t past _ _ _ w.is_leaf.ensures w.if-is_leaf.true w.note.ensures))
      | else-not-lies_between+else-is_leaf w ↦
          Wrote-same w.m-is w.list-is
          (Wrote-entered {s = seen} (told ∙ w.if-not-lies_between.false) w.walk.ensures)
    ]

lower-length : (t : ℕ) (c : Lower t)
    → length c.if-not-lies_between.list ≡ length c.args.list.now
lower-length t c = c.if-not-lies_between.long-list

walk-same-length : (t : ℕ) → walk-lts.Need-shape_of-list-then-m-gt-MOST_PAGES (near t) (walk_at t) walk.Post
walk-same-length t c = lower-length t c.before

walk-returns-3 : (t : ℕ) → walk-lts.Need-returns-then-m-gt-MOST_PAGES (near t) (walk_at t) walk.Post
walk-returns-3 t c =
    let past = lower-past t c.before in
    Wrote-first (here t past) (left t past) (own t past) (own-page t past) (enters t past)
    past.args.list.now _ _ (lower-wrote t c.before) c.if-m-gt-MOST_PAGES.true

-- ---- the 1-side

walk-lies-between-requires-2 : (t : ℕ) → walk-lts.Need-lies_between-requires-2 (near t) (walk_at t) walk.Post
walk-lies-between-requires-2 t c κs = tt

walk-same-length-2 : (t : ℕ) → walk-lts.Need-shape_of-list-then-not-lies_between-2 (near t) (walk_at t) walk.Post
walk-same-length-2 t c = lower-length t c.before.before.before

walk-returns-4 : (t : ℕ) → walk-lts.Need-returns-then-not-lies_between-2 (near t) (walk_at t) walk.Post
walk-returns-4 t c =
    let at_join = c.before.before.before in
    let past = lower-past t at_join in
    Wrote-lower (here t past) (left t past) (own t past) (own-page t past) (enters t past)
    past.args.list.now _ _ (lower-wrote t at_join)
    (sym c.lies_between-2.ensures ∙ c.if-not-lies_between-2.true)

walk-address-by-requires : (t : ℕ) → walk-lts.Need-address_by-requires (near t) (walk_at t) walk.Post
walk-address-by-requires t c κs = upper-addressable (here t (lower-past t c.before.before.before))

-- past the 1-side's address
abbrev Upper : ℕ → Type 0
Upper t = walk-lts.After-address_by (near t) (walk_at t) walk.Post

abbrev upper-join : (t : ℕ) → Upper t → Lower t
upper-join t c = c.before.before.before.before

abbrev upper-past : (t : ℕ) → Upper t → Past t
upper-past t c = lower-past t (upper-join t c)

walk-mul-other : (t : ℕ) → walk-lts.Need-offset_bounds-dir-address_by (near t) (walk_at t) walk.Post
walk-mul-other t c = omega (arith, c.address_by.ensures, (upper-room (here t (upper-past t c))).1)

walk-shared-slice-read-other : (t : ℕ) → walk-lts.Need-bounds-dir-address_by (near t) (walk_at t) walk.Post
walk-shared-slice-read-other t c =
    omega (arith, c.address_by.ensures, (upper-room (here t (upper-past t c.before))).0)

walk-is-leaf-requires-2 : (t : ℕ) → walk-lts.Need-is_leaf-requires-2 (near t) (walk_at t) walk.Post
walk-is-leaf-requires-2 t c κs = tt

upper-turn : (t : ℕ) (c : Upper t)
    → let past = upper-past t c in
    let a = past.args in
    Turn a.rows.now a.dir.now (length a.pages.now) (length c.if-not-lies_between.list)
    (upper_vector (here t past)) (upper_corner (here t past)) (a.x + 1) c.if-not-lies_between.m
upper-turn t c =
    let past = upper-past t c in
    Turn-upper-next (here t past) (left t past) (own t past) (own-page t past) (enters t past)
    past.args.list.now _ _ (lower-wrote t (upper-join t c)) _ (lower-length t (upper-join t c))
    c.if-m-gt-MOST_PAGES.false

-- what the 1-side wrote ends what is seen of the region
upper-wrote : (t : ℕ) (c : Upper t) (later : List ℕ) (z : ℕ)
    → let past = upper-past t c in
    let a = past.args in
    Wrote c.if-not-lies_between.list c.if-not-lies_between.m
    (below t past (upper_vector (here t past)) (upper_corner (here t past))
    (get_or a.dir.now c.address_by.result 0))
    z later
    → Wrote a.list.now a.n (whole t past) z later
upper-wrote t c later z =
    let past = upper-past t c in
    Wrote-both (here t past) (left t past) (own t past) (own-page t past) (enters t past)
    past.args.list.now _ _ (lower-wrote t (upper-join t c)) later z c.address_by.result
    c.address_by.ensures c.if-m-gt-MOST_PAGES.false
    (sym c.lies_between-2.ensures ∙ c.if-not-lies_between-2.false)

walk-note-requires-2 : (t : ℕ) → walk-lts.Need-note-requires-then-is_leaf-2 (near t) (walk_at t) walk.Post
walk-note-requires-2 t c κs = leaf-asked (upper-turn t c.before.before.before.before)

walk-same-length-3 : (t : ℕ) → walk-lts.Need-shape_of-list-then-is_leaf-2 (near t) (walk_at t) walk.Post
walk-same-length-3 t c =
    let at_address = c.before.before.before.before.before.before.before in
    c.note-then-is_leaf-2.auto.list ∙ lower-length t (upper-join t at_address)

walk-returns-5 : (t : ℕ) → walk-lts.Need-returns-then-is_leaf-2 (near t) (walk_at t) walk.Post
walk-returns-5 t c =
    let at-if7 = c.before.before.before.before in
    let at_address = at-if7.before.before.before in
    upper-wrote t at_address _ _
    (side-noted t (upper-past t at_address) _ _ _ at-if7.is_leaf-2.ensures at-if7.if-is_leaf-2.true
    c.note-then-is_leaf-2.ensures)

walk-walk-requires-2 : (t : ℕ) → walk-lts.Need-walk-requires-2 (near t) (walk_at t) walk.Post
walk-walk-requires-2 t c κs =
    let at-if7 = c.before in
    let at_address = at-if7.before.before.before in
    let past = upper-past t at_address in (
      falling t past,
      (
        upper-turn t at_address,
        (
          upper-left (here t past) (left t past) (own t past) (own-page t past) (enters t past)
              past.args.list.now _ _ (lower-wrote t (upper-join t at_address)) _
              (lower-length t (upper-join t at_address)) at_address.if-m-gt-MOST_PAGES.false,
          eqb-false _ _ (sym at-if7.is_leaf-2.ensures ∙ at-if7.if-is_leaf-2.false),
        ),
      ),
    )

walk-same-length-4 : (t : ℕ) → walk-lts.Need-shape_of-list (near t) (walk_at t) walk.Post
walk-same-length-4 t c =
    let at_address = c.before.before.before.before.before.before.before in
    c.walk-2.auto.list ∙ lower-length t (upper-join t at_address)

walk-returns-6 : (t : ℕ) → walk-lts.Need-returns (near t) (walk_at t) walk.Post
walk-returns-6 t c =
    upper-wrote t c.before.before.before.before.before.before.before _ _ c.walk-2.ensures

pub +walk_spec : {M : Type 1} → statement M
+walk_spec = close μ-walk λ t. walk-lts.spec (near t)
    (walk_at t)
    walk.Post
    (walk-depth-of-requires t)
    (walk-cast-depth t)
    (walk-returns t)
    (walk-element-copy-out-t t)
    (walk-returns-2 t)
    (walk-add-deeper t)
    (walk-mul-at t)
    (walk-mul-floor t)
    (walk-add-floor t)
    (walk-mul-floor-2 t)
    (walk-element-copy-out-floor t)
    (walk-add-upper t)
    (walk-mul-upper t)
    (walk-element-copy-out-upper t)
    (walk-add-upper-2 t)
    (walk-add-top t)
    (walk-mul-top t)
    (walk-element-copy-out-top t)
    (walk-add-top-2 t)
    (walk-lies-between-requires t)
    (walk-is-leaf-requires t)
    (walk-note-requires t)
    (walk-walk-requires t)
    (walk-same-length t)
    (walk-returns-3 t)
    (walk-lies-between-requires-2 t)
    (walk-same-length-2 t)
    (walk-returns-4 t)
    (walk-address-by-requires t)
    (walk-mul-other t)
    (walk-shared-slice-read-other t)
    (walk-is-leaf-requires-2 t)
    (walk-note-requires-2 t)
    (walk-same-length-3 t)
    (walk-returns-5 t)
    (walk-walk-requires-2 t)
    (walk-same-length-4 t)
    (walk-returns-6 t)

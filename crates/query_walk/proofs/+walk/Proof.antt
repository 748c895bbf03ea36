-- `query_walk::walk` meets its contract: T less the depth falls, and each return is one law of a turn; a side that is a
-- leaf is noted, which is what the walk sees of it. Assumes nothing.
use Prim.Native.Nat.{ℕ, ◌+◌, ◌-◌, ◌≤◌, ◌<◌}
use mathlib.Core.Path.{◌≡◌, refl, sym, ap, ◌∙◌, subst}
use mathlib.Core.Bool.{Bool, true}
use mathlib.Core.List.{List}
use native.Mathlib.Omega.{arith}
use lib.Dec.{eqb}
use lib.ListN.{get_or, length}
use Rattle.directory_word.specs.Word.{depth_field}
use Rattle.query_rows.specs.Rows.{wanted_bit_in, deepest_in}
use Rattle.query_seen.specs.Seen.{Seen}
use Rattle.query_seen.proofs.BoundLaws.{OnePage}
use Rattle.query_walk.specs.Private.{seen_by}
use Rattle.query_walk.specs.Turns.{leaf_by, Wrote, Turn}
use Rattle.query_walk.proofs.BoundLaws.{OnePage-leaf_by}
use Rattle.query_walk.proofs.ReturnLaws.{Wrote-given, Turn-upper-next, Wrote-first, Wrote-both, Wrote-leaf}
use Rattle.query_walk.proofs.ReturnLaws.{Wrote-above, Wrote-deep}
use Rattle.query_walk.proofs.TurnLaws.{Inside, inside_of, leaf-asked, row-lent, Turn-lower, upper-corner-fits}
use Rattle.query_walk.proofs.TurnLaws.{upper_fits, upper-room, upper-addressable, upper_vector, upper_corner}
use Rattle.query_walk.proofs.TurnLaws.{Turn-given}
use Rattle.query_walk.proofs.WroteLaws.{Wrote-same}
use borrow.Author.Tests.{eqb-true, eqb-false}
use borrow.Fn.Kinds.{In}
use borrow.Fn.PlainCycle.{Measures, is, falls, and}
use Rattle.directory_word.proofs.depth_of.Reads as depth-of-reads
use Rattle.query_walk.proofs.walk.Reads as walk
use Rattle.query_walk.proofs.walk.Kinds as walk-kinds
use Rattle.query_walk.proofs.+walk.Lts-walk as walk-lts
use Rattle.query_walk.proofs.+walk.Lts-walk.{then-is_leaf-2, else-is_leaf-2}
use Rattle.query_rows.proofs.address_by.Reads as address-by-reads
use Rattle.query_walk.proofs.given_side.Reads as given-side-reads
use Rattle.query_walk.proofs.given_word.Reads as given-word-reads
use Rattle.query_walk.proofs.is_leaf.Reads as is-leaf-reads
use Rattle.query_walk.proofs.note.Reads as note-reads
use Rattle.query_walk.proofs.+walk.{statement}
use Rattle.query_walk.proofs.+walk.Tie.{close}

abbrev μ-walk : Measures 4 walk-kinds.ps ℕ
μ-walk κs a = deepest_in a.0.now - a.1.1.1.1.1.1.1.0

abbrev walk_at : ℕ → In 4 walk-kinds.ps
walk_at t = and 4 walk-kinds.ps (is 4 walk-kinds.ps μ-walk t) walk.Pre

abbrev walk-below : ℕ → In 4 walk-kinds.ps
walk-below t = and 4 walk-kinds.ps (falls 4 walk-kinds.ps ◌<◌ μ-walk t) walk.Pre

-- what the callees ask and give
abbrev near : ℕ → walk-lts.Claims
near t = (
  depth-of-reads.Asked,
  depth-of-reads.Learnt,
  address-by-reads.Asked,
  address-by-reads.Learnt,
  given-side-reads.Asked,
  given-side-reads.Learnt,
  given-word-reads.Asked,
  given-word-reads.Learnt,
  is-leaf-reads.Asked,
  is-leaf-reads.Learnt,
  note-reads.Asked,
  note-reads.Learnt,
  walk-below t,
  walk.Post,
)

-- past the tests of the word's depth: the region is divided
abbrev Past : ℕ → Type 0
Past t = walk-lts.Else-t-depth (near t) (walk_at t) walk.Post

-- where the call began
abbrev start : (t : ℕ) → Past t → walk-lts.Start (near t) (walk_at t) walk.Post
start t c = c.before.before.before.before.before.before.before.before

here : (t : ℕ) (c : Past t)
    → let a = (start t c).args in
    Inside a.rows.now a.dir.now (length a.pages.now) (length a.list.now) a.index a.corner
    a.x a.n a.word
here t c =
    let h = (start t c).requires.1 in
    inside_of h.0 h.1 _ c.depth_of-depth.ensures.0 c.if-depth-x.false c.if-t-depth.false

-- what is seen of a leaf
abbrev own : (t : ℕ) → Past t → ℕ → ℕ → ℕ → Seen
own t c = leaf_by (start t c).args.rows.now (start t c).args.pages.now

own-page : (t : ℕ) (c : Past t) → OnePage (own t c)
own-page t c = OnePage-leaf_by (start t c).args.rows.now (start t c).args.pages.now

-- what is seen from a side with this vector, corner and word
abbrev below : (t : ℕ) → Past t → ℕ → ℕ → ℕ → Seen
below t c =
    let a = (start t c).args in
    seen_by a.rows.now a.dir.now (own t c) (deepest_in a.rows.now) (deepest_in a.rows.now - (a.x + 1))
    (a.x + 1)

-- what is seen from the region itself
abbrev whole : (t : ℕ) → Past t → Seen
whole t c =
    let a = (start t c).args in
    seen_by a.rows.now a.dir.now (own t c) (deepest_in a.rows.now) (deepest_in a.rows.now - a.x) a.x
    a.index a.corner a.word

-- what is seen from a side that is a leaf is what is noted
side-noted : (t : ℕ) (c : Past t) (v corner word : ℕ) {list later : List ℕ} {n r : ℕ} {β : Bool}
    → β ≡ eqb (depth_field word) ((start t c).args.x + 1) → β ≡ true
    → Wrote list n (own t c ((start t c).args.x + 1) corner word) r later
    → Wrote list n (below t c v corner word) r later
side-noted t c v corner word e y o =
    let a = (start t c).args in
    Wrote-leaf a.rows.now a.dir.now (own t c) (deepest_in a.rows.now) (a.x + 1) v corner word _ _ _ _
    (eqb-true _ _ (sym e ∙ y)) o

-- T less the depth falls
falling : (t : ℕ) (c : Past t) → deepest_in (start t c).args.rows.now - ((start t c).args.x + 1) < t
falling t c = omega (arith, (start t c).requires.0, (here t c).inner)

walk-depth-of-requires : (t : ℕ) → walk-lts.Need-depth_of-depth-requires (near t) (walk_at t) walk.Post
walk-depth-of-requires t c κs = tt

walk-cast-depth : (t : ℕ) → walk-lts.Need-overflow_cast-depth (near t) (walk_at t) walk.Post
walk-cast-depth t c = omega (arith, c.depth_of-depth.ensures.1)

walk-returns : (t : ℕ) → walk-lts.Need-returns-then-depth-x (near t) (walk_at t) walk.Post
walk-returns t c =
    let a = c.args in
    Wrote-above a.rows.now a.dir.now (leaf_by a.rows.now a.pages.now) (deepest_in a.rows.now) a.x
    a.index a.corner a.word a.list.now a.n
    (subst (λ d. d < a.x) c.depth_of-depth.ensures.0 c.if-depth-x.true)

walk-element-copy-out-t : (t : ℕ) → walk-lts.Need-bounds-rows-80 (near t) (walk_at t) walk.Post
walk-element-copy-out-t t c = omega arith

walk-returns-2 : (t : ℕ) → walk-lts.Need-returns-then-t-depth (near t) (walk_at t) walk.Post
walk-returns-2 t c =
    let a = c.args in
    let depth = c.depth_of-depth.ensures.0 in
    Wrote-deep a.rows.now a.dir.now (leaf_by a.rows.now a.pages.now) (deepest_in a.rows.now) a.x
    a.index a.corner a.word a.list.now a.n
    (subst (λ d. a.x ≤ d) depth c.if-depth-x.false)
    c.requires.1.1
    (subst (λ d. deepest_in a.rows.now < d) depth c.if-t-depth.true)

walk-add-deeper : (t : ℕ) → walk-lts.Need-overflow_add-deeper (near t) (walk_at t) walk.Post
walk-add-deeper t c = omega (arith, (row-lent (here t c)).0)

walk-mul-at : (t : ℕ) → walk-lts.Need-overflow_mul-at (near t) (walk_at t) walk.Post
walk-mul-at t c = omega (arith, (row-lent (here t c)).0)

walk-add-wanted : (t : ℕ) → walk-lts.Need-overflow_add-wanted (near t) (walk_at t) walk.Post
walk-add-wanted t c = omega (arith, (row-lent (here t c)).0)

walk-mul-wanted : (t : ℕ) → walk-lts.Need-offset_bounds-rows-at (near t) (walk_at t) walk.Post
walk-mul-wanted t c = omega (arith, (row-lent (here t c)).0)

walk-element-copy-out-wanted : (t : ℕ) → walk-lts.Need-bounds-rows-at (near t) (walk_at t) walk.Post
walk-element-copy-out-wanted t c = omega (arith, (row-lent (here t c)).0)

walk-add-upper : (t : ℕ) → walk-lts.Need-overflow_add-upper (near t) (walk_at t) walk.Post
walk-add-upper t c = omega (arith, (row-lent (here t c.before)).0)

walk-mul-upper : (t : ℕ) → walk-lts.Need-offset_bounds-rows-at-2 (near t) (walk_at t) walk.Post
walk-mul-upper t c = omega (arith, (row-lent (here t c.before)).0)

walk-element-copy-out-upper : (t : ℕ) → walk-lts.Need-bounds-rows-at-2 (near t) (walk_at t) walk.Post
walk-element-copy-out-upper t c = omega (arith, (row-lent (here t c.before)).0)

walk-add-upper-2 : (t : ℕ) → walk-lts.Need-overflow_add-upper-2 (near t) (walk_at t) walk.Post
walk-add-upper-2 t c = record { fits = upper_fits (here t c.before.before) }

walk-add-high : (t : ℕ) → walk-lts.Need-overflow_add-high (near t) (walk_at t) walk.Post
walk-add-high t c = omega (arith, (row-lent (here t c.before.before)).0)

walk-mul-high : (t : ℕ) → walk-lts.Need-offset_bounds-rows-at-3 (near t) (walk_at t) walk.Post
walk-mul-high t c = omega (arith, (row-lent (here t c.before.before)).0)

walk-element-copy-out-high : (t : ℕ) → walk-lts.Need-bounds-rows-at-3 (near t) (walk_at t) walk.Post
walk-element-copy-out-high t c = omega (arith, (row-lent (here t c.before.before)).0)

walk-add-high-2 : (t : ℕ) → walk-lts.Need-overflow_add-high-2 (near t) (walk_at t) walk.Post
walk-add-high-2 t c = record { fits = upper-corner-fits (here t c.before.before.before) }

walk-address-by-requires : (t : ℕ) → walk-lts.Need-address_by-requires (near t) (walk_at t) walk.Post
walk-address-by-requires t c κs = upper-addressable (here t c.before.before.before)

walk-mul-other : (t : ℕ) → walk-lts.Need-offset_bounds-dir-address_by (near t) (walk_at t) walk.Post
walk-mul-other t c = omega (arith, c.address_by.ensures, (upper-room (here t c.before.before.before.before)).1)

walk-shared-slice-read-other : (t : ℕ) → walk-lts.Need-bounds-dir-address_by (near t) (walk_at t) walk.Post
walk-shared-slice-read-other t c =
    let at_address = c.before in
    omega (
      arith,
      at_address.address_by.ensures,
      (upper-room (here t at_address.before.before.before.before)).0,
    )

-- ---- one side

walk-given-side-requires : (t : ℕ) → walk-lts.Need-given_side-side-requires (near t) (walk_at t) walk.Post
walk-given-side-requires t c κs = tt

walk-given-side-requires-2 : (t : ℕ) → walk-lts.Need-given_side-low-requires (near t) (walk_at t) walk.Post
walk-given-side-requires-2 t c κs = tt

walk-given-word-requires : (t : ℕ) → walk-lts.Need-given_word-own-requires (near t) (walk_at t) walk.Post
walk-given-word-requires t c κs = tt

walk-is-leaf-requires : (t : ℕ) → walk-lts.Need-is_leaf-requires (near t) (walk_at t) walk.Post
walk-is-leaf-requires t c κs = tt

-- past the choice of the side that the query gives
abbrev Given : ℕ → Type 0
Given t = walk-lts.After-given_word-own (near t) (walk_at t) walk.Post

abbrev given-past : (t : ℕ) → Given t → Past t
given-past t c = c.before.before.before.before.before.before.before.before.before

given-turn : (t : ℕ) (c : Given t)
    → let a = (start t (given-past t c)).args in
    Turn a.rows.now a.dir.now (length a.pages.now) (length a.list.now)
    c.given_side-side.result c.given_side-low.result (a.x + 1) a.n
given-turn t c =
    let a = (start t (given-past t c)).args in
    Turn-given (here t (given-past t c)) (wanted_bit_in a.rows.now a.x) _ _
    c.given_side-side.ensures c.given_side-low.ensures

-- what the side wrote is what is seen of the region
given-wrote : (t : ℕ) (c : Given t) (later : List ℕ) (r : ℕ)
    → let past = given-past t c in
    let a = (start t past).args in
    Wrote a.list.now a.n
    (below t past c.given_side-side.result c.given_side-low.result c.given_word-own.result)
    r later
    → Wrote a.list.now a.n (whole t past) r later
given-wrote t c later r =
    let past = given-past t c in
    let address = c.address_by in
    Wrote-given (here t past) (own t past) (own-page t past) _ refl c.if-wanted-lt2.true (start t past).args.list.now
    later r address.result _ _ _ address.ensures c.given_side-side.ensures
    c.given_side-low.ensures c.given_word-own.ensures

walk-note-requires : (t : ℕ) → walk-lts.Need-note-requires (near t) (walk_at t) walk.Post
walk-note-requires t c κs = leaf-asked (given-turn t c.before.before.before)

walk-same-length : (t : ℕ) → walk-lts.Need-shape_of-list-then-is_leaf (near t) (walk_at t) walk.Post
walk-same-length t c = c.note.auto.list

walk-returns-3 : (t : ℕ) → walk-lts.Need-returns-then-is_leaf (near t) (walk_at t) walk.Post
walk-returns-3 t c =
    let at-word = c.before.before.before.before.before.before in
    given-wrote t at-word _ _
    (side-noted t (given-past t at-word) _ _ _ c.is_leaf.ensures c.if-is_leaf.true
    c.note.ensures)

walk-walk-requires : (t : ℕ) → walk-lts.Need-walk-requires (near t) (walk_at t) walk.Post
walk-walk-requires t c κs =
    let at-word = c.before.before.before in (
      falling t (given-past t at-word),
      (given-turn t at-word, eqb-false _ _ (sym c.is_leaf.ensures ∙ c.if-is_leaf.false)),
    )

walk-same-length-2 : (t : ℕ) → walk-lts.Need-shape_of-list-then-wanted-lt2 (near t) (walk_at t) walk.Post
walk-same-length-2 t c = c.walk.auto.list

walk-returns-4 : (t : ℕ) → walk-lts.Need-returns-then-wanted-lt2 (near t) (walk_at t) walk.Post
walk-returns-4 t c =
    given-wrote t c.before.before.before.before.before.before _ _ c.walk.ensures

-- ---- both sides

walk-is-leaf-requires-2 : (t : ℕ) → walk-lts.Need-is_leaf-requires-2 (near t) (walk_at t) walk.Post
walk-is-leaf-requires-2 t c κs = tt

walk-note-requires-2 : (t : ℕ) → walk-lts.Need-note-m-requires (near t) (walk_at t) walk.Post
walk-note-requires-2 t c κs =
    let past = c.before.before.before.before.before.before.before.before.before in
    leaf-asked (Turn-lower (here t past))

walk-walk-requires-2 : (t : ℕ) → walk-lts.Need-walk-m-requires (near t) (walk_at t) walk.Post
walk-walk-requires-2 t c κs =
    let past = c.before.before.before.before.before.before.before.before.before in (
      falling t past,
      (Turn-lower (here t past), eqb-false _ _ (sym c.is_leaf-2.ensures ∙ c.if-is_leaf-2.false)),
    )

-- past the 0-side
abbrev Lower : ℕ → Type 0
Lower t = walk-lts.Joined-is_leaf-2 (near t) (walk_at t) walk.Post

abbrev lower-past : (t : ℕ) → Lower t → Past t
lower-past t c = c.before.before.before.before.before.before.before.before

lower-wrote : (t : ℕ) (c : Lower t)
    → let a = (start t (lower-past t c)).args in
    Wrote a.list.now a.n (below t (lower-past t c) a.index a.corner a.word) c.if-is_leaf-2.m c.if-is_leaf-2.list
lower-wrote t c =
    elim c.if-is_leaf-2.branch [
      | then-is_leaf-2 w ↦
          Wrote-same w.m-is w.list-is
          (side-noted t (lower-past t c) _ _ _ c.is_leaf-2.ensures w.if-is_leaf-2.true w.note-m.ensures)
      | else-is_leaf-2 w ↦ Wrote-same w.m-is w.list-is w.walk-m.ensures
    ]

lower-length : (t : ℕ) (c : Lower t)
    → length c.if-is_leaf-2.list ≡ length (start t (lower-past t c)).args.list.now
lower-length t c =
    elim c.if-is_leaf-2.branch [
      | then-is_leaf-2 w ↦ ap length w.list-is ∙ w.note-m.auto.list
      | else-is_leaf-2 w ↦ ap length w.list-is ∙ w.walk-m.auto.list
    ]

walk-same-length-3 : (t : ℕ) → walk-lts.Need-shape_of-list-then-m-gt-MOST_PAGES (near t) (walk_at t) walk.Post
walk-same-length-3 t c = lower-length t c.before

walk-returns-5 : (t : ℕ) → walk-lts.Need-returns-then-m-gt-MOST_PAGES (near t) (walk_at t) walk.Post
walk-returns-5 t c =
    let past = lower-past t c.before in
    Wrote-first (here t past) (own t past) (own-page t past) c.if-wanted-lt2.false
    (start t past).args.list.now _ _ (lower-wrote t c.before) c.if-m-gt-MOST_PAGES.true

walk-is-leaf-requires-3 : (t : ℕ) → walk-lts.Need-is_leaf-requires-3 (near t) (walk_at t) walk.Post
walk-is-leaf-requires-3 t c κs = tt

-- past the test for damage
abbrev Upper : ℕ → Type 0
Upper t = walk-lts.Else-m-gt-MOST_PAGES (near t) (walk_at t) walk.Post

abbrev upper-past : (t : ℕ) → Upper t → Past t
upper-past t c = lower-past t c.before

upper-turn : (t : ℕ) (c : Upper t)
    → let past = upper-past t c in
    let a = (start t past).args in
    Turn a.rows.now a.dir.now (length a.pages.now) (length c.if-is_leaf-2.list)
    (upper_vector (here t past)) (upper_corner (here t past)) (a.x + 1) c.if-is_leaf-2.m
upper-turn t c =
    let past = upper-past t c in
    Turn-upper-next (here t past) (own t past) (own-page t past) c.if-wanted-lt2.false
    (start t past).args.list.now _ _ (lower-wrote t c.before) _ (lower-length t c.before) c.if-m-gt-MOST_PAGES.false

-- what the 1-side wrote ends what is seen of the region
upper-wrote : (t : ℕ) (c : Upper t) (later : List ℕ) (z : ℕ)
    → let past = upper-past t c in
    let a = (start t past).args in
    let address = c.address_by.result in
    Wrote c.if-is_leaf-2.list c.if-is_leaf-2.m
    (below t past (upper_vector (here t past)) (upper_corner (here t past)) (get_or a.dir.now address 0)) z later
    → Wrote a.list.now a.n (whole t past) z later
upper-wrote t c later z =
    let past = upper-past t c in
    let address = c.address_by in
    Wrote-both (here t past) (own t past) (own-page t past) c.if-wanted-lt2.false (start t past).args.list.now _ _
    (lower-wrote t c.before) later z address.result address.ensures c.if-m-gt-MOST_PAGES.false

walk-note-requires-3 : (t : ℕ) → walk-lts.Need-note-requires-then-is_leaf-3 (near t) (walk_at t) walk.Post
walk-note-requires-3 t c κs = leaf-asked (upper-turn t c.before.before.before)

walk-same-length-4 : (t : ℕ) → walk-lts.Need-shape_of-list-then-is_leaf-3 (near t) (walk_at t) walk.Post
walk-same-length-4 t c =
    let at_join = c.before.before.before.before.before.before.before in
    c.note-then-is_leaf-3.auto.list ∙ lower-length t at_join

walk-returns-6 : (t : ℕ) → walk-lts.Need-returns-then-is_leaf-3 (near t) (walk_at t) walk.Post
walk-returns-6 t c =
    let at-rest = c.before.before.before.before.before.before in
    upper-wrote t at-rest _ _
    (side-noted t (upper-past t at-rest) _ _ _ c.is_leaf-3.ensures c.if-is_leaf-3.true
    c.note-then-is_leaf-3.ensures)

walk-walk-requires-3 : (t : ℕ) → walk-lts.Need-walk-requires-2 (near t) (walk_at t) walk.Post
walk-walk-requires-3 t c κs =
    let at-rest = c.before.before.before in (
      falling t (upper-past t at-rest),
      (upper-turn t at-rest, eqb-false _ _ (sym c.is_leaf-3.ensures ∙ c.if-is_leaf-3.false)),
    )

walk-same-length-5 : (t : ℕ) → walk-lts.Need-shape_of-list (near t) (walk_at t) walk.Post
walk-same-length-5 t c =
    let at_join = c.before.before.before.before.before.before.before in
    c.walk-2.auto.list ∙ lower-length t at_join

walk-returns-7 : (t : ℕ) → walk-lts.Need-returns (near t) (walk_at t) walk.Post
walk-returns-7 t c =
    upper-wrote t c.before.before.before.before.before.before _ _ c.walk-2.ensures

pub +walk_spec : {M : Type 1} → statement M
+walk_spec = close μ-walk λ t. walk-lts.spec (near t)
    (walk_at t)
    walk.Post
    (walk-depth-of-requires t)
    (walk-cast-depth t)
    (walk-returns t)
    (walk-element-copy-out-t t)
    (walk-returns-2 t)
    (walk-add-deeper t)
    (walk-mul-at t)
    (walk-add-wanted t)
    (walk-mul-wanted t)
    (walk-element-copy-out-wanted t)
    (walk-add-upper t)
    (walk-mul-upper t)
    (walk-element-copy-out-upper t)
    (walk-add-upper-2 t)
    (walk-add-high t)
    (walk-mul-high t)
    (walk-element-copy-out-high t)
    (walk-add-high-2 t)
    (walk-address-by-requires t)
    (walk-mul-other t)
    (walk-shared-slice-read-other t)
    (walk-given-side-requires t)
    (walk-given-side-requires-2 t)
    (walk-given-word-requires t)
    (walk-is-leaf-requires t)
    (walk-note-requires t)
    (walk-same-length t)
    (walk-returns-3 t)
    (walk-walk-requires t)
    (walk-same-length-2 t)
    (walk-returns-4 t)
    (walk-is-leaf-requires-2 t)
    (walk-note-requires-2 t)
    (walk-walk-requires-2 t)
    (walk-same-length-3 t)
    (walk-returns-5 t)
    (walk-is-leaf-requires-3 t)
    (walk-note-requires-3 t)
    (walk-same-length-4 t)
    (walk-returns-6 t)
    (walk-walk-requires-3 t)
    (walk-same-length-5 t)
    (walk-returns-7 t)

-- `check_walk::regions::same_words` meets its contract: a region is its two sides; t − x falls. Assumes nothing.
use Prim.Native.Nat.{ℕ, ◌-◌, ◌<◌}
use mathlib.Core.Path.{sym, ◌∙◌}
use mathlib.Core.Bool.{Bool}
use native.Mathlib.Omega.{arith}
use lib.ListN.{length}
use Rattle.shape.specs.Shape.{width_list}
use Rattle.directory_tests.specs.Intact.{cell_word}
use Rattle.check_walk.proofs.RegionLaws.{cell_word-first, region-lt}
use Rattle.check_walk.proofs.RegionLaws.{same_words-cell, same_words-lower-fails, same_words-upper}
use borrow.Fn.Kinds.{In}
use borrow.Fn.PlainCycle.{Measures, is, falls, and}
use Rattle.check_walk.proofs.regions.same_words.Reads as same-words
use Rattle.check_walk.proofs.regions.same_words.Kinds as same-words-kinds
use Rattle.check_walk.proofs.regions.+same_words.Lts-same_words as same-words-lts
use Rattle.check_walk.proofs.regions.sides_of.Reads as sides-of-reads
use Rattle.check_walk.proofs.regions.+same_words.{statement}
use Rattle.check_walk.proofs.regions.+same_words.Tie.{close}

abbrev μ-same-words : Measures 1 same-words-kinds.ps ℕ
μ-same-words κs a = a.1.1.0 - a.1.0.depth

abbrev same-words-at : ℕ → In 1 same-words-kinds.ps
same-words-at t =
    and 1 same-words-kinds.ps (is 1 same-words-kinds.ps μ-same-words t) same-words.Pre

abbrev same-words-below : ℕ → In 1 same-words-kinds.ps
same-words-below t =
    and 1 same-words-kinds.ps (falls 1 same-words-kinds.ps ◌<◌ μ-same-words t) same-words.Pre

-- what the calls ask and give
abbrev near : ℕ → same-words-lts.Claims
near t = (
  sides-of-reads.Asked,
  sides-of-reads.Learnt,
  same-words-below t,
  same-words.Post,
)

abbrev Start : ℕ → Type 0
Start t = same-words-lts.Start (near t) (same-words-at t) same-words.Post

abbrev of-sides : (t : ℕ)
    → same-words-lts.After-sides_of-sides (near t) (same-words-at t) same-words.Post → Start t
of-sides t c = c.before.before.before.before

abbrev words : (t : ℕ) → Start t → (ℕ → Bool) → ℕ
words t s = cell_word (width_list s.args.widths) s.args.t s.args.dir.now

low : (t : ℕ) (s : Start t)
    → (s.args.region.address < length s.args.dir.now) × (s.args.region.address < 4096)
low t s =
    let w = s.args.widths in
    let q = s.requires.1 in
    region-lt w.w0 w.w1 w.w2 w.w3 s.args.region q.2 s.args.t _ q.0 q.1

same-words-sides-of-requires : (t : ℕ)
    → same-words-lts.Need-sides_of-sides-requires (near t) (same-words-at t) same-words.Post
same-words-sides-of-requires t c κs =
    let q = c.requires.1 in
    (q.0.fit, omega (arith, c.if-region-t.true, q.0.deep), q.2)

same-words-same-words-requires : (t : ℕ)
    → same-words-lts.Need-same_words-requires (near t) (same-words-at t) same-words.Post
same-words-same-words-requires t c κs =
    let q = c.requires.1 in
    let l = c.if-region-t.true in
    let d = c.sides_of-sides.ensures in
    (omega (arith, c.requires.0, l, d.lower-depth), (q.0, omega (arith, l, d.lower-depth), d.lower_in))

same-words-returns : (t : ℕ)
    → same-words-lts.Need-returns-then-not-same_words (near t) (same-words-at t) same-words.Post
same-words-returns t c =
    let s = of-sides t c.before.before.before in
    let a = s.args in
    let d = c.sides_of-sides.ensures in
    λ p n.
    same_words-lower-fails (words t s) a.t a.region.depth p a.word c.if-region-t.true _
    d.lower-depth (sym (c.same_words.ensures _ (d.lower-names p n)) ∙ c.if-not-same_words.true)

same-words-same-words-requires-2 : (t : ℕ)
    → same-words-lts.Need-same_words-requires-then-region-t (near t) (same-words-at t) same-words.Post
same-words-same-words-requires-2 t c κs =
    let q = c.requires.1 in
    let l = c.if-region-t.true in
    let d = c.sides_of-sides.ensures in
    (omega (arith, c.requires.0, l, d.upper-depth), (q.0, omega (arith, l, d.upper-depth), d.upper_in))

same-words-returns-2 : (t : ℕ)
    → same-words-lts.Need-returns-then-region-t (near t) (same-words-at t) same-words.Post
same-words-returns-2 t c =
    let s = of-sides t c.before.before.before.before.before in
    let a = s.args in
    let d = c.sides_of-sides.ensures in
    λ p n.
    same_words-upper (words t s) a.t a.region.depth p a.word c.if-region-t.true _
    d.lower-depth (sym (c.same_words.ensures _ (d.lower-names p n)) ∙ c.if-not-same_words.false) _
    d.upper-depth _ (c.same_words-then-region-t.ensures _ (d.upper-names p n))

same-words-mul-result : (t : ℕ)
    → same-words-lts.Need-offset_bounds-dir-region (near t) (same-words-at t) same-words.Post
same-words-mul-result t c = record { fits = omega (arith, (low t c.before.before.before).1) }

same-words-shared-slice-read-result : (t : ℕ)
    → same-words-lts.Need-bounds-dir-region (near t) (same-words-at t) same-words.Post
same-words-shared-slice-read-result t c = (low t c.before.before.before.before).0

same-words-returns-3 : (t : ℕ) → same-words-lts.Need-returns (near t) (same-words-at t) same-words.Post
same-words-returns-3 t c =
    let s = c.before.before.before.before in
    let a = s.args in
    let w = a.widths in
    let k = s.requires.1 in
    λ p n.
    same_words-cell (words t s) a.t a.region.depth p a.word c.if-region-t.false k.1 _
    (cell_word-first w.w0 w.w1 w.w2 w.w3 a.region k.2 a.t _ k.0 k.1 a.dir.now p n)

pub +same_words_spec : {M : Type 1} → statement M
+same_words_spec = close μ-same-words λ t. same-words-lts.spec (near t)
    (same-words-at t)
    same-words.Post
    (same-words-sides-of-requires t)
    (same-words-same-words-requires t)
    (same-words-returns t)
    (same-words-same-words-requires-2 t)
    (same-words-returns-2 t)
    (same-words-mul-result t)
    (same-words-shared-slice-read-result t)
    (same-words-returns-3 t)

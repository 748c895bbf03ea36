-- Laws of a leaf and its sibling of the same depth, as the plan of a delete meets them: both are joined, or the leaf
-- stays; the refusal 9. Assumes nothing.
use Prim.Native.Nat.{ℕ, suc, ◌+◌, ◌-◌, ◌^◌, ◌≤◌, ◌<◌}
use mathlib.Core.Path.{◌≡◌, refl, sym, ap, ◌∙◌, subst}
use mathlib.Core.Bool.{Bool, true, false, true≢false}
use mathlib.Core.List.{List}
use native.Mathlib.Omega.{arith}
use Rattle.shape.specs.declared.refusal.Refusal.TheVariants as why
use Rattle.shape.specs.Shape.{widths_of, total, shape_number}
use Rattle.split.specs.Bits.{split_bit}
use Rattle.cell.specs.Cell.{Agree}
use Rattle.region.specs.Strings.{sibling}
use Rattle.record.specs.Lanes.{bias_key}
use Rattle.record.specs.Packed.{unpacked_key}
use Rattle.page.specs.Page.{count_of, page_at}
use Rattle.page_ends.specs.Ends.{ends_begin, ends_agree}
use Rattle.page_ends.proofs.AgreeLaws.{ends_begin-agree}
use Rattle.page_ends.specs.Fair.{fair_count}
use Rattle.page_ends.proofs.FairLaws.{Fair}
use Rattle.directory_word.specs.Word.{word_of}
use Rattle.directory_word.specs.declared.Leaf.TheVariants.{Page}
use Rattle.directory_word.proofs.WordLaws.{word_of-one-to-one}
use Rattle.store.specs.Store.{Store}
use Rattle.store.proofs.ShownLaws.{word_on}
use Rattle.change.specs.Delete.{key_string, JoinFound}
use Rattle.refusals.proofs.LimitsLaws.{limits-parts}
use Rattle.leaf_word.proofs.PageLaws.{ends_agree-mask}
use Rattle.refusals.proofs.PassedLaws.{unpacked_key-passed}
use Rattle.tally.specs.Tally.{tally_holds}
use Rattle.tally.proofs.CountLaws.{tally_holds-of-sound}
use Rattle.delete_plan.specs.Plan.{RecordFound, StaysAlone, JoinPlanned, RefusalMet}
use Rattle.delete_plan.specs.Met.{SiblingMet, JoinMade}
use Rattle.delete_plan.specs.declared.Stored.{Stored}
use Rattle.delete_plan.specs.declared.Join.{Join}
use Rattle.delete_plan.proofs.FairLaws.{fair-of-sound, siblings-apart}
use Rattle.delete_plan.proofs.MetLaws.{directory_lent, refused-unsound}
use Rattle.delete_plan.proofs.BesideLaws.{stays}

module _ (before : Store) (encoded : List ℕ) (r : Stored) (mask h beside : ℕ)
    (s : SiblingMet before encoded r mask h beside) where
  abbrev b : ℕ
  b = before.state.shape.capacity

  abbrev ws : List ℕ
  ws = widths_of before.state.shape

  abbrev bias : ℕ
  bias = bias_key before.state.shape

  abbrev p : ℕ → Bool
  p = key_string before encoded

  abbrev x : ℕ
  x = r.depth

  abbrev page_of : ℕ → List ℕ
  page_of i = page_at b before.memory.bytes i

  f : RecordFound before encoded r
  f = s.leaf.found

  -- ---- a sibling with page h

  most : before.state.limits.pages ≤ 4096
  most = (limits-parts before.state f.leaf.limits).1

  h-lt : h < 2 ^ 16 - 1
  h-lt = omega (arith, most, s.other-within)

  deep : x ≤ total ws
  deep = omega (arith, f.leaf.deep, (directory_lent before encoded r.page x f.leaf).deep)

  good : shape_number before.state.shape ≡ 0
  good = f.leaf.passed.shape

  -- the key that falls there begins with the sibling's string
  there : Agree (suc (x - 1)) (sibling p (x - 1)) (split_bit ws (unpacked_key beside))
  there =
      subst (λ v. Agree (suc (x - 1)) (sibling (split_bit ws v) (x - 1)) (split_bit ws (unpacked_key beside)))
      (unpacked_key-passed before encoded f.leaf.passed)
      s.key-there.agree

  -- its page has 1 to b records, the first and the last of which begin with the sibling's string
  pub refused-other : (k : ℕ) → k ≡ fair_count b (ends_agree bias mask beside (page_of h) (count_of (page_of h))) (page_of h)
      → k ≡ 0
      → RefusalMet before encoded why.Unsound
  refused-other k e none =
      refused-unsound before encoded
      (λ S sound.
      let c = s.other in
      fair-of-sound before S sound c.0 h x h-lt c.2 deep mask s.leaf.fixed beside s.key-there.fits
      (λ t l. sym (there t (omega (arith, s.leaf.divided))) ∙ c.1 t (omega (arith, s.leaf.divided)))
      (sym e ∙ none))

  pub refused-tally : tally_holds before.state.tally.leaves ≡ false → RefusalMet before encoded why.Unsound
  refused-tally e =
      refused-unsound before encoded (λ S sound. true≢false (sym (tally_holds-of-sound before S sound) ∙ e))

  module _ (k : ℕ) (fair : Fair b (ends_agree bias mask beside (page_of h) (count_of (page_of h))) (page_of h) k) where
    -- both do not fit one page
    pub stays-full : b + 1 < r.count + k → StaysAlone before encoded r.page x
    stays-full l =
        let c = s.other in
        stays before encoded r f s.leaf.divided (word_on before c.0) (c.0, c.1, refl)
        (λ i w d.
        let same : h ≡ i =
        (word_of-one-to-one h i x x h-lt (omega (arith, most)) (sym c.2 ∙ d)).0 in
        rw (sym same) (omega (arith, fair.counted, f.counted)))

    -- the ends of its page
    ends_there : (m : ℕ) → x ≡ suc m → ends_begin ws bias (suc m) (sibling p m) (page_of h) k ≡ true
    ends_there m d =
        let same : x - 1 ≡ m = omega arith in
        ends_begin-agree ws bias (suc m) (sibling p m) (split_bit ws (unpacked_key beside))
        (subst (λ z. Agree (suc z) (sibling p z) (split_bit ws (unpacked_key beside))) same there) (page_of h) k
        ∙ ap (λ y. ends_begin ws bias y (split_bit ws (unpacked_key beside)) (page_of h) k) (sym d)
        ∙ sym (ends_agree-mask before.state.shape good x deep ws refl bias mask s.leaf.fixed beside
        s.key-there.fits (page_of h) k)
        ∙ ap (ends_agree bias mask beside (page_of h)) fair.counted
        ∙ fair.owned

    own-ends : (m : ℕ) → x ≡ suc m → ends_begin ws bias (suc m) p (page_of r.page) r.count ≡ true
    own-ends m d =
        subst (λ y. ends_begin ws bias y p (page_of r.page) r.count ≡ true) d
        (subst (λ v. ends_begin ws bias x (split_bit ws v) (page_of r.page) r.count ≡ true)
        (unpacked_key-passed before encoded f.leaf.passed) f.ends)

    pub join_planned : r.count + k ≤ b + 1 → tally_holds before.state.tally.leaves ≡ true
        → (j : Join) → JoinMade before.state before.memory.words encoded x h k j → JoinPlanned before encoded r j
    join_planned l holds j made =
        record {
          found = f;
          depth-step = made.depth-step;
          met = met;
          apart = λ d.
              siblings-apart ws bias j.step p (page_of r.page) r.count k (own-ends j.step made.depth-step)
              (ap (λ i. ends_begin ws bias (suc j.step) (sibling p j.step) (page_of i) k) (d ∙ made.other)
              ∙ ends_there j.step made.depth-step);
          counted = rw made.other (made.count ∙ fair.counted);
          few = rw made.count fair.few;
          ends = rw (made.count, made.other) (ends_there j.step made.depth-step);
          bit = made.bit;
          tally = holds;
        }
      where
        here : x - 1 ≡ j.step
        here = omega (arith, made.depth-step)

        met : JoinFound before encoded r.page j.other j.step j.top
        met = record {
          own-within = f.leaf.own-within;
          own = f.leaf.own ∙ ap (λ y. word_of (Page r.page y)) made.depth-step;
          other-within = rw made.other s.other-within;
          other =
              let c = s.other in (
                c.0,
                subst (λ z. Agree (suc z) (sibling p z) c.0) here c.1,
                c.2
                    ∙ ap (λ i. word_of (Page i x)) (sym made.other)
                    ∙ ap (λ y. word_of (Page j.other y)) made.depth-step,
              );
          fit = rw made.other (omega (arith, fair.counted, f.counted));
          above = made.climbed.above;
          empty = made.climbed.empty;
          top = made.climbed.top;
        }

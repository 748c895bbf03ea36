-- Laws of a search in a full leaf, one for each way that it ends; on a sound store the leaf is met as the call's laws
-- ask. Assumes nothing.
use Prim.Native.Nat.{ℕ, ◌≤◌, ◌<◌}
use mathlib.Core.Path.{◌≡◌, refl, sym, ap, ◌∙◌, subst}
use mathlib.Core.Bool.{true, false, false≢true}
use mathlib.Core.List.{List}
use native.Mathlib.Omega.{arith}
use lib.ListN.{length}
use Rattle.lists.specs.Filter.{non_empty}
use Rattle.shape.specs.Shape.{widths_of}
use Rattle.shape.specs.declared.Shape.{Shape}
use Rattle.shape.specs.declared.refusal.Refusal.TheVariants as why
use Rattle.split.specs.Steps.{steps_below}
use Rattle.record.specs.declared.Content.{Content}
use Rattle.record.specs.Record.{record_bit}
use Rattle.record.specs.Lanes.{bias_key}
use Rattle.record.specs.Packed.{packed_key, unpacked_key}
use Rattle.page.specs.Page.{page_at}
use Rattle.page.proofs.FieldLaws.{length-records_from}
use Rattle.key_order.specs.Order.{FirstPair}
use Rattle.pairs.specs.Pairs.{pair_bit}
use Rattle.page_place.specs.Find.{first_one}
use Rattle.model.specs.Sets.{stored}
use Rattle.store.specs.Store.{Store}
use Rattle.tally.specs.Tally.{tally_holds}
use Rattle.tally.proofs.CountLaws.{tally_holds-of-sound}
use Rattle.change.proofs.MeetLaws.{all_have, records_on, MeetsPage}
use Rattle.change.proofs.InsertLaws.{MeetsFull}
use Rattle.change.proofs.AddPromiseLaws.{OnSound, add-alike}
use Rattle.insert_cut.specs.Halves.{first_key, last_key, HalfMet, Halved}
use Rattle.insert_planned.specs.Found.{InsertAsked, EndsMet}
use Rattle.insert_planned.specs.Planned.{FullMet, SplitMet, DividingMet, RefusalMet, LeafFound}
use Rattle.insert_planned.specs.declared.Split.{Split}
use Rattle.insert_cut.specs.declared.Cut.{Cut}
use Rattle.std.specs.Prelude.{Option, Some, None}
use Rattle.insert_planned.specs.declared.Found.TheVariants.{Full}
use Rattle.insert_planned.proofs.MetLaws.{record_with, meets, records-met, absent-met}
use Rattle.insert_planned.proofs.FullLaws.{ends-differ, alike, differ, below_step}
use Rattle.insert_planned.proofs.HalfLaws.{falls-low, falls-high, half_room}
use Rattle.insert_planned.proofs.RefusalLaws.{refused-by, nine-unsound}

module _ (before : Store) (encoded : List ℕ) where
  abbrev s : Shape
  s = before.state.shape

  abbrev b : ℕ
  b = s.capacity

  abbrev page : ℕ → List ℕ
  page g = page_at b before.memory.bytes g

  -- a content, where none counts
  abbrev unread : Content
  unread = record { payload = 0 }

  -- ---- the first and the last key, as the code has them

  pub ends-met : (key g x i pair m : ℕ) → FullMet before encoded key g x i → (ws' page' : List ℕ) (bias' : ℕ)
      → ws' ≡ widths_of s → page' ≡ page g → bias' ≡ bias_key s
      → FirstPair ws' (unpacked_key (first_key bias' page' key i)) (unpacked_key (last_key bias' page' b key i)) pair
      → m ≡ length (steps_below ws' pair) → EndsMet before encoded g x i pair m
  ends-met key g x i pair m f ws' page' bias' e d h p t =
      let with : ℕ → ℕ → List ℕ → List ℕ → Type 0 =
      λ c k pg ws. FirstPair ws (unpacked_key (first_key c pg k i)) (unpacked_key (last_key c pg b k i)) pair in
      let ends : ℕ → List ℕ → List ℕ → Type 0 = with (bias_key s) in
      record {
        met = f.met;
        place = f.place;
        ends =
            subst (λ k. ends k (page g) (widths_of s)) f.key-is
            (subst (λ pg. ends key pg (widths_of s)) d
            (subst (λ ws. ends key page' ws) e (subst (λ c. with c key page' ws') h p)));
        step = t ∙ ap (λ ws. length (steps_below ws pair)) e;
      }

  module _ (a : InsertAsked before encoded) (g x i pair m : ℕ) (e : EndsMet before encoded g x i pair m) where
    pub nine-ends : pair ≡ 64 → RefusalMet before encoded why.Unsound
    nine-ends l =
        nine-unsound before encoded
        (λ S sound. ends-differ before encoded unread a g x i pair m e S sound (omega arith))

    full : (content : Content) → length (records_on before g) ≡ b
    full content =
        ap length (records-met before encoded content a g x b e.met) ∙ length-records_from s b 2 (page g)

    module _ (split : pair < 64) where
      alike-on : (content : Content)
          → OnSound before
          ((t : ℕ) → t < m
          → all_have (record_bit s) (record_bit s (record_with encoded content)) (records_on before g) t ≡ true)
      alike-on content S sound t l =
          subst (λ rs. all_have (record_bit s) (record_bit s (record_with encoded content)) rs t ≡ true)
          (sym (records-met before encoded content a g x b e.met))
          (alike before encoded content a g x i pair m e S sound split t l)

      pub six-alike : before.state.limits.depth ≤ m → RefusalMet before encoded why.Depth
      six-alike l =
          refused-by before encoded why.Depth
          (λ r. OnSound before (MeetsPage before r g x)
          × OnSound before (non_empty (stored r.key (records_on before g)) ≡ false)
          × OnSound before ((t : ℕ) → x ≤ t → t < before.state.limits.depth
          → all_have (record_bit s) (record_bit s r) (records_on before g) t ≡ true))
          (λ values content early f.
          add-alike before values content early g x f.0 f.1 (λ S sound. full content) f.2)
          (λ content. (
            (λ S sound. meets before encoded content a g x b e.met),
            (λ S sound. absent-met before encoded content a g x b e.met S sound i e.place),
            (λ S sound t h k. alike-on content S sound t (omega arith)),
          ))

      pub nine-below : m < x → RefusalMet before encoded why.Unsound
      nine-below l =
          nine-unsound before encoded
          (λ S sound. below_step before encoded unread a g x i pair m e S sound split l)

      pub meets-full : x ≤ m → m < before.state.limits.depth → (content : Content)
          → OnSound before (MeetsFull before (record_with encoded content) g x m)
      meets-full h l content S sound =
          record {
            meets = meets before encoded content a g x b e.met;
            absent = absent-met before encoded content a g x b e.met S sound i e.place;
            full = full content;
            below = h;
            alike = λ t c d. alike-on content S sound t d;
            differ =
                subst (λ rs. all_have (record_bit s) (record_bit s (record_with encoded content)) rs m ≡ false)
                (sym (records-met before encoded content a g x b e.met))
                (differ before encoded content a g x i pair m e S sound split);
            deep = l;
          }

  pub nine-tally : tally_holds before.state.tally.leaves ≡ false → RefusalMet before encoded why.Unsound
  nine-tally h =
      nine-unsound before encoded (λ S sound. false≢true (sym h ∙ tally_holds-of-sound before S sound))

  -- ---- the cut

  module _ (key : ℕ) (split : Split) (d : DividingMet before encoded key split) (ws' page' : List ℕ)
      (bias' : ℕ) (ew : ws' ≡ widths_of s) (ep : page' ≡ page split.page) (eb : bias' ≡ bias_key s) where
    abbrev met : SplitMet before encoded split
    met = d.split-met

    pub nine-half : (half : Option Cut) → Halved ws' bias' page' b key split.behind split.pair half → half ≡ None
        → RefusalMet before encoded why.Unsound
    nine-half half h q =
        nine-unsound before encoded
        (λ S sound.
        let e = met.ends-met in
        let start = first_one (widths_of s) (bias_key s) split.pair (page split.page) b 0 in
        let bit = pair_bit (widths_of s) (unpacked_key (packed_key encoded)) split.pair in
        there
        (falls-low before encoded unread d.asked _ _ _ _ _ e met.differ start refl S sound bit refl)
        (falls-high before encoded unread d.asked _ _ _ _ _ e met.differ start refl S sound bit refl)
        (half_room before encoded unread d.asked _ _ _ _ _ e met.differ start refl S sound bit refl))
      where
        damaged : ℕ → List ℕ → List ℕ → Type 0
        damaged k pg ws = Halved ws (bias_key s) pg b k split.behind split.pair None

        there : damaged (packed_key encoded) (page split.page) (widths_of s)
        there =
            subst (λ k. damaged k (page split.page) (widths_of s)) d.key-is
            (subst (λ pg. damaged key pg (widths_of s)) ep
            (subst (λ ws. damaged key page' ws) ew
            (subst (λ c. Halved ws' c page' b key split.behind split.pair None) eb
            (subst (Halved ws' bias' page' b key split.behind split.pair) q h))))

    pub full-found : (half : Option Cut) → Halved ws' bias' page' b key split.behind split.pair half → (cut : Cut)
        → half ≡ Some cut → LeafFound before encoded (Full split cut)
    full-found half h cut q =
        let halves : ℕ → List ℕ → List ℕ → Type 0 =
        λ k pg ws. HalfMet ws (bias_key s) pg b k split.behind split.pair cut in
        record {
          asked = d.asked;
          met = met;
          half =
              subst (λ k. halves k (page split.page) (widths_of s)) d.key-is
              (subst (λ pg. halves key pg (widths_of s)) ep
              (subst (λ ws. halves key page' ws) ew
              (subst (λ c. Halved ws' c page' b key split.behind split.pair (Some cut)) eb
              (subst (Halved ws' bias' page' b key split.behind split.pair) q h))));
        }

-- Each way that it ends is a law of the key's leaf.
use Rattle.std.proofs.Common.{◌≡◌, ℕ, List, Result, sym, ap, ◌∙◌, subst, arith}
use Rattle.std.proofs.lemmas.Result.{err_from_is_err_and}
use Rattle.shape.specs.Shape.{width_list, widths_of}
use Rattle.shape.specs.declared.refusal.Refusal.{Refusal}
use Rattle.record.specs.Lanes.{bias_key}
use Rattle.record.specs.Packed.{packed_key}
use Rattle.record.proofs.ByteLaws.{AreBytes}
use Rattle.page.specs.Page.{page_at}
use Rattle.page_ends.specs.Ends.{fixed_bits}
use Rattle.store.specs.Store.{Store, store}
use Rattle.refusals.proofs.PassedLaws.{SixteenBits-passed}
use Rattle.leaf_word.proofs.PageLaws.{fixed-bits-asks}
use Rattle.delete_plan.specs.Plan.{LeafMet}
use Rattle.delete_plan.specs.Met.{sought}
use Rattle.delete_plan.specs.declared.Stored.{Stored}
use Rattle.delete_plan.proofs.MetLaws.{SoughtMet, sought-met, directory_lent, page_lent}
use Rattle.delete_plan.proofs.BesideLaws.{stays-root}
use Rattle.delete_plan.proofs.plan_leaf.Goals as goal

-- what the search for the key, packed, answers
met : (before : Store) (encoded : List ℕ) (g x : ℕ) → LeafMet before encoded g x → AreBytes before.memory.bytes
    → (ws : List ℕ) → ws ≡ widths_of before.state.shape → (mask : ℕ) → mask ≡ fixed_bits ws x
    → (bias key : ℕ) → bias ≡ bias_key before.state.shape → key ≡ packed_key encoded → (r : Result Stored Refusal)
    → let b = before.state.shape.capacity in
    sought b bias key mask (page_at b before.memory.bytes g) g x ≡ r → SoughtMet before encoded x r
met before encoded g x m are ws w mask fixed bias key e f r found =
    let b = before.state.shape.capacity in
    let page = page_at b before.memory.bytes g in
    subst (SoughtMet before encoded x)
    (ap (λ h. sought b h (packed_key encoded) mask page g x) (sym e) ∙ ap (λ k. sought b bias k mask page g x) (sym f) ∙ found)
    (sought-met before encoded g x m are mask (fixed ∙ ap (λ v. fixed_bits v x) w))

pub fixed_bits-mask-requires : goal.fixed_bits-mask-requires
fixed_bits-mask-requires c =
    let a = c.args in
    let lent = directory_lent (store a.state a.dir.now a.pages.now) a.encoded.values a.page a.depth c.requires in
    fixed-bits-asks a.state.shape lent.shape a.depth (omega (arith, c.requires.deep, lent.deep))
    (width_list c.widths_of.result) c.widths_of.ensures

pub pack_key-packed-requires : goal.pack_key-packed-requires
pack_key-packed-requires c = SixteenBits-passed _ _ c.requires.passed

pub seek-requires : goal.seek-requires
seek-requires c =
    let a = c.args in
    page_lent (store a.state a.dir.now a.pages.now) a.encoded.values a.page a.depth c.requires a.page c.requires.own-within

pub returns-in_err-found : goal.returns-in_err-found
returns-in_err-found c =
    let a = c.args in
    let p = err_from_is_err_and c.from_residual.result c.from_residual.ensures.1 in
    rw (p.1, p.2)
    (met (store a.state a.dir.now a.pages.now) a.encoded.values a.page a.depth c.requires
    (λ i. omega (arith, c.type_inv.pages i)) _ c.widths_of.ensures _ c.fixed_bits-mask.ensures _ _
    c.bias_key-bias.ensures c.pack_key-packed.ensures _ (sym c.in_err-found.ensures))

pub returns-then-depth-eq0 : goal.returns-then-depth-eq0
returns-then-depth-eq0 c =
    let a = c.args in
    let before = store a.state a.dir.now a.pages.now in
    let f = met before a.encoded.values a.page a.depth c.requires
    (λ i. omega (arith, c.type_inv.pages i)) _ c.widths_of.ensures _ c.fixed_bits-mask.ensures _ _
    c.bias_key-bias.ensures c.pack_key-packed.ensures _ (sym c.in_ok-found.ensures) in
    record { found = f.0; alone = stays-root before a.encoded.values _ f.0 (f.1 ∙ c.if-depth-eq0.true) }

pub plan_sibling-requires : goal.plan_sibling-requires
plan_sibling-requires c =
    let a = c.args in
    let f = met (store a.state a.dir.now a.pages.now) a.encoded.values a.page a.depth c.requires
    (λ i. omega (arith, c.type_inv.pages i)) _ c.widths_of.ensures _ c.fixed_bits-mask.ensures _ _
    c.bias_key-bias.ensures c.pack_key-packed.ensures _ (sym c.in_ok-found.ensures) in
    record {
      found = f.0;
      divided = omega (arith, f.1, c.if-depth-eq0.false);
      fixed =
          c.fixed_bits-mask.ensures
          ∙ ap (λ ws. fixed_bits ws a.depth) c.widths_of.ensures
          ∙ ap (fixed_bits (widths_of a.state.shape)) (sym f.1);
    }

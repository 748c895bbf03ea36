-- Record i joins the store so far.
use Rattle.std.proofs.Common.{◌≡◌, ◌+◌, ◌∙◌, sym, ap, subst}
use Rattle.shape.proofs.ShapeLaws.{shape_number-true}
use Rattle.record.specs.Lanes.{bias_key}
use Rattle.store.specs.Store.{store}
use Rattle.store.specs.declared.State.{State}
use Rattle.file.specs.File.{encodings_at}
use Rattle.load.specs.Private.{Joined}
use Rattle.load.proofs.DecodedLaws.{values_of}
use Rattle.load.proofs.JoinedLaws.{joined-none, joined_key, joined-more}
use Rattle.load.proofs.add_records.Goals as goal

pub bias_key-bias-requires : goal.bias_key-bias-requires
bias_key-bias-requires c = shape_number-true c.args.state.shape c.requires.sound.shape

pub loop-i-init : goal.loop-i-init
loop-i-init c =
    joined-none (store c.args.state c.args.dir.now c.args.pages.now) c.args.n c.args.file.now c.requires

pub decode_key-key-requires : goal.decode_key-key-requires
decode_key-key-requires c = shape_number-true c.args.state.shape c.requires.sound.shape

pub add-added-requires : goal.add-added-requires
add-added-requires c =
    let values : c.decode_key-key.result.values
    ≡ values_of c.args.state.shape (encodings_at (bias_key c.args.state.shape) c.args.file.now c.loop-i.i) =
    c.decode_key-key.ensures
    ∙ ap (values_of c.args.state.shape)
    (c.encodings_at.ensures ∙ ap (λ k. encodings_at k c.args.file.now c.loop-i.i) c.bias_key-bias.ensures) in
    joined_key _ _ _ _ _ c.requires c.loop-i.invariant c.loop-i-test.true _ _ values c.read_content-content.ensures

pub loop-i-preserved : goal.loop-i-preserved
loop-i-preserved c =
    let values : c.decode_key-key.result.values
    ≡ values_of c.args.state.shape (encodings_at (bias_key c.args.state.shape) c.args.file.now c.loop-i.i) =
    c.decode_key-key.ensures
    ∙ ap (values_of c.args.state.shape)
    (c.encodings_at.ensures ∙ ap (λ k. encodings_at k c.args.file.now c.loop-i.i) c.bias_key-bias.ensures) in
    subst
    (λ (st : State). Joined (store c.args.state c.args.dir.now c.args.pages.now) (c.loop-i.i + 1) c.args.file.now
    (store st c.add-added.new.dir c.add-added.new.pages))
    (sym c.state_after-current.ensures)
    (joined-more _ _ _ _ _ c.requires c.loop-i.invariant c.loop-i-test.true _ _ values c.read_content-content.ensures _ _
    c.add-added.ensures)

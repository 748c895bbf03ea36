-- `host_state::state_in` meets its contract: by the number of words. Assumes nothing.
use Rattle.std.proofs.Common.{sym, ◌∙◌}
use Rattle.store.proofs.DefaultLaws.{no_state-default}
use Rattle.host_state.proofs.ImageLaws.{state_in-short, state_in-long}
use Rattle.host_state.proofs.state_in.Goals as goal

pub returns-then-words-lt-STATE_SIZE : goal.returns-then-words-lt-STATE_SIZE
returns-then-words-lt-STATE_SIZE c =
    no_state-default c.default.result c.default.ensures ∙ sym (state_in-short c.args.words.now c.if-words-lt-STATE_SIZE.true)

pub returns : goal.returns
returns c = c.shown_state.ensures ∙ sym (state_in-long c.args.words.now c.if-words-lt-STATE_SIZE.false)

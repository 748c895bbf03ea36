-- `host_state::shown_state` meets its contract: each field is the word that the definition names. Assumes nothing.
use Rattle.std.proofs.Common.{rules}
use Rattle.host_state.specs.Image.{shown_state}
use Rattle.host_state.proofs.shown_state.Goals as goal

pub returns : goal.returns
unfolding shown_state
returns c = search rules

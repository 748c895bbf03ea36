-- The array's numbers are the state's words, and show it.
use Rattle.std.proofs.Common.{rules, ap, ◌∙◌}
use Rattle.host_state.specs.Image.{state_words, state_put, state_in}
use Rattle.host_state.proofs.ImageLaws.{state_in-state_put}
use Rattle.host_state.proofs.put_state.Goals as goal

pub returns-clause-put : goal.returns-clause-put
unfolding state_put state_words
returns-clause-put c = search rules

-- the lengths of the state's arrays are what owning it tells
pub returns-clause-shown : goal.returns-clause-shown
returns-clause-shown c =
    ap state_in (returns-clause-put c)
    ∙ state_in-state_put c.args.state c.args.words.now c.well_formed.1.0.1.1.0.1.1.1.0.1.0.1
    c.well_formed.1.0.1.1.1.1.1.0.1.1.0.1.0.1

-- What `insert` promises, over the words.
use Rattle.host_changes.proofs.ChangeLaws.{insert-judged, words-of-done, promise-settled}
use Rattle.host_changes.proofs.insert_in_words.Goals as goal

pub settle_change-requires : goal.settle_change-requires
settle_change-requires c =
    words-of-done (insert-judged _ _ _ _ _ _) _ _ c.state_in.ensures _ _ c.insert-inserted.ensures

pub returns : goal.returns
returns c =
    let settled = c.settle_change.ensures in
    promise-settled (insert-judged _ _ _ _ _ _) _ _ c.state_in.ensures _ _ c.insert-inserted.ensures _ _ _ _
    settled.number_value (settled.settled c.state_in.result)

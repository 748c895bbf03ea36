use Rattle.query_rows.proofs.RowLaws.{wanted_number-free, wanted_number-given}
use Rattle.query_rows.proofs.wanted_bit.Goals as goal

pub returns-in-Free : goal.returns-in-Free
returns-in-Free c =
    let a = c.args in
    wanted_number-free a.query a.j c.requires.attribute a.width a.bit c.in-Free.is

pub returns-in-Given : goal.returns-in-Given
returns-in-Given c =
    let a = c.args in
    wanted_number-given a.query a.j c.requires.attribute a.width a.bit _ c.in-Given.is

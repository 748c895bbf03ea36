-- What the query promises of its answer makes it printable.
use Rattle.std.proofs.Common.{arith}
use Rattle.stock_console.proofs.ReplyLaws.{printable}
use Rattle.stock_console.proofs.reply_list.Goals as goal

pub put_listed-end-requires : goal.put_listed-end-requires
put_listed-end-requires c =
    let a = c.args in (
      omega (arith, c.requires.0),
      printable a.session.state a.dir.now a.pages.now _ a.out.now _ c.requires.1 _ c.query-listed.ensures,
    )

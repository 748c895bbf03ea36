-- The bytes so far were read, and the text ends within what is lent. Assumes nothing.
use Rattle.stock_console.specs.Console.{stock_memory}
use Rattle.stock_input.proofs.InputLaws.{Running}
use Rattle.stock_input.proofs.run.Given as goal

abbrev pub invariant-loop-next : goal.invariant-loop-next
invariant-loop-next l =
    Running l.piece l.from l.fn.progress (stock_memory l.fn.dir l.fn.pages l.fn.out) l.fn.text l.next l.here
    (stock_memory l.dir l.pages l.out) l.text

-- Commands as the code names them. Only the code's contracts cite these. Assumes nothing.
use Rattle.std.specs.Prelude.{ℕ}
use Rattle.stock_line.specs.declared.Line.{Line}
use Rattle.stock_command.specs.Asked.{Asked, nothing, no_shape, new_shape, put, cut, list}
use Rattle.stock_command.specs.Asked.{values_from, items_of, shape_in, content_in}
use Rattle.stock_command.specs.declared.Command.{Command}
use Rattle.stock_command.specs.declared.Command.TheVariants as command

-- what a line asks, by its command, of a store with d attributes
abbrev pub asked_as : Line → ℕ → Command → Asked
asked_as line d command.Nothing = nothing
asked_as line d command.NoShape = no_shape
asked_as line d command.NewShape = new_shape (shape_in line)
asked_as line d command.Put = put (values_from line d 0) (content_in line d)
asked_as line d command.Cut = cut (values_from line d 0)
asked_as line d command.List = list (items_of line d)

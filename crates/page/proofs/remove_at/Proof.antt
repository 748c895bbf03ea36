-- `page::remove_at` meets its contract: a run of bytes moved down, then the count. Assumes nothing.
use mathlib.Core.Logic.{inl}
use native.Mathlib.Omega.{arith}
use Rattle.page.specs.Changes.{counted_page, removed_page}
use borrow.Author.Rules.{rules}
use Rattle.page.proofs.remove_at.Statement.{statement}
use Rattle.page.proofs.remove_at.Tie as tie

mul-to : tie.Need-overflow_mul-to
mul-to c = search rules

add-to : tie.Need-overflow_add-to
add-to c = search rules

sub-run : tie.Need-overflow_sub-run
sub-run c = search rules

sub-run-2 : tie.Need-overflow_sub-run-2
sub-run-2 c = search rules

mul-run : tie.Need-overflow_mul-run
mul-run c = search rules

add-move-down : tie.Need-overflow_add-to-2
add-move-down c = search rules

move-down-requires : tie.Need-move_down-requires
move-down-requires c κs = (omega arith, omega arith, inl (omega arith))

sub-write16 : tie.Need-overflow_sub-n
sub-write16 c = search rules

write16-requires : tie.Need-write16-requires
write16-requires c κs = search rules

same_length : tie.Need-shape_of-page
same_length c = search rules

returns : tie.Need-returns
unfolding counted_page removed_page
returns c =
    rw (c.write16.ensures, c.move_down.ensures)

pub remove_at_spec : {M : Type 1} → statement M
remove_at_spec =
    tie.close
    (tie.spec
    mul-to
    add-to
    sub-run
    sub-run-2
    mul-run
    add-move-down
    move-down-requires
    sub-write16
    write16-requires
    same_length
    returns)

-- `directory_fill::fill_block` meets its contract: the mask is what lies between the two addresses.
-- Assumes nothing.
use mathlib.Core.Path.{sym}
use borrow.Author.Rules.{rules}
use Rattle.directory_fill.proofs.fill_block.Statement.{statement}
use Rattle.directory_fill.proofs.fill_block.Tie as tie

address-before-requires : tie.Need-address_before-base-requires
address-before-requires c κs = search rules

address-before-requires-2 : tie.Need-address_before-end-requires
address-before-requires-2 c κs = search rules

sub-fill-mask : tie.Need-overflow_sub-end
sub-fill-mask c = search rules

fill-mask-requires : tie.Need-fill_mask-requires
fill-mask-requires c κs = search rules

same_length : tie.Need-shape_of-dir
same_length c = search rules

returns : tie.Need-returns
returns c =
    let m = c.fill_mask.ensures in
    let first = c.address_before-base.ensures in
    let last = c.address_before-end.ensures in
    rw (sym first, sym last) m

pub fill_block_spec : {M : Type 1} → statement M
fill_block_spec =
    tie.close
    (tie.spec
    address-before-requires
    address-before-requires-2
    sub-fill-mask
    fill-mask-requires
    same_length
    returns)

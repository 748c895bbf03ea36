-- `directory_tests::regions::block_holds` meets its contract: the mask is what lies between the two addresses. Assumes
-- nothing.
use mathlib.Core.Path.{sym}
use borrow.Author.Rules.{rules}
use Rattle.directory_tests.proofs.regions.block_holds.Statement.{statement}
use Rattle.directory_tests.proofs.regions.block_holds.Tie as tie

address-before-requires : tie.Need-address_before-base-requires
address-before-requires c κs = search rules

address-before-requires-2 : tie.Need-address_before-end-requires
address-before-requires-2 c κs = search rules

sub-mask-holds : tie.Need-overflow_sub-end
sub-mask-holds c = search rules

mask-holds-requires : tie.Need-mask_holds-requires
mask-holds-requires c κs = search rules

returns : tie.Need-returns
returns c =
    let first = c.address_before-base.ensures in
    let last = c.address_before-end.ensures in
    rw (sym first, sym last) c.mask_holds.ensures

pub block_holds_spec : {M : Type 1} → statement M
block_holds_spec =
    tie.close (tie.spec address-before-requires address-before-requires-2 sub-mask-holds mask-holds-requires returns)

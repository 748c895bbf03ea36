-- `delete_pages::join_records` meets its contract: pages stay lent when a record is removed. Assumes nothing.
use Prim.Native.Nat.{◌-◌}
use mathlib.Core.Path.{ap, subst, sym, ◌∙◌}
use native.Mathlib.Omega.{arith}
use Rattle.pages.specs.Pages.{PageLent}
use Rattle.delete_pages.specs.PageBytes.{joined_bytes}
use Rattle.delete_pages.specs.Private.{joined_pages}
use Rattle.delete_pages.proofs.PageLaws.{lent-removed_bytes}
use borrow.Author.Rules.{rules}
use Rattle.delete_pages.proofs.join_records.Statement.{statement}
use Rattle.delete_pages.proofs.join_records.Tie as tie

remove-record-requires : tie.Need-remove_record-requires
remove-record-requires c κs = c.requires.own

sub-join-pages : tie.Need-overflow_sub-found
sub-join-pages c = omega (arith, c.requires.own.place-lt)

join-pages-requires : tie.Need-join_pages-requires
join-pages-requires c κs =
    let a = c.args in
    let r = a.found in
    let own = c.requires.own in
    let e = sym c.remove_record.ensures in
    let lent = lent-removed_bytes a.capacity r.page r.place r.count a.pages.now own.page
    own.place-lt own.few in
    record {
      own = subst (PageLent a.capacity r.page) e (lent r.page own.page);
      other = subst (PageLent a.capacity a.join.other) e (lent a.join.other c.requires.page);
      fit = c.requires.fit;
    }

same_length : tie.Need-shape_of-pages
same_length c = search rules

returns : tie.Need-returns
unfolding joined_bytes joined_pages
returns c =
    let a = c.args in
    let j = a.join in
    let joined = c.join_pages.ensures in
    record {
      kept = joined.kept;
      bytes-are =
          joined.bytes-are
          ∙ ap (joined_pages a.capacity a.found.page (a.found.count - 1) j.other j.count j.bit)
          c.remove_record.ensures;
    }

pub join_records_spec : {M : Type 1} → statement M
join_records_spec =
    tie.close
    (tie.spec remove-record-requires sub-join-pages join-pages-requires same_length returns)

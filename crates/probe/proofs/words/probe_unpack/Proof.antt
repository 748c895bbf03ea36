-- `probe::words::probe_unpack` meets its contract: the leaf that `unpack` tells, by its variant. Assumes nothing.
use mathlib.Core.Path.{sym, ap, ◌∙◌}
use Rattle.probe.specs.Fields.{leaf_fields}
use borrow.Author.Rules.{rules}
use Rattle.probe.proofs.words.probe_unpack.Statement.{statement}
use Rattle.probe.proofs.words.probe_unpack.Tie as tie

unpack-requires : tie.Need-unpack-leaf-requires
unpack-requires c κs = search rules

enum-known-leaf : tie.Need-enum_known-leaf
enum-known-leaf c = search rules

enum-known-leaf-2 : tie.Need-enum_known-leaf-in-Page-1
enum-known-leaf-2 c = search rules

returns : tie.Need-returns-in-Empty
returns c = sym (ap leaf_fields (sym c.unpack-leaf.ensures ∙ c.in-Empty.is))

returns-2 : tie.Need-returns-in-Page
returns-2 c = sym (ap leaf_fields (sym c.unpack-leaf.ensures ∙ c.in-Page.is))

pub probe_unpack_spec : {M : Type 1} → statement M
probe_unpack_spec =
    tie.close (tie.spec unpack-requires enum-known-leaf enum-known-leaf-2 returns returns-2)

-- `tally_lent::join` meets its contract: a lent function over `tally::join`. Assumes nothing.
use mathlib.Core.Path.{refl}
use contract.Running.{tables, tables_of}
use denote.Triple.Table.{entered}
use Rattle.change.specs.Delete.{joined_tally}
use Rattle.tally.proofs.join.Symbol.{name as #tally-join}
use Rattle.tally.proofs.join.Met as callee-thm
use Rattle.tally_lent.proofs.Numbers.{passing}
use Rattle.tally_lent.proofs.Lending.{Lent}
use Rattle.tally_lent.proofs.LentLaws.{lent-meets}
use Rattle.tally_lent.specs.contracts.join.Key.{name as #tally_lent-join}
use Rattle.tally_lent.proofs.join.Statement.{statement}
use Rattle.tally_lent.proofs.join.Code as code

pub join_spec : {M : Type 1} → statement M
unfolding tables_of
join_spec 𝓤 𝓛 𝓜 𝓡 wired =
    let known = callee-thm.met 𝓤 𝓛 𝓜 𝓡 (code.calls-tally::join 𝓡.env wired) in
    entered 𝓤 𝓛.H (Lent 𝓤 joined_tally 𝓛) (tables 𝓤 𝓛.H 𝓜 𝓡 𝓡.env).C (tables 𝓤 𝓛.H 𝓜 𝓡 𝓡.env).Λ
    #tally_lent-join code.function (code.unfolded 𝓤 𝓛.H 𝓜 𝓡 wired)
    (lent-meets 𝓛 joined_tally #tally-join _ _
    (λ x n. (search passing, search passing)) code.function refl (tables_of 𝓤 𝓛.H 𝓜 (tables 𝓤 𝓛.H 𝓜 𝓡 𝓡.env)) known)

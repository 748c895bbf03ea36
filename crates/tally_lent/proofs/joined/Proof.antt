-- `tally_lent::joined` meets its contract: by value, over the lent `tally_lent::join`. Assumes nothing.
use mathlib.Core.Path.{refl}
use contract.Running.{tables, tables_of}
use denote.Triple.Table.{entered}
use Rattle.change.specs.Delete.{joined_tally}
use Rattle.tally_lent.proofs.join.Symbol.{name as #tally_lent-join}
use Rattle.tally_lent.proofs.join.Met as callee-thm
use Rattle.tally_lent.proofs.Numbers.{passing}
use Rattle.tally_lent.proofs.Lending.{ByValue}
use Rattle.tally_lent.proofs.ValueLaws.{value-meets}
use Rattle.tally_lent.specs.contracts.joined.Key.{name as #tally_lent-joined}
use Rattle.tally_lent.proofs.joined.Statement.{statement}
use Rattle.tally_lent.proofs.joined.Code as code

pub joined_spec : {M : Type 1} → statement M
unfolding tables_of
joined_spec 𝓤 𝓛 𝓜 𝓡 wired =
    let known = callee-thm.met 𝓤 𝓛 𝓜 𝓡 (code.calls-tally_lent::join 𝓡.env wired) in
    entered 𝓤 𝓛.H (ByValue 𝓤 joined_tally 𝓛) (tables 𝓤 𝓛.H 𝓜 𝓡 𝓡.env).C (tables 𝓤 𝓛.H 𝓜 𝓡 𝓡.env).Λ
    #tally_lent-joined code.function (code.unfolded 𝓤 𝓛.H 𝓜 𝓡 wired)
    (value-meets 𝓛 joined_tally #tally_lent-join _ _
    (λ x n. (search passing, search passing)) code.function refl (tables_of 𝓤 𝓛.H 𝓜 (tables 𝓤 𝓛.H 𝓜 𝓡 𝓡.env)) known)

-- `tally_lent::divided` meets its contract: by value, over the lent `tally_lent::divide`. Assumes nothing.
use mathlib.Core.Path.{refl}
use contract.Running.{tables, tables_of}
use denote.Triple.Table.{entered}
use Rattle.change.specs.Divided.{divided_tally}
use Rattle.tally_lent.proofs.divide.Symbol.{name as #tally_lent-divide}
use Rattle.tally_lent.proofs.divide.Met as callee-thm
use Rattle.tally_lent.proofs.Numbers.{passing}
use Rattle.tally_lent.proofs.Lending.{ByValue}
use Rattle.tally_lent.proofs.ValueLaws.{value-meets}
use Rattle.tally_lent.specs.contracts.divided.Key.{name as #tally_lent-divided}
use Rattle.tally_lent.proofs.divided.Statement.{statement}
use Rattle.tally_lent.proofs.divided.Code as code

pub divided_spec : {M : Type 1} → statement M
unfolding tables_of
divided_spec 𝓤 𝓛 𝓜 𝓡 wired =
    let known = callee-thm.met 𝓤 𝓛 𝓜 𝓡 (code.calls-tally_lent::divide 𝓡.env wired) in
    entered 𝓤 𝓛.H (ByValue 𝓤 divided_tally 𝓛) (tables 𝓤 𝓛.H 𝓜 𝓡 𝓡.env).C (tables 𝓤 𝓛.H 𝓜 𝓡 𝓡.env).Λ
    #tally_lent-divided code.function (code.unfolded 𝓤 𝓛.H 𝓜 𝓡 wired)
    (value-meets 𝓛 divided_tally #tally_lent-divide _ _
    (λ x n. (search passing, search passing)) code.function refl (tables_of 𝓤 𝓛.H 𝓜 (tables 𝓤 𝓛.H 𝓜 𝓡 𝓡.env)) known)

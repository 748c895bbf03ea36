-- `tally_lent::divide` meets its contract: a lent function over `tally::divide`. Assumes nothing.
use mathlib.Core.Path.{refl}
use contract.Running.{tables, tables_of}
use denote.Triple.Table.{entered}
use Rattle.change.specs.Divided.{divided_tally}
use Rattle.tally.proofs.divide.Symbol.{name as #tally-divide}
use Rattle.tally.proofs.divide.Met as callee-thm
use Rattle.tally_lent.proofs.Numbers.{passing}
use Rattle.tally_lent.proofs.Lending.{Lent}
use Rattle.tally_lent.proofs.LentLaws.{lent-meets}
use Rattle.tally_lent.specs.contracts.divide.Key.{name as #tally_lent-divide}
use Rattle.tally_lent.proofs.divide.Statement.{statement}
use Rattle.tally_lent.proofs.divide.Code as code

pub divide_spec : {M : Type 1} → statement M
unfolding tables_of
divide_spec 𝓤 𝓛 𝓜 𝓡 wired =
    let known = callee-thm.met 𝓤 𝓛 𝓜 𝓡 (code.calls-tally::divide 𝓡.env wired) in
    entered 𝓤 𝓛.H (Lent 𝓤 divided_tally 𝓛) (tables 𝓤 𝓛.H 𝓜 𝓡 𝓡.env).C (tables 𝓤 𝓛.H 𝓜 𝓡 𝓡.env).Λ
    #tally_lent-divide code.function (code.unfolded 𝓤 𝓛.H 𝓜 𝓡 wired)
    (lent-meets 𝓛 divided_tally #tally-divide _ _
    (λ x n. (search passing, search passing)) code.function refl (tables_of 𝓤 𝓛.H 𝓜 (tables 𝓤 𝓛.H 𝓜 𝓡 𝓡.env)) known)

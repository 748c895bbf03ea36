-- `replay_encoding::request_size` meets its contract. Assumes nothing.
use Prim.Native.Nat.{◌<◌}
use mathlib.Core.Path.{sym, ◌∙◌}
use native.Mathlib.Omega.{arith}
use Rattle.replay_encoding.proofs.EncodingLaws.{request_size-none, request_size-listed}
use borrow.Author.Rules.{rules}
use Rattle.replay_encoding.proofs.request_size.Statement.{statement}
use Rattle.replay_encoding.proofs.request_size.Tie as tie

returns : tie.Need-returns-then-request-lt3
returns c =
    let a = c.args in
    (sym (request_size-none a.request a.room c.if-request-lt3.true), omega arith)

cast-smaller-length : tie.Need-overflow_cast-request
cast-smaller-length c = search rules

smaller-length-requires : tie.Need-smaller_length-requires
smaller-length-requires c κs = search rules

returns-2 : tie.Need-returns
returns-2 c =
    let a = c.args in
    let listed : a.request.kind < 3 → ⊥ = λ h. omega (arith, h, c.if-request-lt3.false) in (
      c.smaller_length.ensures ∙ sym (request_size-listed a.request a.room listed),
      omega (arith, c.smaller_length.ensures),
    )

pub request_size_spec : {M : Type 1} → statement M
request_size_spec = tie.close (tie.spec returns cast-smaller-length smaller-length-requires returns-2)

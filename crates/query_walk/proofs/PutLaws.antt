-- Laws of what a walk answers that noted from the front of the list on. Assumes nothing.
use Prim.Native.Nat.{ℕ, ◌≤◌, ◌<◌}
use mathlib.Core.Path.{ap, ◌∙◌}
use mathlib.Core.List.{List}
use native.Mathlib.Nat.{zero-add}
use native.Mathlib.Omega.{arith}
use lib.ListN.{length}
use Rattle.std.specs.Prelude.{Some, None}
use Rattle.query_seen.specs.Seen.{Seen}
use Rattle.query_walk.specs.Noting.{Put}
use Rattle.query_walk.specs.Turns.{Wrote}
use Rattle.query_walk.proofs.WroteLaws.{sound-of-next, damaged-of-next}

module _ (list later : List ℕ) (s : Seen) (r : ℕ) (o : Wrote list 0 s r later) where
  pub Put-pages : r ≤ 4096 → Put list s (Some r) later
  Put-pages k =
      let d = sound-of-next list later 0 s r o k in
      record { answer = ap Some (d.1 ∙ zero-add (length s.pages)) ∙ rw d.0; lines = o.lines }

  pub Put-damaged : length s.pages ≤ 4096 → 4096 < r → Put list s None later
  Put-damaged l k =
      let d = damaged-of-next list later 0 s r o k (omega (arith, l)) in
      record { answer = rw d; lines = o.lines }

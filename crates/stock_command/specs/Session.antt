-- The session after a line `shape` (document 01, "Proof table and the printed run"). Assumes nothing.
use Rattle.std.specs.Prelude.{◌≡◌, true}
use Rattle.shape.specs.Refusal.{Answer, accepted, refused, refused_with}
use Rattle.store.specs.declared.State.{State}
use Rattle.stock_command.specs.declared.session.Session.{Session}

-- "Each accepted one starts a fresh store": a refused one leaves the store that there was
abbrev pub Begun : Session → Answer (Unit {0}) → State → Session → Type 0
Begun before (accepted x) fresh after = after ≡ record { begun = true; state = fresh }
Begun before (refused n) fresh after = after ≡ before
Begun before (refused_with n x) fresh after = after ≡ before

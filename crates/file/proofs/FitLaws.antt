-- Laws of 2 for an output: whether a set's file fits it. Assumes nothing.
use Prim.Native.Nat.{ℕ, ◌≤◌, ◌<◌}
use mathlib.Core.Path.{◌≡◌}
use mathlib.Core.List.{List}
use lib.ListN.{length}
use borrow.Author.Tests.{lt-ltb, le-ltb}
use Rattle.shape.specs.Refusal.{first_number}
use Rattle.record.specs.Record.{Record}
use Rattle.file.specs.File.{file_size}
use Rattle.file.specs.Promises.{fit_number}

pub fit_number-short : (S : List Record) (out : List ℕ) → length out < file_size (length S) → fit_number S out ≡ 2
unfolding first_number
fit_number-short S out l = rw (lt-ltb (length out) (file_size (length S)) l)

pub fit_number-fits : (S : List Record) (out : List ℕ) → file_size (length S) ≤ length out → fit_number S out ≡ 0
unfolding first_number
fit_number-fits S out l = rw (le-ltb (length out) (file_size (length S)) l)

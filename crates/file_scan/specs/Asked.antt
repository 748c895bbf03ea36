-- What the scan asks of a file's records. Assumes nothing.
use Rattle.std.specs.Prelude.{ℕ, ◌*◌, ◌≤◌, ◌≡◌, true, List, length}
use Rattle.shape.specs.Shape.{shape_number, widths_of, total}
use Rattle.shape.specs.declared.Shape.{Shape}
use Rattle.record.specs.Bytes.{record_size}
use Rattle.page.specs.Page.{records_from}
use Rattle.model.specs.Sets.{is_set}
use Rattle.model.specs.Model.{Fixed}
use Rattle.store.specs.declared.Limits.{Limits}

-- a shape with P and L
abbrev pub fixed_with : Shape → Limits → Fixed
fixed_with s l = record { shape = s; page_limit = l.pages; depth_limit = l.depth }

-- n records of a file that are a set in split order
pub record Scannable (s : Shape) (l : Limits) (n : ℕ) (file : List ℕ) : Type 0 where
  pub shape : shape_number s ≡ 0
  pub lent : record_size * n ≤ length file
  pub set : is_set s (records_from s n 0 file) ≡ true
  pub depth-bits : l.depth ≤ total (widths_of s)

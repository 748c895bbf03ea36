-- What a command line asks (document 01, "Proof table and the printed run"). Assumes nothing.
use Rattle.std.specs.Prelude.{ℕ, ◌+◌, Bool, ◌&&◌, ◌||◌, not, cond, List, eqb, ltb, get_or}
use Rattle.std.proofs.Math.Option.{Option, none, some}
use Rattle.shape.specs.Shape.{within}
use Rattle.shape.specs.Key.{per_attribute}
use Rattle.shape.specs.declared.Shape.{Shape}
use Rattle.record.specs.declared.Content.{Content}
use Rattle.stock_line.specs.declared.Field.{Field}
use Rattle.stock_line.specs.declared.Field.TheVariants.{Empty, Number, Any, Wrong}
use Rattle.stock_line.specs.declared.Line.{Line}
use Rattle.stock_line.specs.declared.Kind.{Kind}
use Rattle.stock_line.specs.declared.Kind.TheVariants as kind
use Rattle.stock_command.specs.declared.session.Session.{Session}

pub data Asked : Type 0 where
  -- "A line of another form, one before an accepted `shape`"
  nothing : Asked
  -- "with d outside 1–4 it prints `no 1`, whichever numbers follow"
  no_shape : Asked
  new_shape : Shape → Asked
  put : List ℕ → Content → Asked
  cut : List ℕ → Asked
  list : List (Option ℕ) → Asked

-- a field's number, 0 for one that is none
abbrev pub number_of : Field → ℕ
number_of Empty = 0
number_of (Number v) = v
number_of Any = 0
number_of Wrong = 0

-- a field as a value, or none
abbrev pub item_of : Field → Option ℕ
item_of Empty = none
item_of (Number v) = some v
item_of Any = none
item_of Wrong = none

module _ (line : Line) where
  -- field j as a number, of the six that are kept
  abbrev pub number_at : ℕ → ℕ
  number_at j = cond (ltb j 6) (number_of (get_or line.kept j Empty)) 0

  -- "values or `*` for free"
  abbrev pub item_at : ℕ → Option ℕ
  item_at j = item_of (get_or line.kept j (Number 0))

  -- the numbers of d fields from one on, one for each attribute
  unfoldable pub values_from : ℕ → ℕ → List ℕ
  values_from d from = per_attribute (λ j. cond (ltb j d) (number_at (from + j)) 0)

  unfoldable pub items_of : ℕ → List (Option ℕ)
  items_of d = per_attribute (λ j. cond (ltb j d) (item_at j) none)

  -- "d, widths, b"; "`stock` marks none"
  unfoldable pub shape_in : Shape
  shape_in = record {
    attributes = number_at 0;
    widths = values_from (number_at 0) 1;
    capacity = number_at (number_at 0 + 1);
    signs = 0;
  }

  -- "payload", behind d values
  unfoldable pub content_in : ℕ → Content
  content_in d = record { payload = number_at d }

  -- "`shape` d, widths, b", with as many widths as its d says
  unfoldable pub asked_shape : Asked
  asked_shape =
      cond (line.star || eqb line.count 0) nothing
      (cond (not (within 1 4 (number_at 0))) no_shape
      (cond (eqb line.count (number_at 0 + 2)) (new_shape shape_in) nothing))

  -- "`put` values, payload"
  unfoldable pub asked_put : ℕ → Asked
  asked_put d =
      cond (not line.star && eqb line.count (d + 1)) (put (values_from d 0) (content_in d)) nothing

  -- "`cut` values"
  unfoldable pub asked_cut : ℕ → Asked
  asked_cut d = cond (not line.star && eqb line.count d) (cut (values_from d 0)) nothing

  -- "`list` values or `*` for free"
  unfoldable pub asked_list : ℕ → Asked
  asked_list d = cond (eqb line.count d) (list (items_of d)) nothing

  -- "one before an accepted `shape`" asks nothing
  abbrev pub asked_by : Kind → Bool → ℕ → Asked
  asked_by kind.Bad begun d = nothing
  asked_by kind.Shape begun d = asked_shape
  asked_by kind.Put begun d = cond begun (asked_put d) nothing
  asked_by kind.Cut begun d = cond begun (asked_cut d) nothing
  asked_by kind.List begun d = cond begun (asked_list d) nothing

-- what a line asks in a session
unfoldable pub asked : Session → Line → Asked
asked session line = asked_by line line.kind session.begun session.state.shape.attributes

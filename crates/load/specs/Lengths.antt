-- The refusals of a load by the lengths of the lent slices: what the code computes with. Assumes nothing.
use Rattle.std.specs.Prelude.{ℕ, List, [], ◌∷◌, ◌++◌}
use Rattle.shape.specs.Refusal.{Condition, refusal}
use Rattle.shape.specs.Shape.{shape_conditions}
use Rattle.model.specs.Limits.{fixed_by}
use Rattle.fresh.specs.Memory.{lacks_word_or_page}
use Rattle.file.specs.File.{file_shape, file_records}
use Rattle.file.specs.Loading.{join_conditions, whole_conditions, content_conditions}

-- 12, 1, 14, 15, 13, 2, then 6 or 7 at the first record that meets them, with so many words and bytes lent
unfoldable pub load_conditions_by : List ℕ → ℕ → ℕ → List Condition
load_conditions_by file words bytes =
    let s = file_shape file in
    whole_conditions file ++ (shape_conditions s ++ (content_conditions file
    ++ (refusal 2 (lacks_word_or_page s words bytes) ∷ join_conditions (fixed_by s words bytes) [] (file_records file))))

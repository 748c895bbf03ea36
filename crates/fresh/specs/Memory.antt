-- The memory that Fresh asks for (document 01, "Refused calls" 2). Assumes nothing.
use Rattle.std.specs.Prelude.{ℕ, Bool, ◌||◌, ltb, eqb}
use Rattle.shape.specs.declared.Shape.{Shape}
use Rattle.page.specs.Page.{page_size}

-- "no directory word or no whole page", from the lengths of the directory and of the page bytes
abbrev pub lacks_word_or_page : Shape → ℕ → ℕ → Bool
lacks_word_or_page s words bytes = eqb words 0 || ltb bytes (page_size s.capacity)

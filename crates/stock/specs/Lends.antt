-- What the program lends to the store (document 01, "Proof table and the printed run"). Assumes nothing.
use Rattle.std.specs.Prelude.{ℕ, ◌≡◌, List, length}
use Rattle.stock_replies.specs.Replies.{output_size}

-- "It lends 4,096 words, 32,768 page bytes and 256 output records."
pub record Lends (words bytes output : List ℕ) : Type 0 where
  pub words-lent : length words ≡ 4096
  pub bytes-lent : length bytes ≡ 32768
  pub output-lent : length output ≡ output_size

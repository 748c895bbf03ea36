-- Laws of the directory of a state, where widths are those of its shape: it has room at each depth up to T; a region
-- that was set. Assumes nothing.
use Prim.Native.Nat.{ℕ, ◌≤◌}
use mathlib.Core.Path.{◌≡◌, ap, subst}
use mathlib.Core.List.{List}
use native.Mathlib.Nat.{le_trans}
use native.Mathlib.Omega.{arith}
use lib.Pow.{pow_mono}
use Rattle.shape.specs.Shape.{widths_of, total}
use Rattle.split.specs.Bits.{split_bit}
use Rattle.shape.proofs.ShapeLaws.{widths-fit}
use Rattle.directory.specs.Directory.{DirectoryFits, Filled}
use Rattle.store.specs.declared.State.{State}
use Rattle.directory_lent.specs.Lent.{DirectoryLent}

module _ (st : State) (ws : List ℕ) (e : ws ≡ widths_of st.shape) where
  -- a directory of at most T
  pub directory_fits : (size t : ℕ) → DirectoryLent st size → t ≤ st.deepest → DirectoryFits ws t size
  directory_fits size t l h =
      record {
        fit = widths-fit st.shape ws l.shape e;
        deep = omega (arith, ap total e, l.deep);
        short = omega (arith, l.short);
        room = le_trans (pow_mono h) l.room;
      }

  pub filled-shape : (t x : ℕ) (values : List ℕ) (word word' : ℕ) (words words' : List ℕ) → word ≡ word'
      → Filled ws t x (split_bit ws values) word words words'
      → Filled (widths_of st.shape) t x (split_bit (widths_of st.shape) values) word' words words'
  filled-shape t x values word word' words words' d f =
      subst (λ vs. Filled vs t x (split_bit vs values) word' words words') e
      (subst (λ w. Filled ws t x (split_bit ws values) w words words') d f)

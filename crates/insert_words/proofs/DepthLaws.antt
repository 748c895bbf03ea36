-- Laws of the directory's depth once it is doubled: it is the greater of two, neither above L. Assumes nothing.
use Prim.Native.Nat.{ℕ, max, ◌≤◌}
use mathlib.Core.Path.{◌≡◌}
use mathlib.Core.List.{List}
use native.Mathlib.Omega.{arith}
use native.Mathlib.Nat.{le_trans}
use lib.Pow.{pow_mono}
use Rattle.shape.specs.Shape.{widths_of}
use Rattle.shape.proofs.ShapeLaws.{widths-fit}
use Rattle.directory.specs.Directory.{DirectoryFits}
use Rattle.store.specs.declared.State.{State}
use Rattle.insert_planned.specs.declared.Split.{Split}
use Rattle.insert_words.specs.Divided.{DoublingAsked}

module _ (st : State) (split : Split) (size : ℕ) (w : DoublingAsked st split size) (t n u : ℕ) (e : u ≡ max t n)
    (lt : t ≤ st.limits.depth) (ln : n ≤ st.limits.depth) where
  depth_le : u ≤ st.limits.depth
  depth_le = omega (arith, e, lt, ln)

  pub depth-short : u ≤ 12
  depth-short = le_trans depth_le w.short

  pub directory-fits : (ws : List ℕ) → ws ≡ widths_of st.shape → DirectoryFits ws u size
  directory-fits ws ew =
      record {
        fit = widths-fit st.shape ws w.shape ew;
        deep = rw ew (le_trans depth_le w.bits);
        short = depth-short;
        room = le_trans (pow_mono depth_le) w.lent;
      }

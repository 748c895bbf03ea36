-- Laws of the lent bytes after the records of a full page were carried. Assumes nothing.
use Prim.Native.Nat.{ℕ}
use mathlib.Core.Path.{◌≡◌, sym, subst}
use mathlib.Core.Bool.{Bool, true, false, cond}
use mathlib.Core.List.{List}
use native.Mathlib.Omega.{arith}
use lib.ListN.{length}
use Rattle.pages.specs.Pages.{PageLent, carried_pages}
use Rattle.pages.proofs.CarryLaws.{length-carried_pages}
use Rattle.insert_cut.specs.declared.Cut.{Cut}
use Rattle.insert_pages.specs.Inserted.{CutFits}

-- either page is lent, also once records were carried
pub lent-carried : (b g h : ℕ) (cut : Cut) (bytes bytes' : List ℕ) → PageLent b g bytes → PageLent b h bytes
    → CutFits b cut → bytes' ≡ carried_pages b g cut.start b h 0 bytes → (own : ℕ) → own ≡ cond cut.bit h g
    → PageLent b own bytes'
lent-carried b g h cut bytes bytes' lg lh f e own d =
    subst (λ k. PageLent b k bytes') (sym d) (subst (PageLent b (cond cut.bit h g)) (sym e) (either cut.bit))
  where
    size : length (carried_pages b g cut.start b h 0 bytes) ≡ length bytes
    size =
        length-carried_pages b g cut.start b h 0 bytes lg lh f.start-le (omega arith) (omega arith)

    after : (k : ℕ) → PageLent b k bytes → PageLent b k (carried_pages b g cut.start b h 0 bytes)
    after k l =
        record {
          capacity-le = l.capacity-le;
          number_lt = l.number_lt;
          whole = omega (arith, l.whole, size);
        }

    either : (β : Bool) → PageLent b (cond β h g) (carried_pages b g cut.start b h 0 bytes)
    either true = after h lh
    either false = after g lg

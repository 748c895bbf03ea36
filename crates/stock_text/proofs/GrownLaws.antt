-- Laws of texts that grow: by nothing, by one byte, by a run of bytes, by one piece behind another. Assumes nothing.
use Prim.Native.Nat.{ℕ, ◌+◌, ◌≤◌}
use mathlib.Core.Path.{◌≡◌, refl, sym, ap, ◌∙◌}
use mathlib.Core.List.{List, [], ◌∷◌, ◌++◌, append-nil, append_assoc}
use native.Mathlib.Omega.{arith}
use native.Mathlib.Numerals.{add-one}
use lib.ListN.{length, length-append, length-set, take, drop, set}
use lib.Seq.{paste, take-paste, take-length, take-suc-set, length-paste}
use Rattle.stock_text.specs.Text.{Grown}

pub Grown-none : (entry : List ℕ) (at : ℕ) → Grown entry at [] entry at
Grown-none entry at =
    record { end_is = omega arith; length-is = refl; text-is = sym (append-nil (take at entry)) }

pub Grown-byte : (entry : List ℕ) (at byte : ℕ) → at + 1 ≤ length entry
    → Grown entry at (byte ∷ []) (set entry at byte) (at + 1)
Grown-byte entry at byte h =
    record {
      end_is = refl;
      length-is = simp length-set;
      text-is = ap (λ k. take k (set entry at byte)) (add-one at) ∙ take-suc-set entry at byte (omega arith);
    }

pub Grown-paste : (entry : List ℕ) (at : ℕ) (bytes exit : List ℕ) → at + length bytes ≤ length entry
    → exit ≡ paste entry at (drop 0 bytes) (length bytes) → Grown entry at bytes exit (at + length bytes)
Grown-paste entry at bytes exit h e =
    record {
      end_is = refl;
      length-is = ap length e ∙ length-paste entry at bytes (length bytes) h (omega arith);
      text-is = ap (take (at + length bytes)) e
          ∙ take-paste entry at bytes (length bytes) (omega arith) (omega arith)
          ∙ ap (λ l. take at entry ++ l) (take-length bytes);
    }

-- two pieces in a row are one
pub Grown-then : (entry middle exit : List ℕ) (at between end : ℕ) (xs ys : List ℕ) → Grown entry at xs middle between
    → Grown middle between ys exit end → Grown entry at (xs ++ ys) exit end
Grown-then entry middle exit at between end xs ys g h =
    record {
      end_is = omega (arith, g.end_is, h.end_is, length-append xs ys);
      length-is = h.length-is ∙ g.length-is;
      text-is = h.text-is ∙ ap (λ l. l ++ ys) g.text-is ∙ append_assoc (take at entry) xs ys;
    }

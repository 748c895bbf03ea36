-- The laws of divisions that `specs/Leaves.antt` states, from those of the other files. Assumes nothing.
use Prim.Native.Nat.{ℕ, zero, suc, ◌≤◌, ◌<◌}
use mathlib.Core.Path.{◌≡◌, refl, ap, ◌∙◌, subst}
use mathlib.Core.Bool.{Bool, true}
use mathlib.Core.List.{List, [], ◌∷◌}
use mathlib.Core.Logic.{◌⊎◌, inl, inr}
use native.Mathlib.Omega.{arith}
use lib.ListN.{length}
use Rattle.lists.specs.Members.{Member}
use Rattle.lists.proofs.Numbers.{lt-or-le}
use Rattle.lists.proofs.MemberLaws.{All-imp, All-map, All-member, Member-map}
use Rattle.region.specs.Strings.{bit_list, list_bit}
use Rattle.region.specs.Sets.{sorted, with_prefix}
use Rattle.region.specs.Division.{Division, side, divide, leaves, IsLeaf}
use Rattle.region.specs.Leaves.{LeafInWords, leaf_strings, DivisionLaws}
use Rattle.region.proofs.OrderLaws.{sorted-side, length-sorted-le}
use Rattle.region.proofs.SideLaws.{with_prefix-zero, with_prefix-side}
use Rattle.region.proofs.StringLeafLaws.{leaf_records-divide}
use Rattle.region.proofs.LeafLaws.{NoRepeat-strings}
use Rattle.region.proofs.LeafSetLaws.{IsLeaf-leaf_depth, leaf_depth-of-IsLeaf, All-IsLeaf, Member-of-IsLeaf}
use Rattle.region.proofs.LeafCountLaws.{greatest_depth-leaves, tally-leaves, non_empty_leaves-leaves}
use Rattle.region.proofs.QueryLaws.{reads-leaves}

-- ---- a string written out, read back

bit_list-suc : (p : ℕ → Bool) (n t : ℕ) → bit_list p n (suc t) ≡ bit_list (λ s. p (suc s)) n t
bit_list-suc p zero t = refl
bit_list-suc p (suc n) t = ap (λ bits. p (suc t) ∷ bits) (bit_list-suc p n (suc t))

bit_list-list_bit : (bits : List Bool) → bit_list (list_bit bits) (length bits) 0 ≡ bits
bit_list-list_bit [] = refl
bit_list-list_bit (β ∷ bits) =
    ap (λ more. β ∷ more) (bit_list-suc (list_bit (β ∷ bits)) (length bits) 0 ∙ bit_list-list_bit bits)

module _ {R : Type 0} (bit : R → ℕ → Bool) (b W : ℕ) (S : List R) where
  abbrev D : Division R
  D = divide bit b W 0 S

  -- ---- the strings listed

  listed-of-leaf : (bits : List Bool) → IsLeaf bit b W S (list_bit bits) (length bits) → Member bits (leaf_strings D)
  listed-of-leaf bits h =
      subst (λ s. Member s (leaf_strings D)) (bit_list-list_bit bits)
      (Member-map (λ l. l.string) _ (leaves D) (Member-of-IsLeaf bit b W S (list_bit bits) (length bits) h))

  leaf-of-listed : (bits : List Bool) → Member bits (leaf_strings D) → IsLeaf bit b W S (list_bit bits) (length bits)
  leaf-of-listed =
      All-member (λ bits. IsLeaf bit b W S (list_bit bits) (length bits)) (leaf_strings D)
      (All-map _ (λ l. l.string) (leaves D) (All-imp _ _ (λ l h. h.0) (leaves D) (All-IsLeaf bit b W S)))

  -- ---- sets

  -- "keys" of W bits that are all different: at most one has all bits of a string
  length-with_prefix-le : (p : ℕ → Bool) (n t : ℕ) (xs : List R) → sorted bit n t xs ≡ true
      → length (with_prefix bit p n t xs) ≤ 1
  length-with_prefix-le p zero t xs e = rw (with_prefix-zero bit p t xs) (length-sorted-le bit t xs e)
  length-with_prefix-le p (suc n) t xs e =
      rw (← with_prefix-side bit p n t xs (p t) refl)
      (length-with_prefix-le p n (suc t) (side bit (p t) t xs) (sorted-side bit n t xs (p t) e))

  module _ (some : 1 ≤ b) (set : sorted bit W 0 S ≡ true) (p : ℕ → Bool) (x : ℕ) where
    words-of-leaf : IsLeaf bit b W S p x → LeafInWords bit b S p x
    words-of-leaf h = (fits h.undivided, h.shorter-divided)
      where
        fits : (length (with_prefix bit p x 0 S) ≤ b) ⊎ (x ≡ W) → length (with_prefix bit p x 0 S) ≤ b
        fits (inl l) = l
        fits (inr e) = let one = length-with_prefix-le p W 0 S set in rw e (omega arith)

    leaf-of-words : LeafInWords bit b S p x → IsLeaf bit b W S p x
    leaf-of-words h = record { within = within (lt-or-le W x); undivided = inl h.0; shorter-divided = h.1 }
      where
        within : (W < x) ⊎ (x ≤ W) → x ≤ W
        within (inl l) = let one = length-with_prefix-le p W 0 S set in absurd (omega (arith, h.1 W l))
        within (inr l) = l

  -- ---- all together

  pub division-laws : DivisionLaws bit b W S (divide bit b W 0 S)
  division-laws =
      record {
        are-leaves = λ bits. (leaf-of-listed bits, listed-of-leaf bits);
        once = NoRepeat-strings D;
        begin-with = All-imp _ _ (λ l h. h.1) (leaves D) (All-IsLeaf bit b W S);
        in_words = λ some set p x. (words-of-leaf some set p x, leaf-of-words some set p x);
        leads = λ p x. (
          leaf_depth-of-IsLeaf bit b W S p x,
          λ e. subst (IsLeaf bit b W S p) e (IsLeaf-leaf_depth bit b W S p),
        );
        leads-records = λ p. leaf_records-divide bit b p W 0 S;
        greatest = greatest_depth-leaves D;
        tallied = tally-leaves D;
        paged = non_empty_leaves-leaves D;
        read = λ q. reads-leaves q D;
      }

-- Laws of the page of a leaf that a delete reads: its count is at most b, and not 0 in a sound store; no page can be
-- two siblings'. Assumes nothing.
use Prim.Native.Nat.{ℕ, zero, suc, ◌-◌, ◌^◌, ◌≤◌, ◌<◌}
use mathlib.Core.Path.{◌≡◌, refl, sym, ◌∙◌}
use mathlib.Core.Bool.{Bool, true, false, not, true≢false, false≢true}
use mathlib.Core.List.{List}
use native.Mathlib.Omega.{arith}
use Rattle.std.specs.Prelude.{Option, Some, None}
use Rattle.lists.proofs.Bools.{and_split}
use Rattle.shape.specs.Shape.{widths_of, total, index_fits}
use Rattle.shape.specs.declared.Shape.{Shape}
use Rattle.split.specs.Bits.{split_bit}
use Rattle.cell.specs.Cell.{Agree}
use Rattle.region.specs.Strings.{same_bits, sibling}
use Rattle.region.proofs.StringLaws.{bit-of-same_bits, with_bit-same}
use Rattle.record.specs.Record.{Record}
use Rattle.record.specs.Lanes.{bias_key}
use Rattle.record.specs.Packed.{unpacked_key}
use Rattle.page.specs.Page.{count_of, page_at}
use Rattle.page.specs.Fields.{code_at}
use Rattle.page_ends.specs.Ends.{key_begins, ends_begin, ends_agree, fixed_bits}
use Rattle.page_ends.specs.Fair.{fair_count, positive}
use Rattle.page_ends.proofs.FairLaws.{fair_count-own, fair-of-count, some-positive, none-positive}
use Rattle.directory_word.specs.Word.{word_of}
use Rattle.directory_word.specs.declared.Leaf.TheVariants.{Page}
use Rattle.store.specs.Store.{Store}
use Rattle.store.specs.Sound.{Sound}
use Rattle.store.proofs.ShownLaws.{word_on, shape-of-Sound}
use Rattle.change.proofs.BoundLaws.{count-bounds}
use Rattle.leaf_word.proofs.PageLaws.{ends_agree-mask, ends_begin-word}
use Rattle.delete_plan.specs.Met.{LeafCount}

-- ---- the count

pub leaf_count : (b bias mask key : ℕ) (page : List ℕ) (r : Option ℕ)
    → r ≡ positive (fair_count b (ends_agree bias mask key page (count_of page)) page) → LeafCount b bias mask key page r
leaf_count b bias mask key page None e = none-positive _ e
leaf_count b bias mask key page (Some n) e =
    let k = some-positive n _ e in
    record { is = k.0; some = k.1; few = (fair-of-count b _ page n k.0 k.1).few }

-- ---- a sound store

-- the page that the word of a string names has a count, by a packed key of the string's leaf
pub fair-of-sound : (before : Store) (S : List Record) → Sound before S → (p : ℕ → Bool) (g x : ℕ)
    → g < 2 ^ 16 - 1 → word_on before p ≡ word_of (Page g x) → x ≤ total (widths_of before.state.shape)
    → (mask : ℕ) → mask ≡ fixed_bits (widths_of before.state.shape) x → (key : ℕ)
    → index_fits (widths_of before.state.shape) (unpacked_key key) ≡ true
    → Agree x (split_bit (widths_of before.state.shape) (unpacked_key key)) p
    → let page = page_at before.state.shape.capacity before.memory.bytes g in
    fair_count before.state.shape.capacity (ends_agree (bias_key before.state.shape) mask key page (count_of page)) page ≡ 0 → ⊥
fair-of-sound before S sound p g x l own deep mask fixed key fits near none =
    let k = count-bounds before S sound p g x l own in
    omega (
      arith,
      none,
      k.0,
      fair_count-own s.capacity _ page (count_of page) refl (λ z. absurd (omega (arith, k.0))) k.1
          (ends_agree-mask s (shape-of-Sound before S sound) x deep (widths_of s) refl (bias_key s) mask fixed key fits page
          (count_of page)
          ∙ ends_begin-word before S sound p g x l own (split_bit (widths_of s) (unpacked_key key)) near),
    )
  where
    s : Shape
    s = before.state.shape

    page : List ℕ
    page = page_at s.capacity before.memory.bytes g

-- ---- the first record

-- it begins with the string
first-begins : (ws : List ℕ) (bias x : ℕ) (p : ℕ → Bool) (page : List ℕ) (n : ℕ) → ends_begin ws bias x p page n ≡ true
    → (t : ℕ) → t < x → p t ≡ split_bit ws (unpacked_key (code_at bias page 0)) t
unfolding ends_begin key_begins
first-begins ws bias x p page n e t l =
    let first = unpacked_key (code_at bias page 0) in
    let last = unpacked_key (code_at bias page (n - 1)) in
    let both = and_split (key_begins ws x p first) (key_begins ws x p last) e in
    let bits = (and_split (index_fits ws first) (same_bits (split_bit ws first) p x 0) both.0).1 in
    bit-of-same_bits (split_bit ws first) p x 0 bits t (omega arith) (omega arith)

-- so no page can be that of a leaf and of its sibling
pub siblings-apart : (ws : List ℕ) (bias m : ℕ) (p : ℕ → Bool) (page : List ℕ) (n k : ℕ)
    → ends_begin ws bias (suc m) p page n ≡ true → ends_begin ws bias (suc m) (sibling p m) page k ≡ true → ⊥
siblings-apart ws bias m p page n k own other =
    two (p m)
    (first-begins ws bias (suc m) p page n own m (omega arith)
    ∙ sym (first-begins ws bias (suc m) (sibling p m) page k other m (omega arith))
    ∙ with_bit-same p m (not (p m)))
  where
    two : (β : Bool) → β ≡ not β → ⊥
    two true d = true≢false d
    two false d = false≢true d

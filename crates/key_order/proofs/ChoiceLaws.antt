-- Laws of one bit chosen by masks: of two numbers, and of a key's four attributes. Assumes nothing.
use Prim.Native.Nat.{ℕ, ◌^◌}
use mathlib.Core.Path.{◌≡◌, sym, ap, ◌∙◌, subst}
use mathlib.Core.Bool.{Bool, true, false, cond}
use mathlib.Core.List.{List}
use lib.Bits.{bit_and, bit_or, bit_xor, and_zero_r, or_zero_r, xor_self, xor_zero_r}
use lib.ListN.{get_or}
use Rattle.record.specs.Packed.{packed_value}
use Rattle.key_order.specs.Private.{has_bit, top_bits, Chosen, BitOfFirst}
use Rattle.key_order.proofs.BitLaws.{and-bit, has_bit-alone}

-- ---- of two numbers

pub chosen-masks : (bit d a b : ℕ)
    → Chosen bit d a b (bit_or (bit_and a (bit_and d bit)) (bit_and b (bit_xor bit (bit_and d bit))))
chosen-masks bit d a b s e =
    subst (λ p. bit_or (bit_and a (bit_and d p)) (bit_and b (bit_xor p (bit_and d p)))
    ≡ cond (cond (has_bit s d) (has_bit s a) (has_bit s b)) p 0) (sym e)
    (ap (λ m. bit_or (bit_and a m) (bit_and b (bit_xor (2 ^ s) m))) (and-bit d s) ∙ go (has_bit s d))
  where
    go : (β : Bool) → bit_or (bit_and a (cond β (2 ^ s) 0)) (bit_and b (bit_xor (2 ^ s) (cond β (2 ^ s) 0)))
        ≡ cond (cond β (has_bit s a) (has_bit s b)) (2 ^ s) 0
    go true =
        ap (λ m. bit_or (bit_and a (2 ^ s)) (bit_and b m)) (xor_self (2 ^ s))
        ∙ ap (bit_or (bit_and a (2 ^ s))) (and_zero_r b)
        ∙ or_zero_r (bit_and a (2 ^ s))
        ∙ and-bit a s
    go false = (λ i. bit_or (and_zero_r a i) (bit_and b (xor_zero_r (2 ^ s) i))) ∙ and-bit b s

has_bit-chosen : (bit d a b r s : ℕ) → bit ≡ 2 ^ s → Chosen bit d a b r
    → has_bit s r ≡ cond (has_bit s d) (has_bit s a) (has_bit s b)
has_bit-chosen bit d a b r s e c =
    let β = cond (has_bit s d) (has_bit s a) (has_bit s b) in
    ap (has_bit s) (c s e ∙ ap (λ p. cond β p 0) e) ∙ has_bit-alone β s

-- ---- of four attributes

pub bit_of_first-chosen : (ws : List ℕ) (key bit d0 d1 d2 a0 a1 a2 a3 b2 b1 b0 : ℕ)
    → a0 ≡ top_bits (get_or ws 0 0) (packed_value key 0) → a1 ≡ top_bits (get_or ws 1 0) (packed_value key 1)
    → a2 ≡ top_bits (get_or ws 2 0) (packed_value key 2) → a3 ≡ top_bits (get_or ws 3 0) (packed_value key 3)
    → Chosen bit d2 a2 a3 b2 → Chosen bit d1 a1 b2 b1 → Chosen bit d0 a0 b1 b0
    → BitOfFirst ws key bit d0 d1 d2 b0
bit_of_first-chosen ws key bit d0 d1 d2 a0 a1 a2 a3 b2 b1 b0 e0 e1 e2 e3 c2 c1 c0 s e =
    let last = has_bit-chosen bit d2 a2 a3 b2 s e c2 in
    let next = has_bit-chosen bit d1 a1 b2 b1 s e c1 in
    c0 s e
    ∙ ap (λ β. cond (cond (has_bit s d0) (has_bit s a0) β) bit 0)
    (next ∙ ap (cond (has_bit s d1) (has_bit s a1)) last)
    ∙ (λ i. cond (cond (has_bit s d0) (has_bit s (e0 i)) (cond (has_bit s d1) (has_bit s (e1 i))
    (cond (has_bit s d2) (has_bit s (e2 i)) (has_bit s (e3 i))))) bit 0)

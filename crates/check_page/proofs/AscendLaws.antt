-- Laws of the records of a page in split order: all begin as the first and the last one do; the loop over them.
-- Assumes nothing.
use Prim.Native.Nat.{ℕ, zero, suc, ◌+◌, ◌-◌, ◌*◌, ◌/◌, ◌^◌, ◌≤◌, ◌<◌}
use mathlib.Core.Path.{◌≡◌, refl, sym, ap, ◌∙◌}
use mathlib.Core.Bool.{Bool, true, false, ◌&&◌, and-false, and-true}
use mathlib.Core.List.{List, [], ◌∷◌}
use native.Mathlib.Omega.{arith}
use native.Mathlib.Nat.{le_refl}
use lib.Bits.{bit_or}
use lib.Dec.{ltb, eqb}
use lib.Pow.{shr_mono}
use borrow.Author.Tests.{ltb-true, eqb-true, eqb-false}
use Rattle.lists.proofs.Bools.{and_split}
use Rattle.shape.specs.Shape.{total, index_fits}
use Rattle.record.specs.Bytes.{record_size}
use Rattle.record.specs.Packed.{unpacked_key}
use Rattle.check_page.specs.PageTest.{encodings_at, key_code, records_after, ascend_after, all_fit, ascending}
use Rattle.check_page.proofs.KeyLaws.{index_fits-or}

-- ---- beginnings

module _ (ws : List ℕ) (x s bias : ℕ) (page : List ℕ) where
  abbrev m : ℕ
  m = total ws - x

  abbrev code_at : ℕ → ℕ
  code_at at = key_code ws (encodings_at bias page at)

  -- the code of the last of n records from an offset on; c for none
  abbrev pub last_code : ℕ → ℕ → ℕ → ℕ
  last_code c zero at = c
  last_code c (suc n) at = last_code (code_at at) n (at + record_size)

  pub last_code-at : (n at : ℕ) → last_code (code_at at) n (at + record_size) ≡ code_at (at + record_size * n)
  last_code-at zero at = let e : at ≡ at + record_size * 0 = omega arith in ap code_at e
  last_code-at (suc n) at =
      let e : at + record_size + record_size * n ≡ at + record_size * suc n = omega arith in
      last_code-at n (at + record_size) ∙ ap code_at e

  -- a code between two that begin alike begins so too
  between : (c d e : ℕ) → c ≤ d → d ≤ e → c / 2 ^ m ≡ s → e / 2 ^ m ≡ s → d / 2 ^ m ≡ s
  between c d e h k p q = omega (arith, shr_mono {a = c} {b = d} m h, shr_mono {a = d} {b = e} m k)

  le-last_code : (n c at : ℕ) → ascend_after ws bias page c n at ≡ true → c ≤ last_code c n at
  le-last_code zero c at e = le_refl c
  le-last_code (suc n) c at e =
      let k = and_split (ltb c (code_at at)) (ascend_after ws bias page (code_at at) n (at + record_size)) e in
      omega (arith, ltb-true c (code_at at) k.0, le-last_code n (code_at at) (at + record_size) k.1)

  pub both : (φ α γ ρ : Bool) → ρ ≡ (α && γ) → ((φ && true) && ρ) ≡ (α && (φ && γ))
  both true α γ ρ e = e
  both false α γ ρ e = sym (and-false α)

  neither : (φ α γ ρ : Bool) → α ≡ false → ((φ && false) && ρ) ≡ (α && (φ && γ))
  neither true α γ ρ e = rw e
  neither false α γ ρ e = rw e

  -- the last record begins as the leaf does, if all do
  pub last_begins : (n c at : ℕ) → c / 2 ^ m ≡ s → records_after ws x s bias page c n at ≡ true → last_code c n at / 2 ^ m ≡ s
  last_begins zero c at h e = h
  last_begins (suc n) c at h e =
      let d = code_at at in
      let fits = index_fits ws (encodings_at bias page at) in
      let here = eqb (d / 2 ^ m) s in
      let rest = records_after ws x s bias page d n (at + record_size) in
      let k₁ = and_split (ltb c d) ((fits && here) && rest) e in
      let k₂ = and_split (fits && here) rest k₁.1 in
      last_begins n d (at + record_size) (eqb-true (d / 2 ^ m) s (and_split fits here k₂.0).1) k₂.1

  -- and all do, if the first and the last one do
  pub records_after-ascend : (n c at : ℕ) → c / 2 ^ m ≡ s → last_code c n at / 2 ^ m ≡ s
      → records_after ws x s bias page c n at ≡ (ascend_after ws bias page c n at && all_fit ws bias page n at)
  records_after-ascend zero c at h l = refl
  records_after-ascend (suc n) c at h l =
      go (ltb c d) (eqb (d / 2 ^ m) s) refl refl (records_after-ascend n d (at + record_size))
    where
      d : ℕ
      d = code_at at

      fits : Bool
      fits = index_fits ws (encodings_at bias page at)

      rest : Bool
      rest = records_after ws x s bias page d n (at + record_size)

      rise : Bool
      rise = ascend_after ws bias page d n (at + record_size)

      fit : Bool
      fit = all_fit ws bias page n (at + record_size)

      fall : ltb c d ≡ true → eqb (d / 2 ^ m) s ≡ false → (β : Bool) → rise ≡ β → β ≡ false
      fall p q true e =
          absurd
          (eqb-false (d / 2 ^ m) s q
          (between c d (last_code d n (at + record_size)) (omega (arith, ltb-true c d p))
          (le-last_code n d (at + record_size) e) h l))
      fall p q false e = refl

      go : (β γ : Bool) → ltb c d ≡ β → eqb (d / 2 ^ m) s ≡ γ
          → (d / 2 ^ m ≡ s → last_code d n (at + record_size) / 2 ^ m ≡ s → rest ≡ (rise && fit))
          → (β && ((fits && γ) && rest)) ≡ ((β && rise) && (fits && fit))
      go false γ p q ih = refl
      go true true p q ih = both fits rise fit rest (ih (eqb-true (d / 2 ^ m) s q) l)
      go true false p q ih = neither fits rise fit rest (fall p q rise refl)

-- ---- the loop

-- of n records those from k on are left; the one before k is `last`, those before k together have the bits `bits`
pub record Risen (ws : List ℕ) (bias : ℕ) (page : List ℕ) (n last bits k : ℕ) : Type 0 where
  pub order : ascending ws bias page n
      ≡ (ascend_after ws bias page (key_code ws (unpacked_key last)) (n - k) (2 + record_size * k) && all_fit ws bias page n 2)
  pub fits : all_fit ws bias page n 2
      ≡ (index_fits ws (unpacked_key bits) && all_fit ws bias page (n - k) (2 + record_size * k))

module _ (ws : List ℕ) (bias : ℕ) (page : List ℕ) (n : ℕ) where
  pub risen-first : 0 < n → (key : ℕ) → unpacked_key key ≡ encodings_at bias page 2 → Risen ws bias page n key key 1
  unfolding ascending
  risen-first h key at =
      let e : n ≡ suc (n - 1) = omega arith in
      record {
        order =
            ap (λ q. ascend_after ws bias page (key_code ws q) (n - 1) (2 + record_size) && all_fit ws bias page n 2) (sym at);
        fits =
            ap (λ k. all_fit ws bias page k 2) e
            ∙ ap (λ q. index_fits ws q && all_fit ws bias page (n - 1) (2 + record_size)) (sym at);
      }

  pub risen-end : (last bits k : ℕ) → Risen ws bias page n last bits k → n ≤ k
      → index_fits ws (unpacked_key bits) ≡ ascending ws bias page n
  risen-end last bits k r h =
      let e : n - k ≡ 0 = omega arith in
      let o = 2 + record_size * k in
      let fits = index_fits ws (unpacked_key bits) in
      sym
      (r.order
      ∙ ap (λ j. ascend_after ws bias page (key_code ws (unpacked_key last)) j o && all_fit ws bias page n 2) e
      ∙ r.fits
      ∙ ap (λ j. fits && all_fit ws bias page j o) e
      ∙ and-true fits)

-- at record k
module _ (w0 w1 w2 w3 bias : ℕ) (page : List ℕ) (n last bits k : ℕ) where
  abbrev ws : List ℕ
  ws = w0 ∷ w1 ∷ w2 ∷ w3 ∷ []

  module _ (risen : Risen ws bias page n last bits k) (left : k < n) (key : ℕ)
      (at : unpacked_key key ≡ encodings_at bias page (2 + record_size * k)) where
    abbrev offset : ℕ
    offset = 2 + record_size * (k + 1)

    abbrev ordered : Bool
    ordered = ltb (key_code ws (unpacked_key last)) (key_code ws (unpacked_key key))

    abbrev later : Bool
    later = ascend_after ws bias page (key_code ws (unpacked_key key)) (n - (k + 1)) offset

    more : n - k ≡ suc (n - (k + 1))
    more = omega arith

    behind : 2 + record_size * k + record_size ≡ offset
    behind = omega arith

    next : ascending ws bias page n ≡ ((ordered && later) && all_fit ws bias page n 2)
    next =
        let c = key_code ws (unpacked_key last) in
        risen.order
        ∙ ap (λ j. ascend_after ws bias page c j (2 + record_size * k) && all_fit ws bias page n 2) more
        ∙ ap (λ q. (ltb c (key_code ws q)
        && ascend_after ws bias page (key_code ws q) (n - (k + 1)) (2 + record_size * k + record_size)) && all_fit ws bias page n 2)
        (sym at)
        ∙ ap (λ o. (ordered && ascend_after ws bias page (key_code ws (unpacked_key key)) (n - (k + 1)) o)
        && all_fit ws bias page n 2) behind

    pub risen-stop : false ≡ ordered → false ≡ ascending ws bias page n
    risen-stop e = sym (next ∙ rw (sym e))

    and_assoc : (α β γ : Bool) → (α && (β && γ)) ≡ ((α && β) && γ)
    and_assoc true β γ = refl
    and_assoc false β γ = refl

    pub risen-next : true ≡ ordered → Risen ws bias page n key (bit_or bits key) (k + 1)
    risen-next e =
        let here = index_fits ws (unpacked_key bits) in
        record {
          order = next ∙ ap (λ β. (β && later) && all_fit ws bias page n 2) (sym e);
          fits =
              risen.fits
              ∙ ap (λ j. here && all_fit ws bias page j (2 + record_size * k)) more
              ∙ ap (λ q. here && (index_fits ws q && all_fit ws bias page (n - (k + 1)) (2 + record_size * k + record_size)))
              (sym at)
              ∙ ap (λ o. here && (index_fits ws (unpacked_key key) && all_fit ws bias page (n - (k + 1)) o)) behind
              ∙ and_assoc here (index_fits ws (unpacked_key key)) (all_fit ws bias page (n - (k + 1)) offset)
              ∙ ap (λ β. β && all_fit ws bias page (n - (k + 1)) offset) (sym (index_fits-or w0 w1 w2 w3 bits key));
        }

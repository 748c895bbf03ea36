-- Laws of the records of some pages, matched or not: one word of the list after the other. Assumes nothing.
use Prim.Native.Nat.{ℕ, ◌+◌, ◌*◌, ◌≤◌, ◌<◌}
use mathlib.Core.Path.{◌≡◌, refl, sym, ap, ◌∙◌}
use mathlib.Core.List.{List, [], ◌∷◌, ◌++◌, flat_map, append-nil}
use native.Mathlib.Omega.{arith}
use native.Mathlib.Numerals.{add-one}
use lib.ListN.{length, get_or, take, length-append}
use lib.Seq.{take-suc}
use Rattle.std.proofs.lemmas.List.{length-take-le, get_or-take}
use Rattle.lists.proofs.Sequences.{flat_map-append}
use Rattle.page_matches.specs.Output.{emit}
use Rattle.page_matches.proofs.EmitLaws.{emit-append}
use Rattle.query_records.specs.Records.{ListOf}

module _ (f : ℕ → List (List ℕ)) (list : List ℕ) where
  -- the records of the first i words
  abbrev first : ℕ → List (List ℕ)
  first i = flat_map f (take i list)

  pub flat_map-take-next : (i : ℕ) → i < length list → first (i + 1) ≡ first i ++ f (get_or list i 0)
  unfolding flat_map
  flat_map-take-next i h =
      let next : take (i + 1) list ≡ take i list ++ (get_or list i 0 ∷ []) =
      ap (λ k. take k list) (add-one i) ∙ take-suc list i 0 h in
      ap (flat_map f) next
      ∙ flat_map-append f (take i list) (get_or list i 0 ∷ [])
      ∙ ap (λ l. first i ++ l) (append-nil (f (get_or list i 0)))

  -- ---- counted one after the other

  -- what is counted after i words
  abbrev pub CountedTo : ℕ → ℕ → Type 0
  CountedTo i total = (total ≤ 16 * i) × (total ≡ length (first i))

  pub counted_to-none : CountedTo 0 0
  unfolding flat_map
  counted_to-none = (omega arith, refl)

  pub counted_to-next : (i total : ℕ) → CountedTo i total → i < length list → length (f (get_or list i 0)) ≤ 16
      → (total' : ℕ) → total' ≡ total + length (f (get_or list i 0)) → CountedTo (i + 1) total'
  counted_to-next i total w h few total' t =
      let here = f (get_or list i 0) in (
        omega (arith, w.0, few, t),
        t
            ∙ ap (λ k. k + length here) w.1
            ∙ sym (length-append (first i) here)
            ∙ ap length (sym (flat_map-take-next i h)),
      )

  -- ---- written one after the other

  module _ (out₀ : List ℕ) where
    -- what is written and counted after i words
    abbrev pub EmittedTo : ℕ → List ℕ → ℕ → Type 0
    EmittedTo i out total =
        (total ≤ 16 * i) × (length out ≡ length out₀) × (total ≡ length (first i)) × (out ≡ emit out₀ 0 (first i))

    pub emitted_to-none : EmittedTo 0 out₀ 0
    unfolding emit flat_map
    emitted_to-none = (omega arith, refl, refl, refl)

    pub emitted_to-next : (i total : ℕ) (out : List ℕ) → EmittedTo i out total → i < length list
        → length (f (get_or list i 0)) ≤ 16 → (total' : ℕ) → total' ≡ total + length (f (get_or list i 0))
        → (out' : List ℕ) → out' ≡ emit out total (f (get_or list i 0)) → length out' ≡ length out
        → EmittedTo (i + 1) out' total'
    emitted_to-next i total out w h few total' t out' o same =
        let here = f (get_or list i 0) in
        let counted = counted_to-next i total (w.0, w.2) h few total' t in
        let zero-first : 0 + length (first i) ≡ length (first i) = omega arith in (
          counted.0,
          same ∙ w.1,
          counted.1,
          o
              ∙ (λ k. emit (w.3 k) (w.2 k) here)
              ∙ ap (λ k. emit (emit out₀ 0 (first i)) k here) (sym zero-first)
              ∙ sym (emit-append out₀ 0 (first i) here)
              ∙ ap (emit out₀ 0) (sym (flat_map-take-next i h)),
        )

-- ---- a part of a list

pub ListOf-take : (P : ℕ → Type 0) (b n : ℕ) (list : List ℕ) → ListOf P b n list → (k : ℕ) → k ≤ n
    → ListOf P b (length (take k list)) (take k list)
ListOf-take P b n list h k l =
    let part : length (take k list) ≡ k = length-take-le k list (omega (arith, h.within)) in
    record {
      capacity = h.capacity;
      few = omega (arith, h.few);
      within = omega arith;
      each = λ i a. rw (get_or-take k list i 0 (omega arith)) (h.each i (omega arith));
    }

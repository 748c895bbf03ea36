-- The default of a state is the one without attributes. Assumes nothing.
use Rattle.std.proofs.Common.{◌≡◌, ◌<◌, ℕ, List, length, replicate, get_or, [], ◌∷◌, arith, rules, sym, ◌∙◌}
use Rattle.std.proofs.lemmas.List.{same_lists, length-replicate, get_or-replicate}
use Rattle.std.specs.Array.{AllOfLen}
use Rattle.store.specs.Fresh.{no_state}
use Rattle.store.specs.declared.State.{State}

zeros : (n : ℕ) (xs : List ℕ) → AllOfLen (λ x. x ≡ 0) xs n → xs ≡ replicate n 0
zeros n xs h =
    same_lists _ _ (h.long ∙ sym (length-replicate n 0))
    (λ k d l. let inside : k < n = omega (arith, h.long) in h.at k d inside ∙ sym (get_or-replicate n k 0 d inside))

pub no_state-default : (s : State)
    → ((s.shape.attributes ≡ 0)
    × (AllOfLen (λ x. x ≡ 0) s.shape.widths 4 × ((s.shape.capacity ≡ 0) × (s.shape.signs ≡ 0))))
    × (((s.limits.pages ≡ 0) × (s.limits.depth ≡ 0)) × ((s.deepest ≡ 0) × AllOfLen (λ x. x ≡ 0) s.tally.leaves 13))
    → s ≡ no_state
unfolding no_state
no_state-default s h =
    let widths : s.shape.widths ≡ 0 ∷ 0 ∷ 0 ∷ 0 ∷ [] = zeros 4 s.shape.widths h.0.1.0 in
    let leaves : s.tally.leaves ≡ 0 ∷ 0 ∷ 0 ∷ 0 ∷ 0 ∷ 0 ∷ 0 ∷ 0 ∷ 0 ∷ 0 ∷ 0 ∷ 0 ∷ 0 ∷ [] = zeros 13 s.tally.leaves h.1.1.1 in
    search rules

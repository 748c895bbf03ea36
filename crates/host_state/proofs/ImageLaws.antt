-- Laws of states in words: the state that a slice shows; the state written, read back. Assumes nothing.
use Prim.Native.Nat.{ℕ, zero, suc, ◌+◌, ◌≤◌, ◌<◌}
use mathlib.Core.Path.{◌≡◌, refl, sym, ap, ◌∙◌}
use mathlib.Core.Bool.{true, false}
use mathlib.Core.List.{List, ◌∷◌}
use native.Mathlib.Nat.{add-zero}
use native.Mathlib.Numerals.{add-one}
use native.Mathlib.Omega.{arith}
use borrow.Author.Tests.{lt-ltb, le-ltb}
use lib.Dec.{ltb}
use lib.ListN.{length, get_or, drop}
use lib.Seq.{drop-cons, drop-length}
use Rattle.store.specs.Fresh.{no_state}
use Rattle.store.specs.declared.State.{State}
use Rattle.host_state.specs.Image.{state_size, words_from, shown_state, state_in, state_words, state_put}

-- ---- the state that a slice shows

pub state_in-short : (words : List ℕ) → length words < state_size → state_in words ≡ no_state
unfolding state_in
state_in-short words h =
    let short : ltb (length words) state_size ≡ true = lt-ltb (length words) state_size h in
    rw short refl

pub state_in-long : (words : List ℕ) → state_size ≤ length words → state_in words ≡ shown_state words
unfolding state_in
state_in-long words h =
    let long : ltb (length words) state_size ≡ false = le-ltb (length words) state_size h in
    rw long refl

-- ---- the state written

-- the words past the state's stay
pub drop-state_put : (s : State) (words : List ℕ) → drop state_size (state_put s words) ≡ drop state_size words
unfolding state_put state_words
drop-state_put s words = refl

-- ---- the state read back

words_from-drop : (n i : ℕ) (words : List ℕ) → length words ≡ i + n → words_from n i words ≡ drop i words
words_from-drop zero i words e =
    sym (drop-length words) ∙ ap (λ k. drop k words) (e ∙ add-zero i)
words_from-drop (suc n) i words e =
    ap (λ r. get_or words i 0 ∷ r) (words_from-drop n (i + 1) words (omega arith) ∙ ap (λ k. drop k words) (add-one i))
    ∙ sym (drop-cons words i 0 (omega arith))

-- a state with other lists
abbrev with_lists : State → List ℕ → List ℕ → State
with_lists s widths leaves =
    record {
      shape =
          record {
            attributes = s.shape.attributes;
            widths = widths;
            capacity = s.shape.capacity;
            signs = s.shape.signs;
          };
      limits = s.limits;
      deepest = s.deepest;
      tally = record { leaves = leaves };
    }

-- nothing of a state is lost
pub state_in-state_put : (s : State) (words : List ℕ) → length s.shape.widths ≡ 4 → length s.tally.leaves ≡ 13
    → state_in (state_put s words) ≡ s
unfolding state_put state_words shown_state
state_in-state_put s words four thirteen =
    state_in-long (state_put s words) (omega arith)
    ∙ ap (λ ws. with_lists s ws (words_from 13 0 s.tally.leaves)) (words_from-drop 4 0 s.shape.widths four)
    ∙ ap (λ ls. with_lists s s.shape.widths ls) (words_from-drop 13 0 s.tally.leaves thirteen)

-- Laws of the promise of a call that changes a store: refused early, refused by what it meets, and accepted. For a
-- record that is added and for delete alike. Assumes nothing.
use Prim.Native.Nat.{ℕ, suc, ◌+◌, ◌^◌, ◌≤◌}
use mathlib.Core.Path.{◌≡◌, refl, sym, ap, ◌∙◌, subst}
use mathlib.Core.Bool.{Bool, true, false, not, cond, ◌||◌, false≢true}
use mathlib.Core.List.{List, [], ◌∷◌}
use mathlib.Core.Logic.{inl}
use native.Mathlib.Omega.{arith}
use lib.Dec.{ltb}
use lib.ListN.{length, get_or, drop, length-drop}
use lib.Pow.{pow_mono}
use lib.Seq.{get_or-drop, ext_get_or}
use borrow.Author.Tests.{le-ltb, not-false}
use Rattle.lists.specs.Members.{Member}
use Rattle.shape.specs.Amiss.{refused_for}
use Rattle.shape.specs.Refusal.{Condition, Answer, accepted, refusal, first_number, RefusedFirst}
use Rattle.shape.specs.Shape.{widths_of, shape_conditions}
use Rattle.shape.specs.declared.Shape.{Shape}
use Rattle.shape.proofs.RefusalLaws.{first_number-shape, Named, refused_first-none, refused_first-for}
use Rattle.shape.proofs.ShapeLaws.{shape_number-true}
use Rattle.shape.specs.Key.{key_fits, encodings}
use Rattle.split.specs.Bits.{split_bit}
use Rattle.record.specs.Record.{Record}
use Rattle.directory_word.specs.Word.{depth_field}
use Rattle.model.specs.Model.{Reply, changed, key_conditions, if_accepted}
use Rattle.model.specs.Sets.{key_depth}
use Rattle.model.proofs.ConditionLaws.{first_number-zero, numbered, first_number-rest, first_number-none}
use Rattle.store.specs.Store.{Store, Memory, pages_size, lent_conditions}
use Rattle.store.specs.Sound.{Sound}
use Rattle.store.specs.Contained.{Contained}
use Rattle.store.specs.Promises.{key_refusals, key_number, KeepsPages, TakesPages, depth_at, ChangePromise}
use Rattle.store.specs.declared.Tally.{Tally}
use Rattle.store.proofs.KeyLaws.{depth_at-sound}
use Rattle.store.proofs.ShownLaws.{word_on, division_on}
use Rattle.change.proofs.RegionLaws.{changed_store, RegionChanged, keeps-of-region, takes-of-region}

-- ---- early numbers

module _ (before : Store) where
  pub numbered-lent : numbered (lent_conditions before) ≡ true
  unfolding lent_conditions shape_conditions
  numbered-lent = refl

  -- none of 1, 14, 15 and 2 on a sound store
  pub lent-of-sound : (S : List Record) → Sound before S → first_number (lent_conditions before) ≡ 0
  unfolding lent_conditions first_number
  lent-of-sound S sound =
      first_number-shape before.state.shape _ (shape_number-true before.state.shape sound.shape) ∙ two
    where
      two : first_number (refusal 2 (ltb (length before.memory.words) (2 ^ before.state.limits.depth)
          || ltb (length before.memory.bytes) (pages_size before.state)) ∷ []) ≡ 0
      two =
          rw (
            le-ltb (length before.memory.words) (2 ^ before.state.limits.depth) sound.words-lent,
            le-ltb (length before.memory.bytes) (pages_size before.state) sound.pages-lent,
          )
          refl

module _ (before : Store) (values : List ℕ) where
  -- on a sound store 3 or none
  pub key_number-sound : (S : List Record) → Sound before S
      → key_number before values ≡ cond (not (key_fits before.state.shape values)) 3 0
  unfolding key_refusals first_number
  key_number-sound S sound =
      first_number-rest (lent_conditions before) (key_conditions before.state.shape values) (numbered-lent before)
      (lent-of-sound before S sound)

  pub key_fits-of-key_number : key_number before values ≡ 0 → key_fits before.state.shape values ≡ true
  unfolding key_refusals
  key_fits-of-key_number e =
      let fits = key_fits before.state.shape values in
      let rest = (first_number-none (lent_conditions before) (key_conditions before.state.shape values)
      (numbered-lent before) e).1 in
      not-false fits (first_number-zero 2 (not fits) [] rest).0

  -- the number 3, where there is one
  pub key_number-suc : (S : List Record) → Sound before S → (n : ℕ) → key_number before values ≡ suc n
      → (key_fits before.state.shape values ≡ false) × (suc n ≡ 3)
  key_number-suc S sound n e = go (key_fits before.state.shape values) refl
    where
      go : (β : Bool) → key_fits before.state.shape values ≡ β
          → (key_fits before.state.shape values ≡ false) × (suc n ≡ 3)
      go true d =
          let none : key_number before values ≡ 0 = key_number-sound S sound ∙ ap (λ γ. cond (not γ) 3 0) d in
          absurd (omega arith)
      go false d = (d, sym e ∙ key_number-sound S sound ∙ ap (λ γ. cond (not γ) 3 0) d)

-- ---- words and bytes that are never changed

pub drop-of-past : (t L : ℕ) (before after : List ℕ) → t ≤ L → length after ≡ length before
    → ((a : ℕ) → 2 ^ t ≤ a → get_or after a 0 ≡ get_or before a 0) → drop (2 ^ L) after ≡ drop (2 ^ L) before
drop-of-past t L before after h e past =
    ext_get_or 0 (drop (2 ^ L) after) (drop (2 ^ L) before)
    (omega (arith, length-drop (2 ^ L) after, length-drop (2 ^ L) before))
    (λ i l. get_or-drop (2 ^ L) after i 0
    ∙ past (2 ^ L + i) (omega (arith, pow_mono {i = t} {j = L} h))
    ∙ sym (get_or-drop (2 ^ L) before i 0))

-- on any store
pub record KeepsPast (before : Store) (m' : Memory) : Type 0 where
  pub words-length : length m'.words ≡ length before.memory.words
  pub bytes-length : length m'.bytes ≡ length before.memory.bytes
  pub words-past : drop (2 ^ before.state.limits.depth) m'.words
      ≡ drop (2 ^ before.state.limits.depth) before.memory.words
  pub bytes_past : drop (pages_size before.state) m'.bytes
      ≡ drop (pages_size before.state) before.memory.bytes

-- words and pages outside the key's leaf and the leaves joined with it, if the call joins any, on any store too
abbrev pub KeepsOthers : Bool → Store → List ℕ → Store → Type 0
KeepsOthers joins before values after =
    Contained joins before after
    (split_bit (widths_of before.state.shape) (encodings before.state.shape values))

-- of a key given by its encodings
pub keeps-others : (joins : Bool) (before : Store) (encoded values : List ℕ)
    → encodings before.state.shape values ≡ encoded → (after : Store)
    → Contained joins before after (split_bit (widths_of before.state.shape) encoded)
    → KeepsOthers joins before values after
keeps-others joins before encoded values same after c =
    subst (λ k. Contained joins before after (split_bit (widths_of before.state.shape) k)) (sym same) c

pub depth_at-encoded : (after : Store) (encoded values : List ℕ) → encodings after.state.shape values ≡ encoded
    → (x : ℕ) → depth_field (word_on after (split_bit (widths_of after.state.shape) encoded)) ≡ x
    → depth_at after values ≡ x
depth_at-encoded after encoded values same x e =
    ap (λ k. depth_field (word_on after (split_bit (widths_of after.state.shape) k))) same ∙ e

-- ---- a sound store after an accepted call

pub record ShowsNext (before after : Store) (S S' : List Record) : Type 0 where
  pub sound : Sound after S'
  pub keeps : KeepsPages before after (division_on before S) (division_on before S')
  pub takes : TakesPages before after (division_on before S) (division_on before S')

pub shows_next-of-region : (before : Store) (S S' : List Record) (T' : ℕ) (tally' : Tally) (m' : Memory) (p₀ : ℕ → Bool)
    → (x : ℕ) → Sound before S → RegionChanged before S S' T' m' p₀ x → Sound (changed_store before T' tally' m') S'
    → ShowsNext before (changed_store before T' tally' m') S S'
shows_next-of-region before S S' T' tally' m' p₀ x sound change after =
    record {
      sound = after;
      keeps = keeps-of-region before S S' T' m' p₀ x sound change tally';
      takes = takes-of-region before S S' T' m' p₀ x sound change tally';
    }

-- ---- the promise

-- `model_answer S` is the model's answer, `number S` its number, `set S` its set after an accepted call
module _ (joins : Bool) (values : List ℕ) (early : List Condition) (answers : ℕ → List (Answer Reply))
    (model_answer : List Record → Answer Reply) (number : List Record → ℕ) (set : List Record → List Record)
    (before : Store) where
  abbrev pub Promise : Answer Reply → Store → Type 0
  Promise answer after =
      ChangePromise joins values early answers model_answer (λ S. if_accepted (number S) (set S) S) before answer after

  abbrev shape : Shape
  shape = before.state.shape

  -- on a sound store it is the model's answer, with its number
  abbrev pub ModelRefuses : Answer Reply → ℕ → Type 0
  ModelRefuses answer n = (S : List Record) → Sound before S → (answer ≡ model_answer S) × (number S ≡ n)

  module _ (answer : Answer Reply) (n : ℕ) (same : ModelRefuses answer (suc n)) where
    next-refused : (S : List Record) → Sound before S → if_accepted (number S) (set S) S ≡ S
    next-refused S sound = rw (same S sound).1

    promise-unchanged : RefusedFirst early answer
        → (first_number early ≡ 0 → Member answer (answers (depth_at before values))) → Promise answer before
    promise-unchanged first later =
        record {
          early-refused = first;
          unchanged = λ e. refl;
          ordinary = later;
          shape-kept = refl;
          limits-kept = refl;
          words-length = refl;
          bytes-length = refl;
          words-past = refl;
          bytes_past = refl;
          contained = record { words-kept = λ p. inl refl; bytes-kept = λ g l. inl refl };
          answered-as = λ S sound. (same S sound).0;
          shown = λ S sound. rw (next-refused S sound) sound;
          pages-kept = λ S sound. rw (next-refused S sound) (λ p e h g x l d. d);
          pages-taken = λ S sound. rw (next-refused S sound) (λ p g x l d. inl d);
        }

    pub promise-refused : first_number early ≡ 0 → Member answer (answers (depth_at before values))
        → Promise answer before
    promise-refused e member = promise-unchanged (refused_first-none shape early e answer) (λ d. member)

  -- an early number, where 14 names its attribute
  pub promise-early : Named shape early → (n : ℕ) → ModelRefuses (refused_for shape (suc n)) (suc n)
      → first_number early ≡ suc n → Promise (refused_for shape (suc n)) before
  promise-early named n same e =
      promise-unchanged (refused_for shape (suc n)) n same (refused_first-for shape early named n e)
      (λ d. let z : suc n ≡ 0 = sym e ∙ d in absurd (omega arith))

  -- on a sound store the model accepts, with the depth of the key's leaf afterwards
  abbrev pub ModelAccepts : Type 0
  ModelAccepts = (S : List Record) → Sound before S
      → (model_answer S
      ≡ accepted (changed (key_depth before.state.shape (encodings before.state.shape values) (set S))))
      × (number S ≡ 0)

  -- the call is accepted with the depth x of the word at the key's cell, and on a sound store its set shown
  pub promise-accepted : (T' : ℕ) (tally' : Tally) (m' : Memory) (x : ℕ) → first_number early ≡ 0
      → KeepsPast before m'
      → KeepsOthers joins before values (changed_store before T' tally' m')
      → depth_at (changed_store before T' tally' m') values ≡ x → Member (accepted (changed x)) (answers x)
      → ModelAccepts
      → ((S : List Record) → Sound before S → ShowsNext before (changed_store before T' tally' m') S (set S))
      → Promise (accepted (changed x)) (changed_store before T' tally' m')
  promise-accepted T' tally' m' x e past others depth member same shows =
      record {
        early-refused = refused_first-none shape early e (accepted (changed x));
        unchanged = λ d. absurd (false≢true d);
        ordinary = λ d. subst (λ y. Member (accepted (changed x)) (answers y)) (sym depth) member;
        shape-kept = refl;
        limits-kept = refl;
        words-length = past.words-length;
        bytes-length = past.bytes-length;
        words-past = past.words-past;
        bytes_past = past.bytes_past;
        contained = others;
        answered-as = answer;
        shown = λ S sound. rw (set_after S sound) (shows S sound).sound;
        pages-kept = λ S sound. rw (set_after S sound) (shows S sound).keeps;
        pages-taken = λ S sound. rw (set_after S sound) (shows S sound).takes;
      }
    where
      answer : (S : List Record) → Sound before S → accepted (changed x) ≡ model_answer S
      answer S sound =
          ap (λ y. accepted (changed y))
          (sym depth ∙ depth_at-sound (changed_store before T' tally' m') (set S) (shows S sound).sound values)
          ∙ sym (same S sound).0

      set_after : (S : List Record) → Sound before S → if_accepted (number S) (set S) S ≡ set S
      set_after S sound = rw (same S sound).1

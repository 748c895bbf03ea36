-- Lookup's promise: kept by an early refusal, and by the answer of the store otherwise. Assumes nothing.
use Prim.Native.Nat.{ℕ, zero, suc}
use mathlib.Core.Path.{◌≡◌, refl, sym, ap, subst, ◌∙◌}
use mathlib.Core.Bool.{Bool, true, false, not, cond}
use mathlib.Core.List.{List}
use mathlib.Core.Logic.{◌⊎◌, inl, inr}
use native.Mathlib.Omega.{arith}
use lib.Dec.{ltb}
use Rattle.shape.specs.Refusal.{Answer, accepted, refused, refused_with, told, answered_by, RefusedFirst}
use Rattle.shape.specs.Shape.{widths_of}
use Rattle.shape.specs.Key.{key_fits, encodings}
use Rattle.shape.specs.declared.Shape.{Shape}
use Rattle.shape.specs.declared.refusal.Refusal.{Refusal}
use Rattle.shape.proofs.RefusalLaws.{refused_first-none, for-refused_first}
use Rattle.shape.proofs.TestLaws.{told-first, told-suc}
use Rattle.split.specs.Bits.{split_bit}
use Rattle.record.specs.declared.Content.{Content}
use Rattle.record.specs.Record.{Record}
use Rattle.record.specs.Lanes.{fields_key}
use Rattle.record.specs.Packed.{packed_key}
use Rattle.page.specs.Page.{page_at}
use Rattle.page.specs.Fields.{content_at}
use Rattle.page_matches.specs.KeyPlace.{key_place}
use Rattle.directory_word.specs.Word.{depth_field, page_field, field_leaf, leaf_of}
use Rattle.model.specs.Model.{lookup_call, Reply, changed, found, outcome}
use Rattle.model.proofs.SetLaws.{index_fits-encodings}
use Rattle.store.specs.Store.{Store, fixed_of}
use Rattle.store.specs.Promises.{key_refusals, key_number, depth_at, LookupPromise}
use Rattle.store.specs.declared.State.{State}
use Rattle.store.proofs.NumberLaws.{named-key}
use Rattle.store.proofs.ShownLaws.{word_on}
use Rattle.refusals.specs.Limits.{limits_hold}
use Rattle.refusals.proofs.PassedLaws.{passed}
use Rattle.leaf_word.specs.Hold.{word_holds, own_count}
use Rattle.lookup.specs.Private.{place_answer, count_answer, leaf_answer, word_answer, sought_answer}
use Rattle.lookup.proofs.SoughtLaws.{key_number-read, sought_answer-stored}
use Rattle.lookup.proofs.StoredLaws.{lookup-unfit, lookup-stored}

-- ---- on any store: a content with 1 read or 5, with the depth x of the word; or 9

module _ (x : ℕ) where
  abbrev Ordinary : Answer Reply → Type 0
  Ordinary answer =
      ((content : Content) × (answer ≡ accepted (found content 1 x)))
      ⊎ ((answer ≡ refused_with 5 x) ⊎ (answer ≡ refused 9))

  ordinary-or-nine : (β : Bool) (answer : Answer Reply) → Ordinary answer → Ordinary (cond β answer (refused 9))
  ordinary-or-nine true answer h = h
  ordinary-or-nine false answer h = inr (inr refl)

  place_answer-ordinary : (page : List ℕ) (n i : ℕ) → Ordinary (place_answer x page n i)
  unfolding place_answer
  place_answer-ordinary page n i = go (ltb i n)
    where
      go : (β : Bool) → Ordinary (cond β (accepted (found (content_at page i) 1 x)) (refused_with 5 x))
      go true = inl (content_at page i, refl)
      go false = inr (inl refl)

  count_answer-ordinary : (n : ℕ) (page : List ℕ) (fields : ℕ) → Ordinary (count_answer x n page fields)
  unfolding count_answer
  count_answer-ordinary n page fields =
      let i = key_place fields page n 0 in
      ordinary-or-nine (ltb 0 n) (place_answer x page n i) (place_answer-ordinary page n i)

  leaf_answer-ordinary : (s : Shape) (key : ℕ) (bytes : List ℕ) (field : ℕ)
      → Ordinary (leaf_answer s bytes key (field_leaf field x))
  unfolding leaf_answer
  leaf_answer-ordinary s key bytes zero = inr (inl refl)
  leaf_answer-ordinary s key bytes (suc g) =
      let page = page_at s.capacity bytes g in
      count_answer-ordinary (own_count s x key page) page (fields_key s key)

word_answer-ordinary : (st : State) (bytes : List ℕ) (key word : ℕ)
    → Ordinary (depth_field word) (word_answer st bytes key word)
unfolding word_answer leaf_of
word_answer-ordinary st bytes key word =
    ordinary-or-nine (depth_field word) (word_holds st word) (leaf_answer st.shape bytes key (leaf_of word))
    (leaf_answer-ordinary (depth_field word) st.shape key bytes (page_field word))

sought_answer-ordinary : (store : Store) (values : List ℕ)
    → Ordinary (depth_at store values) (sought_answer store (encodings store.state.shape values))
unfolding sought_answer
sought_answer-ordinary store values =
    let st = store.state in
    let encoded = encodings st.shape values in
    let word = word_on store (split_bit (widths_of st.shape) encoded) in
    ordinary-or-nine (depth_at store values) (limits_hold st)
    (word_answer st store.memory.bytes (packed_key encoded) word)
    (word_answer-ordinary st store.memory.bytes (packed_key encoded) word)

-- ---- the promise

module _ (store : Store) (values : List ℕ) where
  abbrev s : Shape
  s = store.state.shape

  -- 1, 14, 15, 2 or 3; on a sound store 3, which the model gives too
  pub promise-early : (r : Refusal) → told r ≡ answered_by (key_refusals store values) (tt {0})
      → LookupPromise store values (told r)
  promise-early r e =
      record {
        early-refused = first;
        ordinary = λ h. absurd (omega (arith, some.1, h));
        answered-as = λ S w. by-fit (key_fits s values) refl (key_number-read store values S w) S;
      }
    where
      some : (n : ℕ) × (key_number store values ≡ suc n)
      some = told-suc tt r (key_refusals store values) e

      first : RefusedFirst {A = Reply} (key_refusals store values) (told r)
      first = told-first tt r (key_refusals store values) e

      by-fit : (β : Bool) → key_fits s values ≡ β → key_number store values ≡ cond (not (key_fits s values)) 3 0
          → (S : List Record) → told r ≡ (outcome (fixed_of store.state) S (lookup_call values)).answer
      by-fit true f h S = absurd (omega (arith, some.1, h ∙ ap (λ b. cond (not b) 3 0) f))
      by-fit false f h S =
          for-refused_first s (key_refusals store values) (named-key store values) 2
          (h ∙ ap (λ b. cond (not b) 3 0) f) (told r) (changed 0) first
          ∙ sym (lookup-unfit (fixed_of store.state) S values f)

  -- none of them: the answer of the store
  pub promise-sought : (answer : Answer Reply) → key_number store values ≡ 0
      → answer ≡ sought_answer store (encodings s values) → LookupPromise store values answer
  promise-sought answer e a =
      let fits = sym (index_fits-encodings s values) ∙ (passed store values e).fits in
      record {
        early-refused = refused_first-none s (key_refusals store values) e answer;
        ordinary = λ h. subst (Ordinary (depth_at store values)) (sym a) (sought_answer-ordinary store values);
        answered-as = λ S w.
            a ∙ sought_answer-stored store values S w fits ∙ sym (lookup-stored (fixed_of store.state) S values fits);
      }

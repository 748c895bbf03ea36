-- The promise of delete, for each way that it ends: refused early, with 5 or 9, or accepted, the leaf of the key kept
-- or joined. What the code hands over need hold on sound stores alone, save that nothing changes past the words and
-- pages in use, nor outside the leaves that change. Assumes nothing.
use Prim.Native.Nat.{ℕ, suc, ◌+◌, ◌-◌, ◌%◌, ◌^◌, ◌<◌}
use mathlib.Core.Path.{◌≡◌, refl, sym, ap, ◌∙◌, subst}
use mathlib.Core.Bool.{true, false}
use mathlib.Core.List.{List, [], ◌∷◌}
use mathlib.Core.Logic.{inl, inr}
use native.Mathlib.Omega.{arith}
use Rattle.lists.specs.Filter.{non_empty}
use Rattle.lists.specs.Members.{Member}
use Rattle.shape.specs.Amiss.{refused_for}
use Rattle.shape.specs.Refusal.{Answer, accepted, refused, refused_with, answered_by, first_number}
use Rattle.shape.specs.Key.{key_fits, encodings}
use Rattle.shape.specs.declared.Shape.{Shape}
use Rattle.record.specs.Record.{Record}
use Rattle.directory_word.specs.Word.{word_of}
use Rattle.directory_word.specs.declared.Leaf.TheVariants.{Page}
use Rattle.directory_word.proofs.WordLaws.{word_of-page}
use Rattle.model.specs.Sets.{stored, without_key, key_depth}
use Rattle.model.specs.Model.{Fixed, delete_call, Reply, changed, stored_conditions, number_for, reply_to, set_after}
use Rattle.model.specs.Model.{outcome, next}
use Rattle.model.proofs.AnswerLaws.{answer-unfit, answer-absent, answer-stored}
use Rattle.model.proofs.SetLaws.{length-encodings, index_fits-encodings}
use Rattle.store.specs.Store.{Store, Memory, memory, store, fixed_of}
use Rattle.store.specs.Sound.{Sound}
use Rattle.store.specs.Promises.{key_refusals, key_number, depth_at, delete_answers, DeletePromise}
use Rattle.store.specs.declared.Tally.{Tally}
use Rattle.store.proofs.ShownLaws.{page_records, word_on, shape-of-Sound}
use Rattle.store.proofs.NumberLaws.{named-key}
use Rattle.store.proofs.KeyLaws.{key_word, stored-no-page, stored-page, depth_at-sound}
use Rattle.change.specs.Delete.{key_string, LeafDeleted, JoinFound, LeafJoined}
use Rattle.change.proofs.RegionLaws.{changed_store}
use Rattle.change.proofs.PromiseLaws.{key_fits-of-key_number, key_number-suc, KeepsPast, KeepsOthers}
use Rattle.change.proofs.PromiseLaws.{ShowsNext}
use Rattle.change.proofs.PromiseLaws.{promise-early, promise-refused, promise-accepted}
use Rattle.change.proofs.AddPromiseLaws.{OnSound}
use Rattle.change.proofs.DeleteKeyLaws.{stored-record}
use Rattle.change.proofs.DeleteLeafLaws.{shows_next-deleted}
use Rattle.change.proofs.DeleteShownLaws.{shows_next-joined}

-- ---- the model's number

module _ (f : Fixed) (S : List Record) (values : List ℕ) where
  number_for-delete-out : key_fits f.shape values ≡ false → number_for f S (delete_call values) ≡ 3
  unfolding number_for first_number
  number_for-delete-out e = rw e

  number_for-delete-absent : key_fits f.shape values ≡ true
      → non_empty (stored (encodings f.shape values) S) ≡ false → number_for f S (delete_call values) ≡ 5
  unfolding number_for first_number
  number_for-delete-absent e k = rw (e, k)

  number_for-delete-stored : key_fits f.shape values ≡ true
      → non_empty (stored (encodings f.shape values) S) ≡ true → number_for f S (delete_call values) ≡ 0
  unfolding number_for first_number
  number_for-delete-stored e k = rw (e, k)

module _ (before : Store) (values : List ℕ) where
  abbrev s : Shape
  s = before.state.shape

  abbrev key : List ℕ
  key = encodings s values

  -- the model's answer and number, and its set if there is none
  abbrev model_answer : List Record → Answer Reply
  model_answer S =
      answered_by (stored_conditions (fixed_of before.state) S values) (changed (key_depth s key (without_key key S)))

  abbrev model_number : List Record → ℕ
  model_number S = number_for (fixed_of before.state) S (delete_call values)

  abbrev model_set : List Record → List Record
  model_set S = without_key key S

  -- the records of page g
  abbrev records_on : ℕ → List Record
  records_on g = page_records s before.memory.bytes g

  -- 14 with its attribute, any other alone
  pub delete-early : (n : ℕ) → key_number before values ≡ suc n
      → DeletePromise before values (refused_for s (suc n)) before
  unfolding outcome reply_to next set_after
  delete-early n e =
      promise-early true values (key_refusals before values) delete_answers model_answer model_number model_set before
      (named-key before values) n
      (λ S sound. let k = key_number-suc before values S sound n e in (
        ap (refused_for s) k.1 ∙ sym (answer-unfit (fixed_of before.state) S values _ k.0),
        number_for-delete-out (fixed_of before.state) S values k.0 ∙ sym k.1,
      )) e

  module _ (early : key_number before values ≡ 0) where
    fits : key_fits s values ≡ true
    fits = key_fits-of-key_number before values early

    -- ---- refused

    -- 9: the store is not sound
    pub delete-unsound : OnSound before ⊥ → DeletePromise before values (refused 9) before
    unfolding outcome reply_to next set_after
    delete-unsound none =
        promise-refused true values (key_refusals before values) delete_answers model_answer model_number model_set before
        (refused 9) 8 (λ S sound. absurd (none S sound)) early (inr (inr (inl refl)))

    -- 5, with the depth of the word at the key's cell: the key's leaf is empty, or its page has no record with the key
    absent : (x : ℕ) → depth_at before values ≡ x
        → ((S : List Record) → Sound before S → non_empty (stored key S) ≡ false)
        → DeletePromise before values (refused_with 5 x) before
    unfolding outcome reply_to next set_after
    absent x depth none =
        promise-refused true values (key_refusals before values) delete_answers model_answer model_number model_set before
        (refused_with 5 x) 4
        (λ S sound. (
          ap (refused_with 5) (sym depth ∙ depth_at-sound before S sound values)
              ∙ sym (answer-absent (fixed_of before.state) S values _ fits (none S sound)),
          number_for-delete-absent (fixed_of before.state) S values fits (none S sound),
        ))
        early (subst (λ y. Member (refused_with 5 x) (delete_answers y)) (sym depth) (inr (inl refl)))

    pub delete-empty : (x : ℕ) → depth_at before values ≡ x → OnSound before (key_word before key % 2 ^ 16 ≡ 0)
        → DeletePromise before values (refused_with 5 x) before
    delete-empty x depth word =
        absent x depth (λ S sound. ap non_empty (stored-no-page before S sound key (word S sound)))

    pub delete-absent : (g x : ℕ) → depth_at before values ≡ x → OnSound before (key_word before key % 2 ^ 16 ≡ g + 1)
        → OnSound before (non_empty (stored key (records_on g)) ≡ false)
        → DeletePromise before values (refused_with 5 x) before
    delete-absent g x depth word none =
        absent x depth
        (λ S sound. ap non_empty (stored-page before S sound key g (word S sound)).1 ∙ none S sound)

    -- ---- accepted

    -- the key's leaf has page g, which has a record with the key
    stored_here : (g x : ℕ) → g < before.state.limits.pages
        → word_on before (key_string before key) ≡ word_of (Page g x) → non_empty (stored key (records_on g)) ≡ true
        → (S : List Record) → Sound before S
        → non_empty (stored key S) ≡ true
    stored_here g x l word found S sound =
        let field = ap (λ w. w % 2 ^ 16) word ∙ word_of-page g x (omega (arith, sound.most-pages)) in
        ap non_empty (stored-page before S sound key g field).1 ∙ found

    accept : (T' : ℕ) (tally' : Tally) (m' : Memory) (y : ℕ) → KeepsPast before m'
        → KeepsOthers true before values (changed_store before T' tally' m')
        → depth_at (changed_store before T' tally' m') values ≡ y
        → OnSound before ((g : ℕ) × (x : ℕ) × (g < before.state.limits.pages)
        × (word_on before (key_string before key) ≡ word_of (Page g x)) × (non_empty (stored key (records_on g)) ≡ true))
        → ((S : List Record) → Sound before S → (r : Record) → r.key ≡ key → stored r.key S ≡ r ∷ []
        → ShowsNext before (changed_store before T' tally' m') S (without_key r.key S))
        → DeletePromise before values (accepted (changed y)) (changed_store before T' tally' m')
    unfolding outcome reply_to next set_after
    accept T' tally' m' y past others depth met shows =
        promise-accepted true values (key_refusals before values) delete_answers model_answer model_number model_set
        before T'
        tally' m' y early past others depth (inl refl)
        (λ S sound. (
          answer-stored (fixed_of before.state) S values _ fits (has S sound),
          number_for-delete-stored (fixed_of before.state) S values fits (has S sound),
        ))
        (λ S sound.
        let k = stored-record s (shape-of-Sound before S sound) S sound.set key (length-encodings s values)
        (index_fits-encodings s values ∙ fits) (has S sound) in
        subst (λ c. ShowsNext before (changed_store before T' tally' m') S (without_key c S)) k.2
        (shows S sound k.0 k.2 (ap (λ c. stored c S) k.2 ∙ k.1)))
      where
        has : (S : List Record) → Sound before S → non_empty (stored key S) ≡ true
        has S sound =
            let k = met S sound in stored_here k.0 k.1 k.2 k.3 k.4 S sound

    -- the key's leaf stays
    pub delete-kept : (g x : ℕ) (words' bytes' : List ℕ)
        → OnSound before (LeafDeleted before key g x (memory words' bytes'))
        → OnSound before (non_empty (stored key (records_on g)) ≡ true) → KeepsPast before (memory words' bytes')
        → KeepsOthers true before values (store before.state words' bytes')
        → depth_at (store before.state words' bytes') values ≡ x
        → DeletePromise before values (accepted (changed x)) (store before.state words' bytes')
    delete-kept g x words' bytes' deleted found past others depth =
        accept before.state.deepest before.state.tally (memory words' bytes') x past others depth
        (λ S sound. let k = deleted S sound in (g, x, k.within, k.own, found S sound))
        (λ S sound r e held.
        shows_next-deleted before S sound r held g x (memory words' bytes')
        (subst (λ c. LeafDeleted before c g x (memory words' bytes')) (sym e) (deleted S sound)) past.words-length
        past.bytes-length)

    -- it is joined with its sibling
    pub delete-joined : (g h m y kept freed T' : ℕ) (tally' : Tally) (words' bytes' : List ℕ)
        → OnSound before (JoinFound before key g h m y)
        → OnSound before (LeafJoined before key g h m y kept freed T' tally' (memory words' bytes'))
        → OnSound before (non_empty (stored key (records_on g)) ≡ true) → KeepsPast before (memory words' bytes')
        → KeepsOthers true before values (changed_store before T' tally' (memory words' bytes'))
        → depth_at (changed_store before T' tally' (memory words' bytes')) values ≡ y
        → DeletePromise before values (accepted (changed y)) (changed_store before T' tally' (memory words' bytes'))
    delete-joined g h m y kept freed T' tally' words' bytes' met joined found past others depth =
        accept T' tally' (memory words' bytes') y past others depth
        (λ S sound. let k = met S sound in (g, suc m, k.own-within, k.own, found S sound))
        (λ S sound r e held.
        shows_next-joined before S sound r held g h m y
        (subst (λ c. JoinFound before c g h m y) (sym e) (met S sound)) kept freed T' tally' (memory words' bytes')
        (subst (λ c. LeafJoined before c g h m y kept freed T' tally' (memory words' bytes')) (sym e) (joined S sound))
        past.bytes-length)

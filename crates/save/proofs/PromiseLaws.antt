-- Laws of the promise of save, one for each way that the call ends. Assumes nothing.
use Prim.Native.Nat.{ℕ, suc, ◌≤◌, ◌<◌}
use mathlib.Core.Path.{◌≡◌, refl, sym, ap, ◌∙◌}
use mathlib.Core.Bool.{false≢true}
use mathlib.Core.List.{List, ◌++◌, map, append_assoc}
use mathlib.Core.Logic.{inl, inr}
use native.Mathlib.Decide.{dec_lt}
use native.Mathlib.Omega.{arith}
use lib.ListN.{length, drop, length-map}
use borrow.Author.Tests.{lt-ltb, le-ltb}
use Rattle.lists.specs.Members.{All}
use Rattle.shape.specs.Refusal.{Answer, accepted, refused, answered, answered_by, told, RefusedFirst}
use Rattle.shape.specs.declared.Shape.{Shape}
use Rattle.shape.specs.declared.refusal.Refusal.{Refusal}
use Rattle.shape.proofs.RefusalLaws.{refused_first-none}
use Rattle.shape.proofs.TestLaws.{told-first, told-suc}
use Rattle.record.specs.Record.{Record}
use Rattle.record.specs.Bytes.{record_of, records_bytes}
use Rattle.model.specs.Model.{if_accepted}
use Rattle.page_matches.proofs.EmitLaws.{IsField}
use Rattle.store.specs.declared.State.{State}
use Rattle.store.specs.Store.{Store, store, lent_conditions}
use Rattle.store.specs.Promises.{SoundWhere, lent_number}
use Rattle.refusals.specs.Lengths.{lent_by, lent_number_by}
use Rattle.refusals.proofs.LentLaws.{lent_number-by}
use Rattle.list_call.proofs.LentLaws.{lent_number_by-sound}
use Rattle.file.specs.File.{file_size, end_bytes, file_of}
use Rattle.file.specs.Promises.{SavePromise, every_leaf, fit_number}
use Rattle.file.proofs.FitLaws.{fit_number-short, fit_number-fits}
use Rattle.save.specs.Private.{with_file, Filed}
use Rattle.save.proofs.OutputLaws.{length-records, with_file-bytes}

module _ (st : State) (words bytes out : List ℕ) where
  abbrev here : Store
  here = store st words bytes

  abbrev shape : Shape
  shape = st.shape

  abbrev number : ℕ
  number = lent_number_by st (length words) (length bytes)

  -- what is promised on a sound store
  abbrev SavedAs : List Record → Answer ℕ → List ℕ → Type 0
  SavedAs S answer out' =
      (answer ≡ answered (fit_number S out) (file_size (length S)))
      × (out' ≡ if_accepted (fit_number S out) (file_of shape S ++ drop (file_size (length S)) out) out)

  -- ---- refused early

  -- 1, 14, 15 or 2, none of them on a sound store
  module _ (r : Refusal) (e : told r ≡ answered_by (lent_by st (length words) (length bytes)) (tt {0})) where
    some : (n : ℕ) × (number ≡ suc n)
    unfolding lent_number_by
    some = told-suc tt r (lent_by st (length words) (length bytes)) e

    first : RefusedFirst {A = ℕ} (lent_conditions here) (told r)
    unfolding lent_conditions lent_by
    first = told-first tt r (lent_conditions here) e

    pub promise-early : SavePromise here out (told r) out
    promise-early = record {
      early-refused = first;
      unchanged = λ d. refl;
      ordinary = λ d. absurd (omega (arith, some.1, lent_number-by st words bytes, d));
      saved-as = λ S h. absurd (omega (arith, some.1, lent_number_by-sound st words bytes every_leaf S h));
    }

  module _ (none : number ≡ 0) where
    none-early : lent_number here ≡ 0
    none-early = lent_number-by st words bytes ∙ none

    none_first : (answer : Answer ℕ) → RefusedFirst (lent_conditions here) answer
    none_first = refused_first-none shape (lent_conditions here) none-early

    -- ---- refused with 9

    pub promise-nine : ((S : List Record) → SoundWhere here every_leaf S → ⊥) → SavePromise here out (refused 9) out
    promise-nine unsound = record {
      early-refused = none_first (refused 9);
      unchanged = λ d. refl;
      ordinary = λ d. inr (inr refl);
      saved-as = λ S h. absurd (unsound S h);
    }

    -- the records that are saved, as their bytes
    module _ (fs : List (List ℕ)) (few : length fs ≤ 65536)
        (model : (S : List Record) → SoundWhere here every_leaf S → map (record_of shape) fs ≡ S) where
      same_count : (S : List Record) → SoundWhere here every_leaf S → length S ≡ length fs
      same_count S h = ap length (sym (model S h)) ∙ length-map fs (record_of shape)

      -- ---- refused with 2

      pub promise-short : length out < file_size (length fs) → SavePromise here out (refused 2) out
      promise-short l = record {
        early-refused = none_first (refused 2);
        unchanged = λ d. refl;
        ordinary = λ d. inr (inl (refl, omega (arith, l, few)));
        saved-as = λ S h.
            let none-fit = fit_number-short S out (omega (arith, l, same_count S h)) in
            rw none-fit (refl, refl);
      }

      -- ---- accepted

      module _ (whole : All IsField fs) (fits : file_size (length fs) ≤ length out) where
        file-written : (S : List Record) → map (record_of shape) fs ≡ S → length S ≡ length fs
            → with_file shape fs out ≡ file_of shape S ++ drop (file_size (length S)) out
        unfolding file_of
        file-written S e n =
            with_file-bytes shape fs whole out fits S e
            ∙ (λ i. records_bytes shape S
            ++ (end_bytes shape (sym n i) ++ drop (file_size (sym n i)) out))
            ∙ sym (append_assoc (records_bytes shape S) (end_bytes shape (length S)) (drop (file_size (length S)) out))

        saved : (S : List Record) → SoundWhere here every_leaf S
            → SavedAs S (accepted (file_size (length fs))) (with_file shape fs out)
        saved S h =
            let n = same_count S h in
            let fit = fit_number-fits S out (omega (arith, fits, n)) in
            rw fit (ap (λ k. accepted (file_size k)) (sym n), file-written S (model S h) n)

        pub promise-saved : SavePromise here out (accepted (file_size (length fs))) (with_file shape fs out)
        promise-saved = record {
          early-refused = none_first (accepted (file_size (length fs)));
          unchanged = λ d. absurd (false≢true d);
          ordinary = λ d. inl (
            length fs,
            records_bytes shape (map (record_of shape) fs),
            few,
            refl,
            fits,
            length-records shape fs whole out fits (map (record_of shape) fs) refl,
            with_file-bytes shape fs whole out fits (map (record_of shape) fs) refl,
          );
          saved-as = saved;
        }

    -- ---- both

    pub promise-filed : (fs : List (List ℕ))
        → ((S : List Record) → SoundWhere here every_leaf S → map (record_of shape) fs ≡ S) → All IsField fs
        → (answer : Answer ℕ) (out' : List ℕ) → Filed shape fs out answer out' → SavePromise here out answer out'
    promise-filed fs model whole answer out' f = go (dec_lt (length out) (file_size (length fs)))
      where
        as_is : (a : Answer ℕ) (o : List ℕ) → answer ≡ a → out' ≡ o → SavePromise here out a o
            → SavePromise here out answer out'
        as_is a o e d p = rw (e, d) p

        go : Dec (length out < file_size (length fs)) → SavePromise here out answer out'
        go (yes l) =
            let short = lt-ltb (length out) (file_size (length fs)) l in
            as_is (refused 2) out (f.replied ∙ rw short refl) (f.left ∙ rw short refl)
            (promise-short fs f.few model l)
        go (no l) =
            let long : file_size (length fs) ≤ length out = omega arith in
            let fit = le-ltb (length out) (file_size (length fs)) long in
            as_is (accepted (file_size (length fs))) (with_file shape fs out)
            (f.replied ∙ rw fit refl) (f.left ∙ rw fit refl) (promise-saved fs f.few model whole long)

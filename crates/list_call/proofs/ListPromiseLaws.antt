-- Laws of the promise of a call that lists records, one for each way that the call ends, whatever it lists and reads.
-- Assumes nothing.
use Prim.Native.Nat.{ℕ, suc, ◌*◌, ◌/◌, min}
use mathlib.Core.Path.{◌≡◌, refl, sym, ap, ◌∙◌, subst, fun_ext}
use mathlib.Core.Bool.{false≢true}
use mathlib.Core.List.{List, map}
use mathlib.Core.Logic.{inl, inr}
use native.Mathlib.Omega.{arith}
use lib.ListN.{length, take, drop, length-map}
use lib.Seq.{drop_at, length-take-le}
use Rattle.lists.specs.Members.{All}
use Rattle.shape.specs.Refusal.{Condition, Answer, accepted, refused, answered, answered_by, told, first_number}
use Rattle.shape.specs.declared.Shape.{Shape}
use Rattle.shape.specs.declared.refusal.Refusal.{Refusal}
use Rattle.shape.proofs.RefusalLaws.{Named, refused_for-other, refused_first-none, for-refused_first}
use Rattle.shape.proofs.TestLaws.{told-first, told-suc}
use Rattle.region.specs.Query.{LeafTest}
use Rattle.record.specs.Record.{Record}
use Rattle.record.specs.Bytes.{record_size, record_of, records_bytes}
use Rattle.record.proofs.ByteLaws.{length-records_bytes}
use Rattle.model.specs.Model.{Reply, listed, Outcome, written_for, output_for, if_accepted}
use Rattle.page_matches.specs.Output.{emit}
use Rattle.page_matches.proofs.EmitLaws.{IsField, length-emit, emit-records}
use Rattle.store.specs.Store.{Store}
use Rattle.store.specs.Promises.{SoundWhere, ListPromise}

-- what the model answers and leaves as the output, where `number S` is that of its refusal (0 for none), `found S` are
-- the records of S that it lists, and `count S` are its reads
abbrev pub list_outcome : Shape → (number count : List Record → ℕ) → (List Record → List Record) → List ℕ → List Record
    → Outcome
list_outcome s number count found out S = record {
  answer = answered (number S) (listed (written_for (found S) out) (length (found S)) (count S));
  output = if_accepted (number S) (output_for (found S) out s) out;
}

module _ (here : Store) (early : List Condition) (reads : LeafTest Record) (number count : List Record → ℕ)
    (found : List Record → List Record) (out : List ℕ) where
  abbrev shape : Shape
  shape = here.state.shape

  abbrev pub Lists : Answer Reply → List ℕ → Type 0
  Lists answer out' = ListPromise early reads (list_outcome shape number count found out) here out answer out'

  -- a model that says the same of each set
  pub list-by : (model : List Record → Outcome)
      → ((S : List Record) → model S ≡ list_outcome shape number count found out S)
      → (answer : Answer Reply) (out' : List ℕ) → Lists answer out'
      → ListPromise early reads model here out answer out'
  list-by model e answer out' = subst (λ m. ListPromise early reads m here out answer out') (sym (fun_ext e))

  -- on a sound store the number of the refusals above is the model's
  module _ (model-number : (S : List Record) → SoundWhere here reads S → first_number early ≡ number S) where
    -- ---- refused early

    module _ (named : Named shape early) (other : (S : List Record) → number S ≡ 14 → ⊥) (r : Refusal)
        (e : told r ≡ answered_by early (tt {0})) where
      some : (n : ℕ) × (first_number early ≡ suc n)
      some = told-suc tt r early e

      -- on a sound store the number alone is answered, for the model has no 14
      alone : (S : List Record) → SoundWhere here reads S → told {A = Reply} r ≡ refused (suc some.0)
      alone S h =
          for-refused_first shape early named some.0 some.1 (told r) (listed 0 0 0) (told-first tt r early e)
          ∙ refused_for-other shape (suc some.0) (λ d. other S (sym (model-number S h) ∙ some.1 ∙ d))

      pub list-early : Lists (told r) out
      list-early = record {
        early-refused = told-first tt r early e;
        unchanged = λ d. refl;
        ordinary = λ d. absurd (omega (arith, some.1, d));
        output-length = refl;
        answered-as = λ S h. rw (sym (model-number S h) ∙ some.1) (alone S h, refl);
      }

    module _ (none : first_number early ≡ 0) where
      -- ---- refused with 9

      pub list-nine : ((S : List Record) → SoundWhere here reads S → ⊥) → Lists (refused 9) out
      list-nine unsound = record {
        early-refused = refused_first-none shape early none (refused 9);
        unchanged = λ d. refl;
        ordinary = λ d. inr refl;
        output-length = refl;
        answered-as = λ S h. absurd (unsound S h);
      }

      -- ---- accepted

      module _ (fs : List (List ℕ)) (whole : All IsField fs) (opened : ℕ)
          (model : (S : List Record) → SoundWhere here reads S
          → (opened ≡ count S) × (map (record_of shape) fs ≡ found S)) where
        abbrev written : ℕ
        written = min (length fs) (length out / record_size)

        abbrev rs : List Record
        rs = map (record_of shape) fs

        same_count : length rs ≡ length fs
        same_count = simp length-map

        untouched : drop (record_size * written) (emit out 0 fs) ≡ drop (record_size * written) out
        untouched =
            let w = min (length rs) (length out / record_size) in
            let same : w ≡ written = ap (λ n. min n (length out / record_size)) same_count in
            let bytes = records_bytes shape (take w rs) in
            let long : length bytes ≡ record_size * w =
            length-records_bytes shape (take w rs)
            ∙ ap (λ n. record_size * n) (length-take-le w rs (omega arith)) in
            ap (λ n. drop (record_size * n) (emit out 0 fs)) (sym same)
            ∙ ap (drop (record_size * w)) (emit-records shape fs rs out whole refl)
            ∙ drop_at bytes (drop (record_size * w) out) (record_size * w) long
            ∙ ap (λ n. drop (record_size * n) out) same

        listed-as : (S : List Record) → SoundWhere here reads S
            → (accepted (listed written (length fs) opened) ≡ (list_outcome shape number count found out S).answer)
            × (emit out 0 fs ≡ (list_outcome shape number count found out S).output)
        listed-as S h =
            let m = model S h in
            let total : length fs ≡ length (found S) = sym same_count ∙ ap length m.1 in
            let reply = listed (written_for (found S) out) (length (found S)) (count S) in
            let same : listed written (length fs) opened ≡ reply =
            (λ i. listed (min (total i) (length out / record_size)) (total i) (m.0 i)) in
            subst
            (λ k. (accepted (listed written (length fs) opened) ≡ answered k reply)
            × (emit out 0 fs ≡ if_accepted k (output_for (found S) out shape) out))
            (sym none ∙ model-number S h)
            (ap accepted same, emit-records shape fs (found S) out whole m.1)

        pub list-listed : Lists (accepted (listed written (length fs) opened)) (emit out 0 fs)
        list-listed = record {
          early-refused = refused_first-none shape early none _;
          unchanged = λ d. absurd (false≢true d);
          ordinary = λ d. inl (written, length fs, opened, refl, omega arith, omega arith, untouched);
          output-length = length-emit out 0 fs whole;
          answered-as = λ S h. listed-as S h;
        }

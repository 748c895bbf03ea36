-- Laws of the calls so far: none, and one more. Assumes nothing.
use Prim.Native.Nat.{ℕ, suc, ◌+◌, ◌-◌, ◌*◌, ◌≤◌}
use mathlib.Core.Path.{◌≡◌, refl, sym, ap, subst, ◌∙◌}
use mathlib.Core.List.{List, [], ◌∷◌, ◌++◌}
use native.Mathlib.Numerals.{add-one}
use native.Mathlib.Omega.{arith}
use lib.ListN.{length, take, drop, length-append}
use borrow.Rule.Slice.PartMut.{mid_of, put_mid}
use Rattle.model.specs.Model.{Call, Outcome}
use Rattle.store.specs.Store.{Store}
use Rattle.history.specs.History.{Promised, no_call}
use Rattle.history.proofs.HistoryLaws.{run_more}
use Rattle.replay_encoding.specs.declared.Request.{Request}
use Rattle.replay_encoding.specs.Encoding.{request_at, call_of, call_at, request_size}
use Rattle.replay_encoding.specs.Encoding.{output_size_at, output_start, output_at, calls_in}
use Rattle.replay_encoding.specs.Encoding.{answer_size, answer_words, answers_of, outputs_of}
use Rattle.replay_encoding.specs.Words.{four_at}
use Rattle.replay_encoding.proofs.EncodingLaws.{four_at-answer, answers_of-more, outputs_of-more}
use Rattle.replay_call.specs.Promise.{CallKept}
use Rattle.replay.specs.Private.{CallsRan}
use Rattle.replay.proofs.PartLaws.{part-came, put_mid-done, put-done}

pub ran-none : (store : Store) (words answers out : List ℕ) → CallsRan store words answers out 0 store answers out
unfolding calls_in answers_of outputs_of output_start
ran-none store words answers out =
    record {
      outcomes = [];
      ran = no_call;
      answers-length = refl;
      outputs-length = refl;
      answers-as = refl;
      outputs-as = refl;
    }

module _ (before between after : Store) (words answers out answers₁ out₁ ws part : List ℕ) (i start end : ℕ)
    (request : Request)
    (so_far : CallsRan before words answers out i between answers₁ out₁)
    (read : request ≡ request_at words i)
    (e-start : start ≡ output_start words (length out) i)
    (e-end : end ≡ start + request_size request (length out - start))
    (kept : CallKept between (call_of request (mid_of start (end - start) out₁)) ws part after)
    (whole : length part ≡ end - start) where
  abbrev o : Outcome
  o = kept.outcome

  abbrev os : List Outcome
  os = so_far.outcomes

  abbrev size : ℕ
  size = output_size_at words i (length out - output_start words (length out) i)

  e-size : end - start ≡ size
  e-size =
      let by_end : end - start ≡ request_size request (length out - start) = omega (arith, e-end) in
      by_end ∙ (λ k. request_size (read k) (length out - e-start k))

  outputs-start : length (outputs_of os) ≡ start
  outputs-start = so_far.outputs-length ∙ sym e-start

  outputs-so-far : out₁ ≡ outputs_of os ++ drop start out
  outputs-so-far = so_far.outputs-as ∙ ap (λ n. outputs_of os ++ drop n out) (sym e-start)

  -- the output of this call is as it came
  same-output : mid_of start (end - start) out₁ ≡ output_at words out i
  same-output =
      part-came (outputs_of os) out out₁ start outputs-start outputs-so-far (end - start)
      ∙ (λ k. take (e-size k) (drop (e-start k) out))

  promised-here : Promised between (call_at words i (output_at words out i)) o after
  promised-here =
      subst (λ (c : Call). Promised between c o after) (λ k. call_of (read k) (same-output k)) kept.promised

  four : (four_at ws 0 ≡ answer_words o.answer) × (length (answer_words o.answer) ≡ 4)
  four = four_at-answer ws o.answer kept.words-as

  next_start : start + (end - start) ≡ end
  next_start = omega (arith, e-end)

  end-as : output_start words (length out) (suc i) ≡ end
  unfolding output_start
  end-as = (λ k. sym e-start k + sym e-size k) ∙ next_start

  answers-length-more : length (answers_of (os ++ o ∷ [])) ≡ answer_size * suc i
  answers-length-more =
      let parts : length (answers_of (os ++ o ∷ [])) ≡ length (answers_of os) + length (answer_words o.answer) =
      ap length (answers_of-more os o) ∙ length-append (answers_of os) (answer_words o.answer) in
      omega (arith, parts, four.1, so_far.answers-length)

  outputs-length-more : length (outputs_of (os ++ o ∷ [])) ≡ output_start words (length out) (suc i)
  outputs-length-more =
      ap length (outputs_of-more os o)
      ∙ length-append (outputs_of os) o.output
      ∙ (λ k. outputs-start k + (ap length (sym kept.output-as) ∙ whole) k)
      ∙ next_start
      ∙ sym end-as

  answers-more : (answers₂ : List ℕ)
      → answers₂ ≡ take (answer_size * i) answers₁ ++ four_at ws 0 ++ drop (answer_size * i + answer_size) answers₁
      → answers₂ ≡ answers_of (os ++ o ∷ []) ++ drop (answer_size * suc i) answers
  answers-more answers₂ e =
      let next : answer_size * i + answer_size ≡ answer_size * suc i = omega arith in
      e
      ∙ put-done (answers_of os) answers answers₁ (answer_size * i) so_far.answers-length so_far.answers-as
      answer_size (four_at ws 0)
      ∙ (λ k. answers_of os ++ four.0 k ++ drop (next k) answers)
      ∙ ap (λ l. l ++ drop (answer_size * suc i) answers) (sym (answers_of-more os o))

  outputs-more : put_mid start (end - start) out₁ part
      ≡ outputs_of (os ++ o ∷ []) ++ drop (output_start words (length out) (suc i)) out
  outputs-more =
      let le : start ≤ end = omega (arith, e-end) in
      put_mid-done (outputs_of os) out out₁ start outputs-start outputs-so-far end part le
      ∙ (λ k. outputs_of os ++ kept.output-as k ++ drop (sym end-as k) out)
      ∙ ap (λ l. l ++ drop (output_start words (length out) (suc i)) out) (sym (outputs_of-more os o))

  ran-suc : (answers₂ : List ℕ)
      → answers₂ ≡ take (answer_size * i) answers₁ ++ four_at ws 0 ++ drop (answer_size * i + answer_size) answers₁
      → CallsRan before words answers out (suc i) after answers₂ (put_mid start (end - start) out₁ part)
  unfolding calls_in
  ran-suc answers₂ e =
      record {
        outcomes = os ++ o ∷ [];
        ran = run_more (call_at words i (output_at words out i)) o so_far.ran promised-here;
        answers-length = answers-length-more;
        outputs-length = outputs-length-more;
        answers-as = answers-more answers₂ e;
        outputs-as = outputs-more;
      }

  -- where the next output begins, and the calls so far with this one
  pub ran-more : (answers₂ : List ℕ)
      → answers₂ ≡ take (answer_size * i) answers₁ ++ four_at ws 0 ++ drop (answer_size * i + answer_size) answers₁
      → (end ≡ output_start words (length out) (i + 1))
      × CallsRan before words answers out (i + 1) after answers₂ (put_mid start (end - start) out₁ part)
  ran-more answers₂ e = (
    sym end-as ∙ ap (output_start words (length out)) (sym (add-one i)),
    subst (λ (k : ℕ). CallsRan before words answers out k after answers₂ (put_mid start (end - start) out₁ part))
        (sym (add-one i)) (ran-suc answers₂ e),
  )

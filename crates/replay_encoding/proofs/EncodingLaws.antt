-- Laws of calls and answers as numbers: a call read word by word, its kind, the bytes of its output; an answer
-- written; the answers and outputs of one call more. Assumes nothing.
use Prim.Native.Nat.{ℕ, zero, suc, ◌+◌, ◌*◌, ◌≤◌, ◌<◌, min}
use mathlib.Core.Path.{◌≡◌, refl, sym, ap, ◌∙◌}
use mathlib.Core.List.{List, [], ◌∷◌, ◌++◌, append_assoc, append-nil}
use mathlib.Core.Option.{Option, none, some}
use native.Mathlib.Omega.{arith}
use lib.ListN.{length, take, drop, get_or, set}
use lib.Seq.{sets-eq}
use Rattle.shape.specs.Refusal.{Answer, accepted, refused, refused_with, refused_by, carried_beside, told}
use Rattle.shape.specs.Refusal.{refusal_number, refusal_value, depth_beside, attribute_beside}
use Rattle.shape.specs.declared.refusal.Refusal.{Refusal}
use Rattle.shape.proofs.TestLaws.{depth-told, attribute-told}
use Rattle.model.specs.Model.{insert_call, delete_call, lookup_call, query_call, range_call, Reply, changed, found, listed}
use Rattle.model.specs.Model.{Outcome}
use Rattle.replay_encoding.specs.declared.Request.{Request}
use Rattle.replay_encoding.specs.Encoding.{call_size, request_at, value_if, wanted_in, intervals_in}
use Rattle.replay_encoding.specs.Encoding.{call_of_kind, call_of, size_of_kind, request_size}
use Rattle.replay_encoding.specs.Encoding.{answer_words, answers_of, outputs_of}
use Rattle.replay_encoding.specs.Words.{four_at}

-- ---- calls

pub request_at-read : (words vs gs hs : List ℕ) (i : ℕ)
    → vs ≡ four_at words (call_size * i + 1) → gs ≡ four_at words (call_size * i + 5)
    → hs ≡ four_at words (call_size * i + 11)
    → ◌≡◌ {A = Request}
    (record {
      kind = get_or words (call_size * i) 0;
      values = vs;
      given = gs;
      payload = get_or words (call_size * i + 9) 0;
      size = get_or words (call_size * i + 10) 0;
      highs = hs;
    })
    (request_at words i)
unfolding request_at
request_at-read words vs gs hs i ev eg eh =
    let at = call_size * i in
    let a0 : at ≡ at + 0 = omega arith in
    let a2 : at + 1 + 1 ≡ at + 2 = omega arith in
    let a3 : at + 1 + 2 ≡ at + 3 = omega arith in
    let a4 : at + 1 + 3 ≡ at + 4 = omega arith in
    let a6 : at + 5 + 1 ≡ at + 6 = omega arith in
    let a7 : at + 5 + 2 ≡ at + 7 = omega arith in
    let a8 : at + 5 + 3 ≡ at + 8 = omega arith in
    let a12 : at + 11 + 1 ≡ at + 12 = omega arith in
    let a13 : at + 11 + 2 ≡ at + 13 = omega arith in
    let a14 : at + 11 + 3 ≡ at + 14 = omega arith in
    cc

pub value_if-given : (given v : ℕ) → (given ≡ 0 → ⊥) → some v ≡ value_if given v
value_if-given zero v h = absurd (h refl)
value_if-given (suc g) v h = refl

-- ---- kinds

pub call_of-insert : (r : Request) (out : List ℕ) → r.kind ≡ 0
    → call_of r out ≡ insert_call r.values (record { payload = r.payload })
unfolding call_of
call_of-insert r out e = ap (λ k. call_of_kind k r out) e

pub call_of-delete : (r : Request) (out : List ℕ) → r.kind ≡ 1 → call_of r out ≡ delete_call r.values
unfolding call_of
call_of-delete r out e = ap (λ k. call_of_kind k r out) e

pub call_of-lookup : (r : Request) (out : List ℕ) → r.kind ≡ 2 → call_of r out ≡ lookup_call r.values
unfolding call_of
call_of-lookup r out e = ap (λ k. call_of_kind k r out) e

pub call_of-query : (r : Request) (out : List ℕ) → r.kind ≡ 3 → call_of r out ≡ query_call (wanted_in r) out
unfolding call_of
call_of-query r out e = ap (λ k. call_of_kind k r out) e

pub call_of-range : (r : Request) (out : List ℕ) → (r.kind ≡ 0 → ⊥) → (r.kind ≡ 1 → ⊥) → (r.kind ≡ 2 → ⊥)
    → (r.kind ≡ 3 → ⊥) → call_of r out ≡ range_call (intervals_in r) out
unfolding call_of
call_of-range r out h0 h1 h2 h3 = of-kind r.kind h0 h1 h2 h3
  where
    of-kind : (k : ℕ) → (k ≡ 0 → ⊥) → (k ≡ 1 → ⊥) → (k ≡ 2 → ⊥) → (k ≡ 3 → ⊥)
        → call_of_kind k r out ≡ range_call (intervals_in r) out
    of-kind zero h0 h1 h2 h3 = absurd (h0 refl)
    of-kind (suc zero) h0 h1 h2 h3 = absurd (h1 refl)
    of-kind (suc (suc zero)) h0 h1 h2 h3 = absurd (h2 refl)
    of-kind (suc (suc (suc zero))) h0 h1 h2 h3 = absurd (h3 refl)
    of-kind (suc (suc (suc (suc n)))) h0 h1 h2 h3 = refl

-- ---- bytes of an output

pub request_size-none : (r : Request) (room : ℕ) → r.kind < 3 → request_size r room ≡ 0
unfolding request_size
request_size-none r room h = of-kind r.kind h
  where
    of-kind : (k : ℕ) → k < 3 → size_of_kind k r.size room ≡ 0
    of-kind zero h = refl
    of-kind (suc zero) h = refl
    of-kind (suc (suc zero)) h = refl
    of-kind (suc (suc (suc n))) h = absurd (omega arith)

pub request_size-listed : (r : Request) (room : ℕ) → (r.kind < 3 → ⊥) → request_size r room ≡ min r.size room
unfolding request_size
request_size-listed r room h = of-kind r.kind h
  where
    of-kind : (k : ℕ) → (k < 3 → ⊥) → size_of_kind k r.size room ≡ min r.size room
    of-kind zero h = absurd (h (omega arith))
    of-kind (suc zero) h = absurd (h (omega arith))
    of-kind (suc (suc zero)) h = absurd (h (omega arith))
    of-kind (suc (suc (suc n))) h = refl

-- a call other than a query or a range has no output
pub no_output : (r : Request) (out : List ℕ) → r.kind < 3 → length out ≡ request_size r (length out) → out ≡ []
no_output r out h e = none_of out (e ∙ request_size-none r (length out) h)
  where
    none_of : (l : List ℕ) → length l ≡ 0 → l ≡ []
    none_of [] e = refl
    none_of (x ∷ l) e = absurd (omega arith)

-- ---- answers

words-refused_by : (n : ℕ) (o : Option ℕ) → answer_words (refused_by n o)
    ≡ n ∷ carried_beside {A = Reply} 14 (refused_by n o) ∷ 0 ∷ carried_beside {A = Reply} 5 (refused_by n o) ∷ []
unfolding answer_words
words-refused_by n none = refl
words-refused_by n (some x) = refl

-- those of a refusal
pub words_told : (r : Refusal) → answer_words (told r)
    ≡ refusal_number r ∷ attribute_beside r ∷ 0 ∷ depth_beside r ∷ []
words_told r =
    rw (← attribute-told Reply r, ← depth-told Reply r) (words-refused_by (refusal_number r) (refusal_value r))

length-answer_words : (a : Answer Reply) → length (answer_words a) ≡ 4
unfolding answer_words
length-answer_words (accepted (changed depth)) = refl
length-answer_words (accepted (found content reads depth)) = refl
length-answer_words (accepted (listed written total reads)) = refl
length-answer_words (refused n) = refl
length-answer_words (refused_with n x) = refl

four_at-answer_words : (a : Answer Reply) → four_at (answer_words a) 0 ≡ answer_words a
unfolding answer_words
four_at-answer_words (accepted (changed depth)) = refl
four_at-answer_words (accepted (found content reads depth)) = refl
four_at-answer_words (accepted (listed written total reads)) = refl
four_at-answer_words (refused n) = refl
four_at-answer_words (refused_with n x) = refl

-- the words of an answer are four
pub four_at-answer : (ws : List ℕ) (a : Answer Reply) → ws ≡ answer_words a
    → (four_at ws 0 ≡ answer_words a) × (length (answer_words a) ≡ 4)
four_at-answer ws a e = (ap (λ l. four_at l 0) e ∙ four_at-answer_words a, length-answer_words a)

-- ---- an answer written

-- four writes in a row
pub four-sets : (l words : List ℕ) (at : ℕ) → at + 4 ≤ length l
    → set (set (set (set l at (get_or words 0 0)) (at + 1) (get_or words 1 0)) (at + 2) (get_or words 2 0)) (at + 3)
    (get_or words 3 0)
    ≡ take at l ++ four_at words 0 ++ drop (at + 4) l
four-sets l words at h =
    let a1 : at + 1 ≡ suc at = omega arith in
    let a2 : at + 2 ≡ suc (suc at) = omega arith in
    let a3 : at + 3 ≡ suc (suc (suc at)) = omega arith in
    rw (a1, a2, a3) (sets-eq (four_at words 0) l at h)

-- ---- one call more

pub answers_of-more : (os : List Outcome) (o : Outcome)
    → answers_of (os ++ o ∷ []) ≡ answers_of os ++ answer_words o.answer
unfolding answers_of
answers_of-more [] o = append-nil (answer_words o.answer)
answers_of-more (p ∷ os) o =
    ap (λ l. answer_words p.answer ++ l) (answers_of-more os o)
    ∙ sym (append_assoc (answer_words p.answer) (answers_of os) (answer_words o.answer))

pub outputs_of-more : (os : List Outcome) (o : Outcome) → outputs_of (os ++ o ∷ []) ≡ outputs_of os ++ o.output
unfolding outputs_of
outputs_of-more [] o = append-nil o.output
outputs_of-more (p ∷ os) o =
    ap (λ l. p.output ++ l) (outputs_of-more os o) ∙ sym (append_assoc p.output (outputs_of os) o.output)

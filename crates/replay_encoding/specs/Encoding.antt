-- Calls and answers as numbers (document 01, "The plain model of demand 3"; document 02, requests 1, 6 and 7).
--
--     a call is 15 words                                       an answer is 4 words
--     0      kind: 0 insert, 1 delete, 2 lookup, 3 query,      0    number of the refusal, 0 for an accepted call
--            else range                                        1-3  lookup: payload, reads, depth
--     1-4    values of attributes 0 to 3; range: low ends           query, range: written, total, reads
--     5-8    query, range: not 0 where an attribute is given        insert, delete, and refused with 5: 0, 0, depth
--     9      insert: payload                                        refused with 14: attribute, 0, 0
--     10     query, range: bytes of its output                      any other refused call: 0, 0, 0
--     11-14  range: high ends of attributes 0 to 3
--
-- The outputs of queries and ranges follow each other in the lent bytes: each begins where the one before ended, and
-- has the size that its call says, at most what is left. As many calls are run as there are whole ones, and as many as
-- the lent answers have room for.
--
-- Assumes nothing.
use Rattle.std.specs.Prelude.{ℕ, zero, suc, ◌+◌, ◌-◌, ◌*◌, ◌/◌, min, cond, List, [], ◌∷◌, ◌++◌, eqb, length, take, drop, get_or}
use Rattle.std.proofs.Math.Option.{Option, none, some}
use Rattle.shape.specs.Refusal.{Answer, accepted, refused, refused_with}
use Rattle.shape.specs.Key.{per_attribute}
use Rattle.shape.specs.Range.{Interval, intervals_of}
use Rattle.model.specs.Model.{Call, insert_call, delete_call, lookup_call, query_call, range_call}
use Rattle.model.specs.Model.{Reply, changed, found, listed, Outcome}
use Rattle.replay_encoding.specs.declared.Request.{Request}

-- ---- calls

abbrev pub call_size : ℕ
call_size = 15

-- word j of call i
abbrev pub call_word : List ℕ → ℕ → ℕ → ℕ
call_word words i j = get_or words (call_size * i + j) 0

-- what the words of call i say
unfoldable pub request_at : List ℕ → ℕ → Request
request_at words i =
    record {
      kind = call_word words i 0;
      values = call_word words i 1 ∷ call_word words i 2 ∷ call_word words i 3 ∷ call_word words i 4 ∷ [];
      given = call_word words i 5 ∷ call_word words i 6 ∷ call_word words i 7 ∷ call_word words i 8 ∷ [];
      payload = call_word words i 9;
      size = call_word words i 10;
      highs = call_word words i 11 ∷ call_word words i 12 ∷ call_word words i 13 ∷ call_word words i 14 ∷ [];
    }

-- a value, where it is given
abbrev pub value_if : ℕ → ℕ → Option ℕ
value_if zero v = none
value_if (suc g) v = some v

-- what a query of these words asks
unfoldable pub wanted_in : Request → List (Option ℕ)
wanted_in r = per_attribute (λ j. value_if (get_or r.given j 0) (get_or r.values j 0))

-- what a range of these words asks
abbrev pub intervals_in : Request → List (Option Interval)
intervals_in r = intervals_of r.given r.values r.highs

abbrev pub call_of_kind : ℕ → Request → List ℕ → Call
call_of_kind zero r out = insert_call r.values (record { payload = r.payload })
call_of_kind (suc zero) r out = delete_call r.values
call_of_kind (suc (suc zero)) r out = lookup_call r.values
call_of_kind (suc (suc (suc zero))) r out = query_call (wanted_in r) out
call_of_kind (suc (suc (suc (suc n)))) r out = range_call (intervals_in r) out

-- the call of these words; a query and a range with its output as it came
unfoldable pub call_of : Request → List ℕ → Call
call_of r out = call_of_kind r.kind r out

abbrev pub call_at : List ℕ → ℕ → List ℕ → Call
call_at words i out = call_of (request_at words i) out

-- ---- outputs

-- the bytes of the output of a call of some kind, where so many are left: none but for a query and a range
abbrev pub size_of_kind : ℕ → ℕ → ℕ → ℕ
size_of_kind zero size room = 0
size_of_kind (suc zero) size room = 0
size_of_kind (suc (suc zero)) size room = 0
size_of_kind (suc (suc (suc n))) size room = min size room

unfoldable pub request_size : Request → ℕ → ℕ
request_size r room = size_of_kind r.kind r.size room

abbrev pub output_size_at : List ℕ → ℕ → ℕ → ℕ
output_size_at words i room = request_size (request_at words i) room

-- where the output of call i begins in n bytes
unfoldable pub output_start : List ℕ → ℕ → ℕ → ℕ
output_start words n zero = 0
output_start words n (suc i) = output_start words n i + output_size_at words i (n - output_start words n i)

-- the output of call i as it came
abbrev pub output_at : List ℕ → List ℕ → ℕ → List ℕ
output_at words out i =
    let start = output_start words (length out) i in
    take (output_size_at words i (length out - start)) (drop start out)

-- the first k calls
unfoldable pub calls_in : List ℕ → List ℕ → ℕ → List Call
calls_in words out zero = []
calls_in words out (suc k) = calls_in words out k ++ call_at words k (output_at words out k) ∷ []

-- ---- answers

abbrev pub answer_size : ℕ
answer_size = 4

abbrev pub reply_words : Reply → List ℕ
reply_words (changed depth) = 0 ∷ 0 ∷ 0 ∷ depth ∷ []
reply_words (found content reads depth) = 0 ∷ content.payload ∷ reads ∷ depth ∷ []
reply_words (listed written total reads) = 0 ∷ written ∷ total ∷ reads ∷ []

-- beside 14 the attribute, beside 5 the depth: 14 for attribute 1 is 14, 1, 0, 0, and 5 at depth 3 is 5, 0, 0, 3
unfoldable pub answer_words : Answer Reply → List ℕ
answer_words (accepted reply) = reply_words reply
answer_words (refused n) = n ∷ 0 ∷ 0 ∷ 0 ∷ []
answer_words (refused_with n x) = n ∷ cond (eqb n 14) x 0 ∷ 0 ∷ cond (eqb n 5) x 0 ∷ []

-- the answers of some calls, one after the other, and their outputs
unfoldable pub answers_of : List Outcome → List ℕ
answers_of [] = []
answers_of (o ∷ os) = answer_words o.answer ++ answers_of os

unfoldable pub outputs_of : List Outcome → List ℕ
outputs_of [] = []
outputs_of (o ∷ os) = o.output ++ outputs_of os

-- how many calls are run
unfoldable pub call_count : List ℕ → List ℕ → ℕ
call_count words answers = min (length words / call_size) (length answers / answer_size)

-- Lists of calls as words and bytes, the other way round (document 01, "The plain model of demand 3"): which lists can
-- be handed to a replay, and what is handed. Assumes nothing.
use Rattle.std.specs.Prelude.{ℕ, ◌*◌, ◌^◌, ◌≤◌, ◌<◌, ◌≡◌, List, [], ◌∷◌, ◌++◌, length, get_or}
use Rattle.std.proofs.Math.Option.{Option, none, some}
use Rattle.lists.specs.Members.{All}
use Rattle.shape.specs.Key.{per_attribute}
use Rattle.shape.specs.Range.{Interval}
use Rattle.model.specs.Model.{Call, insert_call, delete_call, lookup_call, query_call, range_call, output_before}
use Rattle.replay_encoding.specs.declared.Request.{Request}
use Rattle.replay_encoding.specs.Encoding.{calls_in, call_count, answer_size}

-- ---- which calls

-- the value of a given attribute, 0 for a free one; and 1 for a given one, 0 for a free one
abbrev pub given_value : Option ℕ → ℕ
given_value none = 0
given_value (some v) = v

abbrev pub given_mark : {A : Type 0} → Option A → ℕ
given_mark none = 0
given_mark (some v) = 1

-- the ends of a given interval, 0 for a free attribute
abbrev pub given_low : Option Interval → ℕ
given_low none = 0
given_low (some i) = i.low

abbrev pub given_high : Option Interval → ℕ
given_high none = 0
given_high (some i) = i.high

-- a value for each of the four attributes, of 32 bits
abbrev pub FourWords : List ℕ → Type 0
FourWords values = (length values ≡ 4) × All (λ v. v < 2 ^ 32) values

-- bytes, fewer than 2^32
abbrev pub Output : List ℕ → Type 0
Output out = (length out < 2 ^ 32) × All (λ byte. byte < 2 ^ 8) out

-- the calls that words and bytes can say: those of four values or intervals, as all calls of the running code are, each
-- value, each end and the payload below 2^32; the bytes of an output fewer than 2^32
abbrev pub Encodable : Call → Type 0
Encodable (insert_call values content) = FourWords values × (content.payload < 2 ^ 32)
Encodable (delete_call values) = FourWords values
Encodable (lookup_call values) = FourWords values
Encodable (query_call q out) =
    (length q ≡ 4) × All (λ o. given_value o < 2 ^ 32) q × Output out
Encodable (range_call r out) =
    (length r ≡ 4) × All (λ o. (given_low o < 2 ^ 32) × (given_high o < 2 ^ 32)) r × Output out

-- ---- what is handed to a replay

-- the request of a call with a key
abbrev pub key_request : ℕ → List ℕ → ℕ → Request
key_request kind values payload =
    record {
      kind = kind;
      values = per_attribute (λ j. get_or values j 0);
      given = 0 ∷ 0 ∷ 0 ∷ 0 ∷ [];
      payload = payload;
      size = 0;
      highs = 0 ∷ 0 ∷ 0 ∷ 0 ∷ [];
    }

-- the request that asks a call
unfoldable pub request_of : Call → Request
request_of (insert_call values content) = key_request 0 values content.payload
request_of (delete_call values) = key_request 1 values 0
request_of (lookup_call values) = key_request 2 values 0
request_of (query_call q out) =
    record {
      kind = 3;
      values = per_attribute (λ j. given_value (get_or q j none));
      given = per_attribute (λ j. given_mark (get_or q j none));
      payload = 0;
      size = length out;
      highs = 0 ∷ 0 ∷ 0 ∷ 0 ∷ [];
    }
request_of (range_call r out) =
    record {
      kind = 4;
      values = per_attribute (λ j. given_low (get_or r j none));
      given = per_attribute (λ j. given_mark (get_or r j none));
      payload = 0;
      size = length out;
      highs = per_attribute (λ j. given_high (get_or r j none));
    }

-- its 15 words: an insert of (2,1) with payload 13 is 0, 2, 1, 0, 0, 0, 0, 0, 0, 13, 0, 0, 0, 0, 0
unfoldable pub request_words : Request → List ℕ
request_words r =
    r.kind
    ∷ get_or r.values 0 0 ∷ get_or r.values 1 0 ∷ get_or r.values 2 0 ∷ get_or r.values 3 0
    ∷ get_or r.given 0 0 ∷ get_or r.given 1 0 ∷ get_or r.given 2 0 ∷ get_or r.given 3 0
    ∷ r.payload ∷ r.size
    ∷ get_or r.highs 0 0 ∷ get_or r.highs 1 0 ∷ get_or r.highs 2 0 ∷ get_or r.highs 3 0 ∷ []

-- the words of some calls, one after the other
unfoldable pub encoded : List Call → List ℕ
encoded [] = []
encoded (c ∷ cs) = request_words (request_of c) ++ encoded cs

-- and their outputs as they came
unfoldable pub outputs_before : List Call → List ℕ
outputs_before [] = []
outputs_before (c ∷ cs) = output_before c ++ outputs_before cs

-- ---- every list

-- the words of a list of calls have 32 bits and its bytes 8; they say these calls, and with room for the answers it is
-- these calls that a replay runs
pub record Encodes (cs : List Call) : Type 0 where
  pub words : All (λ w. w < 2 ^ 32) (encoded cs)
  pub bytes : All (λ byte. byte < 2 ^ 8) (outputs_before cs)
  pub calls : calls_in (encoded cs) (outputs_before cs) (length cs) ≡ cs
  pub replayed : (answers : List ℕ) → answer_size * length cs ≤ length answers
      → calls_in (encoded cs) (outputs_before cs) (call_count (encoded cs) answers) ≡ cs

-- every list of such calls is the `calls_in` of some words and bytes
abbrev pub EveryList : Type 0
EveryList = (cs : List Call) → All Encodable cs → Encodes cs

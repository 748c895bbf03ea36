-- Laws of lists of calls as words and bytes: a call read back from its words, the place of its output, and that every
-- list of calls is read back. Assumes nothing.
use Prim.Native.Nat.{ℕ, zero, suc, ◌+◌, ◌-◌, ◌*◌, ◌^◌, ◌≤◌, ◌<◌}
use mathlib.Core.Path.{◌≡◌, refl, sym, ap, ◌∙◌}
use mathlib.Core.List.{List, [], ◌∷◌, ◌++◌, append_assoc, append-nil}
use mathlib.Core.Option.{Option, none, some}
use native.Mathlib.Omega.{arith}
use lib.ListN.{length, drop, get_or, length-append}
use lib.Seq.{get_or-append-add, append_snoc, take-append_seam, drop_at}
use Rattle.lists.specs.Members.{All}
use Rattle.lists.proofs.MemberLaws.{All-append}
use Rattle.shape.specs.Range.{Interval, interval_if, intervals_of}
use Rattle.shape.proofs.AttributeLaws.{per_attribute-get_d}
use Rattle.model.specs.Model.{Call, insert_call, delete_call, lookup_call, query_call, range_call, output_before}
use Rattle.replay_encoding.specs.declared.Request.{Request}
use Rattle.replay_encoding.specs.Encoding.{call_size, request_at, value_if, wanted_in}
use Rattle.replay_encoding.specs.Encoding.{call_of, request_size, output_start}
use Rattle.replay_encoding.specs.Encoding.{output_size_at, output_at, calls_in, call_count, answer_size}
use Rattle.replay_encoding.specs.Encoded.{given_value, given_mark, given_low, given_high, FourWords, Encodable}
use Rattle.replay_encoding.specs.Encoded.{key_request, request_of, request_words, encoded, outputs_before, EveryList}

-- ---- one call

value_if-given_mark : (o : Option ℕ) → value_if (given_mark o) (given_value o) ≡ o
value_if-given_mark none = refl
value_if-given_mark (some v) = refl

interval_if-given_mark : (o : Option Interval) → interval_if (given_mark o) (given_low o) (given_high o) ≡ o
interval_if-given_mark none = refl
interval_if-given_mark (some i) = refl

-- a call is what its request asks
pub call_of-request_of : (c : Call) → Encodable c → call_of (request_of c) (output_before c) ≡ c
unfolding call_of request_of wanted_in intervals_of
call_of-request_of (insert_call values content) e =
    ap (λ vs. insert_call vs content) (per_attribute-get_d 0 values e.0.0)
call_of-request_of (delete_call values) e = ap delete_call (per_attribute-get_d 0 values e.0)
call_of-request_of (lookup_call values) e = ap lookup_call (per_attribute-get_d 0 values e.0)
call_of-request_of (query_call q out) e =
    rw (
      value_if-given_mark (get_or q 0 none),
      value_if-given_mark (get_or q 1 none),
      value_if-given_mark (get_or q 2 none),
      value_if-given_mark (get_or q 3 none),
    )
    (ap (λ w. query_call w out) (per_attribute-get_d none q e.0))
call_of-request_of (range_call r out) e =
    rw (
      interval_if-given_mark (get_or r 0 none),
      interval_if-given_mark (get_or r 1 none),
      interval_if-given_mark (get_or r 2 none),
      interval_if-given_mark (get_or r 3 none),
    )
    (ap (λ w. range_call w out) (per_attribute-get_d none r e.0))

-- and its output has as many bytes as its request says
request_size-request_of : (c : Call) (room : ℕ) → length (output_before c) ≤ room
    → request_size (request_of c) room ≡ length (output_before c)
unfolding request_size request_of
request_size-request_of (insert_call values content) room h = refl
request_size-request_of (delete_call values) room h = refl
request_size-request_of (lookup_call values) room h = refl
request_size-request_of (query_call q out) room h = omega arith
request_size-request_of (range_call r out) room h = omega arith

-- ---- its words

request_at-request_words : (c : Call) (words : List ℕ) → request_at (request_words (request_of c) ++ words) 0 ≡ request_of c
unfolding request_at request_words request_of
request_at-request_words (insert_call values content) words = refl
request_at-request_words (delete_call values) words = refl
request_at-request_words (lookup_call values) words = refl
request_at-request_words (query_call q out) words = refl
request_at-request_words (range_call r out) words = refl

length-request_words : (r : Request) → length (request_words r) ≡ call_size
unfolding request_words
length-request_words r = refl

-- the calls that follow
request_at-suc : (first words : List ℕ) (k : ℕ) → length first ≡ call_size
    → request_at (first ++ words) (suc k) ≡ request_at words k
unfolding request_at
request_at-suc first words k l =
    cc (
      word 0,
      word 1,
      word 2,
      word 3,
      word 4,
      word 5,
      word 6,
      word 7,
      word 8,
      word 9,
      word 10,
      word 11,
      word 12,
      word 13,
      word 14,
    )
  where
    word : (j : ℕ) → get_or (first ++ words) (call_size * suc k + j) 0 ≡ get_or words (call_size * k + j) 0
    word j =
        let e : call_size * suc k + j ≡ length first + (call_size * k + j) = omega (arith, l) in
        ap (λ n. get_or (first ++ words) n 0) e ∙ get_or-append-add first words (call_size * k + j) 0

-- the request of the call that some precede
pub request_at-encoded : (before after : List Call) (c : Call)
    → request_at (encoded (before ++ c ∷ after)) (length before) ≡ request_of c
unfolding encoded
request_at-encoded [] after c = request_at-request_words c (encoded after)
request_at-encoded (d ∷ before) after c =
    request_at-suc (request_words (request_of d)) (encoded (before ++ c ∷ after)) (length before)
    (length-request_words (request_of d))
    ∙ request_at-encoded before after c

pub length-encoded : (cs : List Call) → length (encoded cs) ≡ call_size * length cs
unfolding encoded
length-encoded [] = refl
length-encoded (c ∷ cs) =
    omega (
      arith,
      length-append (request_words (request_of c)) (encoded cs),
      length-request_words (request_of c),
      length-encoded cs,
    )

-- ---- its output

outputs_before-append : (cs ds : List Call) → outputs_before (cs ++ ds) ≡ outputs_before cs ++ outputs_before ds
unfolding outputs_before
outputs_before-append [] ds = refl
outputs_before-append (c ∷ cs) ds =
    ap (λ l. output_before c ++ l) (outputs_before-append cs ds)
    ∙ sym (append_assoc (output_before c) (outputs_before cs) (outputs_before ds))

-- the words and bytes of a list of calls, of which some precede c
module _ (before after : List Call) (c : Call) (words out : List ℕ) (ew : words ≡ encoded (before ++ c ∷ after))
    (eo : out ≡ outputs_before (before ++ c ∷ after))
    (start : output_start words (length out) (length before) ≡ length (outputs_before before)) where
  parts : out ≡ outputs_before before ++ (output_before c ++ outputs_before after)
  unfolding outputs_before
  parts = eo ∙ outputs_before-append before (c ∷ after)

  asked : request_at words (length before) ≡ request_of c
  asked = ap (λ l. request_at l (length before)) ew ∙ request_at-encoded before after c

  room : length (output_before c) ≤ length out - output_start words (length out) (length before)
  room =
      omega (
        arith,
        start,
        ap length parts,
        length-append (outputs_before before) (output_before c ++ outputs_before after),
        length-append (output_before c) (outputs_before after),
      )

  size : output_size_at words (length before) (length out - output_start words (length out) (length before))
      ≡ length (output_before c)
  size =
      ap (λ r. request_size r (length out - output_start words (length out) (length before))) asked
      ∙ request_size-request_of c _ room

  output_at-encoded : output_at words out (length before) ≡ output_before c
  output_at-encoded =
      let left : drop (output_start words (length out) (length before)) out ≡ output_before c ++ outputs_before after =
      ap (drop (output_start words (length out) (length before))) parts
      ∙ drop_at (outputs_before before) (output_before c ++ outputs_before after) _ (sym start) in
      rw (size, left) (take-append_seam (output_before c) (outputs_before after))

  output_start-suc : output_start words (length out) (length (before ++ c ∷ []))
      ≡ length (outputs_before (before ++ c ∷ []))
  unfolding output_start outputs_before
  output_start-suc =
      let e : length (before ++ c ∷ []) ≡ suc (length before) = omega (arith, length-append before (c ∷ [])) in
      rw e
      (omega (
        arith,
        start,
        size,
        ap length (outputs_before-append before (c ∷ [])),
        length-append (outputs_before before) (output_before c ++ []),
        length-append (output_before c) [],
      ))

  calls_in-suc : Encodable c → calls_in words out (length before) ≡ before
      → calls_in words out (length (before ++ c ∷ [])) ≡ before ++ c ∷ []
  unfolding calls_in
  calls_in-suc e h =
      let n : length (before ++ c ∷ []) ≡ suc (length before) = omega (arith, length-append before (c ∷ [])) in
      rw (n, h, output_at-encoded, asked, call_of-request_of c e)

-- ---- every list

-- the calls that follow are read back too
calls_in-append : (before after : List Call) (words out : List ℕ) → words ≡ encoded (before ++ after)
    → out ≡ outputs_before (before ++ after) → All Encodable after
    → output_start words (length out) (length before) ≡ length (outputs_before before)
    → calls_in words out (length before) ≡ before → calls_in words out (length (before ++ after)) ≡ before ++ after
calls_in-append before [] words out ew eo a start h = rw (append-nil before) h
calls_in-append before (c ∷ after) words out ew eo a start h =
    let same = append_snoc before c after in
    rw (← same)
    (calls_in-append (before ++ c ∷ []) after words out (ew ∙ ap encoded (sym same)) (eo ∙ ap outputs_before (sym same))
    a.1 (output_start-suc before after c words out ew eo start)
    (calls_in-suc before after c words out ew eo start a.0 h))

pub calls_in-encoded : (cs : List Call) → All Encodable cs → calls_in (encoded cs) (outputs_before cs) (length cs) ≡ cs
unfolding output_start outputs_before calls_in
calls_in-encoded cs a = calls_in-append [] cs (encoded cs) (outputs_before cs) refl refl a refl refl

pub call_count-encoded : (cs : List Call) (answers : List ℕ) → answer_size * length cs ≤ length answers
    → call_count (encoded cs) answers ≡ length cs
unfolding call_count
call_count-encoded cs answers h = omega (arith, length-encoded cs)

-- ---- words of 32 bits, bytes of 8

All-get_d : {A : Type 0} (P : A → Type 0) (d : A) → P d → (l : List A) → All P l → (j : ℕ) → P (get_or l j d)
All-get_d P d h [] a j = h
All-get_d P d h (x ∷ l) a zero = a.0
All-get_d P d h (x ∷ l) a (suc j) = All-get_d P d h l a.1 j

given_mark-lt : {A : Type 0} (o : Option A) → given_mark o < 2 ^ 32
given_mark-lt none = omega arith
given_mark-lt (some v) = omega arith

module _ (kind payload : ℕ) (values : List ℕ) (hk : kind < 3) (hp : payload < 2 ^ 32) where
  All-key_request : FourWords values → All (λ w. w < 2 ^ 32) (request_words (key_request kind values payload))
  unfolding request_words
  All-key_request f =
      let z : 0 < 2 ^ 32 = omega arith in
      let v : (j : ℕ) → get_or values j 0 < 2 ^ 32 = All-get_d (λ v. v < 2 ^ 32) 0 z values f.1 in
      (omega (arith, hk), (v 0, (v 1, (v 2, (v 3, (z, (z, (z, (z, (hp, (z, (z, (z, (z, (z, tt)))))))))))))))

All-request_words : (c : Call) → Encodable c → All (λ w. w < 2 ^ 32) (request_words (request_of c))
unfolding request_of request_words
All-request_words (insert_call values content) e = All-key_request 0 content.payload values (omega arith) e.1 e.0
All-request_words (delete_call values) e = All-key_request 1 0 values (omega arith) (omega arith) e
All-request_words (lookup_call values) e = All-key_request 2 0 values (omega arith) (omega arith) e
All-request_words (query_call q out) e =
    let z : 0 < 2 ^ 32 = omega arith in
    let v : (j : ℕ) → given_value (get_or q j none) < 2 ^ 32 = All-get_d (λ o. given_value o < 2 ^ 32) none z q e.1 in
    let m : (j : ℕ) → given_mark (get_or q j none) < 2 ^ 32 = λ j. given_mark-lt (get_or q j none) in
    (omega arith, (v 0, (v 1, (v 2, (v 3, (m 0, (m 1, (m 2, (m 3, (z, (e.2.0, (z, (z, (z, (z, tt)))))))))))))))
All-request_words (range_call r out) e =
    let z : 0 < 2 ^ 32 = omega arith in
    let v : (j : ℕ) → (given_low (get_or r j none) < 2 ^ 32) × (given_high (get_or r j none) < 2 ^ 32) =
    All-get_d (λ o. (given_low o < 2 ^ 32) × (given_high o < 2 ^ 32)) none (z, z) r e.1 in
    let m : (j : ℕ) → given_mark (get_or r j none) < 2 ^ 32 = λ j. given_mark-lt (get_or r j none) in (
      omega arith,
      (
        (v 0).0,
        (
          (v 1).0,
          (
            (v 2).0,
            (
              (v 3).0,
              (
                m 0,
                (
                  m 1,
                  (
                    m 2,
                    (
                      m 3,
                      (
                        z,
                        (
                          e.2.0,
                          ((v 0).1, ((v 1).1, ((v 2).1, ((v 3).1, tt)))),
                        ),
                      ),
                    ),
                  ),
                ),
              ),
            ),
          ),
        ),
      ),
    )

All-encoded : (cs : List Call) → All Encodable cs → All (λ w. w < 2 ^ 32) (encoded cs)
unfolding encoded
All-encoded [] a = tt
All-encoded (c ∷ cs) a =
    All-append _ (request_words (request_of c)) (encoded cs) (All-request_words c a.0) (All-encoded cs a.1)

All-outputs_before : (cs : List Call) → All Encodable cs → All (λ byte. byte < 2 ^ 8) (outputs_before cs)
unfolding outputs_before
All-outputs_before [] a = tt
All-outputs_before (c ∷ cs) a =
    All-append _ (output_before c) (outputs_before cs) (own c a.0) (All-outputs_before cs a.1)
  where
    own : (d : Call) → Encodable d → All (λ byte. byte < 2 ^ 8) (output_before d)
    own (insert_call values content) e = tt
    own (delete_call values) e = tt
    own (lookup_call values) e = tt
    own (query_call q out) e = e.2.1
    own (range_call r out) e = e.2.1

-- ---- all together

pub every-list : EveryList
every-list cs a =
    record {
      words = All-encoded cs a;
      bytes = All-outputs_before cs a;
      calls = calls_in-encoded cs a;
      replayed = λ answers h.
          ap (calls_in (encoded cs) (outputs_before cs)) (call_count-encoded cs answers h) ∙ calls_in-encoded cs a;
    }

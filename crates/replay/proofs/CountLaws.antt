-- Laws of the numbers of a replay: every call and its answer lie in the lent slices, and so does its output. Assumes
-- nothing.
use Prim.Native.Nat.{ℕ, zero, suc, ◌+◌, ◌-◌, ◌*◌, ◌/◌, ◌≤◌, ◌<◌, min}
use mathlib.Core.Path.{◌≡◌, refl, sym, ap, ◌∙◌}
use mathlib.Core.List.{List}
use native.Mathlib.Omega.{arith}
use lib.ListN.{length}
use borrow.Rule.Slice.PartMut.{mid_of, mid_len}
use Rattle.replay_encoding.specs.declared.Request.{Request}
use Rattle.replay_encoding.specs.Encoding.{call_size, answer_size, size_of_kind, request_size, call_count}

-- ---- calls and answers

module _ (words answers : List ℕ) (n i : ℕ) (e : n ≡ min (length words / call_size) (length answers / answer_size))
    (h : i < n) where
  pub call_fits : call_size * i + call_size ≤ length words
  call_fits = omega arith

  pub answer-fits : answer_size * i + answer_size ≤ length answers
  answer-fits = omega arith

pub call_count-as : (words answers : List ℕ) (n : ℕ) → n ≡ min (length words / call_size) (length answers / answer_size)
    → n ≡ call_count words answers
unfolding call_count
call_count-as words answers n e = e

-- ---- outputs

-- a size that is taken from itself is the same
request_size-again : (r : Request) (room : ℕ) → request_size r room ≡ request_size r (request_size r room)
unfolding request_size
request_size-again r room = of-kind r.kind
  where
    of-kind : (k : ℕ) → size_of_kind k r.size room ≡ size_of_kind k r.size (size_of_kind k r.size room)
    of-kind zero = refl
    of-kind (suc zero) = refl
    of-kind (suc (suc zero)) = refl
    of-kind (suc (suc (suc n))) = omega arith

-- the part that is lent to a call has the size that the call says
pub part-lent : (r : Request) (start end room : ℕ) (out : List ℕ) → end ≡ start + request_size r room → end ≤ length out
    → length (mid_of start (end - start) out) ≡ request_size r (length (mid_of start (end - start) out))
part-lent r start end room out e h =
    let size : end - start ≡ request_size r room = omega (arith, e) in
    let whole : length (mid_of start (end - start) out) ≡ request_size r room = mid_len start end out h ∙ size in
    whole ∙ request_size-again r room ∙ ap (request_size r) (sym whole)

-- Laws of a list that begins with what is done, the rest as it came: the next part as it came, and the list with that
-- part done too. Assumes nothing.
use Prim.Native.Nat.{ℕ, ◌+◌, ◌-◌, ◌≤◌}
use mathlib.Core.Path.{◌≡◌, sym, ap, ◌∙◌}
use mathlib.Core.List.{List, ◌++◌, append_assoc}
use lib.ListN.{length, take, drop}
use lib.Seq.{take_at, drop_at, drop-drop}
use borrow.Rule.Slice.PartMut.{mid_of, put_mid, Post-is}

module _ (done came now : List ℕ) (at : ℕ) (l : length done ≡ at) (e : now ≡ done ++ drop at came) where
  done_first : take at now ≡ done
  done_first = ap (take at) e ∙ take_at done (drop at came) at l

  rest-came : drop at now ≡ drop at came
  rest-came = ap (drop at) e ∙ drop_at done (drop at came) at l

  pub part-came : (k : ℕ) → mid_of at k now ≡ take k (drop at came)
  part-came k = ap (take k) rest-came

  pub put_mid-done : (end : ℕ) (part : List ℕ) → at ≤ end → put_mid at (end - at) now part ≡ done ++ part ++ drop end came
  put_mid-done end part h =
      let rest : drop (end - at) (drop at now) ≡ drop end came =
      ap (drop (end - at)) rest-came ∙ Post-is at end came h in
      (λ k. done_first k ++ (part ++ rest k)) ∙ sym (append_assoc done part (drop end came))

  pub put-done : (n : ℕ) (part : List ℕ) → take at now ++ part ++ drop (at + n) now ≡ done ++ part ++ drop (at + n) came
  put-done n part =
      let rest : drop (at + n) now ≡ drop (at + n) came =
      sym (drop-drop n at now) ∙ ap (drop n) rest-came ∙ drop-drop n at came in
      λ k. done_first k ++ part ++ rest k

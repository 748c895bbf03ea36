-- Laws of cleared counts: a count cleared in a part that was lent. Assumes nothing.
use Prim.Native.Nat.{ℕ, ◌+◌, ◌-◌, ◌*◌, ◌<◌, ◌≤◌}
use mathlib.Core.Path.{◌≡◌, sym, ap, ◌∙◌}
use mathlib.Core.List.{List}
use native.Mathlib.Omega.{arith}
use native.Mathlib.Numerals.{add-one}
use lib.ListN.{length, take, drop, set, length-set}
use lib.Seq.{take-set-le, take-set-lt, drop-set-lt, drop-set-add}
use borrow.Rule.Slice.PartMut.{mid_of, post_of, put_mid, mid_len, set_mid_at}
use Rattle.page.specs.Page.{page_size}
use Rattle.store.specs.Fresh.{cleared_counts}

-- ---- a part with two elements set, put back

module _ (a k j : ℕ) (xs : List ℕ) (v : ℕ) (l : j < k) where
  mid_of-set : mid_of a k (set xs (a + j) v) ≡ set (mid_of a k xs) j v
  mid_of-set = ap (take k) (drop-set-add a xs j v) ∙ take-set-lt k (drop a xs) j v l

  post_of-set : post_of a k (set xs (a + j) v) ≡ post_of a k xs
  post_of-set = ap (drop k) (drop-set-add a xs j v) ∙ drop-set-lt k (drop a xs) j v l

  put_mid-set : (ys : List ℕ) → put_mid a k (set xs (a + j) v) ys ≡ put_mid a k xs ys
  put_mid-set ys = rw (take-set-le a xs (a + j) v (omega arith), post_of-set)

put_mid-set-set : (a e : ℕ) (xs : List ℕ) (v w : ℕ) → a + 2 ≤ e → e ≤ length xs
    → put_mid a (e - a) xs (set (set (mid_of a (e - a) xs) 0 v) 1 w) ≡ set (set xs a v) (a + 1) w
put_mid-set-set a e xs v w h g =
    let first : a + 0 ≡ a = omega arith in
    let one : List ℕ = set xs (a + 0) v in
    ap (λ (ys : List ℕ). put_mid a (e - a) xs (set ys 1 w)) (sym (mid_of-set a (e - a) 0 xs v (omega arith)))
    ∙ sym (put_mid-set a (e - a) 0 xs v (omega arith) (set (mid_of a (e - a) one) 1 w))
    ∙ set_mid_at a (e - a) 1 one w (omega (arith, mid_len a e one (simp length-set g)))
    ∙ ap (λ (i : ℕ). set (set xs i v) (a + 1) w) first

-- ---- one page more, as the loop clears it

pub cleared_counts-suc : (b n start end : ℕ) (bytes now part : List ℕ)
    → start ≡ n * page_size b → now ≡ cleared_counts b n bytes → start + 2 ≤ end → end ≤ length now
    → part ≡ set (set (mid_of start (end - start) now) 0 0) 1 0
    → put_mid start (end - start) now part ≡ cleared_counts b (n + 1) bytes
unfolding cleared_counts
cleared_counts-suc b n start end bytes now part at e h g p =
    ap (λ (ys : List ℕ). put_mid start (end - start) now ys) p
    ∙ put_mid-set-set start end now 0 0 h g
    ∙ rw (add-one n, at, e)

-- Laws of the memory past what Fresh writes: word 0, and the counts of the P pages. Assumes nothing.
use Prim.Native.Nat.{ℕ, zero, suc, ◌+◌, ◌*◌, ◌^◌, ◌≤◌, ◌<◌}
use mathlib.Core.Path.{◌≡◌, refl, ◌∙◌}
use mathlib.Core.List.{List}
use native.Mathlib.Omega.{arith}
use native.Mathlib.Nat.{suc-mul}
use lib.ListN.{drop, set}
use lib.Pow.{pow_pos}
use lib.Seq.{drop-set-lt}
use Rattle.page.specs.Page.{page_size}
use Rattle.store.specs.Fresh.{cleared_counts}

pub drop-set-first : (k : ℕ) (words : List ℕ) → drop (2 ^ k) (set words 0 0) ≡ drop (2 ^ k) words
drop-set-first k words = drop-set-lt (2 ^ k) words 0 0 (pow_pos k)

pub drop-cleared_counts : (b n offset : ℕ) (bytes : List ℕ) → n * page_size b ≤ offset
    → drop offset (cleared_counts b n bytes) ≡ drop offset bytes
unfolding cleared_counts
drop-cleared_counts b zero offset bytes h = refl
drop-cleared_counts b (suc n) offset bytes h =
    let at = n * page_size b in
    let next : suc n * page_size b ≡ at + page_size b = suc-mul n (page_size b) in
    let first : at < offset = omega (arith, next) in
    let second : at + 1 < offset = omega (arith, next) in
    let before : n * page_size b ≤ offset = omega (arith, next) in
    drop-set-lt offset (set (cleared_counts b n bytes) at 0) (at + 1) 0 second
    ∙ drop-set-lt offset (cleared_counts b n bytes) at 0 first
    ∙ drop-cleared_counts b n offset bytes before

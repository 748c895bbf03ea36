-- Laws of the bytes behind the records: written one part behind the other. Assumes nothing.
use Prim.Native.Nat.{ℕ, ◌+◌, ◌%◌, ◌^◌, ◌≤◌, ◌<◌}
use mathlib.Core.Path.{◌≡◌, refl, ap, ◌∙◌}
use mathlib.Core.List.{List, ◌++◌}
use native.Mathlib.Omega.{arith}
use native.Mathlib.Nat.{mod-lt}
use lib.ListN.{length}
use lib.Seq.{paste}
use Rattle.moves.proofs.PasteLaws.{paste-paste}
use Rattle.shape.specs.declared.Shape.{Shape}
use Rattle.shape.specs.Shape.{widths_of}
use Rattle.record.specs.Bytes.{little_endian}
use Rattle.file.specs.File.{letters, end_size, file_size, shape_bytes, trailer_bytes, end_bytes}

-- marks below 2^4, or a lower power, fit a byte
pub marks-lt : (signs power marks : ℕ) → marks ≡ signs % power → 0 < power → power ≤ 2 ^ 4 → marks < 2 ^ 8
marks-lt signs power marks e p h = omega (arith, mod-lt signs p)

-- a run written behind a run
behind : (a b c : List ℕ) (at : ℕ) (ys zs : List ℕ) (n m : ℕ) → length ys ≡ n → m ≤ length zs → at + n ≤ length a
    → b ≡ paste a at ys n → c ≡ paste b (at + n) zs m → c ≡ paste a at (ys ++ zs) (n + m)
behind a b c at ys zs n m e hz ha f g =
    g ∙ ap (λ l. paste l (at + n) zs m) f ∙ paste-paste a at ys zs n m e hz ha

-- the letters, then three numbers
pub paste-trailer_bytes : (a b c d e : List ℕ) (at n size : ℕ) → at + 16 ≤ length a → size ≡ file_size n
    → b ≡ paste a at letters 4 → c ≡ paste b (at + 4) (little_endian 4 end_size) 4
    → d ≡ paste c (at + 8) (little_endian 4 size) 4 → e ≡ paste d (at + 12) (little_endian 4 n) 4
    → e ≡ paste a at (trailer_bytes n) 16
paste-trailer_bytes a b c d e at n size h s f g k l =
    let shape = little_endian 4 end_size in
    let file = little_endian 4 (file_size n) in
    let two = behind a b c at letters shape 4 4 refl (omega arith) (omega arith) f g in
    let three = behind a c d at (letters ++ shape) file 8 4 refl (omega arith) (omega arith) two (rw s at k) in
    behind a d e at ((letters ++ shape) ++ file) (little_endian 4 n) 12 4 refl (omega arith) (omega arith) three l

-- the shape, then the trailer
pub paste-end_bytes : (a b c : List ℕ) (at : ℕ) (s : Shape) (n : ℕ) → at + end_size ≤ length a
    → b ≡ paste a at (shape_bytes s) 8 → c ≡ paste b (at + 8) (trailer_bytes n) 16 → c ≡ paste a at (end_bytes s n) end_size
unfolding end_bytes widths_of
paste-end_bytes a b c at s n h f g =
    behind a b c at (shape_bytes s) (trailer_bytes n) 8 16 refl (omega arith) (omega arith) f g

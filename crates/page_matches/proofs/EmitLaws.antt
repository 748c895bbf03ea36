-- Laws of the output: page after page, its length, and what it holds, as records. Assumes nothing.
use Prim.Native.Nat.{ℕ, zero, suc, ◌+◌, ◌-◌, ◌*◌, ◌/◌, ◌≤◌, min}
use mathlib.Core.Path.{◌≡◌, refl, sym, ap, ◌∙◌}
use mathlib.Core.List.{List, [], ◌∷◌, ◌++◌, map}
use native.Mathlib.Nat.{add-zero}
use native.Mathlib.Decide.{dec_le}
use native.Mathlib.Omega.{arith}
use lib.ListN.{length, take, drop, length-append, length-map}
use lib.Seq.{paste, paste-zero, length-paste, take-nil, take_all, length-take-le}
use borrow.Author.Tests.{le-leb, lt-leb}
use Rattle.lists.specs.Members.{All}
use Rattle.moves.proofs.PasteLaws.{paste-paste}
use Rattle.shape.specs.declared.Shape.{Shape}
use Rattle.record.specs.Record.{Record}
use Rattle.record.specs.Bytes.{record_size, record_of, record_bytes, records_bytes}
use Rattle.record.proofs.ByteLaws.{AreBytes, record_bytes-record_of}
use Rattle.page.proofs.PlaceLaws.{map-take}
use Rattle.page_matches.specs.Output.{emit_one, emit}
use Rattle.page_matches.proofs.PutLaws.{length-emit_one}

-- ---- records as their bytes

-- twelve bytes
abbrev pub IsField : List ℕ → Type 0
IsField bytes = (length bytes ≡ record_size) × AreBytes bytes

-- one after the other
abbrev pub joined : List (List ℕ) → List ℕ
joined [] = []
joined (bytes ∷ rest) = bytes ++ joined rest

length-joined : (fs : List (List ℕ)) → All IsField fs → length (joined fs) ≡ record_size * length fs
length-joined [] h = refl
length-joined (f ∷ fs) h = length-append f (joined fs) ∙ omega (arith, h.0.0, length-joined fs h.1)

All-take : (P : List ℕ → Type 0) (n : ℕ) (fs : List (List ℕ)) → All P fs → All P (take n fs)
All-take P zero fs h = tt
All-take P (suc n) [] h = tt
All-take P (suc n) (f ∷ fs) h = (h.0, All-take P n fs h.1)

joined-records : (s : Shape) (fs : List (List ℕ)) → All IsField fs → joined fs ≡ records_bytes s (map (record_of s) fs)
joined-records s [] h = refl
joined-records s (f ∷ fs) h =
    ap (λ l. l ++ joined fs) (sym (record_bytes-record_of s f h.0.1 h.0.0))
    ∙ ap (λ l. record_bytes s (record_of s f) ++ l) (joined-records s fs h.1)

-- ---- page after page

pub emit-append : (out : List ℕ) (i : ℕ) (fs gs : List (List ℕ))
    → emit out i (fs ++ gs) ≡ emit (emit out i fs) (i + length fs) gs
unfolding emit
emit-append out i [] gs = ap (λ n. emit out n gs) (sym (add-zero i))
emit-append out i (f ∷ fs) gs =
    let e : suc i + length fs ≡ i + suc (length fs) = omega arith in
    emit-append (emit_one i f out) (suc i) fs gs ∙ ap (λ n. emit (emit (emit_one i f out) (suc i) fs) n gs) e

pub length-emit : (out : List ℕ) (i : ℕ) (fs : List (List ℕ)) → All IsField fs → length (emit out i fs) ≡ length out
unfolding emit
length-emit out i [] h = refl
length-emit out i (f ∷ fs) h = length-emit (emit_one i f out) (suc i) fs h.1 ∙ length-emit_one i f out h.0.0

-- ---- what the output holds

-- from record i on, as many of the records as fit
pub emit-joined : (fs : List (List ℕ)) (out : List ℕ) (i : ℕ) → All IsField fs
    → emit out i fs
    ≡ paste out (record_size * i) (joined (take (length out / record_size - i) fs))
    (record_size * length (take (length out / record_size - i) fs))
unfolding emit emit_one
emit-joined [] out i h =
    paste-zero out (record_size * i) []
    ∙ ap (λ l. paste out (record_size * i) (joined l) (record_size * length l))
    (sym (take-nil (length out / record_size - i)))
emit-joined (f ∷ fs) out i h =
    go (dec_le (record_size * i + record_size) (length out)) (λ o. emit-joined fs o (suc i) h.1)
  where
    go : Dec (record_size * i + record_size ≤ length out)
        → ((o : List ℕ) → emit o (suc i) fs
        ≡ paste o (record_size * suc i) (joined (take (length o / record_size - suc i) fs))
        (record_size * length (take (length o / record_size - suc i) fs)))
        → emit (emit_one i f out) (suc i) fs
        ≡ paste out (record_size * i) (joined (take (length out / record_size - i) (f ∷ fs)))
        (record_size * length (take (length out / record_size - i) (f ∷ fs)))
    go (yes l) ih =
        let m = length out / record_size - suc i in
        let at = record_size * i in
        let written = paste out at f record_size in
        let rest = take m fs in
        let more : length out / record_size - i ≡ suc m = omega arith in
        let one : emit_one i f out ≡ written = rw (le-leb (at + record_size) (length out) l) in
        let same : length written ≡ length out = length-paste out at f record_size l (omega (arith, h.0.0)) in
        let next : record_size * suc i ≡ at + record_size = omega arith in
        let count : record_size + record_size * length rest ≡ record_size * suc (length rest) = omega arith in
        let long = length-joined rest (All-take IsField m fs h.1) in
        ap (λ o. emit o (suc i) fs) one
        ∙ ih written
        ∙ ap (λ n. paste written (record_size * suc i) (joined (take (n / record_size - suc i) fs))
        (record_size * length (take (n / record_size - suc i) fs))) same
        ∙ ap (λ n. paste written n (joined rest) (record_size * length rest)) next
        ∙ paste-paste out at f (joined rest) record_size (record_size * length rest) h.0.0 (omega arith) (omega arith)
        ∙ ap (paste out at (f ++ joined rest)) count
        ∙ ap (λ n. paste out at (joined (take n (f ∷ fs))) (record_size * length (take n (f ∷ fs)))) (sym more)
    go (no l) ih =
        let none : length out / record_size - i ≡ 0 = omega arith in
        let none' : length out / record_size - suc i ≡ 0 = omega arith in
        let one : emit_one i f out ≡ out = rw (lt-leb (record_size * i + record_size) (length out) (omega arith)) in
        ap (λ o. emit o (suc i) fs) one
        ∙ ih out
        ∙ ap (λ n. paste out (record_size * suc i) (joined (take n fs)) (record_size * length (take n fs))) none'
        ∙ sym (paste-zero out (record_size * suc i) [])
        ∙ paste-zero out (record_size * i) []
        ∙ ap (λ n. paste out (record_size * i) (joined (take n (f ∷ fs))) (record_size * length (take n (f ∷ fs))))
        (sym none)

pub take_min : {A : Type 0} (xs : List A) (n : ℕ) → take n xs ≡ take (min (length xs) n) xs
take_min xs n = go (dec_le n (length xs))
  where
    go : Dec (n ≤ length xs) → take n xs ≡ take (min (length xs) n) xs
    go (yes l) = let e : n ≡ min (length xs) n = omega arith in ap (λ k. take k xs) e
    go (no l) =
        let e : length xs ≡ min (length xs) n = omega arith in
        take_all n xs (omega arith) ∙ sym (take_all (length xs) xs (omega arith)) ∙ ap (λ k. take k xs) e

-- "The output begins with that many of them .. and its other bytes are as they came."
pub emit-records : (s : Shape) (fs : List (List ℕ)) (rs : List Record) (out : List ℕ) → All IsField fs
    → map (record_of s) fs ≡ rs
    → emit out 0 fs
    ≡ records_bytes s (take (min (length rs) (length out / record_size)) rs)
    ++ drop (record_size * min (length rs) (length out / record_size)) out
emit-records s fs rs out h e =
    let m = length out / record_size in
    let w = min (length rs) m in
    let all : m - 0 ≡ m = omega arith in
    let len : length rs ≡ length fs = ap length (sym e) ∙ length-map fs (record_of s) in
    let cut : take m fs ≡ take w fs = take_min fs m ∙ ap (λ n. take (min n m) fs) (sym len) in
    let count : length (take w fs) ≡ w = length-take-le w fs (omega arith) in
    let long = length-joined (take w fs) (All-take IsField w fs h) in
    let at : 0 + record_size * w ≡ record_size * w = omega arith in
    let bytes : joined (take w fs) ≡ records_bytes s (take w rs) =
    joined-records s (take w fs) (All-take IsField w fs h)
    ∙ ap (records_bytes s) (map-take (record_of s) w fs ∙ ap (take w) e) in
    emit-joined fs out 0 h
    ∙ ap (λ n. paste out 0 (joined (take n fs)) (record_size * length (take n fs))) all
    ∙ ap (λ l. paste out 0 (joined l) (record_size * length l)) cut
    ∙ ap (λ n. paste out 0 (joined (take w fs)) (record_size * n)) count
    ∙ ap (λ l. l ++ drop (0 + record_size * w) out) (take_all (record_size * w) (joined (take w fs)) (omega arith))
    ∙ ap (λ n. joined (take w fs) ++ drop n out) at
    ∙ ap (λ l. l ++ drop (record_size * w) out) bytes

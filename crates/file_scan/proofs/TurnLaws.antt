-- Laws of the turns of the scan of a file: what is known before record i, and one law for each way a turn ends.
-- Assumes nothing.
use Prim.Native.Nat.{ℕ, suc, ◌+◌, ◌-◌, ◌≤◌, ◌<◌}
use mathlib.Core.Path.{◌≡◌, sym, ap, ◌∙◌}
use mathlib.Core.Bool.{Bool, cond}
use mathlib.Core.List.{List}
use mathlib.Core.Logic.{◌⊎◌, inl, inr}
use native.Mathlib.Omega.{arith}
use lib.Dec.{ltb}
use borrow.Author.Tests.{lt-ltb, le-ltb, eq-eqb}
use Rattle.lists.proofs.Numbers.{eq-or-ne}
use Rattle.lists.proofs.FilterLaws.{cond-le-one}
use Rattle.shape.specs.Refusal.{Condition, Answer, accepted, refused, answered_by}
use Rattle.record.specs.Packed.{unpacked_key}
use Rattle.key_order.specs.Order.{first_step}
use Rattle.file.specs.File.{encodings_at}
use Rattle.file_scan.specs.Scan.{file_step, starts_by, depth_at, starts_leaf, leaves_with, scan_conditions}

-- what a test of some conditions gives
abbrev pub test : List Condition → Answer (Unit {0})
test cs = answered_by cs tt

-- ---- the first of n + 1 records

module _ (step : ℕ → ℕ → ℕ) (b L P n i c : ℕ) where
  -- the non-empty leaves with record i
  abbrev c' : ℕ
  c' = leaves_with step b i c

  -- its leaf lies too deep
  pub number-deep : L < depth_at step b i → test (scan_conditions step b L P (suc n) i c) ≡ refused 6
  unfolding answered_by
  number-deep h = rw (lt-ltb L (depth_at step b i) h)

  module _ (h : depth_at step b i ≤ L) where
    -- there are too many leaves with it
    pub number-wide : P < c' → test (scan_conditions step b L P (suc n) i c) ≡ refused 7
    unfolding answered_by
    number-wide k = rw (le-ltb L (depth_at step b i) h, lt-ltb P c' k)

    -- it joins those before it
    pub number-next : c' ≤ P
        → test (scan_conditions step b L P (suc n) i c) ≡ test (scan_conditions step b L P n (suc i) c')
    unfolding answered_by
    number-next k = rw (le-ltb L (depth_at step b i) h, le-ltb P c' k)

-- ---- the scan of a file's n records

module _ (ws : List ℕ) (bias : ℕ) (file : List ℕ) (b L P n : ℕ) where
  abbrev step : ℕ → ℕ → ℕ
  step i j = file_step ws bias file i j

  -- what the scan gives
  abbrev pub scan_test : Answer (Unit {0})
  scan_test = test (scan_conditions (file_step ws bias file) b L P n 0 0)

  -- the first i are scanned: their non-empty leaves, the depth of the last one's leaf, and its packed encodings
  pub record Scanned (leaves depth last i : ℕ) : Type 0 where
    pub place : i ≤ n
    pub few : leaves ≤ i
    pub deep : depth ≡ depth_at (file_step ws bias file) b (i - 1)
    pub known : 1 ≤ i → last ≡ encodings_at bias file (i - 1)
    pub rest : test (scan_conditions (file_step ws bias file) b L P n 0 0)
        ≡ test (scan_conditions (file_step ws bias file) b L P (n - i) i leaves)

  pub scanned-start : (last : ℕ) → 1 ≤ b → Scanned 0 0 last 0
  scanned-start last some = record {
    place = omega arith;
    few = omega arith;
    deep = rw (lt-ltb 0 b some);
    known = λ h. absurd (omega arith);
    rest = let e : n ≡ n - 0 = omega arith in ap (λ k. test (scan_conditions step b L P k 0 0)) e;
  }

  module _ (leaves depth last i : ℕ) (z : Scanned leaves depth last i) where
    pub scanned-end : n ≤ i → accepted (tt {0}) ≡ scan_test
    unfolding answered_by
    scanned-end h =
        let e : n - i ≡ 0 = omega arith in
        sym (z.rest ∙ ap (λ k. test (scan_conditions step b L P k i leaves)) e)

    -- a turn: the packed encodings of record i and of the one b places before it, the depth of its leaf
    module _ (h : i < n) (key back next : ℕ) (key≡ : key ≡ encodings_at bias file i)
        (back≡ : back ≡ encodings_at bias file (i - b))
        (next≡ : next ≡ cond (ltb i b) 0 (suc (first_step ws (unpacked_key back) (unpacked_key key)))) where
      depth-next : next ≡ depth_at step b i
      depth-next =
          next≡ ∙ (λ t. cond (ltb i b) 0 (suc (first_step ws (unpacked_key (back≡ t)) (unpacked_key (key≡ t)))))

      rest-suc : scan_test ≡ test (scan_conditions step b L P (suc (n - suc i)) i leaves)
      rest-suc =
          let e : n - i ≡ suc (n - suc i) = omega arith in
          z.rest ∙ ap (λ k. test (scan_conditions step b L P k i leaves)) e

      pub scanned-deep : L < next → refused 6 ≡ scan_test
      scanned-deep k = sym (rest-suc ∙ number-deep step b L P (n - suc i) i leaves (rw (← depth-next) k))

      -- the leaves that it adds
      module _ (more : ℕ)
          (more≡ : more
          ≡ cond (starts_by b i depth (first_step ws (unpacked_key last) (unpacked_key key))
          (first_step ws (unpacked_key back) (unpacked_key last))) 1 0) where
        abbrev starts : Bool
        starts =
            starts_by b i depth (first_step ws (unpacked_key last) (unpacked_key key))
            (first_step ws (unpacked_key back) (unpacked_key last))

        pub more-le : more ≤ 1
        more-le = rw more≡ (cond-le-one starts)

        leaves-next : leaves + more ≡ leaves_with step b i leaves
        leaves-next = ap (λ m. leaves + m) (more≡ ∙ ap (λ β. cond β 1 0) (by_place (eq-or-ne i 0)))
          where
            by_place : (i ≡ 0) ⊎ (i ≡ 0 → ⊥) → starts ≡ starts_leaf step b i
            by_place (inl e) = rw (eq-eqb i 0 e)
            by_place (inr d) =
                let last≡ : last ≡ encodings_at bias file (i - 1) = z.known (omega arith) in
                λ t. starts_by b i (z.deep t) (first_step ws (unpacked_key (last≡ t)) (unpacked_key (key≡ t)))
                (first_step ws (unpacked_key (back≡ t)) (unpacked_key (last≡ t)))

        module _ (k : next ≤ L) where
          within : depth_at step b i ≤ L
          within = rw (← depth-next) k

          pub scanned-wide : P < leaves + more → refused 7 ≡ scan_test
          scanned-wide l =
              sym (rest-suc ∙ number-wide step b L P (n - suc i) i leaves within (rw (← leaves-next) l))

          pub scanned-next : leaves + more ≤ P → Scanned (leaves + more) next key (i + 1)
          scanned-next l =
              let e : i + 1 ≡ suc i = omega arith in
              let back_one : i ≡ suc i - 1 = omega arith in
              rw e
              (record {
                place = h;
                few = omega (arith, z.few, more-le);
                deep = depth-next ∙ ap (depth_at step b) back_one;
                known = λ o. key≡ ∙ ap (encodings_at bias file) back_one;
                rest = rest-suc
                    ∙ number-next step b L P (n - suc i) i leaves within (rw (← leaves-next) l)
                    ∙ ap (λ c. test (scan_conditions step b L P (n - suc i) (suc i) c)) (sym leaves-next);
              })

-- Laws of a page that was noted, and of it as a matched page: the records of both; the list of the pages
-- that have a match. Assumes nothing.
use Prim.Native.Nat.{ℕ, ◌+◌, ◌*◌, ◌^◌, ◌≤◌, ◌<◌}
use mathlib.Core.Path.{◌≡◌, refl, sym, ap, subst, ◌∙◌}
use mathlib.Core.Bool.{Bool, true, false, not}
use mathlib.Core.List.{List, [], ◌∷◌, ◌++◌, flat_map, append-nil}
use native.Mathlib.Nat.{add-zero}
use native.Mathlib.Numerals.{add-one}
use native.Mathlib.Decide.{dec_lt}
use native.Mathlib.Omega.{arith}
use mir.Val.{bool_byte}
use lib.Dec.{eqb}
use lib.ListN.{length, get_or, take, set, length-set}
use lib.Seq.{get_or-set_same, get_or-set_other, take-set-le, take-suc-set}
use borrow.Author.Tests.{eqb-true}
use Rattle.lists.proofs.Sequences.{flat_map-append, flat_map-ext}
use Rattle.page.specs.Page.{count_of, page_size, page_at}
use Rattle.page.specs.Fields.{record_offset}
use Rattle.page.proofs.FieldLaws.{length-fields_from}
use Rattle.page.proofs.PartLaws.{length-page_at}
use Rattle.page_matches.specs.declared.Pattern.{Pattern}
use Rattle.page_matches.specs.Mask.{slots_of, picked_by}
use Rattle.page_matches.specs.Pattern.{gives_nothing, passes}
use Rattle.page_matches.proofs.BitLaws.{picked_none, length-picked-le}
use Rattle.page_matches.proofs.HitLaws.{length-hits-le, hits-all}
use Rattle.page_matches.proofs.MaskLaws.{match_mask-lt-slots, picked_by-match_mask}
use Rattle.query_records.specs.Records.{PageWithin, MatchedWithin, matched_page, matched_mask}
use Rattle.query_records.specs.Records.{page_hits, list_hits, page_mask, page_fields, matched_fields}
use Rattle.query_records.proofs.ListLaws.{flat_map-take-next}

-- a test counts at most one
pub bool_byte-le : (β : Bool) → bool_byte β ≤ 1
bool_byte-le true = omega arith
bool_byte-le false = omega arith

module _ (b : ℕ) (bytes : List ℕ) where
  -- ---- a page

  pub records-lent : (g : ℕ) → PageWithin b bytes g
      → record_offset (count_of (page_at b bytes g)) ≤ length (page_at b bytes g)
  records-lent g h = omega (arith, length-page_at b g bytes h.lent, h.counted)

  pub length-page_fields-le : (g : ℕ) → b ≤ 16 → PageWithin b bytes g → length (page_fields b bytes g) ≤ 16
  length-page_fields-le g few h =
      omega (arith, length-fields_from (count_of (page_at b bytes g)) 2 (page_at b bytes g), h.counted)

  pub length-page_hits-le : (test : List ℕ → Bool) (g : ℕ) → b ≤ 16 → PageWithin b bytes g
      → length (page_hits test (page_at b bytes g)) ≤ 16
  length-page_hits-le test g few h =
      omega (arith, length-hits-le test (count_of (page_at b bytes g)) (page_at b bytes g), h.counted)

  -- a pattern that gives nothing
  pub list_hits-all : (p : Pattern) → gives_nothing p ≡ true → (gs : List ℕ)
      → flat_map (page_fields b bytes) gs ≡ list_hits (passes p) b bytes gs
  unfolding list_hits
  list_hits-all p e gs =
      flat_map-ext (page_fields b bytes) (λ g. page_hits (passes p) (page_at b bytes g))
      (λ g. sym (hits-all p (count_of (page_at b bytes g)) (page_at b bytes g) e)) gs

  slots_of-page_at : (g : ℕ) → g * page_size b + page_size b ≤ length bytes → slots_of (page_at b bytes g) ≡ b
  slots_of-page_at g h = omega (arith, length-page_at b g bytes h)

  -- ---- a matched page

  pub length-matched_fields-le : (e : ℕ) → b ≤ 16 → MatchedWithin b bytes e → length (matched_fields b bytes e) ≤ 16
  length-matched_fields-le e few h =
      let page = page_at b bytes (matched_page e) in
      omega (arith, length-picked-le page (slots_of page) 0 (matched_mask e), slots_of-page_at (matched_page e) h.lent)

  pub matched_mask-lt-slots : (e : ℕ) → MatchedWithin b bytes e
      → matched_mask e < 2 ^ slots_of (page_at b bytes (matched_page e))
  matched_mask-lt-slots e h = rw (slots_of-page_at (matched_page e) h.lent) h.masked

  -- ---- a page that is matched

  module _ (test : List ℕ → Bool) (g mask : ℕ) (h : PageWithin b bytes g)
      (e : mask ≡ page_mask test (page_at b bytes g)) where
    pub picked_by-mask : picked_by mask (page_at b bytes g) ≡ page_hits test (page_at b bytes g)
    picked_by-mask =
        let page = page_at b bytes g in
        ap (λ m. picked_by m page) e ∙ picked_by-match_mask test page (count_of page) (records-lent g h)

    pub mask-lt-slots : mask < 2 ^ slots_of (page_at b bytes g)
    mask-lt-slots =
        let page = page_at b bytes g in
        rw e (match_mask-lt-slots test page (count_of page) (records-lent g h))

    page_hits-none : mask ≡ 0 → page_hits test (page_at b bytes g) ≡ []
    page_hits-none none =
        let page = page_at b bytes g in
        sym picked_by-mask ∙ ap (λ m. picked_by m page) none ∙ picked_none page (slots_of page) 0

    page-back : matched_page (g + mask * 4096) ≡ g
    page-back = omega (arith, h.number)

    mask-back : matched_mask (g + mask * 4096) ≡ mask
    mask-back = omega (arith, h.number)

    matched-within : mask < 2 ^ b → MatchedWithin b bytes (g + mask * 4096)
    matched-within below = record { lent = rw page-back h.lent; masked = rw mask-back below }

    matched_fields-hits : matched_fields b bytes (g + mask * 4096) ≡ page_hits test (page_at b bytes g)
    matched_fields-hits = (λ i. picked_by (mask-back i) (page_at b bytes (page-back i))) ∙ picked_by-mask

  -- ---- the pages matched one after the other

  module _ (test : List ℕ → Bool) (list₀ : List ℕ) where
    -- m matched pages of the first i; the numbers of the others are as they were
    abbrev pub MatchedTo : ℕ → List ℕ → ℕ → Type 0
    MatchedTo i list m =
        (m ≤ i) × (length list ≡ length list₀) × ((k : ℕ) → i ≤ k → get_or list k 0 ≡ get_or list₀ k 0)
        × ((k : ℕ) → k < m → MatchedWithin b bytes (get_or list k 0))
        × (flat_map (matched_fields b bytes) (take m list) ≡ list_hits test b bytes (take i list₀))

    pub matched_to-none : MatchedTo 0 list₀ 0
    unfolding list_hits flat_map
    matched_to-none = (omega arith, refl, λ k l. refl, λ k l. absurd (omega arith), refl)

    module _ (i m : ℕ) (list : List ℕ) (w : MatchedTo i list m) (l : i < length list₀)
        (h : PageWithin b bytes (get_or list₀ i 0)) (mask : ℕ) (e : mask ≡ page_mask test (page_at b bytes (get_or list i 0)))
        (below : mask < 2 ^ b) where
      abbrev word : ℕ
      word = get_or list i 0 + mask * 4096

      -- one matched page more where a record matches
      abbrev more : ℕ
      more = bool_byte (not (eqb mask 0))

      same : get_or list i 0 ≡ get_or list₀ i 0
      same = w.2 i (omega arith)

      here : PageWithin b bytes (get_or list i 0)
      here = rw same h

      room : m < length list
      room = omega (arith, w.0, w.1, l)

      each : (k : ℕ) → k < m + more → MatchedWithin b bytes (get_or (set list m word) k 0)
      each k a = go (dec_lt k m)
        where
          go : Dec (k < m) → MatchedWithin b bytes (get_or (set list m word) k 0)
          go (yes lt) = rw (get_or-set_other list m k word 0 (λ q. omega arith)) (w.3 k lt)
          go (no ge) =
              let at : m ≡ k = omega (arith, bool_byte-le (not (eqb mask 0))) in
              subst (λ x. MatchedWithin b bytes (get_or (set list m word) x 0)) at
              (rw (get_or-set_same list m word 0 room) (matched-within test (get_or list i 0) mask here e below))

      fields : flat_map (matched_fields b bytes) (take (m + more) (set list m word))
          ≡ flat_map (matched_fields b bytes) (take m list) ++ page_hits test (page_at b bytes (get_or list i 0))
      unfolding flat_map
      fields = go (eqb mask 0) refl
        where
          before : List (List ℕ)
          before = flat_map (matched_fields b bytes) (take m list)

          go : (β : Bool) → eqb mask 0 ≡ β
              → flat_map (matched_fields b bytes) (take (m + bool_byte (not β)) (set list m word))
              ≡ flat_map (matched_fields b bytes) (take m list) ++ page_hits test (page_at b bytes (get_or list i 0))
          go true z =
              ap (λ k. flat_map (matched_fields b bytes) (take k (set list m word))) (add-zero m)
              ∙ ap (flat_map (matched_fields b bytes)) (take-set-le m list m word (omega arith))
              ∙ sym (append-nil before)
              ∙ ap (λ r. before ++ r) (sym (page_hits-none test (get_or list i 0) mask here e (eqb-true mask 0 z)))
          go false z =
              ap (λ k. flat_map (matched_fields b bytes) (take k (set list m word))) (add-one m)
              ∙ ap (flat_map (matched_fields b bytes)) (take-suc-set list m word room)
              ∙ flat_map-append (matched_fields b bytes) (take m list) (word ∷ [])
              ∙ ap (λ r. before ++ r)
              (append-nil (matched_fields b bytes word) ∙ matched_fields-hits test (get_or list i 0) mask here e)

      pub matched_to-next : MatchedTo (i + 1) (set list m word) (m + more)
      unfolding list_hits
      matched_to-next = (
        omega (arith, w.0, bool_byte-le (not (eqb mask 0))),
        length-set list m word ∙ w.1,
        λ k a. get_or-set_other list m k word 0 (λ q. omega (arith, w.0)) ∙ w.2 k (omega arith),
        each,
        fields
            ∙ (λ j. w.4 j ++ page_hits test (page_at b bytes (same j)))
            ∙ sym (flat_map-take-next (λ g. page_hits test (page_at b bytes g)) list₀ i l),
      )

-- Laws of what the plan of a delete meets at the key's leaf: the refusals 5 and 9, and the key's record. Assumes
-- nothing.
use Prim.Native.Nat.{ℕ, zero, suc, ◌+◌, ◌-◌, ◌*◌, ◌%◌, ◌^◌, ◌≤◌, ◌<◌}
use mathlib.Core.Path.{◌≡◌, refl, sym, ap, ◌∙◌}
use mathlib.Core.Bool.{Bool, true, false, cond, true≢false}
use mathlib.Core.List.{List}
use native.Mathlib.Nat.{le_trans}
use native.Mathlib.Omega.{arith}
use lib.Dec.{eqb, ltb}
use lib.ListN.{length}
use lib.Pow.{pow_mono}
use borrow.Author.Tests.{eqb-true, ltb-true, ltb-false}
use Rattle.std.specs.Prelude.{Option, Some, None, Result, Ok, Err}
use Rattle.std.proofs.lemmas.Option.{none-some, cond_some}
use Rattle.lists.specs.Filter.{non_empty}
use Rattle.shape.specs.declared.refusal.Refusal.{Refusal}
use Rattle.shape.specs.declared.refusal.Refusal.TheVariants as why
use Rattle.shape.specs.Shape.{widths_of, total, index_fits}
use Rattle.shape.specs.declared.Shape.{Shape}
use Rattle.shape.proofs.ShapeLaws.{capacity-bounds}
use Rattle.split.specs.Bits.{split_bit}
use Rattle.record.specs.Record.{Record}
use Rattle.record.specs.Lanes.{bias_key, fields_key}
use Rattle.record.specs.Packed.{packed_key, unpacked_key, SixteenBits}
use Rattle.record.proofs.ByteLaws.{AreBytes, AreBytes-field}
use Rattle.page.specs.Page.{count_of, records_of, records_from, page_size, page_at}
use Rattle.page.specs.Fields.{key_at}
use Rattle.pages.specs.Pages.{PageLent}
use Rattle.page.proofs.PartLaws.{page-end-le}
use Rattle.page_matches.specs.KeyPlace.{key_place, place_below}
use Rattle.page_matches.proofs.PlaceLaws.{key_place-le}
use Rattle.page_matches.proofs.StoredLaws.{same_key-absent}
use Rattle.directory_word.specs.Word.{depth_field, leaf_of}
use Rattle.directory_word.specs.declared.Leaf.TheVariants.{Empty, Page}
use Rattle.directory_word.proofs.WordLaws.{word_of-depth, word_of-page, word_of-page-empty}
use Rattle.model.specs.Sets.{stored}
use Rattle.store.specs.Store.{Store}
use Rattle.store.specs.Sound.{Sound}
use Rattle.store.proofs.ShownLaws.{word_on}
use Rattle.change.specs.Delete.{key_string}
use Rattle.change.proofs.PromiseLaws.{depth_at-encoded}
use Rattle.change.proofs.DeletePromiseLaws.{delete-unsound, delete-empty, delete-absent}
use Rattle.refusals.specs.Limits.{limits_hold}
use Rattle.refusals.proofs.LimitsLaws.{limits-of-sound, limits-parts}
use Rattle.page_ends.specs.Ends.{fixed_bits, ends_agree}
use Rattle.page_ends.specs.Fair.{fair_count}
use Rattle.page_ends.proofs.FairLaws.{fair-of-count}
use Rattle.leaf_word.specs.Hold.{word_holds, own_page}
use Rattle.leaf_word.proofs.HoldLaws.{word-of-sound, held-empty, held-page}
use Rattle.leaf_word.proofs.PageLaws.{ends_agree-mask}
use Rattle.delete_plan.specs.Plan.{LeafMet, RecordFound, RefusalMet}
use Rattle.delete_plan.specs.Met.{sought, sought_at, sought_among}
use Rattle.delete_plan.specs.declared.Stored.{Stored}
use Rattle.directory_lent.specs.Lent.{DirectoryLent}
use Rattle.refusals.specs.Passed.{Passed}
use Rattle.refusals.proofs.PassedLaws.{SixteenBits-passed, unpacked_key-passed, index_fits-passed}
use Rattle.delete_plan.proofs.FairLaws.{fair-of-sound}

-- ---- the place of a key

module _ (key : ℕ) (page : List ℕ) where
  key_at-key_place : (k i : ℕ) → key_place key page k i < i + k → key_at page (key_place key page k i) ≡ key
  unfolding key_place
  key_at-key_place zero i l = absurd (omega arith)
  key_at-key_place (suc k) i l = go (eqb (key_at page i) key) refl l (key_at-key_place k (suc i))
    where
      go : (β : Bool) → eqb (key_at page i) key ≡ β → cond β i (key_place key page k (suc i)) < i + suc k
          → (key_place key page k (suc i) < suc i + k → key_at page (key_place key page k (suc i)) ≡ key)
          → key_at page (cond β i (key_place key page k (suc i))) ≡ key
      go true e h ih = eqb-true (key_at page i) key e
      go false e h ih = ih (omega arith)

  module _ (g x : ℕ) where
    pub among-absent : (n : ℕ) → (n ≡ 0 → ⊥) → place_below n (key_place key page n 0) ≡ None
        → Err (why.Absent x) ≡ sought_among key page g x n
    among-absent zero some e = absurd (some refl)
    among-absent (suc n) some e = go (ltb (key_place key page (suc n) 0) (suc n)) _ e
      where
        go : (β : Bool) (there : Result Stored Refusal) → cond β (Some (key_place key page (suc n) 0)) None ≡ None
            → Err (why.Absent x) ≡ cond β there (Err (why.Absent x))
        go true there e = absurd (none-some _ (sym e))
        go false there e = refl

    pub among-there : (n i : ℕ) → (n ≡ 0 → ⊥) → place_below n (key_place key page n 0) ≡ Some i
        → Ok (record { page = g; depth = x; place = i; count = n }) ≡ sought_among key page g x n
    among-there zero i some e = absurd (some refl)
    among-there (suc n) i some e =
        let there = cond_some (ltb (key_place key page (suc n) 0) (suc n)) (key_place key page (suc n) 0) i e in
        rw (there.0, there.1)

-- ---- a store

module _ (before : Store) (encoded : List ℕ) where
  abbrev s : Shape
  s = before.state.shape

  abbrev P : ℕ
  P = before.state.limits.pages

  abbrev p : ℕ → Bool
  p = key_string before encoded

  pub refused-unsound : ((S : List Record) → Sound before S → ⊥) → RefusalMet before encoded why.Unsound
  refused-unsound none values early same = delete-unsound before values early none

  -- ---- before the key's leaf

  pub refused-limits : limits_hold before.state ≡ false → RefusalMet before encoded why.Unsound
  refused-limits e = refused-unsound (λ S sound. true≢false (sym (limits-of-sound before S sound) ∙ e))

  -- a word at any cell that does not hold
  pub refused-word : (q : ℕ → Bool) → word_holds before.state (word_on before q) ≡ false
      → RefusalMet before encoded why.Unsound
  refused-word q e = refused-unsound (λ S sound. true≢false (sym (word-of-sound before S sound q) ∙ e))

  -- the key's leaf is empty, of depth y
  pub refused-empty : (x y : ℕ) → leaf_of (word_on before p) ≡ Empty x
      → word_holds before.state (word_on before p) ≡ true → y ≡ depth_field (word_on before p)
      → RefusalMet before encoded (why.Absent y)
  refused-empty x y e h d values early same =
      delete-empty before values early y (depth_at-encoded before encoded values same y (sym d))
      (λ S sound. rw same
      (ap (λ w. w % 2 ^ 16) (held-empty before.state (word_on before p) h x e).1 ∙ word_of-page-empty x))

  pub leaf_met : Passed before encoded → limits_hold before.state ≡ true → (g x : ℕ)
      → leaf_of (word_on before p) ≡ Page g x → word_holds before.state (word_on before p) ≡ true
      → LeafMet before encoded g x
  leaf_met k limits g x e h =
      let l = held-page before.state (word_on before p) h g x e in
      record {
        passed = k;
        limits = limits;
        own-within = l.0;
        deep = l.1;
        holds = h;
        own = l.2;
      }

  -- what a search for the key in a leaf of depth x answers
  abbrev pub SoughtMet : ℕ → Result Stored Refusal → Type 0
  SoughtMet x (Ok r) = RecordFound before encoded r × (r.depth ≡ x)
  SoughtMet x (Err r) = RefusalMet before encoded r

  -- ---- at the leaf, with page g

  module _ (g x : ℕ) (m : LeafMet before encoded g x) where
    abbrev page_of : ℕ → List ℕ
    page_of h = page_at s.capacity before.memory.bytes h

    abbrev page : List ℕ
    page = page_of g

    abbrev count_before : ℕ → ℕ
    count_before h = count_of (page_of h)

    most : P ≤ 4096
    most = (limits-parts before.state m.limits).1

    g-lt : g < 2 ^ 16 - 1
    g-lt = omega (arith, m.own-within, most)

    field : word_on before p % 2 ^ 16 ≡ g + 1
    field = ap (λ w. w % 2 ^ 16) m.own ∙ word_of-page g x g-lt

    depth : depth_field (word_on before p) ≡ x
    depth = ap depth_field m.own ∙ word_of-depth g x g-lt

    -- ---- bounds

    pub directory_lent : DirectoryLent before.state (length before.memory.words)
    directory_lent =
        let k = m.passed in
        let l = limits-parts before.state m.limits in
        record {
          shape = k.shape;
          deep = omega (arith, l.3, l.4);
          short = omega (arith, l.2, l.4);
          room = le_trans (pow_mono l.4) k.words-lent;
        }

    -- each of the P pages is lent
    pub page_lent : (h : ℕ) → h < P → PageLent s.capacity h before.memory.bytes
    page_lent h l =
        let k = m.passed in
        record {
          capacity-le = (capacity-bounds s k.shape).1;
          number_lt = omega (arith, most);
          whole = le_trans (page-end-le s.capacity h P l) k.pages-lent;
        }

    -- ---- the page of the leaf

    deep : x ≤ total (widths_of s)
    deep = omega (arith, m.deep, directory_lent.deep)

    -- the key's packed form
    back : unpacked_key (packed_key encoded) ≡ encoded
    back = unpacked_key-passed before encoded m.passed

    packed-fits : index_fits (widths_of s) (unpacked_key (packed_key encoded)) ≡ true
    packed-fits = index_fits-passed before encoded m.passed

    -- a leaf's page has 1 to b records, the first and the last of which begin with the leaf's string
    pub refused-page : (mask n : ℕ) → mask ≡ fixed_bits (widths_of s) x
        → n ≡ fair_count s.capacity (ends_agree (bias_key s) mask (packed_key encoded) page (count_of page)) page → n ≡ 0
        → RefusalMet before encoded why.Unsound
    refused-page mask n fixed e none =
        refused-unsound
        (λ S sound.
        fair-of-sound before S sound p g x g-lt m.own deep mask fixed (packed_key encoded) packed-fits
        (λ t l. ap (λ v. split_bit (widths_of s) v t) back) (sym e ∙ none))

    module _ (are : AreBytes before.memory.bytes) (n : ℕ) (e : n ≡ count_of page) where
      six : SixteenBits encoded
      six = SixteenBits-passed before encoded m.passed

      page-are : AreBytes page
      page-are = AreBytes-field before.memory.bytes (g * page_size s.capacity) (page_size s.capacity) are

      counted : records_from s n 2 page ≡ records_of s page
      counted = ap (λ k. records_from s k 2 page) e

      -- no record of the page has the key
      pub refused-absent : (i : ℕ) → i ≡ key_place (fields_key s (packed_key encoded)) page n 0 → i ≡ n
          → RefusalMet before encoded (why.Absent x)
      refused-absent i q h values early same =
          delete-absent before values early g x (depth_at-encoded before encoded values same x depth)
          (λ S sound. rw same field)
          (λ S sound. rw same
          (ap non_empty (ap (stored encoded) (sym counted) ∙ same_key-absent s m.passed.shape encoded six page page-are n (sym q ∙ h))))

    module _ (are : AreBytes before.memory.bytes) (mask : ℕ) (fixed : mask ≡ fixed_bits (widths_of s) x) where
      abbrev fields : ℕ
      fields = fields_key s (packed_key encoded)

      abbrev own : Bool
      own = ends_agree (bias_key s) mask (packed_key encoded) page (count_of page)

      -- the record that was sought
      pub record_found : (n i : ℕ) → n ≡ fair_count s.capacity own page → (n ≡ 0 → ⊥) → i ≡ key_place fields page n 0 → i < n
          → RecordFound before encoded (record { page = g; depth = x; place = i; count = n })
      record_found n i e some q l =
          let fair = fair-of-count s.capacity own page n e some in
          let within : key_place fields page n 0 < 0 + n = omega (arith, q) in
          record {
            leaf = m;
            counted = fair.counted;
            few = fair.few;
            ends =
                sym (ends_agree-mask s m.passed.shape x deep (widths_of s) refl (bias_key s) mask fixed
                (packed_key encoded) packed-fits page n)
                ∙ ap (ends_agree (bias_key s) mask (packed_key encoded) page) fair.counted
                ∙ fair.owned;
            place-lt = l;
            here = ap (key_at page) q ∙ key_at-key_place fields page n 0 within;
          }

      pub sought-met : SoughtMet x (sought s.capacity (bias_key s) (packed_key encoded) mask page g x)
      unfolding sought
      sought-met = by-count (fair_count s.capacity own page) refl
        where
          by-place : (n i : ℕ) → n ≡ fair_count s.capacity own page → (n ≡ 0 → ⊥) → i ≡ key_place fields page n 0
              → SoughtMet x (sought_at g x n i)
          by-place n i e some q = go (ltb i n) refl
            where
              go : (β : Bool) → ltb i n ≡ β
                  → SoughtMet x (cond β (Ok (record { page = g; depth = x; place = i; count = n })) (Err (why.Absent x)))
              go true t = (record_found n i e some q (ltb-true i n t), refl)
              go false f =
                  refused-absent are n (fair-of-count s.capacity own page n e some).counted i q
                  (omega (arith, q, key_place-le fields page n 0, ltb-false i n f))

          by-count : (n : ℕ) → n ≡ fair_count s.capacity own page → SoughtMet x (sought_among fields page g x n)
          by-count zero e = refused-page mask zero fixed e refl
          by-count (suc n) e = by-place (suc n) (key_place fields page (suc n) 0) e (λ z. absurd (omega arith)) refl

-- What a walk that notes pages leaves, for its callers: in any store pages that may be read, at most 2^T; in a store
-- that is sound where the walk reads it, the pages that the model reads, with the records that it lists. A query's walk
-- is a case. Assumes nothing.
use Prim.Native.Nat.{ℕ, zero, suc, ◌+◌, ◌^◌, ◌≤◌, ◌<◌}
use mathlib.Core.Path.{◌≡◌, refl, sym, ap, ◌∙◌, subst}
use mathlib.Core.Bool.{Bool, true, false, cond}
use mathlib.Core.List.{List, [], ◌∷◌, flat_map}
use mathlib.Core.Option.{Option}
use native.Mathlib.Omega.{arith}
use native.Mathlib.Nat.{zero-add}
use lib.ListN.{get_or, take, length}
use Rattle.lists.specs.Filter.{filter, non_empty}
use Rattle.lists.specs.Members.{All}
use Rattle.lists.proofs.Bools.{and_split}
use Rattle.shape.specs.Shape.{widths_of, total}
use Rattle.shape.specs.declared.Shape.{Shape}
use Rattle.region.specs.Strings.{same_bits, empty_string}
use Rattle.region.specs.Query.{QueryBit, agrees, LeafTest, holds_records, walk_reads, query_enters}
use Rattle.region.proofs.QueryLaws.{agrees-same, agrees-le}
use Rattle.record.specs.Record.{Record, record_bit, matches}
use Rattle.page.specs.Page.{records_of, page_at}
use Rattle.model.specs.Sets.{in_shape, division_of, query_bits, reads_of}
use Rattle.store.specs.declared.State.{State}
use Rattle.store.specs.Store.{Store, word_at}
use Rattle.store.specs.Promises.{SoundWhere, agreeing, SoundWhereRead}
use Rattle.std.specs.Prelude.{Some, None}
use lib.Seq.{sets}
use Rattle.query_rows.proofs.StoreRunLaws.{get_d_sets, take-sets}
use Rattle.query_seen.specs.Pages.{read_pages_by}
use Rattle.query_seen.specs.Seen.{Seen, fair_page, leaf_seen, walk_seen_by, walk_seen}
use Rattle.query_seen.proofs.BoundLaws.{length-noted-le, length-seen-le, Readable, All-noted, All-seen}
use Rattle.query_seen.proofs.StoreLaws.{walk_seen_by-sound, length-read_pages_by, records-read_pages_by}
use Rattle.query_walk.specs.Noting.{Noted, noted_by, Put}

All-get_d : (P : ℕ → Type 0) (xs : List ℕ) → All P xs → (i : ℕ) → i < length xs → P (get_or xs i 0)
All-get_d P [] h i l = absurd (omega arith)
All-get_d P (x ∷ xs) h zero l = h.0
All-get_d P (x ∷ xs) h (suc i) l = All-get_d P xs h.1 i (omega arith)

-- ---- any store

module _ (st : State) (words bytes : List ℕ) (enter : ℕ → (ℕ → Bool) → Bool) (list : List ℕ) (r : Noted)
    (later : List ℕ) (o : Put list (walk_seen_by st words bytes enter) r later) (n : ℕ) (e : r ≡ Some n) where
  abbrev s : Seen
  s = walk_seen_by st words bytes enter

  -- the number is that of the pages seen
  pub length-noted : n ≡ length s.pages
  length-noted = go s.sound (sym e ∙ o.answer)
    where
      go : (β : Bool) → Some n ≡ cond β (Some (length s.pages)) None → n ≡ length s.pages
      go true d = cc
      go false d = let z : ◌≡◌ {A = ℕ} 0 1 = cc in absurd (omega arith)

  pub noted-le : n ≤ 2 ^ st.deepest
  unfolding walk_seen_by
  noted-le =
      omega (
        arith,
        length-noted,
        length-seen-le (λ x p. word_at st.shape x words p) (leaf_seen st bytes) enter st.deepest
            (λ x p w. length-noted-le st.limits.pages _ _ w) st.deepest empty_string 0,
      )

  module _ (room : n ≤ length list) where
    -- they stand at the front of the list
    pub take-noted : take n later ≡ s.pages
    take-noted =
        let all : n ≡ 0 + length s.pages = omega (arith, length-noted) in
        ap (λ k. take k later) all
        ∙ ap (take (0 + length s.pages)) o.lines
        ∙ take-sets list 0 s.pages (omega (arith, length-noted))

    -- each is one of the P pages, and its count is 1 to b
    pub noted-readable : (i : ℕ) → i < n
        → Readable st.limits.pages st.shape.capacity bytes (get_or later i 0)
    unfolding walk_seen_by fair_page
    noted-readable i l =
        let Q : ℕ → Type 0 = Readable st.limits.pages st.shape.capacity bytes in
        let T = st.deepest in
        let here : get_or s.pages i 0 ≡ get_or later i 0 =
        sym (ap (λ xs. get_or xs i 0) o.lines
        ∙ ap (λ k. get_or (sets list 0 s.pages) k 0) (sym (zero-add i))
        ∙ get_d_sets list 0 s.pages i (omega (arith, length-noted)) (omega (arith, length-noted))) in
        subst Q here
        (All-get_d Q s.pages
        (All-seen Q (λ x p. word_at st.shape x words p) (leaf_seen st bytes)
        (λ x p w. All-noted Q st.limits.pages _ _ (λ g k e. (k, (and_split _ _ e).0)) w) enter T T
        empty_string 0) i
        (omega (arith, length-noted)))

-- ---- a store that is sound where the walk reads it

module _ (store : Store) (enter : ℕ → (ℕ → Bool) → Bool) (reads : LeafTest Record) (S : List Record)
    -- a leaf that is entered and not empty is among those that are read
    (covers : (p : ℕ → Bool) (x : ℕ) (rs : List Record) → enter x p ≡ true → non_empty rs ≡ true → reads p x rs ≡ true)
    (h : SoundWhere store reads S) (begins : enter 0 empty_string ≡ true) where
  abbrev leaf_reads : ℕ
  leaf_reads = walk_reads enter holds_records empty_string 0 (division_of store.state.shape S)

  abbrev records_now : ℕ → List Record
  records_now g = records_of store.state.shape (page_at store.state.shape.capacity store.memory.bytes g)

  module _ (list : List ℕ) (r : Noted) (later : List ℕ)
      (o : Put list (walk_seen_by store.state store.memory.words store.memory.bytes enter) r later) where
    -- the answer is the number of leaves that are entered and not empty, and no damage
    pub noted-reads-by : r ≡ Some leaf_reads
    noted-reads-by =
        o.answer
        ∙ ap noted_by (walk_seen_by-sound store enter reads S covers h begins)
        ∙ ap Some
        (length-read_pages_by store.state store.memory.words enter (division_of store.state.shape S))

    -- the pages noted are theirs, in order
    pub noted-pages-by : leaf_reads ≤ length list
        → take leaf_reads later
        ≡ read_pages_by store.state store.memory.words enter (division_of store.state.shape S)
    noted-pages-by room =
        take-noted store.state store.memory.words store.memory.bytes enter list r later o leaf_reads
        noted-reads-by room
        ∙ ap (λ u. u.pages) (walk_seen_by-sound store enter reads S covers h begins)

    -- their records that pass a test, one page after the other, are those of S, where `enter` looks at a region's own
    -- bits and lets in every beginning of a record that passes
    pub noted-records-by : leaf_reads ≤ length list → (M : Record → Bool)
        → ((x : ℕ) (p q : ℕ → Bool) → same_bits p q x 0 ≡ true → enter x p ≡ enter x q)
        → ((a : Record) → in_shape store.state.shape a ≡ true → M a ≡ true → (x : ℕ)
        → x ≤ total (widths_of store.state.shape) → enter x (record_bit store.state.shape a) ≡ true)
        → flat_map (λ g. filter M (records_now g)) (take leaf_reads later) ≡ filter M S
    noted-records-by room M local lets-in =
        ap (flat_map (λ g. filter M (records_now g))) (noted-pages-by room)
        ∙ records-read_pages_by store enter reads S covers h begins M local lets-in

-- ---- a query

-- a record of the shape matches exactly if it agrees with the query's bits
abbrev pub MatchesBits : Shape → List (Option ℕ) → Type 0
MatchesBits s q =
    (r : Record) → in_shape s r ≡ true
    → matches s q r ≡ agrees (query_bits s q) (record_bit s r) (total (widths_of s)) 0

module _ (store : Store) (wanted : List (Option ℕ)) (S : List Record)
    (h : SoundWhereRead store (query_bits store.state.shape wanted) S) where
  abbrev shape : Shape
  shape = store.state.shape

  abbrev bits : ℕ → QueryBit
  bits = query_bits shape wanted

  abbrev bytes_now : List ℕ
  bytes_now = store.memory.bytes

  module _ (list : List ℕ) (r : Noted) (later : List ℕ)
      (o : Put list (walk_seen store.state store.memory.words bytes_now bits) r later) where
    -- the answer is the model's reads, and no damage
    pub noted-reads : r ≡ Some (reads_of shape wanted S)
    unfolding reads_of
    noted-reads =
        noted-reads-by store (query_enters bits) (agreeing bits) S (λ p x rs e n. e) h refl list r later o

    -- their matching records, one page after the other, are the matching records of S
    pub noted-records : reads_of shape wanted S ≤ length list → MatchesBits shape wanted
        → flat_map (λ g. filter (matches shape wanted) (records_of shape (page_at shape.capacity bytes_now g)))
        (take (reads_of shape wanted S) later)
        ≡ filter (matches shape wanted) S
    unfolding reads_of
    noted-records room match =
        noted-records-by store (query_enters bits) (agreeing bits) S (λ p x rs e n. e) h refl list r later o room
        (matches shape wanted) (λ x p p' e. agrees-same bits p p' x 0 e)
        (λ a g m x l. agrees-le bits (record_bit shape a) x (total (widths_of shape)) 0 l (sym (match a g) ∙ m))

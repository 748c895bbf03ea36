-- `Contained` for each form of an accepted insert and delete, on any store: from the plan, what its steps ask, what the
-- tests tell, and what the steps leave of words and bytes. Assumes nothing.
use Prim.Native.Nat.{ℕ, suc, ◌-◌, ◌^◌, ◌≤◌, ◌<◌}
use mathlib.Core.Path.{◌≡◌, refl, sym, ap, ◌∙◌, subst}
use mathlib.Core.Bool.{Bool, true, false, cond}
use mathlib.Core.List.{List}
use mathlib.Core.Logic.{inl, inr}
use native.Mathlib.Nat.{le_refl}
use native.Mathlib.Omega.{arith}
use Rattle.shape.specs.Shape.{widths_of}
use Rattle.shape.specs.declared.Shape.{Shape}
use Rattle.directory.specs.Directory.{Filled}
use Rattle.region.specs.Strings.{with_bit, sibling}
use Rattle.region.proofs.StringLaws.{with_bit-same}
use Rattle.cell.proofs.AgreeLaws.{agree-with_bit}
use Rattle.record.specs.declared.Content.{Content}
use Rattle.record.specs.Packed.{packed_bytes}
use Rattle.record.proofs.CodecLaws.{length-packed_bytes}
use Rattle.page.specs.Page.{page_at}
use Rattle.pages.specs.Pages.{PageLent}
use Rattle.directory_word.specs.Word.{word_of, depth_field}
use Rattle.directory_word.specs.declared.Leaf.TheVariants.{Empty, Page}
use Rattle.directory_word.proofs.WordLaws.{word_of-depth}
use Rattle.store.specs.Store.{Store, store, word_at}
use Rattle.store.specs.Contained.{Whole, JoinedWith, Contained}
use Rattle.store.specs.declared.State.{State}
use Rattle.change.specs.Delete.{key_string}
use Rattle.insert_planned.specs.declared.Split.{Split}
use Rattle.insert_cut.specs.declared.Cut.{Cut}
use Rattle.insert_planned.specs.Planned.{RoomFound, GetPlanned, DividePlanned}
use Rattle.insert_pages.specs.Inserted.{inserted_pages, CutFits, divided_pages}
use Rattle.insert_words.specs.Divided.{WordsDivided}
use Rattle.insert_pages.proofs.InsertedLaws.{page_at-inserted_pages-other}
use Rattle.delete_plan.specs.declared.Stored.{Stored}
use Rattle.delete_plan.specs.declared.Join.{Join}
use Rattle.delete_plan.specs.Plan.{RecordFound, JoinPlanned}
use Rattle.delete_pages.specs.PageBytes.{RecordLent, PairLent, removed_bytes, kept_page, joined_bytes}
use Rattle.delete_steps.specs.Steps.{LeavesLent, LeafWords, JoinWords}
use Rattle.delete_pages.proofs.PageLaws.{page_at-removed_bytes-other, page_at-joined_bytes-other}
use Rattle.change_kept.specs.Tested.{LeafTested, JoinTested}
use Rattle.change_kept.proofs.WordLaws.{leaves-sibling, sibling-joined}
use Rattle.change_kept.proofs.PageLaws.{page_at-divided_pages-other, one_written, two-written}
use Rattle.change_kept.proofs.RegionLaws.{filled-whole}
use Rattle.change_kept.proofs.StepLaws.{same_kept, get-kept, divide-kept, keep-kept, join_kept, depth_is}
use Rattle.change_kept.proofs.StepLaws.{joined-siblings, kept-lt, depth-joined}

module _ (before : Store) (encoded : List ℕ) where
  abbrev st : State
  st = before.state

  abbrev s : Shape
  s = st.shape

  abbrev b : ℕ
  b = s.capacity

  abbrev words : List ℕ
  words = before.memory.words

  abbrev bytes : List ℕ
  bytes = before.memory.bytes

  abbrev key : ℕ → Bool
  key = key_string before encoded

  -- the pages of a store whose bytes are these
  module _ (bytes' : List ℕ) (f : List ℕ) (e : bytes' ≡ f) where
    page-of : (k : ℕ) → page_at b f k ≡ page_at b bytes k → page_at b bytes' k ≡ page_at b bytes k
    page-of k d = ap (λ l. page_at b l k) e ∙ d

  -- ---- insert: `code` is the key's, packed

  module _ (code : ℕ) (content : Content) where
    -- a page takes the record
    pub contained-taken : (g x i n : ℕ) → RoomFound before encoded g x i n
        → PageLent b g bytes × (i ≤ n) × (n < b) → (bytes' : List ℕ)
        → bytes' ≡ inserted_pages b g i n (packed_bytes code content) bytes
        → Contained false before (store st words bytes') key
    contained-taken g x i n planned lent bytes' e = record {
      words-kept = same_kept before encoded false words refl;
      bytes-kept =
          one_written false before (store st words bytes') key g
          (λ k o. page-of bytes' _ e k
          (page_at-inserted_pages-other b g i n (packed_bytes code content) bytes lent.0 lent.1 lent.2
          (length-packed_bytes code content) k o))
          (inl (x, planned.met.own));
    }

    -- an empty leaf gets a page
    pub contained-got : (g x : ℕ) → GetPlanned before encoded g x → PageLent b g bytes × (0 ≤ 0) × (0 < b)
        → LeafTested st words encoded x (word_of (Empty x)) → (words' : List ℕ)
        → Filled (widths_of s) st.deepest x key (word_of (Page g x)) words words' → (bytes' : List ℕ)
        → bytes' ≡ inserted_pages b g 0 0 (packed_bytes code content) bytes
        → Contained false before (store st words' bytes') key
    contained-got g x planned lent tested words' f bytes' e = record {
      words-kept = get-kept before encoded g x (word_of (Page g x)) words' planned tested f;
      bytes-kept =
          one_written false before (store st words' bytes') key g
          (λ k o. page-of bytes' _ e k
          (page_at-inserted_pages-other b g 0 0 (packed_bytes code content) bytes lent.0 lent.1 lent.2
          (length-packed_bytes code content) k o))
          (inr (inr (planned.free, (key, (λ i l. refl), (x, f.inside key (λ i l. refl))))));
    }

    -- a full leaf is divided: the half with bit 1 has the free page
    pub contained-divided : (split : Split) (cut : Cut) (free : ℕ) → DividePlanned before encoded split cut free
        → PageLent b split.page bytes × PageLent b free bytes → CutFits b cut
        → LeafTested st words encoded split.depth (word_of (Page split.page split.depth))
        → (st' : State) (words' : List ℕ) → WordsDivided st encoded split free words st' words' → (bytes' : List ℕ)
        → bytes' ≡ divided_pages b split.page free cut (packed_bytes code content) bytes
        → Contained false before (store st' words' bytes') key
    contained-divided split cut free planned lent fits tested st' words' w bytes' e = record {
      words-kept = divide-kept before encoded split cut free st' words' planned tested w;
      bytes-kept =
          two-written false before (store st' words' bytes') key split.page free
          (λ k n o. page-of bytes' _ e k
          (page_at-divided_pages-other b split.page free cut (packed_bytes code content) bytes lent.0 lent.1 fits
          (length-packed_bytes code content) k n o))
          (inl (split.depth, met-own))
          (inr (inr (planned.free-none, (upper, near, (suc m, named)))));
    }
      where
        m : ℕ
        m = split.step

        met-own : word_at s st.deepest words key ≡ word_of (Page split.page split.depth)
        met-own = planned.found.met.ends-met.met.own

        few : split.page < 2 ^ 16 - 1
        few =
            omega (arith, planned.found.met.ends-met.met.within, planned.found.asked.pages-lent.few)

        depth : depth_field (word_at s st.deepest words key) ≡ split.depth
        depth = ap depth_field met-own ∙ word_of-depth split.page split.depth few

        upper : ℕ → Bool
        upper = with_bit key m true

        near_step : (i : ℕ) → i < m → key i ≡ upper i
        near_step i l = sym (agree-with_bit key m true i l)

        near : (i : ℕ) → i < depth_field (word_at s st.deepest words key) → key i ≡ upper i
        near i l = near_step i (omega (arith, depth, planned.found.met.below))

        named : word_at st'.shape st'.deepest words' upper ≡ word_of (Page free (suc m))
        named =
            ap (λ t. word_at t.shape st'.deepest words' upper) w.state
            ∙ w.leaves.half upper near_step
            ∙ ap (λ β. word_of (Page (cond β free split.page) (suc m))) (with_bit-same key m true)

  -- ---- delete

  module _ (r : Stored) (found : RecordFound before encoded r) where
    -- the key's leaf stays
    pub contained-removed : RecordLent b r bytes
        → (r.count ≡ 1 → LeafTested st words encoded r.depth (word_of (Page r.page r.depth)))
        → (words' : List ℕ) → LeafWords st encoded r words words' → (bytes' : List ℕ)
        → bytes' ≡ removed_bytes b r.page r.place r.count bytes
        → Contained true before (store st words' bytes') key
    contained-removed lent tested words' w bytes' e = record {
      words-kept = keep-kept before encoded r found words' tested w;
      bytes-kept =
          one_written true before (store st words' bytes') key r.page
          (λ k n. page-of bytes' _ e k
          (page_at-removed_bytes-other b r.page r.place r.count bytes lent.page lent.place-lt lent.few
          k n))
          (inl (r.depth, found.leaf.own));
    }

    -- the key's leaf is joined with its sibling
    pub contained-joined : (j : Join) → JoinPlanned before encoded r j → LeavesLent st r j → PairLent b r j bytes
        → JoinTested st words encoded r j → (st' : State) (words' : List ℕ) → JoinWords st encoded r j st' words words'
        → (bytes' : List ℕ)
        → bytes' ≡ joined_bytes j.bit b r.page r.place r.count j.other j.count bytes
        → Contained true before (store st' words' bytes') key
    contained-joined j planned leaves lent tested st' words' w bytes' e = record {
      words-kept = join_kept before encoded r found j st' words' planned leaves tested w;
      bytes-kept =
          two-written true before (store st' words' bytes') key r.page j.other
          (λ k n o. page-of bytes' _ e k
          (page_at-joined_bytes-other b r.page r.place r.count bytes lent.own.page lent.own.place-lt
          lent.own.few j.other j.count lent.page planned.few lent.fit j.bit k n o))
          (inl (r.depth, found.leaf.own))
          (inr (inl (beside, joined.0, joined.1, (suc m, beside-word))));
    }
      where
        m : ℕ
        m = j.step

        beside : ℕ → Bool
        beside = sibling key m

        beside-word : word_at s st.deepest words beside ≡ word_of (Page j.other (suc m))
        beside-word = tested.other beside (λ i l. refl)

        top : depth_field (word_at st'.shape st'.deepest words' key) ≡ j.top
        top =
            ap (λ t. depth_field (word_at t.shape st'.deepest words' key)) w.state
            ∙ depth-joined before encoded r found j planned st' words' w

        one-leaf : Whole (word_at st'.shape st'.deepest words') key
        one-leaf =
            subst (λ v. Whole (word_at v st'.deepest words') key) (sym (ap (λ t. t.shape) w.state))
            (filled-whole (widths_of s) st.deepest key words st'.deepest j.top
            (kept_page j.bit r.page j.other) (kept-lt before encoded r found j planned) words' w.new-leaf)

        joined : Whole (word_at s st.deepest words) beside
            × JoinedWith true (word_at s st.deepest words) (word_at st'.shape st'.deepest words') key beside
        joined =
            sibling-joined (word_at s st.deepest words) (word_at st'.shape st'.deepest words') key m
            (joined-siblings before encoded r found j planned tested m planned.met.above (le_refl m))
            (omega (arith, depth_is before encoded r found, planned.depth-step))
            (omega (arith, top, planned.met.above)) one-leaf beside (leaves-sibling key m)

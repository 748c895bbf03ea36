-- Laws of an insert that a page takes, and of one that gives an empty leaf a page: what was planned and done keeps the
-- promise of `add`. Assumes nothing.
use Prim.Native.Nat.{ℕ, ◌-◌, ◌^◌, ◌<◌}
use mathlib.Core.Path.{◌≡◌, refl, sym, ap, ◌∙◌, subst}
use mathlib.Core.Bool.{false}
use mathlib.Core.List.{List, [], ◌∷◌}
use native.Mathlib.Omega.{arith}
use lib.ListN.{length}
use Rattle.shape.specs.Refusal.{accepted}
use Rattle.shape.specs.Key.{encodings}
use Rattle.shape.specs.Shape.{widths_of}
use Rattle.shape.specs.declared.Shape.{Shape}
use Rattle.shape.proofs.ShapeLaws.{capacity-bounds}
use Rattle.split.specs.Bits.{split_bit}
use Rattle.directory.specs.Directory.{Filled}
use Rattle.record.specs.declared.Content.{Content}
use Rattle.record.specs.Record.{Record}
use Rattle.record.specs.Lanes.{fields_key}
use Rattle.record.specs.Packed.{packed_key, packed_bytes}
use Rattle.record.proofs.CodecLaws.{length-packed_bytes}
use Rattle.page.specs.Page.{records_of, records_from, page_at}
use Rattle.page.specs.Changes.{insert_at}
use Rattle.page.proofs.FieldLaws.{length-records_from}
use Rattle.pages.specs.Pages.{PageLent}
use Rattle.page.proofs.PartLaws.{page-end-le}
use Rattle.page_place.proofs.FoundLaws.{insert_at-placed}
use Rattle.directory_word.specs.Word.{word_of, depth_field}
use Rattle.directory_word.specs.declared.Leaf.TheVariants.{Page}
use Rattle.directory_word.proofs.WordLaws.{word_of-depth}
use Rattle.model.specs.Model.{changed}
use Rattle.model.specs.Sets.{with_record}
use Rattle.store.specs.Store.{Store, memory, store}
use Rattle.store.specs.Contained.{Contained}
use Rattle.store.specs.Promises.{depth_at, AddPromise}
use Rattle.store.proofs.ShownLaws.{word_on}
use Rattle.refusals.specs.Passed.{OfValues}
use Rattle.refusals.proofs.PassedLaws.{unpacked_key-passed}
use Rattle.change.proofs.PromiseLaws.{drop-of-past, keeps-others, depth_at-encoded}
use Rattle.change.proofs.InsertLaws.{TookRecord, GotPage}
use Rattle.change.proofs.AddPromiseLaws.{OnSound, add-taken, add-got}
use Rattle.insert_planned.specs.Found.{InsertAsked}
use Rattle.insert_planned.specs.Planned.{RoomFound, GetPlanned}
use Rattle.insert_planned.proofs.MetLaws.{record_with, record_of-passed, page-bytes, meets, records-met}
use Rattle.insert_planned.proofs.MetLaws.{sorted-met, absent-met}
use Rattle.insert_pages.specs.Inserted.{inserted_pages}
use Rattle.insert_pages.proofs.InsertedLaws.{length-inserted_pages, drop-inserted_pages, page_at-inserted_pages-other}
use Rattle.insert_pages.proofs.InsertedLaws.{records_of-inserted_pages}

-- what `add` promises of a record that it accepts with a depth, of the call's values
abbrev pub AcceptedMet : Store → List ℕ → Content → ℕ → Store → Type 0
AcceptedMet before encoded content x after =
    OfValues before encoded (λ values. AddPromise before values content (accepted (changed x)) after)

-- the depth in the word at the key's cell, which names a page
pub depth-there : (after : Store) (encoded values : List ℕ) → encodings after.state.shape values ≡ encoded
    → (g x : ℕ) → g < 2 ^ 16 - 1 → word_on after (split_bit (widths_of after.state.shape) encoded) ≡ word_of (Page g x)
    → depth_at after values ≡ x
depth-there after encoded values same g x few word =
    depth_at-encoded after encoded values same x (ap depth_field word ∙ word_of-depth g x few)

-- a page of the P is lent
pub page-lent : (before : Store) (encoded : List ℕ) → InsertAsked before encoded → (g : ℕ)
    → g < before.state.limits.pages
    → PageLent before.state.shape.capacity g before.memory.bytes
page-lent before encoded a g l =
    let b = before.state.shape.capacity in
    let lent = a.pages-lent in
    record {
      capacity-le = (capacity-bounds before.state.shape a.passed.shape).1;
      number_lt = omega (arith, lent.few);
      whole = omega (arith, page-end-le b g before.state.limits.pages l, lent.lent);
    }

module _ (before : Store) (encoded : List ℕ) (content : Content) (a : InsertAsked before encoded)
    (small : content.payload < 2 ^ 32) where
  abbrev s : Shape
  s = before.state.shape

  abbrev b : ℕ
  b = s.capacity

  abbrev r : Record
  r = record_with encoded content

  abbrev new : List ℕ
  new = packed_bytes (fields_key s (packed_key encoded)) content

  new-length : length new ≡ 12
  new-length = length-packed_bytes (fields_key s (packed_key encoded)) content

  -- ---- a page takes the record

  module _ (g x i n : ℕ) (t : RoomFound before encoded g x i n) where
    abbrev page : List ℕ
    page = page_at b before.memory.bytes g

    abbrev after : List ℕ
    after = inserted_pages b g i n new before.memory.bytes

    lent : PageLent b g before.memory.bytes
    lent = page-lent before encoded a g t.met.within

    took : OnSound before (TookRecord before r g x after)
    took S sound =
        let met = t.met in
        let same = records-met before encoded content a g x n met in
        record {
          meets = meets before encoded content a g x n met;
          absent = absent-met before encoded content a g x n met S sound i t.place;
          room = omega (arith, ap length same, length-records_from s n 2 page, t.room);
          shows =
              records_of-inserted_pages b g i n new before.memory.bytes lent t.place.0 t.room new-length s
              ∙ ap (λ q. insert_at i q (records_from s n 2 page))
              (record_of-passed before encoded a.passed content small)
              ∙ insert_at-placed s a.passed.shape r (packed_key encoded) (sym (unpacked_key-passed before encoded a.passed)) page
              (page-bytes before encoded content a g x n met) n
              (sorted-met before encoded content a g x n met S sound) i t.place
              ∙ ap (with_record s r) (sym same);
          others = λ k l d.
              ap (records_of s)
              (page_at-inserted_pages-other b g i n new before.memory.bytes lent t.place.0 t.room new-length k
              d);
        }

    pub promise-taken : Contained false before (store before.state before.memory.words after)
        (split_bit (widths_of s) encoded)
        → AcceptedMet before encoded content x (store before.state before.memory.words after)
    promise-taken contained values early same =
        add-taken before values content early g x after
        (subst (λ k. OnSound before (TookRecord before (record_with k content) g x after)) (sym same) took)
        (record {
          words-length = refl;
          bytes-length =
              length-inserted_pages b g i n new before.memory.bytes lent t.place.0 t.room new-length;
          words-past = refl;
          bytes_past =
              drop-inserted_pages b g i n new before.memory.bytes lent t.place.0 t.room new-length
              before.state.limits.pages t.met.within;
        })
        (keeps-others false before encoded values same _ contained)
        (depth-there (store before.state before.memory.words after) encoded values same g x
        (omega (arith, t.met.within, a.pages-lent.few)) t.met.own)

  -- ---- an empty leaf gets a page

  module _ (g x : ℕ) (t : GetPlanned before encoded g x) (words' : List ℕ)
      (filled : Filled (widths_of s) before.state.deepest x (split_bit (widths_of s) encoded) (word_of (Page g x))
      before.memory.words words') where
    abbrev got-after : List ℕ
    got-after = inserted_pages b g 0 0 new before.memory.bytes

    got-lent : PageLent b g before.memory.bytes
    got-lent = page-lent before encoded a g t.within

    some : 0 < b
    some = (capacity-bounds s a.passed.shape).0

    got : OnSound before (GotPage before r g x words' got-after)
    unfolding insert_at
    got S sound =
        record {
          within = t.within;
          word = t.found.own;
          free = t.free;
          filled = filled;
          shows =
              records_of-inserted_pages b g 0 0 new before.memory.bytes got-lent (omega arith) some new-length s
              ∙ ap (λ q. q ∷ []) (record_of-passed before encoded a.passed content small);
          others = λ k l d.
              ap (records_of s)
              (page_at-inserted_pages-other b g 0 0 new before.memory.bytes got-lent (omega arith) some new-length k
              d);
        }

    pub promise-got : Contained false before (store before.state words' got-after) (split_bit (widths_of s) encoded)
        → AcceptedMet before encoded content x (store before.state words' got-after)
    promise-got contained values early same =
        add-got before values content early g x words' got-after
        (subst (λ k. OnSound before (GotPage before (record_with k content) g x words' got-after)) (sym same) got)
        (record {
          words-length = filled.size;
          bytes-length =
              length-inserted_pages b g 0 0 new before.memory.bytes got-lent (omega arith) some new-length;
          words-past =
              drop-of-past before.state.deepest before.state.limits.depth before.memory.words words'
              a.within-limit filled.size filled.past;
          bytes_past =
              drop-inserted_pages b g 0 0 new before.memory.bytes got-lent (omega arith) some new-length
              before.state.limits.pages t.within;
        })
        (keeps-others false before encoded values same _ contained)
        (depth-there (store before.state words' got-after) encoded values same g x
        (omega (arith, t.within, a.pages-lent.few)) (filled.inside _ (λ i l. refl)))

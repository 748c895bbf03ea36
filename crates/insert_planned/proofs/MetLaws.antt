-- Laws of the page that find met, on a sound store: it is that of the key's leaf, in split order, and a key's place
-- on it says whether the key is stored. Assumes nothing.
use Prim.Native.Nat.{ℕ, ◌*◌, ◌^◌, ◌<◌}
use mathlib.Core.Path.{◌≡◌, sym, ap, ◌∙◌}
use mathlib.Core.Bool.{true, false}
use mathlib.Core.List.{List}
use native.Mathlib.Nat.{le_trans}
use lib.ListN.{length}
use lib.Pow.{pow_mono}
use borrow.Author.Tests.{not-true}
use Rattle.std.specs.Prelude.{Ok}
use Rattle.lists.specs.Filter.{non_empty}
use Rattle.lists.proofs.FilterLaws.{all_filter}
use Rattle.shape.specs.Shape.{widths_of, total}
use Rattle.shape.specs.declared.Shape.{Shape}
use Rattle.region.specs.Sets.{sorted}
use Rattle.directory_lent.specs.Lent.{DirectoryLent}
use Rattle.record.specs.declared.Content.{Content}
use Rattle.record.specs.Record.{Record, record_bit}
use Rattle.record.specs.Bytes.{record_of}
use Rattle.record.specs.Lanes.{bias_key, fields_key}
use Rattle.record.specs.Packed.{packed_key, unpacked_key, packed_bytes}
use Rattle.record.proofs.FieldLaws.{record_of-fields_key}
use Rattle.record.proofs.ByteLaws.{AreBytes, AreBytes-field}
use Rattle.page.specs.Page.{records_from, page_size, page_at}
use Rattle.page_place.specs.Find.{Placed}
use Rattle.page_place.proofs.FoundLaws.{absent-placed, with_prefix-placed}
use Rattle.model.specs.Sets.{in_shape, is_set, stored}
use Rattle.model.proofs.SetLaws.{fits-of-in_shape, in_shape-of-is_set, is_set-of-parts}
use Rattle.model.proofs.SetLaws.{stored-with_prefix, absent-stored}
use Rattle.store.specs.Store.{Store}
use Rattle.store.specs.Sound.{Sound}
use Rattle.store.proofs.DividedLaws.{leaf_records-division_of}
use Rattle.refusals.specs.Passed.{Passed}
use Rattle.refusals.proofs.PassedLaws.{unpacked_key-passed}
use Rattle.change.proofs.MeetLaws.{records_on, MeetsPage, sorted-page, records-of-page}
use Rattle.insert_planned.specs.Found.{InsertAsked, PageMet, FallsBefore}

-- ---- a key's record

-- the record of a key, given by its encodings
abbrev pub record_with : List ℕ → Content → Record
record_with encoded content = record { key = encoded; content = content }

-- the record that its bytes hold
pub record_of-passed : (before : Store) (encoded : List ℕ) → Passed before encoded → (content : Content)
    → content.payload < 2 ^ 32
    → let s = before.state.shape in
    record_of s (packed_bytes (fields_key s (packed_key encoded)) content) ≡ record_with encoded content
record_of-passed before encoded p content l =
    record_of-fields_key before.state.shape p.shape (packed_key encoded) content l
    ∙ ap (λ k. record_with k content) (unpacked_key-passed before encoded p)

-- ---- the directory

module _ (before : Store) (encoded : List ℕ) where
  pub directory-lent : InsertAsked before encoded → DirectoryLent before.state (length before.memory.words)
  directory-lent a =
      record {
        shape = a.passed.shape;
        deep = le_trans a.within-limit a.bits;
        short = le_trans a.within-limit a.short;
        room = le_trans (pow_mono a.within-limit) a.passed.words-lent;
      }

-- ---- the page

module _ (before : Store) (encoded : List ℕ) (content : Content) (a : InsertAsked before encoded) (g x n : ℕ)
    (met : PageMet before encoded g x n) where
  abbrev s : Shape
  s = before.state.shape

  abbrev r : Record
  r = record_with encoded content

  abbrev page : List ℕ
  page = page_at s.capacity before.memory.bytes g

  pub page-bytes : AreBytes page
  page-bytes = AreBytes-field before.memory.bytes (g * page_size s.capacity) (page_size s.capacity) met.bytes

  -- the record's key, back from its packed form
  pub key-is : r.key ≡ unpacked_key (packed_key encoded)
  key-is = sym (unpacked_key-passed before encoded a.passed)

  pub meets : MeetsPage before r g x
  meets =
      record {
        within = met.within;
        word = met.own;
      }

  pub records-met : records_on before g ≡ records_from s n 2 page
  records-met = ap (λ k. records_from s k 2 page) (sym met.count)

  module _ (S : List Record) (sound : Sound before S) where
    pub sorted-met : sorted (record_bit s) (total (widths_of s)) 0 (records_from s n 2 page) ≡ true
    sorted-met = rw records-met at (sorted-page before r S sound g x meets)

    set-met : is_set s (records_on before g) ≡ true
    set-met =
        is_set-of-parts s (records_on before g) (sorted-page before r S sound g x meets)
        (rw (sym (records-of-page before r S sound g x meets), leaf_records-division_of s S (record_bit s r))
        (all_filter (in_shape s) _ (in_shape s) (λ q c d. c) S (in_shape-of-is_set s S sound.set)))

    inside : in_shape s r ≡ true
    inside = rw a.passed.four a.passed.fits

    -- a place between two records: the key is not stored
    pub absent-met : (i : ℕ) → FallsBefore before encoded g n i
        → non_empty (stored r.key (records_on before g)) ≡ false
    absent-met i p =
        let none = absent-placed s a.passed.shape r (packed_key encoded) key-is page page-bytes n sorted-met i p in
        not-true _
        (sym (absent-stored s a.passed.shape (records_on before g) set-met r inside) ∙ rw records-met none)

    -- at a record: it is
    pub stored-met : (i : ℕ) → Placed (widths_of s) (bias_key s) (unpacked_key (packed_key encoded)) page n (Ok i)
        → non_empty (stored r.key (records_on before g)) ≡ true
    stored-met i p =
        let one = with_prefix-placed s a.passed.shape r (packed_key encoded) key-is page page-bytes n sorted-met i p in
        ap non_empty
        (stored-with_prefix s a.passed.shape (records_on before g) set-met r.key (fits-of-in_shape s r inside))
        ∙ rw (records-met, one)

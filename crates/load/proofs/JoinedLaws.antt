-- Laws of the records that a load adds: none, and one more, which the model accepts. Assumes nothing.
use Prim.Native.Nat.{ℕ, suc, ◌+◌, ◌*◌, ◌^◌, ◌<◌}
use mathlib.Core.Path.{◌≡◌, refl, sym, ap, subst, ◌∙◌}
use mathlib.Core.Bool.{true}
use mathlib.Core.List.{List}
use native.Mathlib.Numerals.{add-one}
use native.Mathlib.Omega.{arith}
use lib.ListN.{length, get_or, drop}
use Rattle.shape.specs.Refusal.{Answer}
use Rattle.shape.specs.Shape.{shape_number}
use Rattle.shape.specs.Key.{key_fits}
use Rattle.shape.specs.declared.Shape.{Shape}
use Rattle.shape.proofs.ShapeLaws.{shape_number-true}
use Rattle.record.specs.declared.Content.{Content}
use Rattle.record.specs.Record.{Record}
use Rattle.record.specs.Bytes.{record_size, field, record_of}
use Rattle.record.specs.Packed.{content_in}
use Rattle.record.specs.Lanes.{bias_key}
use Rattle.page.specs.Page.{page_size, records_from}
use Rattle.page.proofs.FieldLaws.{length-records_from, get_d-records_from, take-records_from}
use Rattle.page_place.proofs.SortedLaws.{all_get_d}
use Rattle.model.specs.Sets.{in_shape}
use Rattle.model.specs.Model.{Fixed, Reply, record_for}
use Rattle.model.specs.Add.{add_next}
use Rattle.model.proofs.SetLaws.{in_shape-of-is_set}
use Rattle.store.specs.Store.{Store, fixed_of}
use Rattle.store.specs.Sound.{Sound}
use Rattle.store.specs.Promises.{key_number, AddPromise}
use Rattle.refusals.proofs.LentLaws.{lent_number_by-none, key_number_by-fits, key_number-by}
use Rattle.file.specs.File.{record_at, encodings_at}
use Rattle.file_scan.proofs.ModelLaws.{add_next-take}
use Rattle.load.specs.Private.{Joining, Joined}
use Rattle.load.proofs.DecodedLaws.{values_of, key_fits-bytes, record_for-bytes}

pub joined-none : (before : Store) (n : ℕ) (file : List ℕ) → Joining before n file → Joined before 0 file before
joined-none before n file asked =
    record {
      shape-kept = refl;
      limits-kept = refl;
      words-length = refl;
      bytes-length = refl;
      words-past = refl;
      bytes_past = refl;
      shown = asked.sound;
    }

-- a sound store lets pass values that fit
key_number-sound : (store : Store) (S : List Record) (values : List ℕ) → Sound store S
    → key_fits store.state.shape values ≡ true → key_number store values ≡ 0
key_number-sound store S values sound fits =
    let st = store.state in
    let words = store.memory.words in
    let bytes = store.memory.bytes in
    let none = lent_number_by-none st (length words) (length bytes) (record {
      shape = shape_number-true st.shape sound.shape;
      words-lent = sound.words-lent;
      pages-lent = sound.pages-lent;
    }) in
    key_number-by st words bytes values ∙ sym (key_number_by-fits st (length words) (length bytes) values none fits)

module _ (before between : Store) (n i : ℕ) (file : List ℕ) (asked : Joining before n file)
    (so_far : Joined before i file between) (l : i < n) where
  abbrev s : Shape
  s = before.state.shape

  good : shape_number s ≡ 0
  good = shape_number-true s asked.sound.shape

  -- record i
  abbrev r : Record
  r = record_of s (record_at file i)

  record-at : get_or (records_from s n 0 file) i r ≡ r
  record-at =
      let start : 0 + record_size * i ≡ record_size * i = omega arith in
      get_d-records_from s n i 0 file r l ∙ ap (λ at. record_of s (field file at record_size)) start

  within : i < length (records_from s n 0 file)
  within = omega (arith, length-records_from s n 0 file)

  inside : in_shape s r ≡ true
  inside =
      let rs = records_from s n 0 file in
      ap (in_shape s) (sym record-at) ∙ all_get_d (in_shape s) rs i r (in_shape-of-is_set s rs asked.set) within

  -- the values and the content that are read from it
  module _ (values : List ℕ) (content : Content) (values-read : values ≡ values_of s (encodings_at (bias_key s) file i))
      (content-read : content ≡ content_in (record_at file i)) where
    pub joined_key : key_number between values ≡ 0
    joined_key =
        key_number-sound between (records_from s i 0 file) values so_far.shown
        ((λ k. key_fits (so_far.shape-kept k) (values-read k)) ∙ key_fits-bytes s good (record_at file i) inside)

    -- the model takes the record, the next in split order
    accepts : add_next (fixed_of before.state) (records_from s i 0 file) values content ≡ records_from s (suc i) 0 file
    accepts =
        let rs = records_from s n 0 file in
        let same : r ≡ record_for s values content =
        sym (record_for-bytes s good (record_at file i) inside)
        ∙ (λ k. record_for s (sym values-read k) (sym content-read k)) in
        ap (λ T. add_next (fixed_of before.state) T values content) (sym (take-records_from s i n 0 file (omega arith)))
        ∙ add_next-take (fixed_of before.state) rs asked.set r good asked.room i within values content
        (ap (key_fits s) values-read ∙ key_fits-bytes s good (record_at file i) inside) (record-at ∙ same)
        ∙ take-records_from s (suc i) n 0 file (omega arith)

    -- shape, P and L stay
    fixed_kept : fixed_of between.state ≡ fixed_of before.state
    fixed_kept =
        λ k. record {
          shape = so_far.shape-kept k;
          page_limit = (so_far.limits-kept k).pages;
          depth_limit = (so_far.limits-kept k).depth;
        }

    -- record i joins those before it
    pub joined-more : (answer : Answer Reply) (after : Store) → AddPromise between values content answer after
        → Joined before (i + 1) file after
    joined-more answer after added =
        let shape = so_far.shape-kept in
        let limits = so_far.limits-kept in
        record {
          shape-kept = added.shape-kept ∙ shape;
          limits-kept = added.limits-kept ∙ limits;
          words-length = added.words-length ∙ so_far.words-length;
          bytes-length = added.bytes-length ∙ so_far.bytes-length;
          words-past =
              (λ k. drop (2 ^ (sym limits k).depth) after.memory.words)
              ∙ added.words-past
              ∙ (λ k. drop (2 ^ (limits k).depth) between.memory.words)
              ∙ so_far.words-past;
          bytes_past =
              (λ k. drop ((sym limits k).pages * page_size (sym shape k).capacity) after.memory.bytes)
              ∙ added.bytes_past
              ∙ (λ k. drop ((limits k).pages * page_size (shape k).capacity) between.memory.bytes)
              ∙ so_far.bytes_past;
          shown =
              subst (λ (S : List Record). Sound after S)
              (ap (λ (f : Fixed). add_next f (records_from s i 0 file) values content) fixed_kept
              ∙ accepts ∙ ap (λ k. records_from s k 0 file) (sym (add-one i)))
              (added.shown (records_from s i 0 file) so_far.shown);
        }

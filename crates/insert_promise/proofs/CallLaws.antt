-- Laws of a record that is added to a page with room or to an empty leaf: what the steps ask holds, and what they leave
-- keeps the promise. Assumes nothing.
use Prim.Native.Nat.{ℕ, ◌^◌, ◌≤◌, ◌<◌}
use mathlib.Core.Path.{◌≡◌, refl, sym, ap, ◌∙◌, subst}
use mathlib.Core.List.{List}
use native.Mathlib.Omega.{arith}
use lib.ListN.{length}
use Rattle.shape.specs.Shape.{widths_of}
use Rattle.shape.specs.declared.Shape.{Shape}
use Rattle.shape.proofs.ShapeLaws.{capacity-bounds}
use Rattle.split.specs.Bits.{split_bit}
use Rattle.directory.specs.Directory.{Filled}
use Rattle.directory_lent.specs.Lent.{DirectoryLent}
use Rattle.record.specs.declared.Content.{Content}
use Rattle.record.specs.Lanes.{fields_key}
use Rattle.record.specs.Packed.{packed_key, packed_bytes}
use Rattle.pages.specs.Pages.{PageLent}
use Rattle.directory_word.specs.Word.{word_of}
use Rattle.directory_word.specs.declared.Leaf.TheVariants.{Empty, Page}
use Rattle.store.specs.Store.{Store, memory, store}
use Rattle.change_kept.specs.Tested.{LeafTested}
use Rattle.change_kept.proofs.ContainedLaws.{contained-taken, contained-got}
use Rattle.insert_planned.specs.Planned.{RoomFound, GetPlanned}
use Rattle.insert_planned.proofs.MetLaws.{directory-lent}
use Rattle.insert_pages.specs.Inserted.{inserted_pages}
use Rattle.insert_promise.proofs.TakeLaws.{AcceptedMet, page-lent, promise-taken, promise-got}

module _ (before : Store) (encoded : List ℕ) (content : Content) where
  abbrev s : Shape
  s = before.state.shape

  abbrev b : ℕ
  b = s.capacity

  abbrev bytes : List ℕ
  bytes = before.memory.bytes

  module _ (small : content.payload < 2 ^ 32) (key : ℕ) (ek : key ≡ fields_key s (packed_key encoded)) where
    -- ---- a page takes the record

    module _ (g x i n : ℕ) (taken : RoomFound before encoded g x i n) where
      pub lent-taken : PageLent b g bytes × (i ≤ n) × (n < b)
      lent-taken = (page-lent before encoded taken.asked g taken.met.within, taken.place.0, taken.room)

      pub by-taken : (bytes' : List ℕ) → bytes' ≡ inserted_pages b g i n (packed_bytes key content) bytes
          → AcceptedMet before encoded content x (store before.state before.memory.words bytes')
      by-taken bytes' d =
          subst
          (λ bs. AcceptedMet before encoded content x (store before.state before.memory.words bs))
          (sym (d ∙ ap (λ k. inserted_pages b g i n (packed_bytes k content) bytes) ek))
          (promise-taken before encoded content taken.asked small g x i n taken
          (contained-taken before encoded (fields_key s (packed_key encoded)) content g x i n taken lent-taken _ refl))

    -- ---- an empty leaf gets a page

    module _ (g x : ℕ) (got : GetPlanned before encoded g x)
        (whole : LeafTested before.state before.memory.words encoded x (word_of (Empty x))) where
      pub lent-got : PageLent b g bytes × (0 ≤ 0) × (0 < b)
      lent-got = (
        page-lent before encoded got.found.asked g got.within,
        omega arith,
        (capacity-bounds s got.found.asked.passed.shape).0,
      )

      pub word-asked : DirectoryLent before.state (length before.memory.words) × (x ≤ before.state.deepest)
          × (g < 65535)
      word-asked = (
        directory-lent before encoded got.found.asked,
        got.found.depth_le,
        omega (arith, got.within, got.found.asked.pages-lent.few),
      )

      pub by-got : (words' : List ℕ)
          → Filled (widths_of s) before.state.deepest x (split_bit (widths_of s) encoded) (word_of (Page g x))
          before.memory.words words'
          → (bytes' : List ℕ) → bytes' ≡ inserted_pages b g 0 0 (packed_bytes key content) bytes
          → AcceptedMet before encoded content x (store before.state words' bytes')
      by-got words' filled bytes' d =
          subst
          (λ bs. AcceptedMet before encoded content x (store before.state words' bs))
          (sym (d ∙ ap (λ k. inserted_pages b g 0 0 (packed_bytes k content) bytes) ek))
          (promise-got before encoded content got.found.asked small g x got words' filled
          (contained-got before encoded (fields_key s (packed_key encoded)) content g x got lent-got whole words' filled _ refl))

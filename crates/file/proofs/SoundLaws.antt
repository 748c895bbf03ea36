-- The set of a sound store has a file: its records are few, and their payloads are those of pages. Assumes nothing.
use Prim.Native.Nat.{ℕ, ◌*◌, ◌^◌, ◌≤◌, ◌<◌}
use mathlib.Core.Path.{◌≡◌, ap, subst}
use mathlib.Core.List.{List, [], ◌∷◌}
use native.Mathlib.Nat.{mul-le-mul, mul-le-mul_right}
use native.Mathlib.Omega.{arith}
use lib.ListN.{length}
use Rattle.lists.specs.Members.{All}
use Rattle.lists.proofs.MemberLaws.{All-imp}
use Rattle.shape.specs.declared.Shape.{Shape}
use Rattle.shape.proofs.ShapeLaws.{capacity-bounds}
use Rattle.region.specs.Division.{all_records, leaf_depth, leaf_records}
use Rattle.record.specs.Record.{Record}
use Rattle.record.proofs.ByteLaws.{AreBytes, FitsBytes, AreBytes-field}
use Rattle.page.specs.Page.{page_size, count_of, page_at}
use Rattle.page.proofs.PageLaws.{All-records_from}
use Rattle.store.specs.Store.{Store}
use Rattle.store.specs.Sound.{LeafWord, Sound}
use Rattle.store.proofs.SetLaws.{all_records-division_of, length-leaf_records}
use Rattle.store.proofs.ShownLaws.{word_on, division_on, shape-of-Sound}
use Rattle.store.proofs.RoomLaws.{non_empty_leaves-le-pages}
use Rattle.file.specs.File.{file_size}
use Rattle.file.proofs.FileLaws.{SmallPayloads}
use Rattle.file.proofs.LeafLaws.{All-all_records, length-all_records-le}

-- the records of a leaf are those of its page
fits-of-LeafWord : (s : Shape) (P : ℕ) (bytes : List ℕ) → AreBytes bytes → (rs : List Record) (x word : ℕ)
    → LeafWord s P bytes rs x word → All FitsBytes rs
fits-of-LeafWord s P bytes are [] x word h = tt
fits-of-LeafWord s P bytes are (r ∷ rs) x word h =
    let page = page_at s.capacity bytes h.0 in
    let page-are = AreBytes-field bytes (h.0 * page_size s.capacity) (page_size s.capacity) are in
    subst (All FitsBytes) h.3 (All-records_from s page page-are (count_of page) 2)

module _ (store : Store) (S : List Record) (sound : Sound store S) where
  whole : all_records (division_on store S) ≡ S
  whole = all_records-division_of store.state.shape S sound.set

  -- ---- how many

  pub length-set-le-pages : length S ≤ store.state.limits.pages * store.state.shape.capacity
  length-set-le-pages =
      let leaf-le = length-leaf_records store.state.shape S sound.set sound.shape in
      let leaves = length-all_records-le store.state.shape.capacity (division_on store S) leaf-le in
      let pages = mul-le-mul_right store.state.shape.capacity (non_empty_leaves-le-pages store S sound) in
      omega (arith, leaves, pages, ap length whole)

  -- 4,096 pages of 16 records at most
  pub length-set-le : length S ≤ 65536
  length-set-le =
      let most : store.state.limits.pages * store.state.shape.capacity ≤ 4096 * 16 =
      mul-le-mul sound.most-pages (capacity-bounds store.state.shape (shape-of-Sound store S sound)).1 in
      omega (arith, length-set-le-pages, most)

  pub file_size-set-lt : file_size (length S) < 2 ^ 32
  file_size-set-lt = omega (arith, length-set-le)

  -- ---- what they hold

  pub fits-of-sound : AreBytes store.memory.bytes → All FitsBytes S
  fits-of-sound are =
      subst (All FitsBytes) whole
      (All-all_records FitsBytes (division_on store S)
      (λ p.
      fits-of-LeafWord store.state.shape store.state.limits.pages store.memory.bytes are
      (leaf_records p 0 (division_on store S)) (leaf_depth p 0 (division_on store S)) (word_on store p)
      (sound.shown.word p)))

  pub payloads-of-sound : AreBytes store.memory.bytes → SmallPayloads S
  payloads-of-sound are = All-imp FitsBytes _ (λ r f. f.payload-below) S (fits-of-sound are)

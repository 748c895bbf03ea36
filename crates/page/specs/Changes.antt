-- What the steps on one page leave of its bytes, and the lists of records that they stand for. A run of bytes put over
-- others is the library's `paste`. Assumes nothing.
use Rattle.std.specs.Prelude.{ℕ, suc, ◌+◌, ◌-◌, ◌*◌, List, ◌∷◌, ◌++◌, take, drop}
use Rattle.std.proofs.Math.Seq.{paste}
use Rattle.record.specs.Bytes.{record_size, little_endian}
use Rattle.page.specs.Fields.{record_offset}

-- ---- bytes

-- the page with another count: it has its first n records
unfoldable pub counted_page : ℕ → List ℕ → List ℕ
counted_page n page = paste page 0 (little_endian 2 n) 2

-- a page of n records with one more, given by its bytes, at place i: those from i on move up by one record
unfoldable pub inserted_page : ℕ → ℕ → List ℕ → List ℕ → List ℕ
inserted_page i n bytes page =
    let from = record_offset i in
    let moved = paste page (from + record_size) (drop from page) (record_size * (n - i)) in
    counted_page (n + 1) (paste moved from bytes record_size)

-- a page of n records without record i: those behind it move down by one record
unfoldable pub removed_page : ℕ → ℕ → List ℕ → List ℕ
removed_page i n page =
    let to = record_offset i in
    counted_page (n - 1) (paste page to (drop (to + record_size) page) (record_size * (n - i - 1)))

-- a page of n records with the k records that `source` begins with behind them
unfoldable pub appended_page : ℕ → ℕ → List ℕ → List ℕ → List ℕ
appended_page n k source page = counted_page (n + k) (paste page (record_offset n) source (record_size * k))

-- ---- lists

-- a list with one element more, at place i
unfoldable pub insert_at : {A : Type 0} → ℕ → A → List A → List A
insert_at i x xs = take i xs ++ (x ∷ drop i xs)

-- a list without element i
unfoldable pub remove_at : {A : Type 0} → ℕ → List A → List A
remove_at i xs = take i xs ++ drop (suc i) xs

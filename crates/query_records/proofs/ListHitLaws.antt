-- Laws of the records of some pages that pass a test: they are whole records, and those that pass a test of records.
-- Assumes nothing.
use Prim.Native.Nat.{ℕ, zero, suc, ◌*◌, ◌≤◌, ◌<◌}
use mathlib.Core.Path.{◌≡◌, refl, ◌∙◌}
use mathlib.Core.Bool.{Bool}
use mathlib.Core.List.{List, [], ◌∷◌, ◌++◌, map, flat_map}
use native.Mathlib.Omega.{arith}
use lib.ListN.{length, get_or, take}
use Rattle.lists.specs.Filter.{filter}
use Rattle.lists.specs.Members.{All}
use Rattle.lists.proofs.MemberLaws.{All-append}
use Rattle.shape.specs.declared.Shape.{Shape}
use Rattle.record.specs.Record.{Record}
use Rattle.record.specs.Bytes.{record_of}
use Rattle.record.proofs.ByteLaws.{AreBytes, AreBytes-field}
use Rattle.page.specs.Page.{count_of, page_size, page_at, records_of}
use Rattle.page.proofs.PlaceLaws.{map-append}
use Rattle.page_matches.proofs.EmitLaws.{IsField}
use Rattle.page_matches.proofs.HitLaws.{IsField-hits, map-hits}
use Rattle.query_records.specs.Records.{PageWithin, page_hits, list_hits}
use Rattle.query_records.proofs.MatchedLaws.{records-lent}

-- the first n words of a list
pub All-take-of : (P : ℕ → Type 0) (xs : List ℕ) (n : ℕ) → n ≤ length xs
    → ((i : ℕ) → i < n → P (get_or xs i 0)) → All P (take n xs)
All-take-of P xs zero l h = tt
All-take-of P [] (suc n) l h = absurd (omega arith)
All-take-of P (x ∷ xs) (suc n) l h =
    (h 0 (omega arith), All-take-of P xs n (omega arith) (λ i k. h (suc i) (omega arith)))

module _ (b : ℕ) (bytes : List ℕ) (are : AreBytes bytes) (test : List ℕ → Bool) where
  pub IsField-list_hits : (gs : List ℕ) → All (PageWithin b bytes) gs → All IsField (list_hits test b bytes gs)
  unfolding list_hits flat_map
  IsField-list_hits [] h = tt
  IsField-list_hits (g ∷ gs) h =
      let page = page_at b bytes g in
      All-append IsField (page_hits test page) (list_hits test b bytes gs)
      (IsField-hits test (count_of page) page (AreBytes-field bytes (g * page_size b) (page_size b) are)
      (records-lent b bytes g h.0))
      (IsField-list_hits gs h.1)

  -- a test of bytes that is a test of the record which they hold
  pub map-list_hits : (s : Shape) (wanted : Record → Bool)
      → ((f : List ℕ) → AreBytes f → test f ≡ wanted (record_of s f)) → (gs : List ℕ) → All (PageWithin b bytes) gs
      → map (record_of s) (list_hits test b bytes gs)
      ≡ flat_map (λ g. filter wanted (records_of s (page_at b bytes g))) gs
  unfolding list_hits flat_map
  map-list_hits s wanted same [] h = refl
  map-list_hits s wanted same (g ∷ gs) h =
      let page = page_at b bytes g in
      map-append (record_of s) (page_hits test page) (list_hits test b bytes gs)
      ∙ (λ i. map-hits s test wanted same (count_of page) page
      (AreBytes-field bytes (g * page_size b) (page_size b) are) (records-lent b bytes g h.0) i
      ++ map-list_hits s wanted same gs h.1 i)

-- The pages that a walk noted and the records in them that pass a test of their bytes, one page after the other.
-- Assumes nothing.
use Rattle.std.specs.Prelude.{ℕ, ◌+◌, ◌*◌, ◌/◌, ◌%◌, ◌^◌, ◌≤◌, ◌<◌, ◌≡◌, Bool, length, get_or}
use mathlib.Core.List.{List, flat_map}
use Rattle.page.specs.Page.{count_of, page_size, page_at}
use Rattle.page.specs.Fields.{fields_from}
use Rattle.page_matches.specs.Mask.{match_mask, picked_by}
use Rattle.page_matches.specs.Output.{hits, emit}

-- ---- pages

-- page g lies within the lent bytes, with a count of at most b
pub record PageWithin (b : ℕ) (bytes : List ℕ) (g : ℕ) : Type 0 where
  pub number : g < 4096
  pub lent : g * page_size b + page_size b ≤ length bytes
  pub counted : count_of (page_at b bytes g) ≤ b

-- a matched page as one word: its number, and 4,096 times the mask of its records that match
abbrev pub matched_page : ℕ → ℕ
matched_page e = e % 4096

abbrev pub matched_mask : ℕ → ℕ
matched_mask e = e / 4096

-- its page lies within the lent bytes, and its mask has a bit for each of b records
pub record MatchedWithin (b : ℕ) (bytes : List ℕ) (e : ℕ) : Type 0 where
  pub lent : matched_page e * page_size b + page_size b ≤ length bytes
  pub masked : matched_mask e < 2 ^ b

-- the first n words of a list are such pages, matched or not
pub record ListOf (P : ℕ → Type 0) (b n : ℕ) (list : List ℕ) : Type 0 where
  pub capacity : b ≤ 16
  pub few : n ≤ 4096
  pub within : n ≤ length list
  pub each : (i : ℕ) → i < n → P (get_or list i 0)

-- what is asked to put the records of a page, or of a matched one, behind so many others
pub record PutAsked (P : ℕ → Type 0) (b x total : ℕ) : Type 0 where
  pub capacity : b ≤ 16
  pub page : P x
  pub before : total ≤ 65536

-- ---- records

-- the records of a page that pass
abbrev pub page_hits : (List ℕ → Bool) → List ℕ → List (List ℕ)
page_hits test page = hits test (count_of page) page

-- those of some pages
unfoldable pub list_hits : (List ℕ → Bool) → ℕ → List ℕ → List ℕ → List (List ℕ)
list_hits test b bytes gs = flat_map (λ g. page_hits test (page_at b bytes g)) gs

-- the mask of the records of a page that pass
abbrev pub page_mask : (List ℕ → Bool) → List ℕ → ℕ
page_mask test page = match_mask test page (count_of page) 0

-- all records of page g, and those of a matched page that match
abbrev pub page_fields : ℕ → List ℕ → ℕ → List (List ℕ)
page_fields b bytes g = fields_from (count_of (page_at b bytes g)) 2 (page_at b bytes g)

abbrev pub matched_fields : ℕ → List ℕ → ℕ → List (List ℕ)
matched_fields b bytes e = picked_by (matched_mask e) (page_at b bytes (matched_page e))

-- the records of each word of a list were written into the output from its start on, and so many were counted
pub record Emitted (f : ℕ → List (List ℕ)) (words before after : List ℕ) (total : ℕ) : Type 0 where
  pub all : total ≡ length (flat_map f words)
  pub most : total ≤ 65536
  pub bytes : after ≡ emit before 0 (flat_map f words)

-- A marked store is the unmarked store of its encodings (document 02, request 4): "Split order, regions and queries go
-- by encodings from then on". Answers, sets and lists of the model are the same for calls that give encodings in place
-- of values; a sound store stays sound, with its words, T and tally as they are, where its pages hold encodings in
-- place of values and its shape has no marks; every sound store has such pages. Assumes nothing.
use Rattle.std.specs.Prelude.{ℕ, ◌<◌, ◌≡◌, List, [], map, ◌↔◌, length, get_or, take}
use Rattle.shape.specs.Refusal.{Answer}
use Rattle.shape.specs.Key.{encodings, encoded_wanted}
use Rattle.shape.specs.declared.Shape.{Shape}
use Rattle.range_box.specs.Box.{box_of}
use Rattle.record.specs.Record.{Record}
use Rattle.page.specs.Page.{count_of, records_of, page_at}
use Rattle.model.specs.Model.{Fixed, Call, insert_call, delete_call, lookup_call, query_call, range_call, Reply, Outcome}
use Rattle.model.specs.Model.{matching, inside, written_for, outcome, next, run, last_set}
use Rattle.store.specs.Store.{Memory, store}
use Rattle.store.specs.Sound.{Sound}
use Rattle.store.specs.Fresh.{fresh_refusals, fresh_state, fresh_memory}
use Rattle.store.specs.declared.State.{State}

-- ---- without marks

abbrev pub unmarked : Shape → Shape
unmarked s = record { attributes = s.attributes; widths = s.widths; capacity = s.capacity; signs = 0 }

abbrev pub unmarked_fixed : Fixed → Fixed
unmarked_fixed f = record { shape = unmarked f.shape; page_limit = f.page_limit; depth_limit = f.depth_limit }

abbrev pub unmarked_state : State → State
unmarked_state st =
    record { shape = unmarked st.shape; limits = st.limits; deepest = st.deepest; tally = st.tally }

-- ---- calls

-- a call that gives encodings in place of values
abbrev pub encoded_call : Shape → Call → Call
encoded_call s (insert_call values content) = insert_call (encodings s values) content
encoded_call s (delete_call values) = delete_call (encodings s values)
encoded_call s (lookup_call values) = lookup_call (encodings s values)
encoded_call s (query_call q out) = query_call (encoded_wanted s q) out
encoded_call s (range_call r out) = range_call (box_of s r) out

-- the records that an accepted call writes into its output
abbrev pub records_listed : Fixed → List Record → Call → List Record
records_listed f S (insert_call values content) = []
records_listed f S (delete_call values) = []
records_listed f S (lookup_call values) = []
records_listed f S (query_call q out) = take (written_for (matching f S q) out) (matching f S q)
records_listed f S (range_call r out) = take (written_for (inside f S r) out) (inside f S r)

-- number, payload, depth, written, total and reads; the set afterwards; the records in the output, whose fields alone
-- differ
pub record CallTwin (f : Fixed) (S : List Record) (c : Call) : Type 0 where
  pub same_answer : (outcome f S c).answer ≡ (outcome (unmarked_fixed f) S (encoded_call f.shape c)).answer
  pub same_set : next f S c ≡ next (unmarked_fixed f) S (encoded_call f.shape c)
  pub same-list : records_listed f S c ≡ records_listed (unmarked_fixed f) S (encoded_call f.shape c)

-- and so for every list of calls
abbrev pub answers_of : List Outcome → List (Answer Reply)
answers_of os = map (λ o. o.answer) os

pub record RunTwin (f : Fixed) (S : List Record) (calls : List Call) : Type 0 where
  pub same-answers : answers_of (run f S calls)
      ≡ answers_of (run (unmarked_fixed f) S (map (encoded_call f.shape) calls))
  pub same_set : last_set f S calls ≡ last_set (unmarked_fixed f) S (map (encoded_call f.shape) calls)

-- ---- stores

-- `encoded` holds, page by page, encodings where `bytes` holds values: as many records, and the same ones
pub record Encoded (st : State) (bytes encoded : List ℕ) : Type 0 where
  pub same_length : length encoded ≡ length bytes
  pub same_count : (g : ℕ) → g < st.limits.pages
      → count_of (page_at st.shape.capacity encoded g) ≡ count_of (page_at st.shape.capacity bytes g)
  pub same-records : (g : ℕ) → g < st.limits.pages
      → records_of (unmarked st.shape) (page_at st.shape.capacity encoded g)
      ≡ records_of st.shape (page_at st.shape.capacity bytes g)

-- the same words, T and tally show the same set, with pages of values and marks or with pages of encodings and none
abbrev pub SoundTwin : Type 0
SoundTwin =
    (st : State) (words bytes encoded : List ℕ) → Encoded st bytes encoded → (S : List Record)
    → Sound (store st words bytes) S ↔ Sound (store (unmarked_state st) words encoded) S

-- every sound store has such pages; its bytes and theirs are below 256, as those of a slice are
abbrev pub TwinExists : Type 0
TwinExists =
    (st : State) (words bytes : List ℕ) → ((i : ℕ) → get_or bytes i 0 < 256) → (S : List Record)
    → Sound (store st words bytes) S
    → (encoded : List ℕ) × Encoded st bytes encoded × ((i : ℕ) → get_or encoded i 0 < 256)

-- Fresh answers alike, with the value that a refusal carries, and leaves the same words, bytes, T and tally
pub record FreshTwin (s : Shape) (m : Memory) : Type 0 where
  pub same-refusals : fresh_refusals s m ≡ fresh_refusals (unmarked s) m
  pub same_memory : fresh_memory s m ≡ fresh_memory (unmarked s) m
  pub same-state : unmarked_state (fresh_state s m) ≡ fresh_state (unmarked s) m

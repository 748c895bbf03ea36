-- The reply to what a command line asks (document 01, "Proof table and the printed run"). Assumes nothing.
use Rattle.std.specs.Prelude.{ℕ, ◌≡◌, true, List}
use Rattle.shape.specs.Refusal.{Answer}
use Rattle.model.specs.Model.{Reply}
use Rattle.store.specs.Store.{store, memory}
use Rattle.store.specs.declared.State.{State}
use Rattle.store.specs.Fresh.{FreshPromise}
use Rattle.store.specs.Promises.{InsertPromise, DeletePromise, QueryPromise}
use Rattle.stock_text.specs.Text.{Grown, bad_text, refused_text}
use Rattle.stock_command.specs.Asked.{Asked, nothing, no_shape, new_shape, put, cut, list}
use Rattle.stock_command.specs.Session.{Begun}
use Rattle.stock_command.specs.declared.session.Session.{Session}
use Rattle.stock_replies.specs.Replies.{answer_text, listed_text}
use Rattle.stock_console.specs.declared.Next.{Next}

-- the memory that the program lends: words, pages, output
pub record StockMemory : Type 0 where
  pub words : List ℕ
  pub bytes : List ℕ
  pub output : List ℕ

abbrev pub stock_memory : List ℕ → List ℕ → List ℕ → StockMemory
stock_memory words bytes output = record { words = words; bytes = bytes; output = output }

-- what a line asked was done, and replied to with a text
abbrev pub Replied : Asked → Session → StockMemory → List ℕ → Session → StockMemory → Type 0
Replied nothing before m text after m' = (text ≡ bad_text) × (after ≡ before) × (m' ≡ m)
Replied no_shape before m text after m' = (text ≡ refused_text 1) × (after ≡ before) × (m' ≡ m)
Replied (new_shape s) before m text after m' =
    (answer : Answer (Unit {0})) × (fresh : State)
    × FreshPromise s (memory m.words m.bytes) answer (store fresh m'.words m'.bytes)
    × Begun before answer fresh after × (text ≡ answer_text answer) × (m'.output ≡ m.output)
Replied (put values content) before m text after m' =
    (answer : Answer Reply)
    × InsertPromise (store before.state m.words m.bytes) values content answer
    (store after.state m'.words m'.bytes)
    × (text ≡ answer_text answer) × (after.begun ≡ true) × (m'.output ≡ m.output)
Replied (cut values) before m text after m' =
    (answer : Answer Reply)
    × DeletePromise (store before.state m.words m.bytes) values answer
    (store after.state m'.words m'.bytes)
    × (text ≡ answer_text answer) × (after.begun ≡ true) × (m'.output ≡ m.output)
Replied (list q) before m text after m' =
    (answer : Answer Reply)
    × QueryPromise (store before.state m.words m.bytes) q m.output answer m'.output
    × (text ≡ listed_text before.state.shape.attributes answer m'.output) × (after ≡ before)
    × (m'.words ≡ m.words) × (m'.bytes ≡ m.bytes)

-- the reply was written into a text from offset `at` on
pub record ReplyPromise (asks : Asked) (before : Session) (m : StockMemory) (text : List ℕ) (at : ℕ) (next : Next)
    (m' : StockMemory) (text' : List ℕ) : Type 0 where
  pub bytes : List ℕ
  pub grown : Grown text at bytes text' next.end
  pub replied : Replied asks before m bytes next.session m'

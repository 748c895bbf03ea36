-- Laws of the key's record as the plan of a delete finds it: its page, its bounds, the words that are never changed;
-- the early refusals. Assumes nothing.
use Prim.Native.Nat.{ℕ, ◌^◌, ◌≤◌, ◌<◌}
use mathlib.Core.Path.{◌≡◌, sym, subst, ◌∙◌}
use mathlib.Core.Bool.{true}
use mathlib.Core.List.{List}
use native.Mathlib.Nat.{le_trans}
use lib.ListN.{drop}
use Rattle.lists.specs.Filter.{non_empty}
use Rattle.shape.specs.Refusal.{answered_by, told}
use Rattle.shape.specs.Shape.{widths_of, index_fits}
use Rattle.shape.specs.declared.Shape.{Shape}
use Rattle.shape.specs.declared.refusal.Refusal.{Refusal}
use Rattle.shape.proofs.RefusalLaws.{answered_by-named}
use Rattle.shape.proofs.TestLaws.{told-answered_by, told-suc}
use Rattle.directory.specs.Directory.{Filled}
use Rattle.record.specs.Record.{Record}
use Rattle.page.specs.Page.{count_of, page_at}
use Rattle.pages.specs.Pages.{PageLent}
use Rattle.model.specs.Model.{changed}
use Rattle.model.specs.Sets.{stored}
use Rattle.store.specs.Store.{Store, memory}
use Rattle.store.specs.Sound.{Sound}
use Rattle.store.specs.Promises.{key_refusals, DeletePromise}
use Rattle.store.proofs.NumberLaws.{named-key}
use Rattle.store.proofs.ShownLaws.{page_records}
use Rattle.change.specs.Delete.{key_string}
use Rattle.change.proofs.PromiseLaws.{drop-of-past}
use Rattle.change.proofs.DeletePromiseLaws.{delete-early}
use Rattle.refusals.proofs.LimitsLaws.{limits-parts}
use Rattle.delete_plan.specs.Plan.{RecordFound}
use Rattle.delete_plan.specs.declared.Stored.{Stored}
use Rattle.delete_plan.proofs.MetLaws.{page_lent}
use Rattle.delete_pages.specs.PageBytes.{RecordLent}
use Rattle.delete_promise.proofs.SoundPageLaws.{stored_here}

-- 1, 14, 15, 2 or 3
pub promise-early : (before : Store) (values : List ℕ) (r : Refusal)
    → told r ≡ answered_by (key_refusals before values) (tt {0}) → DeletePromise before values (told r) before
promise-early before values r e =
    let cs = key_refusals before values in
    let k = told-suc (tt {0}) r cs e in
    subst (λ a. DeletePromise before values a before)
    (sym
    (told-answered_by (tt {0}) r cs (changed 0) e
    ∙ answered_by-named before.state.shape (changed 0) cs (named-key before values) k.0 k.1))
    (delete-early before values k.0 k.1)

module _ (before : Store) (encoded : List ℕ) (r : Stored) where
  abbrev s : Shape
  s = before.state.shape

  abbrev P : ℕ
  P = before.state.limits.pages

  abbrev T : ℕ
  T = before.state.deepest

  abbrev L : ℕ
  L = before.state.limits.depth

  abbrev b : ℕ
  b = s.capacity

  abbrev words : List ℕ
  words = before.memory.words

  abbrev bytes : List ℕ
  bytes = before.memory.bytes

  -- what holds of a key's record that the plan found
  pub record RecordFacts : Type 0 where
    pub fits : index_fits (widths_of s) encoded ≡ true
    -- each of the P pages is lent
    pub lent : (h : ℕ) → h < P → PageLent b h bytes
    pub own : PageLent b r.page bytes
    pub count : count_of (page_at b bytes r.page) ≡ r.count
    -- in a sound store the page of the key's leaf has its record
    pub found : (S : List Record) → Sound before S → non_empty (stored encoded (page_records s bytes r.page)) ≡ true
    -- "Words past the first 2^L .. are never changed"
    pub words-past : (T' x word : ℕ) (words' : List ℕ) → T' ≤ T
        → Filled (widths_of s) T' x (key_string before encoded) word words words'
        → drop (2 ^ L) words' ≡ drop (2 ^ L) words

  module _ (f : RecordFound before encoded r) where
    lent : (h : ℕ) → h < P → PageLent b h bytes
    lent = page_lent before encoded r.page r.depth f.leaf

    pub record_facts : RecordFacts
    record_facts =
        record {
          fits = f.leaf.passed.fits;
          lent = lent;
          own = lent r.page f.leaf.own-within;
          count = sym f.counted;
          found = λ S sound.
              stored_here before S sound encoded f.leaf.passed.four f.leaf.passed.fits r.page r.depth
              f.leaf.own-within f.leaf.own r.place r.count (sym f.counted) f.place-lt f.here;
          words-past = λ T' x word words' h w.
              drop-of-past T' L words words' (le_trans h (limits-parts before.state f.leaf.limits).4) w.size
              w.past;
        }

    pub record_lent : RecordLent b r bytes
    record_lent = record { page = lent r.page f.leaf.own-within; place-lt = f.place-lt; few = f.few }

-- Wrong checks of document 01: each contradicts `CheckPromise` on a small store. Assumes nothing.
use Prim.Native.Nat.{ℕ}
use mathlib.Core.Path.{◌≡◌, refl, sym, ap, ◌∙◌}
use mathlib.Core.Bool.{Bool, true, false, false≢true}
use mathlib.Core.List.{List, [], ◌∷◌}
use mathlib.Core.Logic.{⊎_elim}
use native.Mathlib.Omega.{arith}
use lib.ListN.{get_or}
use Rattle.shape.specs.Refusal.{Answer, accepted, refused, first_number}
use Rattle.shape.specs.Shape.{shape_conditions}
use Rattle.region.specs.Strings.{empty_string}
use Rattle.region.specs.Division.{Division, leaf, divided, greatest_depth}
use Rattle.record.specs.Record.{Record}
use Rattle.record.specs.Bytes.{record_bytes}
use Rattle.directory_word.specs.Word.{word_of}
use Rattle.directory_word.specs.declared.Leaf.TheVariants.{Page}
use Rattle.model.specs.Sets.{division_of}
use Rattle.store.specs.Store.{Store, word_at, lent_conditions}
use Rattle.store.specs.Sound.{Sound, LeafWord}
use Rattle.store.specs.Promises.{CheckPromise, lent_number}
use Rattle.table.specs.Table.{two_two}
use Rattle.refutation.specs.Stores.{no_record, wrong_tally, word_past_pages, page_not_free}
use Rattle.refutation.proofs.ChangeLaws.{refused-not-accepted}
use Rattle.refutation.proofs.ComputedLaws.{cells}
use Rattle.refutation.proofs.OneLeafSound.{no_record-sound}

-- ---- unsound stores

-- one leaf, where T is 0
pub one-leaf : (D : Division Record) → 0 ≡ greatest_depth D → (rs : List Record) × (D ≡ leaf rs)
one-leaf (leaf rs) e = (rs, refl)
one-leaf (divided l u) e = absurd (omega arith)

wrong_tally-unsound : (S : List Record) → Sound wrong_tally S → ⊥
wrong_tally-unsound S h =
    let shape = one-leaf (division_of two_two S) h.deepest in
    let leaves : ◌≡◌ {A = ℕ} 0 1 = ap (λ ns. get_or ns 0 0) (rw shape.1 at h.tallied) in
    omega (arith, leaves)

word_past_pages-unsound : (S : List Record) → Sound word_past_pages S → ⊥
word_past_pages-unsound S h =
    let shape = one-leaf (division_of two_two S) h.deepest in
    by-records shape.0 (rw shape.1 at (h.shown.word empty_string))
  where
    by-records : (rs : List Record)
        → LeafWord two_two 3 word_past_pages.memory.bytes rs 0
        (word_at two_two 0 word_past_pages.memory.words empty_string) → ⊥
    by-records [] w = let word = sym ((cells word_past_pages.memory.words).root empty_string) ∙ w in omega (arith, word)
    by-records (r ∷ rs) w =
        let word = sym ((cells word_past_pages.memory.words).root empty_string) ∙ w.2 in
        omega (arith, word, w.1)

page_not_free-unsound : (S : List Record) → Sound page_not_free S → ⊥
page_not_free-unsound S h =
    let count : ◌≡◌ {A = ℕ} 1 0 = h.shown.free 0 (omega arith) no-leaf in
    omega (arith, count)
  where
    no-leaf : (p : ℕ → Bool) (x : ℕ) → word_at two_two 0 page_not_free.memory.words p ≡ word_of (Page 0 x) → ⊥
    no-leaf p x w = let word = sym ((cells page_not_free.memory.words).root p) ∙ w in omega (arith, word)

-- ---- "a check that always says yes" (review, 5)

pub same-verdict : {β γ : Bool} → accepted β ≡ accepted γ → β ≡ γ
same-verdict e = cc

pub yes-to-unsound : (store : Store) → lent_number store ≡ 0 → ((S : List Record) → Sound store S → ⊥)
    → CheckPromise store (accepted true) → ⊥
yes-to-unsound store e unsound p =
    ⊎_elim (λ yes. unsound yes.1.0 yes.1.1) (λ other. false≢true (sym (same-verdict other.0))) (p.verdict e)

-- to a tally of other leaves
pub yes-to-tally : CheckPromise wrong_tally (accepted true) → ⊥
unfolding lent_conditions shape_conditions first_number
yes-to-tally = yes-to-unsound wrong_tally refl wrong_tally-unsound

-- to a "word with page number P"
pub yes-to-word : CheckPromise word_past_pages (accepted true) → ⊥
unfolding lent_conditions shape_conditions first_number record_bytes
yes-to-word = yes-to-unsound word_past_pages refl word_past_pages-unsound

-- to a page without a leaf that is not free
pub yes-to-page : CheckPromise page_not_free (accepted true) → ⊥
unfolding lent_conditions shape_conditions first_number record_bytes
yes-to-page = yes-to-unsound page_not_free refl page_not_free-unsound

-- ---- "says yes exactly for a sound store and otherwise no; it never gives 9"

pub yes-of-sound : (store : Store) (S : List Record) → lent_number store ≡ 0 → Sound store S
    → (answer : Answer Bool) → CheckPromise store answer → answer ≡ accepted true
yes-of-sound store S e sound answer p = ⊎_elim (λ yes. yes.0) (λ no. absurd (no.1 S sound)) (p.verdict e)

-- a check that says no to a sound store
pub no-to-sound : CheckPromise no_record (accepted false) → ⊥
unfolding lent_conditions shape_conditions first_number
no-to-sound p = false≢true (same-verdict (yes-of-sound no_record [] refl no_record-sound (accepted false) p))

-- a check that gives 9, on any store
pub gives-nine : (store : Store) → lent_number store ≡ 0 → CheckPromise store (refused 9) → ⊥
gives-nine store e p =
    ⊎_elim (λ yes. refused-not-accepted true 9 yes.0) (λ not. refused-not-accepted false 9 not.0) (p.verdict e)

-- Wrong changes of spoiled stores: each contradicts `contained`, whatever else it does. Assumes nothing.
use Prim.Native.Nat.{ℕ, zero, suc, ◌<◌}
use mathlib.Core.Path.{◌≡◌, refl, sym, ap, ◌∙◌}
use mathlib.Core.Bool.{Bool, true, false, true≢false}
use mathlib.Core.List.{List, []}
use mathlib.Core.Logic.{⊎_elim}
use native.Mathlib.Omega.{arith}
use lib.ListN.{get_or}
use Rattle.shape.specs.Refusal.{Answer}
use Rattle.region.specs.Strings.{empty_string}
use Rattle.record.specs.declared.Content.{Content}
use Rattle.page.specs.Page.{count_of, page_at}
use Rattle.directory_word.specs.Word.{word_of, depth_field}
use Rattle.directory_word.specs.declared.Leaf.TheVariants.{Page}
use Rattle.model.specs.Model.{Reply}
use Rattle.store.specs.Store.{Store, word_at}
use Rattle.store.specs.Contained.{Names, JoinedWith, GivesWay, Written}
use Rattle.store.specs.Promises.{InsertPromise, DeletePromise}
use Rattle.table.specs.Table.{two_two, key}
use Rattle.refutation.specs.Stores.{zeroed_word, low_tally}
use Rattle.refutation.proofs.ContainedComputed.{key_string, lower, upper, computed}

-- ---- inserts

-- an insert joins no leaf
none-joined : (old new : (ℕ → Bool) → ℕ) (k q : ℕ → Bool) → JoinedWith false old new k q → ⊥
none-joined old new k q j = true≢false (sym j.allowed)

module _ (content : Content) (answer : Answer Reply) (after : Store) where
  -- the zeroed word of one cell is taken as a leaf of depth 0: the whole directory, the word of the leaf 0 among it, is
  -- set to the word of the free page 3
  pub fills-directory : InsertPromise zeroed_word (key 2 2) content answer after → after.state.deepest ≡ 3
      → get_or after.memory.words 0 0 ≡ word_of (Page 3 0) → ⊥
  fills-directory p e filled = ⊎_elim same gives (p.contained.words-kept empty_string)
    where
      same : word_at after.state.shape after.state.deepest after.memory.words empty_string
          ≡ word_at two_two 3 zeroed_word.memory.words empty_string → ⊥
      same w =
          let now : word_at two_two 3 after.memory.words empty_string
          ≡ word_at two_two 3 zeroed_word.memory.words empty_string = rw (p.shape-kept, e) at w in
          let word : word_of (Page 3 0) ≡ word_of (Page 0 1) =
          sym filled ∙ sym (computed after.memory.words).at-0 ∙ now ∙ (computed []).first in
          omega (arith, word)

      gives : GivesWay false (word_at two_two 3 zeroed_word.memory.words)
          (word_at after.state.shape after.state.deepest after.memory.words) (key_string (key 2 2))
          empty_string → ⊥
      gives way =
          ⊎_elim (λ a. true≢false (sym (computed []).one ∙ sym (a 0 (omega (arith, (computed []).first)))))
          (none-joined _ _ _ empty_string) way.1

  -- the record is put into page 0, which the leaf 0 has
  pub writes-other-page : InsertPromise zeroed_word (key 2 2) content answer after
      → count_of (page_at 2 after.memory.bytes 0) ≡ 2 → ⊥
  writes-other-page p two = ⊎_elim same written (p.contained.bytes-kept 0 (omega arith))
    where
      same : page_at 2 after.memory.bytes 0 ≡ page_at 2 zeroed_word.memory.bytes 0 → ⊥
      same e = let one : ◌≡◌ {A = ℕ} 2 1 = sym two ∙ ap count_of e in omega (arith, one)

      written : Written false zeroed_word after (key_string (key 2 2)) 0 → ⊥
      written =
          ⊎_elim (λ own. omega (arith, own.1, (computed []).own))
          (⊎_elim (λ j. none-joined _ _ _ j.0 j.2)
          (λ free. let one : ◌≡◌ {A = ℕ} 1 0 = free.0 in omega (arith, one)))

  -- the key's leaf 101 takes its sibling 100 in
  pub takes-sibling : InsertPromise low_tally (key 3 0) content answer after → after.state.deepest ≡ 3
      → get_or after.memory.words 1 0 ≡ word_of (Page 2 2) → ⊥
  takes-sibling p e taken = ⊎_elim same gives (p.contained.words-kept lower)
    where
      same : word_at after.state.shape after.state.deepest after.memory.words lower
          ≡ word_at two_two 3 low_tally.memory.words lower → ⊥
      same w =
          let now : word_at two_two 3 after.memory.words lower ≡ word_at two_two 3 low_tally.memory.words lower =
          rw (p.shape-kept, e) at w in
          let word : word_of (Page 2 2) ≡ word_of (Page 1 3) =
          sym taken ∙ sym (computed after.memory.words).low-at-3 ∙ now ∙ (computed []).low in
          omega (arith, word)

      gives : GivesWay false (word_at two_two 3 low_tally.memory.words)
          (word_at after.state.shape after.state.deepest after.memory.words) (key_string (key 3 0)) lower → ⊥
      gives way =
          ⊎_elim (λ a. true≢false (sym (computed []).third ∙ sym (a 2 (omega (arith, (computed []).low)))))
          (none-joined _ _ _ lower) way.1

-- ---- deletes

-- T is set by a tally that has no leaf of depth 3: the leaves 100 and 101 would have one cell
pub lowers-depth : (answer : Answer Reply) (after : Store) → DeletePromise low_tally (key 0 0) answer after
    → after.state.deepest ≡ 2 → ⊥
lowers-depth answer after p e =
    let one : word_of (Page 1 3) ≡ word_of (Page 2 3) =
    sym (kept 1 lower refl (computed []).low) ∙ (computed words).low-at-1 ∙ sym (computed words).high-at-1
    ∙ kept 2 upper refl (computed []).high in
    omega (arith, one)
  where
    words : List ℕ
    words = after.memory.words

    -- a leaf of depth 3 whose first bit is 1 is neither the key's nor joined with it
    kept : (h : ℕ) (q : ℕ → Bool) → q 0 ≡ true
        → word_at two_two 3 low_tally.memory.words q ≡ word_of (Page h 3)
        → word_at two_two 2 after.memory.words q ≡ word_of (Page h 3)
    kept h q first w = ⊎_elim same gives (p.contained.words-kept q)
      where
        same : word_at after.state.shape after.state.deepest after.memory.words q
            ≡ word_at two_two 3 low_tally.memory.words q
            → word_at two_two 2 after.memory.words q ≡ word_of (Page h 3)
        same k =
            let now : word_at two_two 2 after.memory.words q ≡ word_at two_two 3 low_tally.memory.words q =
            rw (p.shape-kept, e) at k in
            now ∙ w

        gives : GivesWay true (word_at two_two 3 low_tally.memory.words)
            (word_at after.state.shape after.state.deepest after.memory.words) (key_string (key 0 0)) q
            → word_at two_two 2 after.memory.words q ≡ word_of (Page h 3)
        gives way =
            absurd (⊎_elim (λ a. true≢false (sym first ∙ a 0 (omega (arith, w)) ∙ (computed []).zero))
            (λ j. true≢false (sym first ∙ sym (j.agree 0 (omega (arith, w, j.depth))) ∙ (computed []).zero)) way.1)

-- the page of the leaf 100, the sibling of the key's leaf 101, is cleared and its word left
pub clears-sibling : (answer : Answer Reply) (after : Store) → DeletePromise low_tally (key 3 1) answer after
    → after.state.deepest ≡ 3 → get_or after.memory.words 1 0 ≡ word_of (Page 1 3)
    → count_of (page_at 2 after.memory.bytes 1) ≡ 0 → ⊥
clears-sibling answer after p e left none = ⊎_elim same written (p.contained.bytes-kept 1 (omega arith))
  where
    k : ℕ → Bool
    k = key_string (key 3 1)

    old : (ℕ → Bool) → ℕ
    old = word_at two_two 3 low_tally.memory.words

    new : (ℕ → Bool) → ℕ
    new = word_at after.state.shape after.state.deepest after.memory.words

    same : page_at 2 after.memory.bytes 1 ≡ page_at 2 low_tally.memory.bytes 1 → ⊥
    same d = let two : ◌≡◌ {A = ℕ} 0 2 = sym none ∙ ap count_of d ∙ (computed []).low_count in omega (arith, two)

    -- 100 has the word that it had
    low-now : new lower ≡ word_of (Page 1 3)
    low-now =
        let low : word_at two_two 3 after.memory.words lower ≡ word_of (Page 1 3) =
        (computed after.memory.words).low-at-3 ∙ left in
        rw (p.shape-kept, e) low

    -- 100 agrees with the key in two bits
    near : (i : ℕ) → i < 2 → k i ≡ lower i
    near zero l = (computed []).sibling-one
    near (suc zero) l = (computed []).sibling-zero
    near (suc (suc i)) l = absurd (omega arith)

    -- so that it has the key's word, of depth 2 or less, where a leaf that has page 1 is joined
    joined : (q : ℕ → Bool) → JoinedWith true old new k q → Names 1 (old q) → ⊥
    joined q j names =
        ⊎_elim
        (λ nearest.
        let low : depth_field (new k) < 3 = omega (arith, j.within, nearest, (computed []).sibling-own) in
        let one : new lower ≡ new k = j.one-leaf lower (λ i l. near i (omega (arith, low))) in
        let three : depth_field (new k) ≡ 3 = ap depth_field (sym one ∙ low-now) in
        omega (arith, low, three))
        (λ empty. omega (arith, empty, names.1)) j.nearest-or-empty

    written : Written true low_tally after k 1 → ⊥
    written =
        ⊎_elim (λ own. omega (arith, own.1, (computed []).sibling-own))
        (⊎_elim (λ j. joined j.0 j.2 j.3)
        (λ free. let two : ◌≡◌ {A = ℕ} 2 0 = sym (computed []).low_count ∙ free.0 in omega (arith, two)))

-- the leaf 0 above, which has a page, is joined with the key's leaf 101
pub joins-leaf-above : (answer : Answer Reply) (after : Store) → DeletePromise low_tally (key 3 1) answer after
    → after.state.deepest ≡ 3 → get_or after.memory.words 0 0 ≡ word_of (Page 1 0) → ⊥
joins-leaf-above answer after p e joined = ⊎_elim same gives (p.contained.words-kept empty_string)
  where
    same : word_at after.state.shape after.state.deepest after.memory.words empty_string
        ≡ word_at two_two 3 low_tally.memory.words empty_string → ⊥
    same w =
        let now : word_at two_two 3 after.memory.words empty_string
        ≡ word_at two_two 3 low_tally.memory.words empty_string = rw (p.shape-kept, e) at w in
        let word : word_of (Page 1 0) ≡ word_of (Page 0 1) =
        sym joined ∙ sym (computed after.memory.words).at-0 ∙ now ∙ (computed []).first-low in
        omega (arith, word)

    gives : GivesWay true (word_at two_two 3 low_tally.memory.words)
        (word_at after.state.shape after.state.deepest after.memory.words) (key_string (key 3 1)) empty_string
        → ⊥
    gives way =
        ⊎_elim (λ a. true≢false (sym (computed []).sibling-one ∙ sym (a 0 (omega (arith, (computed []).first-low)))))
        (λ j. ⊎_elim (λ nearest. omega (arith, nearest, j.depth, (computed []).first-low, (computed []).sibling-own))
        (λ empty. omega (arith, empty, (computed []).first-low)) j.nearest-or-empty) way.1

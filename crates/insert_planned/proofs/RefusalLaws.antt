-- Laws of a search up to the page of the key's leaf, one for each way that it ends: what it refuses is what `add`
-- promises, and what it tells else. Assumes nothing.
use Prim.Native.Nat.{ℕ, ◌-◌, ◌^◌, ◌≤◌, ◌<◌}
use mathlib.Core.Path.{◌≡◌, refl, sym, ap, ◌∙◌, subst}
use mathlib.Core.Bool.{true, false, false≢true}
use mathlib.Core.List.{List}
use mathlib.Core.Logic.{◌⊎◌, ⊎_elim}
use native.Mathlib.Omega.{arith}
use lib.ListN.{get_or}
use Rattle.std.specs.Prelude.{Ok, Err}
use Rattle.lists.specs.Filter.{non_empty}
use Rattle.shape.specs.Refusal.{told}
use Rattle.shape.specs.Shape.{widths_of}
use Rattle.shape.specs.declared.Shape.{Shape}
use Rattle.shape.specs.declared.refusal.Refusal.{Refusal}
use Rattle.shape.specs.declared.refusal.Refusal.TheVariants as why
use Rattle.split.specs.Bits.{split_bit}
use Rattle.record.specs.declared.Content.{Content}
use Rattle.record.specs.Record.{Record}
use Rattle.record.specs.Lanes.{bias_key}
use Rattle.record.specs.Packed.{packed_key, unpacked_key}
use Rattle.page.specs.Page.{count_of, page_at}
use Rattle.page_place.specs.Find.{Placed}
use Rattle.model.specs.Sets.{stored}
use Rattle.model.specs.Model.{record_for}
use Rattle.store.specs.Store.{Store}
use Rattle.store.specs.Promises.{key_number, AddPromise}
use Rattle.store.proofs.ShownLaws.{word_on}
use Rattle.refusals.specs.Limits.{limits_hold}
use Rattle.refusals.proofs.LimitsLaws.{limits-parts, limits-of-sound}
use Rattle.refusals.specs.Passed.{Passed}
use Rattle.refusals.proofs.PassedLaws.{unpacked_key-passed}
use Rattle.page_ends.specs.Ends.{ends_begin}
use Rattle.leaf_word.specs.Hold.{word_holds, own_page}
use Rattle.leaf_word.proofs.HoldLaws.{word-of-sound}
use Rattle.leaf_word.proofs.PageLaws.{ends_begin-word}
use Rattle.change.proofs.BoundLaws.{count-bounds}
use Rattle.change.proofs.AddPromiseLaws.{OnSound, add-unsound, add-stored}
use Rattle.change.proofs.MeetLaws.{records_on, MeetsPage}
use Rattle.insert_planned.specs.Found.{InsertAsked, PageMet}
use Rattle.insert_planned.specs.Planned.{RefusalMet, LeafFound, LeafMet, FullMet}
use Rattle.insert_planned.specs.declared.Found.TheVariants.{Room}
use Rattle.insert_planned.proofs.MetLaws.{record_with, meets, stored-met}

module _ (before : Store) (encoded : List ℕ) where
  abbrev s : Shape
  s = before.state.shape

  abbrev b : ℕ
  b = s.capacity

  abbrev page : ℕ → List ℕ
  page g = page_at b before.memory.bytes g

  -- ---- limits and word

  -- from a law of the record of the call's values
  pub refused-by : (r : Refusal) (X : Record → Type 0)
      → ((values : List ℕ) (content : Content) → key_number before values ≡ 0 → X (record_for s values content)
      → AddPromise before values content (told r) before)
      → ((content : Content) → X (record_with encoded content)) → RefusalMet before encoded r
  refused-by r X law met values early same content =
      law values content early (subst (λ k. X (record_with k content)) (sym same) (met content))

  pub nine-unsound : OnSound before ⊥ → RefusalMet before encoded why.Unsound
  nine-unsound none values early same content = add-unsound before values content early none

  pub nine-limits : limits_hold before.state ≡ false → RefusalMet before encoded why.Unsound
  nine-limits l = nine-unsound (λ S sound. false≢true (sym l ∙ limits-of-sound before S sound))

  pub nine-word : (word : ℕ) → word ≡ word_on before (split_bit (widths_of s) encoded)
      → word_holds before.state word ≡ false → RefusalMet before encoded why.Unsound
  nine-word word w h =
      nine-unsound
      (λ S sound.
      false≢true
      (sym h
      ∙ ap (word_holds before.state) w
      ∙ word-of-sound before S sound (split_bit (widths_of s) encoded)))

  pub asked : Passed before encoded → limits_hold before.state ≡ true → InsertAsked before encoded
  asked p l =
      let h = limits-parts before.state l in
      record {
        passed = p;
        pages-lent = record { shape = p.shape; few = h.1; lent = p.pages-lent };
        short = h.2;
        bits = h.3;
        within-limit = h.4;
      }

  -- ---- a leaf with a page

  module _ (key g x : ℕ) (m : LeafMet before encoded key g x) (n : ℕ) (e : n ≡ count_of (page g)) where
    pub nine-count : (n ≡ 0) ⊎ (b < n) → RefusalMet before encoded why.Unsound
    nine-count h =
        nine-unsound
        (λ S sound.
        let small : g < 2 ^ 16 - 1 = omega (arith, m.within, m.asked.pages-lent.few) in
        let c = count-bounds before S sound (split_bit (widths_of s) encoded) g x small m.own in
        ⊎_elim (λ z. omega (arith, e, c.0)) (λ l. omega (arith, e, c.1)) h)

    -- a page whose first or last record is not the leaf's
    pub nine-ends : own_page s x key (page g) n ≡ false → RefusalMet before encoded why.Unsound
    nine-ends h =
        nine-unsound
        (λ S sound.
        let small : g < 2 ^ 16 - 1 = omega (arith, m.within, m.asked.pages-lent.few) in
        let p = split_bit (widths_of s) encoded in
        false≢true
        (sym h
        ∙ ap (λ q. ends_begin (widths_of s) (bias_key s) x (split_bit (widths_of s) q) (page g) n) unpacked
        ∙ ap (ends_begin (widths_of s) (bias_key s) x p (page g)) e
        ∙ ends_begin-word before S sound p g x small m.own p (λ t l. refl)))
      where
        unpacked : unpacked_key key ≡ encoded
        unpacked =
            ap unpacked_key m.key-is ∙ unpacked_key-passed before encoded m.asked.passed

    module _ (most : n ≤ b) (ends : own_page s x key (page g) n ≡ true)
        (bytes : (i : ℕ) → get_or before.memory.bytes i 0 < 256) where
      pub page-met : PageMet before encoded g x n
      page-met =
          record {
            within = m.within;
            depth_le = m.depth_le;
            holds = m.holds;
            own = m.own;
            count = e;
            most = most;
            ends = subst (λ k. own_page s x k (page g) n ≡ true) m.key-is ends;
            bytes = bytes;
          }

      pub four-stored : (i : ℕ) → Placed (widths_of s) (bias_key s) (unpacked_key key) (page g) n (Ok i) → RefusalMet before encoded why.Stored
      four-stored i p =
          let a = m.asked in
          let there = subst (λ k. Placed (widths_of s) (bias_key s) (unpacked_key k) (page g) n (Ok i)) m.key-is p in
          refused-by why.Stored
          (λ r. OnSound before (MeetsPage before r g x)
          × OnSound before (non_empty (stored r.key (records_on before g)) ≡ true))
          (λ values content early f. add-stored before values content early g x f.0 f.1)
          (λ content. (
            (λ S sound. meets before encoded content a g x n page-met),
            (λ S sound. stored-met before encoded content a g x n page-met S sound i there),
          ))

      module _ (i : ℕ) (p : Placed (widths_of s) (bias_key s) (unpacked_key key) (page g) n (Err i)) where
        falls : Placed (widths_of s) (bias_key s) (unpacked_key (packed_key encoded)) (page g) n (Err i)
        falls = subst (λ k. Placed (widths_of s) (bias_key s) (unpacked_key k) (page g) n (Err i)) m.key-is p

        pub room-found : n < b → LeafFound before encoded (Room g x i n)
        room-found l = record { asked = m.asked; met = page-met; room = l; place = falls }

        pub full-met : b ≤ n → FullMet before encoded key g x i
        full-met l =
            let full : n ≡ b = omega arith in
            record {
              asked = m.asked;
              key-is = m.key-is;
              met = subst (PageMet before encoded g x) full page-met;
              place =
                  subst (λ k. Placed (widths_of s) (bias_key s) (unpacked_key (packed_key encoded)) (page g) k (Err i)) full falls;
            }

-- For a reader of `Contained`, "Every other leaf keeps its page." on any store: a string whose word is neither the
-- key's nor that of a sibling joined with it keeps its word, and a page that only others name its bytes. Assumes
-- nothing.
use Prim.Native.Nat.{ℕ, ◌≤◌, ◌<◌}
use mathlib.Core.Path.{◌≡◌, sym, ◌∙◌}
use mathlib.Core.Bool.{Bool, true, false, true≢false}
use mathlib.Core.Logic.{◌⊎◌, inl, inr}
use Rattle.region.specs.Strings.{sibling}
use Rattle.page.specs.Page.{count_of, page_at}
use Rattle.directory_word.specs.Word.{depth_field}
use Rattle.store.specs.Store.{Store}
use Rattle.store.specs.Contained.{Names, Whole, JoinedWith, GivesWay, Written, Contained}
use Rattle.store.proofs.ShownLaws.{word_on}
use Rattle.change.specs.Divided.{Leaves}
use Rattle.change.proofs.ChainLaws.{agree-of-leaves}
use Rattle.change_kept.proofs.WordLaws.{leaves-sibling}

module _ (joins : Bool) (before after : Store) (key : ℕ → Bool) (c : Contained joins before after key) where
  abbrev old : (ℕ → Bool) → ℕ
  old = word_on before

  abbrev new : (ℕ → Bool) → ℕ
  new = word_on after

  -- z is a bit in which a sibling leaves the key's string that the key's leaf was joined with
  abbrev Joined : ℕ → Type 0
  Joined z = (joins ≡ true) × (depth_field (new key) ≤ z) × (z < depth_field (old key))

  -- another leaf keeps its word
  pub other_word : (p : ℕ → Bool) → (old p ≡ old key → ⊥) → ((z : ℕ) → Joined z → old p ≡ old (sibling key z) → ⊥)
      → new p ≡ old p
  other_word p n others = go (c.words-kept p)
    where
      go : (new p ≡ old p) ⊎ GivesWay joins old new key p → new p ≡ old p
      go (inl e) = e
      go (inr (whole, inl a)) = absurd (n (sym (whole key a)))
      go (inr (whole, inr j)) =
          let leaves : Leaves key p j.z = record { agree = j.agree; differ = j.differ } in
          let a = agree-of-leaves key p (sibling key j.z) j.z leaves (leaves-sibling key j.z) in
          absurd (others j.z (j.allowed, j.within, j.above) (sym (whole (sibling key j.z) (rw j.depth a))))

  -- a call that joins no leaves, as an insert: every word other than the key's
  pub other-word-unjoined : joins ≡ false → (p : ℕ → Bool) → (old p ≡ old key → ⊥) → new p ≡ old p
  other-word-unjoined e p n = other_word p n (λ z j. absurd (true≢false (sym j.0 ∙ e)))

  -- a page with records that no word of the key's leaf and of those joined with it names keeps its bytes
  pub other-page : (g : ℕ) → g < before.state.limits.pages
      → (count_of (page_at before.state.shape.capacity before.memory.bytes g) ≡ 0 → ⊥)
      → (Names g (old key) → ⊥) → ((p : ℕ → Bool) → Whole old p → JoinedWith joins old new key p → Names g (old p) → ⊥)
      → page_at before.state.shape.capacity after.memory.bytes g
      ≡ page_at before.state.shape.capacity before.memory.bytes g
  other-page g l some own joined = go (c.bytes-kept g l)
    where
      go : (page_at before.state.shape.capacity after.memory.bytes g
          ≡ page_at before.state.shape.capacity before.memory.bytes g) ⊎ Written joins before after key g
          → page_at before.state.shape.capacity after.memory.bytes g
          ≡ page_at before.state.shape.capacity before.memory.bytes g
      go (inl e) = e
      go (inr (inl n)) = absurd (own n)
      go (inr (inr (inl (p, whole, j, n)))) = absurd (joined p whole j n)
      go (inr (inr (inr (none, rest)))) = absurd (some none)

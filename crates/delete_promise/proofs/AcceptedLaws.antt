-- The promise of delete where it is accepted, from the plan and what the steps leave: the key's leaf stays, or it is
-- joined with its sibling. Assumes nothing.
use Prim.Native.Nat.{ℕ, ◌*◌, ◌^◌, ◌+◌, ◌-◌, ◌≤◌}
use mathlib.Core.Path.{◌≡◌, sym, ap, ◌∙◌, subst}
use mathlib.Core.Bool.{Bool, true, false, true≢false}
use mathlib.Core.List.{List}
use mathlib.Core.Logic.{◌⊎◌, inl, inr}
use native.Mathlib.Omega.{arith}
use lib.ListN.{length, drop}
use Rattle.lists.specs.Filter.{non_empty}
use Rattle.lists.proofs.Numbers.{eq-or-ne}
use Rattle.shape.specs.Refusal.{accepted}
use Rattle.shape.specs.Shape.{widths_of}
use Rattle.shape.specs.declared.Shape.{Shape}
use Rattle.directory.specs.Directory.{Filled}
use Rattle.record.specs.Record.{Record}
use Rattle.page.specs.Page.{page_size, count_of, page_at}
use Rattle.directory_word.specs.Word.{word_of}
use Rattle.directory_word.specs.declared.Leaf.TheVariants.{Empty, Page}
use Rattle.model.specs.Model.{changed}
use Rattle.store.specs.Store.{Store, memory, store}
use Rattle.store.specs.Sound.{Sound}
use Rattle.store.specs.Promises.{DeletePromise}
use Rattle.store.proofs.ShownLaws.{page_records}
use Rattle.store.specs.declared.State.{State}
use Rattle.refusals.specs.Passed.{OfValues}
use Rattle.change.specs.Delete.{key_string, LeafDeleted, LeafJoined}
use Rattle.change.proofs.RegionLaws.{changed_store}
use Rattle.change.proofs.PromiseLaws.{KeepsPast, KeepsOthers, keeps-others, depth_at-encoded}
use Rattle.change.proofs.DeletePromiseLaws.{delete-kept, delete-joined}
use Rattle.change.proofs.DeleteTallyLaws.{tally_depth-le}
use Rattle.delete_plan.specs.Plan.{RecordFound, StaysAlone, JoinPlanned}
use Rattle.delete_plan.specs.declared.Stored.{Stored}
use Rattle.delete_plan.specs.declared.Join.{Join}
use Rattle.delete_plan.specs.declared.Plan.TheVariants as plan
use Rattle.delete_pages.specs.PageBytes.{removed_bytes, PairLent, kept_page, freed_page, joined_bytes}
use Rattle.delete_pages.proofs.PageLaws.{length-removed_bytes, drop-removed_bytes, some_left, none_left}
use Rattle.delete_pages.proofs.PageLaws.{kept-or-freed, length-joined_bytes, drop-joined_bytes}
use Rattle.delete_steps.specs.Steps.{LeafWords, LeavesLent, JoinWords}
use Rattle.change_kept.proofs.StepLaws.{depth-kept, depth-joined}
use Rattle.change_kept.proofs.ContainedLaws.{contained-removed, contained-joined}
use Rattle.change_guard.specs.Guard.{DeleteGuarded}
use Rattle.delete_promise.proofs.SoundPageLaws.{records-removed, records-removed-other}
use Rattle.delete_promise.proofs.SoundPageLaws.{records-joined, count-freed, records-joined-other}
use Rattle.delete_promise.proofs.FoundLaws.{RecordFacts, record_facts, record_lent}

-- what delete promises of a key that it accepts with the depth x, of the call's values
abbrev AcceptedMet : Store → List ℕ → ℕ → Store → Type 0
AcceptedMet before encoded x after =
    OfValues before encoded (λ values. DeletePromise before values (accepted (changed x)) after)

module _ (before : Store) (encoded : List ℕ) (r : Stored) (f : RecordFound before encoded r) where
  abbrev s : Shape
  s = before.state.shape

  abbrev P : ℕ
  P = before.state.limits.pages

  abbrev T : ℕ
  T = before.state.deepest

  abbrev L : ℕ
  L = before.state.limits.depth

  abbrev b : ℕ
  b = s.capacity

  abbrev words : List ℕ
  words = before.memory.words

  abbrev bytes : List ℕ
  bytes = before.memory.bytes

  k : RecordFacts before encoded r
  k = record_facts before encoded r f

  -- ---- the leaf stays

  module _ (words' bytes' : List ℕ) (w : LeafWords before.state encoded r words words')
      (e : bytes' ≡ removed_bytes b r.page r.place r.count bytes) where
    past : KeepsPast before (memory words' bytes')
    past =
        record {
          words-length = by_count (eq-or-ne r.count 1);
          bytes-length =
              ap length e
              ∙ length-removed_bytes b r.page r.place r.count bytes k.own f.place-lt f.few;
          words-past = past-by-count (eq-or-ne r.count 1);
          bytes_past =
              ap (drop (P * page_size b)) e
              ∙ drop-removed_bytes b r.page r.place r.count bytes k.own f.place-lt f.few P
              f.leaf.own-within;
        }
      where
        by_count : (r.count ≡ 1) ⊎ (r.count ≡ 1 → ⊥) → length words' ≡ length words
        by_count (inl d) = (w.emptied d).size
        by_count (inr n) = ap length (w.same n)

        past-by-count : (r.count ≡ 1) ⊎ (r.count ≡ 1 → ⊥) → drop (2 ^ L) words' ≡ drop (2 ^ L) words
        past-by-count (inl d) = k.words-past T r.depth _ words' (omega arith) (w.emptied d)
        past-by-count (inr n) = ap (drop (2 ^ L)) (w.same n)

    deleted : StaysAlone before encoded r.page r.depth → (S : List Record) → Sound before S
        → LeafDeleted before encoded r.page r.depth (memory words' bytes')
    deleted alone S sound =
        record {
          within = f.leaf.own-within;
          own = f.leaf.own;
          alone = alone;
          records =
              ap (λ l. page_records s l r.page) e
              ∙ records-removed before S sound encoded f.leaf.passed.four k.fits r.page r.depth
              f.leaf.own-within f.leaf.own r.place r.count k.count f.place-lt f.here;
          others = λ h l n.
              ap (λ m. page_records s m h) e
              ∙ records-removed-other before S sound encoded f.leaf.passed.four k.fits r.page r.depth
              f.leaf.own-within f.leaf.own r.place r.count k.count f.place-lt f.here h n;
          some_left = λ h. some (eq-or-ne r.count 1) (sym (ap left e) ∙ h);
          none_left = λ h. none (eq-or-ne r.count 1) (sym (ap left e) ∙ h);
        }
      where
        left : List ℕ → Bool
        left l = non_empty (page_records s l r.page)

        after : List ℕ
        after = removed_bytes b r.page r.place r.count bytes

        some : (r.count ≡ 1) ⊎ (r.count ≡ 1 → ⊥) → left after ≡ true → words' ≡ words
        some (inl d) h =
            absurd (true≢false
            (sym h ∙ none_left b r.page r.place r.count bytes k.own f.place-lt f.few s k.count d))
        some (inr n) h = w.same n

        none : (r.count ≡ 1) ⊎ (r.count ≡ 1 → ⊥) → left after ≡ false
            → Filled (widths_of s) T r.depth (key_string before encoded) (word_of (Empty r.depth)) words words'
        none (inl d) h = w.emptied d
        none (inr n) h =
            absurd (true≢false
            (sym (some_left b r.page r.place r.count bytes k.own f.place-lt f.few s k.count
            (omega (arith, f.place-lt))) ∙ h))

    pub promise-kept : StaysAlone before encoded r.page r.depth
        → DeleteGuarded before.state words encoded (plan.Keep r)
        → AcceptedMet before encoded r.depth (store before.state words' bytes')
    promise-kept alone guarded values early same =
        delete-kept before values early r.page r.depth words' bytes'
        (λ S sound. rw same (deleted alone S sound)) (λ S sound. rw same (k.found S sound)) past
        (keeps-others true before encoded values same _
        (contained-removed before encoded r f (record_lent before encoded r f) guarded words' w bytes' e))
        (depth_at-encoded (store before.state words' bytes') encoded values same r.depth
        (depth-kept before encoded r f words' w))

  -- ---- it is joined

  module _ (j : Join) (p : JoinPlanned before encoded r j) where
    apart : j.other ≡ r.page → ⊥
    apart e = p.apart (sym e)

    few : r.count - 1 + j.count ≤ b
    few = omega (arith, p.met.fit, f.counted, p.counted)

    pub leaves_lent : length before.state.tally.leaves ≡ 13 → LeavesLent before.state r j
    leaves_lent e =
        record {
          deep = f.leaf.deep;
          depth-step = p.depth-step;
          above = p.met.above;
          thirteen = e;
          tally = p.tally;
        }

    pub pair_lent : PairLent b r j bytes
    pair_lent =
        record {
          own = record_lent before encoded r f;
          page = k.lent j.other p.met.other-within;
          fit = few;
        }

    module _ (state' : State) (words' bytes' : List ℕ) (w : JoinWords before.state encoded r j state' words words')
        (e : bytes' ≡ joined_bytes j.bit b r.page r.place r.count j.other j.count bytes) where
      abbrev β : Bool
      β = key_string before encoded j.step

      abbrev kept : ℕ
      kept = kept_page β r.page j.other

      abbrev freed : ℕ
      freed = freed_page β r.page j.other

      after : bytes' ≡ joined_bytes β b r.page r.place r.count j.other j.count bytes
      after = e ∙ ap (λ γ. joined_bytes γ b r.page r.place r.count j.other j.count bytes) p.bit

      lower : state'.deepest ≤ T
      lower = omega (arith, w.depth, tally_depth-le state'.tally.leaves T)

      past-joined : KeepsPast before (memory words' bytes')
      past-joined =
          record {
            words-length = w.new-leaf.size;
            bytes-length =
                ap length after
                ∙ length-joined_bytes b r.page r.place r.count bytes k.own f.place-lt f.few j.other
                j.count (k.lent j.other p.met.other-within) p.few few β;
            words-past = k.words-past state'.deepest j.top _ words' lower w.new-leaf;
            bytes_past =
                ap (drop (P * page_size b)) after
                ∙ drop-joined_bytes b r.page r.place r.count bytes k.own f.place-lt f.few j.other
                j.count (k.lent j.other p.met.other-within) p.few few β P f.leaf.own-within
                p.met.other-within;
          }

      joined : (S : List Record) → Sound before S
          → LeafJoined before encoded r.page j.other j.step j.top kept freed state'.deepest
          state'.tally (memory words' bytes')
      joined S sound =
          record {
            pages = kept-or-freed β r.page j.other;
            records =
                ap (λ l. page_records s l kept) after
                ∙ records-joined before S sound encoded f.leaf.passed.four k.fits r.page j.other j.step
                j.top p.met apart r.place r.count j.count k.count (sym p.counted)
                f.place-lt f.here;
            none =
                ap (λ l. count_of (page_at b l freed)) after
                ∙ count-freed before S sound encoded f.leaf.passed.four k.fits r.page j.other j.step
                j.top p.met apart r.place r.count j.count k.count (sym p.counted)
                f.place-lt f.here;
            others = λ i l n o.
                ap (λ m. page_records s m i) after
                ∙ records-joined-other before S sound encoded f.leaf.passed.four k.fits r.page j.other
                j.step j.top p.met apart r.place r.count j.count k.count (sym p.counted)
                f.place-lt f.here i n o;
            tally = w.tally;
            depth = w.depth;
            filled =
                subst
                (λ γ. Filled (widths_of s) state'.deepest j.top (key_string before encoded)
                (word_of (Page (kept_page γ r.page j.other) j.top)) words words')
                p.bit w.new-leaf;
          }

      pub promise-joined : length before.state.tally.leaves ≡ 13
          → DeleteGuarded before.state words encoded (plan.Join r j)
          → AcceptedMet before encoded j.top (store state' words' bytes')
      promise-joined thirteen guarded values early same =
          subst (λ st. DeletePromise before values (accepted (changed j.top)) (store st words' bytes'))
          (sym w.state)
          (delete-joined before values early r.page j.other j.step j.top kept freed
          state'.deepest state'.tally words' bytes' (λ S sound. rw same p.met)
          (λ S sound. rw same (joined S sound)) (λ S sound. rw same (k.found S sound)) past-joined
          (subst (λ st. KeepsOthers true before values (store st words' bytes')) w.state
          (keeps-others true before encoded values same _
          (contained-joined before encoded r f j p (leaves_lent thirteen) pair_lent guarded state' words' w bytes' e)))
          (depth_at-encoded (changed_store before state'.deepest state'.tally (memory words' bytes')) encoded values
          same j.top (depth-joined before encoded r f j p state' words' w)))

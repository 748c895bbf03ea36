-- The promise of delete where a test between its plan and its steps fails: the store is not sound. Assumes nothing.
use Prim.Native.Nat.{ℕ, ◌%◌, ◌^◌}
use mathlib.Core.Path.{◌≡◌, ap, ◌∙◌}
use mathlib.Core.Bool.{Bool, false}
use mathlib.Core.List.{List}
use Rattle.std.specs.Prelude.{Ok}
use native.Mathlib.Omega.{arith}
use Rattle.lists.specs.Filter.{non_empty}
use Rattle.shape.specs.declared.refusal.Refusal.TheVariants as why
use Rattle.record.specs.Record.{Record}
use Rattle.directory_word.proofs.WordLaws.{word_of-page}
use Rattle.model.specs.Sets.{stored}
use Rattle.store.specs.Store.{Store}
use Rattle.store.specs.Sound.{Sound}
use Rattle.store.specs.declared.State.{State}
use Rattle.store.proofs.ShownLaws.{shape-of-Sound}
use Rattle.store.proofs.KeyLaws.{stored-page}
use Rattle.change.proofs.DeleteKeyLaws.{stored-record}
use Rattle.delete_plan.specs.Plan.{DeletePlanned, RefusalMet}
use Rattle.delete_plan.specs.declared.Plan.{Plan}
use Rattle.delete_plan.proofs.MetLaws.{refused-unsound}
use Rattle.change_guard.specs.Guard.{DeleteTold, KeyStored}
use Rattle.delete_promise.proofs.FoundLaws.{record_facts}

module _ (before : Store) (encoded : List ℕ) where
  abbrev st : State
  st = before.state

  abbrev words : List ℕ
  words = before.memory.words

  abbrev bytes : List ℕ
  bytes = before.memory.bytes

  -- in a sound store a key whose record was found is stored
  key-stored : (S : List Record) → Sound before S → KeyStored st words encoded bytes S
  key-stored S sound r f =
      let facts = record_facts before encoded r f in
      let field = ap (λ w. w % 2 ^ 16) f.leaf.own
      ∙ word_of-page r.page r.depth (omega (arith, f.leaf.own-within, sound.most-pages)) in
      let has = ap non_empty (stored-page before S sound encoded r.page field).1 ∙ facts.found S sound in
      let k = stored-record st.shape (shape-of-Sound before S sound) S sound.set encoded f.leaf.passed.four
      facts.fits has in
      record { content = k.0; held = ap (λ v. stored v S) k.2 ∙ k.1; key = k.2 }

  -- 9: a leaf whose words the plan sets is not whole, or a word is lost at the new T
  pub promise-not-whole : (plan : Plan) → DeletePlanned before encoded (Ok plan) → (held : Bool)
      → DeleteTold st words encoded plan held → held ≡ false → RefusalMet before encoded why.Unsound
  promise-not-whole plan planned held told e =
      refused-unsound before encoded (λ S sound. told.no e bytes planned S sound (key-stored S sound))

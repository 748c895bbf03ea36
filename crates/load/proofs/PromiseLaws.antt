-- Laws of the promise of a load: a refused one, and the file's records joined to a fresh store. Assumes nothing.
use Prim.Native.Nat.{ℕ, zero, suc, ◌*◌}
use mathlib.Core.Path.{◌≡◌, refl, sym, ap, subst, ◌∙◌}
use mathlib.Core.Bool.{true, false≢true}
use mathlib.Core.List.{List}
use native.Mathlib.Omega.{arith}
use lib.ListN.{length, length-set}
use Rattle.shape.specs.Refusal.{Answer, accepted, answered_by, told, refusal_number, refusal_value}
use Rattle.shape.specs.declared.refusal.Refusal.{Refusal}
use Rattle.shape.specs.declared.Shape.{Shape}
use Rattle.shape.proofs.RefusalLaws.{first_number-shape, answered_by-shape, refused_by-refuses}
use Rattle.shape.proofs.ShapeLaws.{shape_number-true}
use Rattle.record.specs.Record.{Record}
use Rattle.page.specs.Page.{page_size, records_from}
use Rattle.model.specs.Limits.{page_limit_of, depth_limit_of, fresh_shape, fixed_by}
use Rattle.store.specs.Fresh.{FreshPromise, fresh_conditions, fresh_refusals, fresh_number, fresh_state, fresh_memory}
use Rattle.store.specs.Fresh.{no_state}
use Rattle.store.specs.Sound.{Sound}
use Rattle.store.specs.Store.{Store, Memory}
use Rattle.store.proofs.ClearedLaws.{length-cleared_counts}
use Rattle.store.proofs.NumberLaws.{answered_by-fresh}
use Rattle.store.proofs.FreshLaws.{fixed_of-fresh_state, sound-of-fresh}
use Rattle.file.specs.File.{is_whole, file_size, file_count, file_shape, file_records}
use Rattle.file.specs.Loading.{load_refusals, load_number}
use Rattle.file.specs.Promises.{LoadPromise}
use Rattle.file.proofs.AcceptedLaws.{Passed, passed-of-load_number}
use Rattle.file.proofs.LoadingLaws.{answered_by-load}
use Rattle.file.proofs.PlainLaws.{fresh_shape-file_shape}
use Rattle.load.specs.Private.{Joining, Joined}
use Rattle.load.proofs.ClearedLaws.{drop-set-first, drop-cleared_counts}
use Rattle.load.proofs.NumberLaws.{records-read, set-read}

module _ (file : List ℕ) (m : Memory) where
  module _ (r : Refusal) (e : told r ≡ answered_by (load_refusals file m) (tt {0})) where
    not-accepted : {A : Type 0} → ◌≡◌ {A = Answer (Unit {0})} (told r) (accepted tt) → A
    not-accepted d = refused_by-refuses tt (refusal_number r) (refusal_value r) (sym d)

    pub promise-refused : (after : Store) → after.state ≡ no_state → after.memory ≡ m → LoadPromise file m (told r) after
    promise-refused after st kept =
        record {
          answered-as = e;
          no-state = λ d. st;
          memory_kept = λ d. kept;
          shape-as = not-accepted;
          limits-as = not-accepted;
          shown = not-accepted;
          words-length = ap (λ (x : Memory). length x.words) kept;
          bytes-length = ap (λ (x : Memory). length x.bytes) kept;
          words-past = rw kept refl;
          bytes_past = rw kept refl;
        }

  module _ (z : load_number file m ≡ 0) where
    abbrev s : Shape
    s = file_shape file

    known : Passed file m
    known = passed-of-load_number file m z

    -- Fresh accepts the shape and the memory
    none-fresh : fresh_number s m ≡ 0
    unfolding fresh_refusals
    none-fresh = first_number-shape s (fresh_conditions s m) (shape_number-true s known.shape) ∙ known.lent

    -- what Fresh leaves
    abbrev fresh : Store
    fresh = record { state = fresh_state s m; memory = fresh_memory s m }

    -- the file is whole
    pub whole-passed : is_whole file ≡ true
    whole-passed = known.whole

    -- Fresh refuses nothing here
    pub fresh-accepts : {A : Type 0} (shape : Shape) → shape ≡ file_shape file → (r : Refusal) (made : Store)
        → FreshPromise shape m (told r) made → A
    fresh-accepts shape e r made p =
        let q : ◌≡◌ {A = Answer (Unit {0})} (told r) (answered_by (fresh_refusals s m) tt) =
        subst (λ (t : Shape). ◌≡◌ {A = Answer (Unit {0})} (told r) (answered_by (fresh_refusals t m) tt)) e p.answered-as in
        refused_by-refuses tt (refusal_number r) (refusal_value r)
        (sym (q ∙ answered_by-fresh s m none-fresh))

    made-fresh : (answer : Answer (Unit {0})) (made : Store) → FreshPromise s m answer made → made ≡ fresh
    made-fresh answer made p =
        λ i. record { state = (rw none-fresh at p.state-as) i; memory = (rw none-fresh at p.memory-as) i }

    shape-fresh : fresh.state.shape ≡ s
    unfolding fresh_state
    shape-fresh = fresh_shape-file_shape file known.plain

    module _ (n : ℕ) (counted : n ≡ file_count file) where
      -- the records, by the shape of the store
      records-fresh : records_from fresh.state.shape n 0 file ≡ file_records file
      records-fresh = records-read file fresh.state.shape shape-fresh n counted

      joining-fresh : file_size n ≡ length file → Joining fresh n file
      joining-fresh size =
          record {
            sound = sound-of-fresh s m none-fresh;
            lent = omega (arith, size);
            set = set-read file fresh.state.shape shape-fresh n counted ∙ known.set;
            room = rw (fixed_of-fresh_state s m, records-fresh) known.joined;
          }

      promise-accepted : (after : Store) → Joined fresh n file after → LoadPromise file m (accepted tt) after
      unfolding fresh_state fresh_memory fresh_shape fixed_by
      promise-accepted after joined =
          record {
            answered-as = sym (answered_by-load file m z);
            no-state = λ r. absurd (false≢true r);
            memory_kept = λ r. absurd (false≢true r);
            shape-as = λ d. joined.shape-kept ∙ shape-fresh;
            limits-as = λ d. joined.limits-kept;
            shown = λ d. subst (λ (S : List Record). Sound after S) records-fresh joined.shown;
            words-length = joined.words-length ∙ length-set m.words 0 0;
            bytes-length =
                joined.bytes-length
                ∙ length-cleared_counts s.capacity (page_limit_of s (length m.bytes)) m.bytes;
            words-past = joined.words-past ∙ drop-set-first (depth_limit_of s (length m.words)) m.words;
            bytes_past =
                joined.bytes_past
                ∙ drop-cleared_counts s.capacity (page_limit_of s (length m.bytes))
                (page_limit_of s (length m.bytes) * page_size s.capacity) m.bytes (omega arith);
          }

      -- the store that is made, by the shape that is read
      module _ (shape : Shape) (shape-read : shape ≡ file_shape file) (answer : Answer (Unit {0})) (made : Store)
          (promised : FreshPromise shape m answer made) where
        same : made ≡ fresh
        same =
            made-fresh answer made (subst (λ (t : Shape). FreshPromise t m answer made) shape-read promised)

        pub joining-made : file_size n ≡ length file → Joining made n file
        joining-made size = subst (λ (x : Store). Joining x n file) (sym same) (joining-fresh size)

        pub promise-joined : (after : Store) → Joined made n file after → LoadPromise file m (accepted tt) after
        promise-joined after joined =
            promise-accepted after (subst (λ (x : Store). Joined x n file after) same joined)

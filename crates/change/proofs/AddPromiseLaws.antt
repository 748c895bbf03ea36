-- The promise of a record that is added, for each way that it ends: refused with 4, 6, 7 or 9, or accepted. What the
-- code hands over need hold on sound stores alone, save that nothing changes past the words and pages in use, nor
-- outside the leaves that change. Assumes nothing.
use Prim.Native.Nat.{ℕ, suc, ◌<◌, ◌≤◌}
use mathlib.Core.Path.{◌≡◌, refl}
use mathlib.Core.Bool.{true, false}
use mathlib.Core.List.{List}
use mathlib.Core.Logic.{inl, inr}
use lib.ListN.{length}
use Rattle.lists.specs.Filter.{non_empty}
use Rattle.lists.specs.Members.{Member}
use Rattle.shape.specs.Refusal.{Answer, accepted, refused}
use Rattle.shape.specs.Key.{key_fits}
use Rattle.shape.specs.declared.Shape.{Shape}
use Rattle.record.specs.declared.Content.{Content}
use Rattle.record.specs.Record.{Record, record_bit}
use Rattle.directory_word.specs.Word.{word_of}
use Rattle.directory_word.specs.declared.Leaf.TheVariants.{Empty}
use Rattle.model.specs.Sets.{in_shape, stored, with_record}
use Rattle.model.specs.Model.{Reply, record_for, changed}
use Rattle.model.specs.Add.{add_number, add_answer}
use Rattle.model.proofs.SetLaws.{in_shape-record_for}
use Rattle.store.specs.Store.{Store, Memory, memory, store, fixed_of}
use Rattle.store.specs.Sound.{Sound}
use Rattle.store.specs.Promises.{key_refusals, key_number, depth_at, insert_answers, AddPromise}
use Rattle.store.specs.declared.Tally.{Tally}
use Rattle.store.proofs.ShownLaws.{word_on}
use Rattle.change.proofs.RegionLaws.{changed_store}
use Rattle.change.proofs.PromiseLaws.{key_fits-of-key_number, KeepsPast, KeepsOthers}
use Rattle.change.proofs.PromiseLaws.{ShowsNext}
use Rattle.change.proofs.PromiseLaws.{promise-refused, promise-accepted}
use Rattle.change.proofs.MeetLaws.{all_have, records_on, MeetsPage}
use Rattle.change.proofs.NumberLaws.{NoFreePage, new-of-empty, room-of-empty, number-empty-none}
use Rattle.change.proofs.NumberLaws.{number-empty-free, number-stored, new-of-page, number-page, alike-leaf}
use Rattle.change.proofs.NumberLaws.{number-alike, differ-leaf, number-full-none, number-full-free}
use Rattle.change.proofs.InsertLaws.{TookRecord, GotPage, MeetsFull, DividedLeaf}
use Rattle.change.proofs.InsertLaws.{shows_next-taken, shows_next-got, shows_next-divided}

-- what holds if the store is sound
abbrev pub OnSound : Store → Type 0 → Type 0
OnSound before X = (S : List Record) → Sound before S → X

module _ (before : Store) (values : List ℕ) (content : Content) where
  abbrev s : Shape
  s = before.state.shape

  abbrev r : Record
  r = record_for s values content

  -- the model's answer and number, and its set if there is none
  abbrev model_answer : List Record → Answer Reply
  model_answer S = add_answer (fixed_of before.state) S values content

  abbrev model_number : List Record → ℕ
  model_number S = add_number (fixed_of before.state) S values content

  abbrev model_set : List Record → List Record
  model_set S = with_record s r S

  module _ (early : key_number before values ≡ 0) where
    fits : key_fits s values ≡ true
    fits = key_fits-of-key_number before values early

    inside : in_shape s r ≡ true
    inside = in_shape-record_for s values content fits

    -- ---- refused

    refuse : (n : ℕ) → ((S : List Record) → Sound before S → model_number S ≡ suc n)
        → Member (refused (suc n)) (insert_answers (depth_at before values))
        → AddPromise before values content (refused (suc n)) before
    refuse n number member =
        promise-refused false values (key_refusals before values) insert_answers model_answer model_number model_set before
        (refused (suc n)) n (λ S sound. (rw (number S sound), number S sound)) early member

    -- 9: the store is not sound
    pub add-unsound : OnSound before ⊥ → AddPromise before values content (refused 9) before
    add-unsound none = refuse 8 (λ S sound. absurd (none S sound)) (inr (inr (inr (inr (inl refl)))))

    -- 4: the key is on the page of its leaf
    pub add-stored : (g x : ℕ) → OnSound before (MeetsPage before r g x)
        → OnSound before (non_empty (stored r.key (records_on before g)) ≡ true)
        → AddPromise before values content (refused 4) before
    add-stored g x meets found =
        refuse 3
        (λ S sound. number-stored before values content fits S sound g x (meets S sound) (found S sound))
        (inr (inl refl))

    -- 6: that page is full, and all keys on it have the key's bits below L
    pub add-alike : (g x : ℕ) → OnSound before (MeetsPage before r g x)
        → OnSound before (non_empty (stored r.key (records_on before g)) ≡ false)
        → OnSound before (length (records_on before g) ≡ s.capacity)
        → OnSound before ((t : ℕ) → x ≤ t → t < before.state.limits.depth
        → all_have (record_bit s) (record_bit s r) (records_on before g) t ≡ true)
        → AddPromise before values content (refused 6) before
    add-alike g x meets absent full alike =
        refuse 5
        (λ S sound.
        number-alike before values content fits S sound g x (meets S sound) (absent S sound) (full S sound)
        (alike S sound))
        (inr (inr (inl refl)))

    -- 7: the leaf is empty, or full and to be divided, and no page is free
    pub add-empty-none : (x : ℕ) → OnSound before (word_on before (record_bit s r) ≡ word_of (Empty x))
        → OnSound before (NoFreePage before) → AddPromise before values content (refused 7) before
    add-empty-none x word none =
        refuse 6
        (λ S sound. number-empty-none before values content fits S sound x (word S sound) (none S sound))
        (inr (inr (inr (inl refl))))

    pub add-full-none : (g x m : ℕ) → OnSound before (MeetsFull before r g x m) → OnSound before (NoFreePage before)
        → AddPromise before values content (refused 7) before
    add-full-none g x m met none =
        refuse 6
        (λ S sound. let k = met S sound in
        number-full-none before values content fits S sound g x k.meets k.absent k.full m k.below
        k.alike k.differ k.deep (none S sound))
        (inr (inr (inr (inl refl))))

    -- ---- accepted

    accept : (T' : ℕ) (tally' : Tally) (m' : Memory) (x : ℕ) → KeepsPast before m'
        → KeepsOthers false before values (changed_store before T' tally' m')
        → depth_at (changed_store before T' tally' m') values ≡ x
        → ((S : List Record) → Sound before S → model_number S ≡ 0)
        → ((S : List Record) → Sound before S
        → ShowsNext before (changed_store before T' tally' m') S (with_record s r S))
        → AddPromise before values content (accepted (changed x)) (changed_store before T' tally' m')
    accept T' tally' m' x past others depth number shows =
        promise-accepted false values (key_refusals before values) insert_answers model_answer model_number model_set
        before T'
        tally' m' x early past others depth (inl refl) (λ S sound. (rw (number S sound), number S sound)) shows

    -- the leaf's page takes the record
    pub add-taken : (g x : ℕ) (bytes' : List ℕ) → OnSound before (TookRecord before r g x bytes')
        → KeepsPast before (memory before.memory.words bytes')
        → KeepsOthers false before values (store before.state before.memory.words bytes')
        → depth_at (store before.state before.memory.words bytes') values ≡ x
        → AddPromise before values content (accepted (changed x)) (store before.state before.memory.words bytes')
    add-taken g x bytes' took past others depth =
        accept before.state.deepest before.state.tally (memory before.memory.words bytes') x past others
        depth
        (λ S sound. let k = took S sound in
        number-page before values content fits S sound g x k.meets k.absent k.room)
        (λ S sound. let k = took S sound in
        shows_next-taken before r inside S sound
        (new-of-page before values content fits S sound g x k.meets k.absent) g x bytes' k past)

    -- an empty leaf gets a page
    pub add-got : (g x : ℕ) (words' bytes' : List ℕ) → OnSound before (GotPage before r g x words' bytes')
        → KeepsPast before (memory words' bytes')
        → KeepsOthers false before values (store before.state words' bytes')
        → depth_at (store before.state words' bytes') values ≡ x
        → AddPromise before values content (accepted (changed x)) (store before.state words' bytes')
    add-got g x words' bytes' got past others depth =
        accept before.state.deepest before.state.tally (memory words' bytes') x past others depth
        (λ S sound. let k = got S sound in
        number-empty-free before values content fits S sound x k.word g k.within k.free)
        (λ S sound. let k = got S sound in
        shows_next-got before r inside S sound (new-of-empty before values content fits S sound x k.word) g x words'
        bytes' k (room-of-empty before values content fits S sound x k.word) past)

    -- a full leaf is divided
    pub add-divided : (g h x m T' : ℕ) (tally' : Tally) (words₁ words' bytes' : List ℕ)
        → OnSound before (DividedLeaf before r g h x m T' tally' words₁ words' bytes')
        → KeepsPast before (memory words' bytes')
        → KeepsOthers false before values (changed_store before T' tally' (memory words' bytes'))
        → depth_at (changed_store before T' tally' (memory words' bytes')) values ≡ suc m
        → AddPromise before values content (accepted (changed (suc m)))
        (changed_store before T' tally' (memory words' bytes'))
    add-divided g h x m T' tally' words₁ words' bytes' divided past others depth =
        accept T' tally' (memory words' bytes') (suc m) past others depth
        (λ S sound. let d = divided S sound in let k = d.met in
        number-full-free before values content fits S sound g x k.meets k.absent k.full m k.below
        k.alike k.differ k.deep h d.within d.free)
        (λ S sound. let d = divided S sound in let k = d.met in
        shows_next-divided before r inside S sound
        (new-of-page before values content fits S sound g x k.meets k.absent) g h x m T' tally' words₁ words'
        bytes' d
        (alike-leaf before values content fits S sound g x k.meets k.absent k.full m k.below k.alike)
        (differ-leaf before values content fits S sound g x k.meets k.absent k.full m k.below k.alike
        k.differ k.deep) past)

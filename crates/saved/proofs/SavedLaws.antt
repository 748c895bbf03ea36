-- Two sound stores of one shape save equal bytes exactly if they hold equal sets; a save after an accepted load gives
-- the file back. Assumes nothing.
use Prim.Native.Nat.{ℕ, zero, suc, ◌≤◌, ◌<◌}
use mathlib.Core.Path.{◌≡◌, refl, sym, ap, subst, ◌∙◌}
use mathlib.Core.List.{List, ◌++◌}
use lib.ListN.{length, take, drop}
use lib.Seq.{take_at}
use Rattle.shape.specs.Refusal.{Answer, accepted, answered}
use Rattle.shape.proofs.ShapeLaws.{shape_number-true}
use Rattle.record.specs.Record.{Record}
use Rattle.record.proofs.ByteLaws.{AreBytes}
use Rattle.model.specs.Limits.{fresh_shape}
use Rattle.model.specs.Model.{if_accepted}
use Rattle.model.specs.Sets.{is_set}
use Rattle.model.proofs.LimitLaws.{in_bounds-fresh_shape}
use Rattle.store.specs.Store.{Store, Memory}
use Rattle.store.specs.Sound.{Sound}
use Rattle.store.proofs.ReadLaws.{sound_where-of-sound}
use Rattle.file.specs.File.{file_size, file_of, file_records}
use Rattle.file.specs.Promises.{every_leaf, fit_number, SavePromise, LoadPromise}
use Rattle.file.proofs.AcceptedLaws.{passed-of-accepted}
use Rattle.file.proofs.FreshLaws.{is_set-fresh_shape, file_of-fresh_shape}
use Rattle.file.proofs.FileLaws.{length-file_of, file_of-same}
use Rattle.file.proofs.FitLaws.{fit_number-fits, fit_number-short}
use Rattle.file.proofs.SoundLaws.{file_size-set-lt, payloads-of-sound}
use Rattle.file.proofs.WrittenLaws.{length-file_records, length_whole, file_of-file_records}
use Rattle.saved.specs.Saved.{EqualBytes, SavedAgain}

-- ---- equal bytes

-- a sound store's accepted save writes the file of its set
saved-bytes : (store : Store) (S : List Record) → Sound store S → (n : ℕ) (out out' : List ℕ)
    → SavePromise store out (accepted n) out' → take n out' ≡ file_of store.state.shape S
saved-bytes store S sound n out out' p =
    let wrote = p.saved-as S (sound_where-of-sound store every_leaf S sound) in
    by_number (fit_number S out) wrote.0 wrote.1
  where
    file : List ℕ
    file = file_of store.state.shape S

    rest : List ℕ
    rest = drop (file_size (length S)) out

    by_number : (m : ℕ) → accepted n ≡ answered m (file_size (length S)) → out' ≡ if_accepted m (file ++ rest) out
        → take n out' ≡ file
    by_number zero e w =
        let size : n ≡ file_size (length S) = cc in
        ap (take n) w ∙ take_at file rest n (length-file_of store.state.shape S ∙ sym size)
    by_number (suc m) e w = cc

pub equal-bytes : EqualBytes
equal-bytes one other S U S-sound U-sound S-bytes U-bytes same n k out out' other_out other_out' p q =
    let s = one.state.shape in
    let u = other.state.shape in
    let good = shape_number-true (fresh_shape s) (in_bounds-fresh_shape s S-sound.shape) in
    let S-set = is_set-fresh_shape s S ∙ S-sound.set in
    let U-set = ap (λ t. is_set t U) same ∙ is_set-fresh_shape u U ∙ U-sound.set in
    let files =
    file_of-same (fresh_shape s) S U good S-set U-set (payloads-of-sound one S S-sound S-bytes)
    (payloads-of-sound other U U-sound U-bytes) (file_size-set-lt one S S-sound) (file_size-set-lt other U U-sound) in
    let S-saved : take n out' ≡ file_of (fresh_shape s) S =
    saved-bytes one S S-sound n out out' p ∙ sym (file_of-fresh_shape s S) in
    let U-saved : take k other_out' ≡ file_of (fresh_shape s) U =
    saved-bytes other U U-sound k other_out other_out' q
    ∙ sym (file_of-fresh_shape u U)
    ∙ ap (λ t. file_of t U) (sym same) in
    (λ e. files.0 (sym S-saved ∙ e ∙ U-saved), λ e. S-saved ∙ files.1 e ∙ sym U-saved)

-- ---- saving after a load

module _ (file : List ℕ) (bytes : AreBytes file) (m : Memory) (loaded : Store)
    (load : LoadPromise file m (accepted tt) loaded) where
  abbrev S : List Record
  S = file_records file

  size-of-loaded : file_size (length S) ≡ length file
  size-of-loaded =
      ap file_size (length-file_records file) ∙ sym (length_whole file (passed-of-accepted file m loaded load).whole)

  file-of-loaded : file_of loaded.state.shape S ≡ file
  file-of-loaded =
      let passed = passed-of-accepted file m loaded load in
      ap (λ s. file_of s S) (load.shape-as refl) ∙ file_of-file_records file passed.whole bytes passed.plain

  -- a save of the loaded store, by its number
  saved-loaded : (out : List ℕ) (answer : Answer ℕ) (out' : List ℕ) → SavePromise loaded out answer out'
      → (n : ℕ) → fit_number S out ≡ n
      → (answer ≡ answered n (length file)) × (out' ≡ if_accepted n (file ++ drop (length file) out) out)
  saved-loaded out answer out' save n e =
      let wrote = save.saved-as S (sound_where-of-sound loaded every_leaf S (load.shown refl)) in (
        wrote.0 ∙ (λ i. answered (e i) (size-of-loaded i)),
        wrote.1 ∙ (λ i. if_accepted (e i) (file-of-loaded i ++ drop (size-of-loaded i) out) out),
      )

pub saved-again : SavedAgain
saved-again file bytes m loaded load out answer out' save =
    let size = size-of-loaded file bytes m loaded load in
    let saved = saved-loaded file bytes m loaded load out answer out' save in (
      λ h. saved 0 (fit_number-fits (file_records file) out (subst (λ n. n ≤ length out) (sym size) h)),
      λ h. saved 2 (fit_number-short (file_records file) out (subst (λ n. length out < n) (sym size) h)),
    )

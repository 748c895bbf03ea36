-- The test of a key's leaf, on a sound store. Assumes nothing.
use Prim.Native.Nat.{ℕ}
use mathlib.Core.Path.{◌≡◌, sym, ◌∙◌}
use mathlib.Core.Bool.{Bool, false, false≢true}
use mathlib.Core.List.{List}
use Rattle.shape.specs.Shape.{widths_of}
use Rattle.split.specs.Bits.{split_bit}
use Rattle.record.specs.Record.{Record}
use Rattle.store.specs.Store.{store}
use Rattle.store.specs.Sound.{Sound}
use Rattle.store.specs.declared.State.{State}
use Rattle.store.proofs.ShownLaws.{word_on}
use Rattle.directory_tests.specs.Intact.{RegionTold}
use Rattle.directory_word.specs.Word.{depth_field}
use Rattle.change_kept.proofs.SoundLaws.{region-passes, sound-leaf}

-- a test of the key's region of x bits by the word that it has fails on no sound store
pub leaf-told : (st : State) (words encoded : List ℕ) (x word : ℕ) (held : Bool)
    → RegionTold (widths_of st.shape) st.deepest x (split_bit (widths_of st.shape) encoded) word words held
    → held ≡ false → (bytes : List ℕ) → word_on (store st words bytes) (split_bit (widths_of st.shape) encoded) ≡ word
    → depth_field word ≡ x → (S : List Record) → Sound (store st words bytes) S → ⊥
leaf-told st words encoded x word held told e bytes own depth S sound =
    false≢true
    (sym e
    ∙ region-passes (widths_of st.shape) st.deepest x _ word words held
    (sound-leaf (store st words bytes) S sound encoded x word own depth) told)

-- A marked store and the unmarked one of its encodings: each is sound if the other is; Fresh makes both alike. Assumes
-- nothing.
use Prim.Native.Nat.{ℕ, ◌^◌, ◌≤◌, ◌<◌}
use mathlib.Core.Path.{◌≡◌, refl, sym, ap, subst, ◌∙◌}
use mathlib.Core.List.{List, [], ◌∷◌}
use native.Mathlib.Nat.{zero-mod}
use lib.ListN.{length}
use Rattle.shape.specs.Shape.{in_bounds, lowest_bad, shape_conditions, widths_of}
use Rattle.shape.specs.declared.Shape.{Shape}
use Rattle.region.specs.Division.{leaf_depth, leaf_records}
use Rattle.record.specs.Record.{Record}
use Rattle.page.specs.Page.{count_of, records_of, page_at}
use Rattle.model.specs.Limits.{page_limit_of, depth_limit_of, fresh_shape}
use Rattle.model.specs.Sets.{is_set, division_of}
use Rattle.store.specs.Store.{Memory, store, pages_size, word_at}
use Rattle.store.specs.Sound.{LeafWord, Sound}
use Rattle.store.specs.Fresh.{fresh_refusals, fresh_state, fresh_memory}
use Rattle.store.specs.declared.State.{State}
use Rattle.twin.specs.Twin.{unmarked_state, SoundTwin, FreshTwin}

-- ---- stores

-- the shape with other marks
abbrev marking : Shape → ℕ → Shape
marking s signs = record { attributes = s.attributes; widths = s.widths; capacity = s.capacity; signs = signs }

-- other marks and other bytes, whose pages show the same records
module _ (st : State) (signs : ℕ) (words bytes bytes' : List ℕ) where
  abbrev s : Shape
  s = st.shape

  abbrev P : ℕ
  P = st.limits.pages

  module _
      (same : (g : ℕ) → g < P
      → records_of (marking s signs) (page_at s.capacity bytes' g) ≡ records_of s (page_at s.capacity bytes g)) where
    leaf_word-marking : (rs : List Record) (x word : ℕ) → LeafWord s P bytes rs x word
        → LeafWord (marking s signs) P bytes' rs x word
    leaf_word-marking [] x word e = e
    leaf_word-marking (r ∷ rs) x word (g, l, e, shown) = (g, l, e, same g l ∙ shown)

    sound-marking : length bytes' ≡ length bytes
        → ((g : ℕ) → g < P → count_of (page_at s.capacity bytes' g) ≡ count_of (page_at s.capacity bytes g))
        → (S : List Record) → Sound (store st words bytes) S
        → Sound
        (store
        (record { shape = marking s signs; limits = st.limits; deepest = st.deepest; tally = st.tally }) words
        bytes') S
    unfolding in_bounds widths_of is_set division_of
    sound-marking same_length same_count S sound =
        let D = division_of s S in
        record {
          shape = sound.shape;
          words-lent = sound.words-lent;
          pages-lent = subst (λ n. pages_size st ≤ n) (sym same_length) sound.pages-lent;
          some-page = sound.some-page;
          most-pages = sound.most-pages;
          depth-limit = sound.depth-limit;
          depth-bits = sound.depth-bits;
          depth-within = sound.depth-within;
          set = sound.set;
          deepest = sound.deepest;
          tallied = sound.tallied;
          shown =
              record {
                word = λ p.
                    leaf_word-marking (leaf_records p 0 D) (leaf_depth p 0 D) (word_at s st.deepest words p)
                    (sound.shown.word p);
                same_word = sound.shown.same_word;
                own-page = sound.shown.own-page;
                free = λ g l none. same_count g l ∙ sound.shown.free g l none;
              };
        }

pub sound-twin : SoundTwin
sound-twin st words bytes encoded twin S = (
  sound-marking st 0 words bytes encoded twin.same-records twin.same_length twin.same_count S,
  sound-marking (unmarked_state st) st.shape.signs words encoded bytes (λ g l. sym (twin.same-records g l))
      (sym twin.same_length) (λ g l. sym (twin.same_count g l)) S,
)

-- ---- Fresh

pub fresh-twin : (s : Shape) (m : Memory) → FreshTwin s m
unfolding fresh_refusals fresh_memory fresh_state lowest_bad shape_conditions widths_of page_limit_of depth_limit_of fresh_shape
fresh-twin s m =
    record {
      same-refusals = refl;
      same_memory = refl;
      same-state =
          ap
          (λ signs.
          record {
            shape = marking (fresh_shape s) signs;
            limits = (fresh_state s m).limits;
            deepest = 0;
            tally = (fresh_state s m).tally;
          })
          (sym (zero-mod (2 ^ s.attributes)));
    }

-- The store after a delete that joins: its tally and T are those of the set without the key, and it shows that set.
-- Bounds of the numbers that the code computes on the way. Assumes nothing.
use Prim.Native.Nat.{ℕ, suc, ◌+◌, ◌-◌, ◌^◌, ◌≤◌, ◌<◌}
use mathlib.Core.Path.{◌≡◌, sym, ap, ◌∙◌}
use mathlib.Core.List.{List, [], ◌∷◌}
use mathlib.Core.Logic.{◌⊎◌, inl, inr}
use native.Mathlib.Omega.{arith}
use lib.ListN.{length, get_or}
use Rattle.lists.proofs.Numbers.{eq-or-ne, lt-or-le}
use Rattle.shape.specs.Shape.{shape_number}
use Rattle.shape.specs.declared.Shape.{Shape}
use Rattle.region.specs.Division.{Division, greatest_depth, tally}
use Rattle.region.proofs.CountLaws.{tally-greatest_depth}
use Rattle.region.proofs.CountLaws as counts
use Rattle.record.specs.Record.{Record, record_bit}
use Rattle.model.specs.Sets.{stored, without_key}
use Rattle.model.proofs.SetLaws.{is_set-without_key}
use Rattle.store.specs.Store.{Store, Memory}
use Rattle.store.specs.Sound.{tallies, Sound}
use Rattle.store.specs.declared.Tally.{Tally}
use Rattle.store.proofs.ShownLaws.{division_on, shape-of-Sound, leaf_depth-le-depth}
use Rattle.change.specs.Delete.{joined_tally, tally_depth, JoinFound, LeafJoined}
use Rattle.change.proofs.RegionLaws.{changed_store, RegionChanged, sound-of-region}
use Rattle.change.proofs.TallyLaws.{tallies-of}
use Rattle.change.proofs.BoundLaws.{get_d-leaves}
use Rattle.change.proofs.PromiseLaws.{ShowsNext, shows_next-of-region}
use Rattle.change.proofs.DeleteKeyLaws.{KeyJoined, tally-at, tally-between, tally-below, tally-above, tally-past}
use Rattle.change.proofs.DeleteTallyLaws.{length-joined_tally, get_d-joined_tally-above, get_d-joined_tally-past}
use Rattle.change.proofs.DeleteTallyLaws.{get_d-joined_tally-at, get_d-joined_tally-between, get_d-joined_tally-end}
use Rattle.change.proofs.DeleteTallyLaws.{tally_depth-le, tally_depth-tallies}
use Rattle.change.proofs.DeleteFoundLaws.{joined-of-found}
use Rattle.change.proofs.DeleteJoinLaws.{join-changed}

-- the numbers of a sound store's tally
module _ (before : Store) (S : List Record) (sound : Sound before S) where
  pub depth_le : before.state.deepest ≤ 12
  depth_le = omega (arith, sound.depth-within, sound.depth-limit)

  pub length-tally : length before.state.tally.leaves ≡ 13
  length-tally = ap length sound.tallied

module _ (before : Store) (S : List Record) (sound : Sound before S) (r : Record)
    (held : stored r.key S ≡ r ∷ []) (g h m y : ℕ) (f : JoinFound before r.key g h m y) where
  abbrev s : Shape
  s = before.state.shape

  abbrev T : ℕ
  T = before.state.deepest

  abbrev leaves : List ℕ
  leaves = before.state.tally.leaves

  abbrev D : Division Record
  D = division_on before S

  abbrev S' : List Record
  S' = without_key r.key S

  abbrev D' : Division Record
  D' = division_on before S'

  abbrev good : shape_number s ≡ 0
  good = shape-of-Sound before S sound

  joined : KeyJoined s good S sound.set r held m y
  joined = joined-of-found before S r sound held g h m y f

  -- the two leaves lie within the directory
  pub siblings-within : suc m ≤ T
  siblings-within = omega (arith, joined.depth, leaf_depth-le-depth before S sound (record_bit s r))

  read : (i : ℕ) → i < 13 → get_or leaves i 0 ≡ tally D i
  read = get_d-leaves before S sound

  less : (i : ℕ) → tally D i ≡ tally D' i + 1 → tally D i + 1 - 2 ≡ tally D' i
  less i e = omega arith

  -- ---- the tally and T

  get_d-joined : (i : ℕ) → i < 13 → get_or (joined_tally y (suc m - y) leaves) i 0 ≡ tally D' i
  get_d-joined i l =
      rw levels
      (by-depth (lt-or-le i y) (eq-or-ne i y) (lt-or-le m i) (eq-or-ne i (suc m)))
    where
      levels : suc m - y ≡ suc (m - y)
      levels = omega (arith, f.above)

      by-depth : (i < y) ⊎ (y ≤ i) → (i ≡ y) ⊎ (i ≡ y → ⊥) → (m < i) ⊎ (i ≤ m) → (i ≡ suc m) ⊎ (i ≡ suc m → ⊥)
          → get_or (joined_tally y (suc (m - y)) leaves) i 0 ≡ tally D' i
      by-depth (inl a) b c d =
          get_d-joined_tally-above y (suc (m - y)) leaves i a ∙ read i l
          ∙ sym (tally-above s good S sound.set r held m y joined i a)
      by-depth (inr a) (inl b) c d =
          rw b
          (omega (
            arith,
            get_d-joined_tally-at y (m - y) leaves
                (omega (arith, f.above, siblings-within, depth_le before S sound, length-tally before S sound)),
            read y (omega arith),
            tally-at s good S sound.set r held m y joined,
          ))
      by-depth (inr a) (inr b) (inr c) d =
          get_d-joined_tally-between y (m - y) leaves i (omega arith) (omega arith)
          (omega (arith, f.above, siblings-within, depth_le before S sound, length-tally before S sound))
          ∙ ap (λ n. n + 1 - 2) (read i l)
          ∙ less i (tally-between s good S sound.set r held m y joined i (omega arith) c)
      by-depth (inr a) (inr b) (inl c) (inl d) =
          omega (
            arith,
            get_d-joined_tally-end y (m - y) leaves i (omega (arith, f.above))
                (omega (arith, length-tally before S sound)),
            read i l,
            ap (tally D) d,
            ap (tally D') d,
            tally-below s good S sound.set r held m y joined,
          )
      by-depth (inr a) (inr b) (inl c) (inr d) =
          get_d-joined_tally-past y (suc (m - y)) leaves i (omega (arith, f.above)) ∙ read i l
          ∙ sym (tally-past s good S sound.set r held m y joined i (omega arith))

  pub tallies-joined : joined_tally y (suc m - y) leaves ≡ tallies D' 0 13
  tallies-joined =
      tallies-of D' 13 (joined_tally y (suc m - y) leaves)
      (length-joined_tally y (suc m - y) leaves ∙ length-tally before S sound) get_d-joined

  greatest_depth-joined-le : greatest_depth D' ≤ T
  greatest_depth-joined-le = by_order (lt-or-le T (greatest_depth D'))
    where
      by_order : (T < greatest_depth D') ⊎ (greatest_depth D' ≤ T) → greatest_depth D' ≤ T
      by_order (inr a) = a
      by_order (inl a) =
          absurd (omega (
            arith,
            tally-greatest_depth D',
            tally-past s good S sound.set r held m y joined (greatest_depth D')
                (omega (arith, siblings-within)),
            counts.tally-past D (greatest_depth D') (omega (arith, sound.deepest)),
          ))

  pub tally_depth-joined : tally_depth T (joined_tally y (suc m - y) leaves) ≡ greatest_depth D'
  tally_depth-joined =
      ap (tally_depth T) tallies-joined
      ∙ tally_depth-tallies D' T 13 greatest_depth-joined-le (omega (arith, depth_le before S sound))

  -- ---- the store

  pub shows_next-joined : (kept freed T' : ℕ) (tally' : Tally) (m' : Memory)
      → LeafJoined before r.key g h m y kept freed T' tally' m'
      → length m'.bytes ≡ length before.memory.bytes
      → ShowsNext before (changed_store before T' tally' m') S S'
  shows_next-joined kept freed T' tally' m' k bytes =
      shows_next-of-region before S S' T' tally' m' (record_bit s r) y sound changed
      (sound-of-region before S S' T' m' (record_bit s r) y sound changed tally'
      (is_set-without_key s S sound.set r.key) deepest (omega (arith, shallower, sound.depth-within))
      (k.tally ∙ tallies-joined) k.filled.size bytes)
    where
      shallower : T' ≤ T
      shallower = rw k.depth (tally_depth-le tally'.leaves T)

      deepest : T' ≡ greatest_depth D'
      deepest = k.depth ∙ ap (tally_depth T) k.tally ∙ tally_depth-joined

      changed : RegionChanged before S S' T' m' (record_bit s r) y
      changed = join-changed before S sound r held g h m y kept freed T' tally' m' f k shallower deepest

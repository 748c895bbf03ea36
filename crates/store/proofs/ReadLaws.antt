-- Laws of the promises of the calls that read. Assumes nothing.
use Prim.Native.Nat.{ℕ}
use mathlib.Core.Path.{refl}
use mathlib.Core.List.{List}
use Rattle.region.specs.Query.{QueryBit, LeafTest}
use Rattle.record.specs.Record.{Record}
use Rattle.store.specs.Store.{Store}
use Rattle.store.specs.Sound.{Sound}
use Rattle.store.specs.Promises.{SoundWhere, agreeing, SoundWhereRead}

-- nothing is overwritten
pub sound_where-of-sound : (store : Store) (reads : LeafTest Record) (S : List Record) → Sound store S
    → SoundWhere store reads S
sound_where-of-sound store reads S sound = (store.memory.bytes, sound, refl, λ p read g x within word. refl)

pub sound_where_read-of-sound : (store : Store) (q : ℕ → QueryBit) (S : List Record) → Sound store S
    → SoundWhereRead store q S
sound_where_read-of-sound store q S sound = sound_where-of-sound store (agreeing q) S sound

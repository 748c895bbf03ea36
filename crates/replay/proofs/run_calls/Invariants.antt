-- The calls so far kept their promises, and the next output begins where the last one ended.
use Rattle.std.proofs.Common.{◌≡◌, ◌≤◌, length}
use Rattle.store.specs.Store.{store}
use Rattle.replay_encoding.specs.Encoding.{output_start}
use Rattle.replay.specs.Private.{CallsRan}
use Rattle.replay.proofs.run_calls.Given as goal

abbrev pub invariant-loop-i : goal.invariant-loop-i
invariant-loop-i l = record {
  within : l.start ≤ length l.initial.out;
  begins : l.start ≡ output_start l.calls (length l.initial.out) l.i;
  ran : CallsRan (store l.initial.current l.initial.dir l.initial.pages) l.calls l.initial.answers l.initial.out l.i
      (store l.current l.dir l.pages) l.answers l.out;
}

use Rattle.std.proofs.Common.{◌≡◌, take}
use Rattle.pg_mon_control.specs.Loading.{with_words}
use Rattle.pg_mon_control.proofs.loading.put_words.Given as goal

-- the words before this one were poked
abbrev pub invariant-loop-at : goal.invariant-loop-at
invariant-loop-at g l = record {
  put : g.H.Hardware.machinery l.hw ≡ with_words l.base (take l.at l.words) (g.H.Hardware.machinery l.initial.hw);
  fixed : g.H.Hardware.fixed l.hw ≡ g.H.Hardware.fixed l.initial.hw;
}

use Rattle.std.proofs.Common.{◌≡◌}
use Rattle.pg_lang_meaning.specs.Steps.{steps}
use Rattle.pg_prog_trace.specs.declared.request.Until.TheVariants.{Still}
use Rattle.pg_prog_trace.proofs.UntilLemmas.{NoneBefore}
use Rattle.pg_prog_trace.proofs.until.count_until_still.Given as goal

-- so many steps were done, and no state was still before
abbrev pub invariant-loop-done : goal.invariant-loop-done
invariant-loop-done g l = record {
  state : (g.H.Hardware.machinery l.hw).state ≡ steps l.m.desc l.done (g.H.Hardware.machinery l.initial.hw).state;
  none : NoneBefore l.m.desc Still (g.H.Hardware.machinery l.initial.hw).state l.done;
  fixed : g.H.Hardware.fixed l.hw ≡ g.H.Hardware.fixed l.initial.hw;
}

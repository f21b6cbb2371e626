use Rattle.std.proofs.Common.{sym, subst}
use Rattle.pg_prog_trace.specs.Until.{IsUntil}
use Rattle.pg_prog_trace.specs.declared.request.Until.{Until}
use Rattle.pg_prog_trace.proofs.UntilLemmas.{until-burst}
use Rattle.pg_prog_trace.proofs.until.count_until.Goals as goal

pub returns-in-Trap-clause-until : goal.returns-in-Trap-clause-until
returns-in-Trap-clause-until g c =
    let d = c.args.m.now.desc in
    let s = (g.H.Hardware.machinery c.args.hw.now).state in
    subst (λ (u : Until). IsUntil d u c.args.most s c.burst.result) (sym c.in-Trap.is) (until-burst d c.args.most c.burst.result s c.burst.ensures.count)

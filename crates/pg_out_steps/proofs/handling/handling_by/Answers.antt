use Rattle.std.proofs.Common.{sym, ◌∙◌}
use Rattle.pg_out_steps.proofs.HandlingLemmas.{handled-by}
use Rattle.pg_out_steps.proofs.handling.handling_by.Goals as goal

pub returns-then-asks : goal.returns-then-asks
returns-then-asks g c =
    handled-by c.args.monitor c.args.m.now.desc (g.H.Hardware.machinery c.args.hw.now).state c.psw.result c.asked.result c.psw.ensures
    (sym c.asks.ensures ∙ c.if-asks.true) c.asked.ensures

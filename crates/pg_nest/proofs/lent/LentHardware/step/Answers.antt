use Rattle.std.proofs.Common.{◌∙◌, ap, sym}
use Rattle.pg_hw.specs.Tallies.{after_steps}
use Rattle.pg_hw.proofs.BurstLaws.{untrapped_among-one}
use Rattle.pg_hw.proofs.RunLemmas.{BottomRises-own}
use Rattle.pg_nest.proofs.lent.LentHardware.step.Goals as goal

pub returns-clause-bottom : goal.returns-clause-bottom
returns-clause-bottom g c =
    let d = c.args.m.now.desc in
    let s = (g.H.Hardware.machinery c.args.self.now.hw.now).state in
    let before = (g.H.Hardware.machinery c.args.self.now.hw.now).tally in
    BottomRises-own d 1 s before (g.H.Hardware.machinery c.step.new.self).tally (c.step.ensures.tally ∙ ap (after_steps before 1) (sym (untrapped_among-one d s)))

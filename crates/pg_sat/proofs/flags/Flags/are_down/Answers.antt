use Rattle.std.proofs.Common.{Bool, List, subst, arith}
use Rattle.pg_sat.specs.Listed.{AreDownWithin}
use Rattle.pg_sat.proofs.BlockLemmas.{down_within}
use Rattle.pg_sat.proofs.flags.Flags.are_down.Goals as goal

pub returns : goal.returns
returns c = λ _. subst (λ (fs : List Bool). AreDownWithin fs c.args.from c.args.to) c.self.view_is
    (down_within c.self.inside.flags.items c.self.inside.blocks.items c.args.from c.args.to c.self.invariant
    (λ j le lt. c.loop-block.invariant j le (omega (arith, lt, c.loop-block-test.false))))

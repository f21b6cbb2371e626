use Rattle.std.proofs.Common.{◌∙◌, refl, ◌+◌, ◌-◌, arith}
use Rattle.pg_monitor.proofs.WentLemmas.{Went-none, Went-then, Went-count}
use Rattle.pg_monitor.proofs.turning.turn_often.Goals as goal

pub loop-left-init : goal.loop-left-init
loop-left-init g c = record {
  most = omega arith;
  went = Went-count c.args.m.now.desc 0 (c.args.n - c.args.n) _ _ _ _ (omega arith) (Went-none c.args.m.now.desc _ c.args.guest.now c.requires.runs);
  fixed = refl;
}

pub loop-left-preserved : goal.loop-left-preserved
loop-left-preserved g c =
    let within = c.loop-left.invariant.most in
    record {
      most = omega (arith, within);
      went = Went-count c.args.m.now.desc ((c.args.n - c.loop-left.left) + c.turn_on-left.result.turns) (c.args.n - (c.loop-left.left - c.turn_on-left.result.turns)) _ _ _ _
          (omega (arith, within, c.turn_on-left.ensures.told.within))
          (Went-then c.args.m.now.desc _ _ _ _ _ _ _ _ c.args.m.now.valid c.requires.runs c.loop-left.invariant.went c.turn_on-left.ensures.went);
      fixed = c.turn_on-left.ensures.fixed ∙ c.loop-left.invariant.fixed;
    }

pub returns-clause-went : goal.returns-clause-went
returns-clause-went g c =
    Went-count c.args.m.now.desc (c.args.n - c.loop-left.left) c.args.n _ _ _ _ (omega (arith, c.loop-left-test.false)) c.loop-left.invariant.went

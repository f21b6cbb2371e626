use Rattle.std.proofs.Common.{◌∙◌, refl, sym, ◌+◌, ◌-◌, subst, arith}
use Rattle.pg_mon_control.specs.Guests.{virtual}
use Rattle.pg_monitor.specs.Settling.{TellsFirst}
use Rattle.pg_monitor.proofs.SettleLemmas.{TellsFirst-none, TellsFirst-then, TellsFirst-as, first-fits}
use Rattle.pg_monitor.proofs.WentLemmas.{Went-none, Went-then, Went-count}
use Rattle.pg_monitor.proofs.settling.settle_often.Goals as goal

pub loop-left-init : goal.loop-left-init
loop-left-init g c = record {
  most = omega arith;
  went = Went-count c.args.m.now.desc 0 (c.args.n - c.args.n) _ _ _ _ (omega arith) (Went-none c.args.m.now.desc _ c.args.guest.now c.requires.runs);
  first = TellsFirst-none c.args.m.now.desc (c.args.n - c.args.n) _ (omega arith);
  fixed = refl;
}

pub first_of-still-requires : goal.first_of-still-requires
first_of-still-requires g c =
    let told = c.settle_on-settled.ensures.told in
    first-fits c.args.m.now.desc (c.args.n - c.loop-left.left) c.settle_on-settled.result.done _ c.settle_on-settled.result.still told.first
    (omega (arith, c.loop-left.invariant.most, told.within, c.ranges.n.fits))

pub loop-left-preserved : goal.loop-left-preserved
loop-left-preserved g c =
    let within = c.loop-left.invariant.most in
    let told = c.settle_on-settled.ensures.told in
    let before = c.loop-left.invariant in
    record {
      most = omega (arith, within);
      went = Went-count c.args.m.now.desc ((c.args.n - c.loop-left.left) + c.settle_on-settled.result.done) (c.args.n - (c.loop-left.left - c.settle_on-settled.result.done)) _ _ _ _
          (omega (arith, within, told.within))
          (Went-then c.args.m.now.desc _ _ _ _ _ _ _ _ c.args.m.now.valid c.requires.runs before.went c.settle_on-settled.ensures.went);
      first = subst (TellsFirst c.args.m.now.desc (c.args.n - (c.loop-left.left - c.settle_on-settled.result.done)) (virtual (g.H.Hardware.machinery c.args.hw.now).state.cells c.args.guest.now)) (sym c.first_of-still.ensures)
          (TellsFirst-as c.args.m.now.desc ((c.args.n - c.loop-left.left) + c.settle_on-settled.result.done) (c.args.n - (c.loop-left.left - c.settle_on-settled.result.done)) _ _ _
          (omega (arith, within, told.within)) refl
          (TellsFirst-then c.args.m.now.desc (c.args.n - c.loop-left.left) c.settle_on-settled.result.done _ c.loop-left.still c.settle_on-settled.result.still before.first
          (TellsFirst-as c.args.m.now.desc c.settle_on-settled.result.done c.settle_on-settled.result.done _ _ _ refl before.went.state told.first)));
      fixed = c.settle_on-settled.ensures.fixed ∙ before.fixed;
    }

pub returns-clause-went : goal.returns-clause-went
returns-clause-went g c =
    Went-count c.args.m.now.desc (c.args.n - c.loop-left.left) c.args.n _ _ _ _ (omega (arith, c.loop-left-test.false)) c.loop-left.invariant.went

pub returns-clause-first : goal.returns-clause-first
returns-clause-first g c =
    TellsFirst-as c.args.m.now.desc (c.args.n - c.loop-left.left) c.args.n _ _ _ (omega (arith, c.loop-left-test.false)) refl c.loop-left.invariant.first

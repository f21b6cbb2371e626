use Rattle.std.proofs.Common.{ap}
use Rattle.pg_word.specs.declared.psw.Psw.{Psw}
use Rattle.pg_mon_control.specs.Current.{with_psw}
use Rattle.pg_hybrid.proofs.SteppedLemmas.{Interpreted-of}
use Rattle.pg_hybrid.proofs.turning.interpret.Goals as goal

pub returns-clause-interpreted : goal.returns-clause-interpreted
returns-clause-interpreted g c =
    Interpreted-of c.args.m.now.desc _ _ c.args.guest.now _ c.args.m.now.valid c.requires.holds c.emulate_told.ensures.grant
    (ap (λ (x : Psw). with_psw c.args.guest.now x) c.emulate_told.ensures.psw)

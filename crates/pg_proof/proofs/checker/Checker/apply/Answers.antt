use Rattle.std.proofs.Common.{rules}
use Rattle.pg_proof.proofs.ReplayLemmas.{few_either, judged_removal}
use Rattle.pg_proof.proofs.checker.Checker.apply.Goals as goal

pub returns-in-Remove-clause-judged : goal.returns-in-Remove-clause-judged
returns-in-Remove-clause-judged c =
    judged_removal _ c.remove.result c.args.self.now c.remove.new.self c.args.act.now c.as_slice.result.now (search rules) c.remove.ensures.removed
    c.remove.ensures.fault

pub returns-in-Remove-clause-few : goal.returns-in-Remove-clause-few
returns-in-Remove-clause-few c =
    few_either c.remove.result c.args.self.now c.remove.new.self c.as_slice.result.now c.remove.ensures.removed c.remove.ensures.kept

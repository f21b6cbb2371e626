use Rattle.pg_cnf.proofs.TruthLemmas.{run_of_true, true_of_run}
use Rattle.pg_cnf.proofs.laws.true_on_runs.Goals as goal

pub returns : goal.returns
returns c =
    let a = c.args.assignment.now in let ns = c.args.nodes.now in
    (run_of_true a ns c.args.root c.requires.circuit c.requires.places, true_of_run a ns c.args.root c.requires.circuit)

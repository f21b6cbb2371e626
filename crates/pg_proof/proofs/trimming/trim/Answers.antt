use Rattle.std.proofs.Common.{◌+◌, length, ap, ◌∙◌}
use Rattle.pg_proof.specs.Tidied.{tidied}
use Rattle.pg_proof.proofs.TidiedLemmas.{trimmed}
use Rattle.pg_proof.proofs.trimming.trim.Goals as goal

pub returns : goal.returns
returns c =
    let steps = c.in_ok-steps.steps.items in let question = c.args.cnf.now.clauses in
    trimmed question c.args.acts.now steps c.from_vec.result (length question + length steps + 1)
    (c.from_vec.ensures ∙ c.in_ok-log.ensures ∙ ap (λ q. tidied q (q + length steps + 1) steps) c.len.ensures) (λ i. length question + length steps + 1) c.in_ok-steps.ensures

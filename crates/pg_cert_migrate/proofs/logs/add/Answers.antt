use Rattle.std.proofs.Common.{◌++◌, ◌∷◌, [], ap, sym, ◌∙◌}
use Rattle.pg_cert_migrate.specs.Logs.{with_act}
use Rattle.pg_cert_migrate.proofs.LogLemmas.{act_added, OnOk_then}
use Rattle.pg_cert_migrate.proofs.logs.add.Goals as goal

pub returns-in_ok-push-in-Some : goal.returns-in_ok-push-in-Some
returns-in_ok-push-in-Some c =
    let front = c.pop.new.self in
    let last = c.in-Some.last in
    let act = c.args.act in
    OnOk_then c.push-in-Some.result (λ e.
    e ∙ ap (λ log. front ++ log ∷ []) c.in_ok-push-in-Some.ensures.ok ∙ sym (act_added front last act)
    ∙ sym (ap (λ ls. with_act ls act) c.in-Some.ensures)) c.push-in-Some.ensures.ok

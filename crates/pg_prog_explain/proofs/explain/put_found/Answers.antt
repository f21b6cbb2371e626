use Rattle.std.proofs.Common.{List, ℕ, sym, ◌∙◌, ap, subst}
use Rattle.pg_edge.specs.Sink.{Puts}
use Rattle.pg_cmd_certs.specs.Judged.{verdict_on, verdict_status}
use Rattle.pg_cmd_certs.specs.Views.{judged}
use Rattle.pg_cmd_certs.proofs.TellingLemmas.{verdict-ended}
use Rattle.pg_cmd_base.specs.Classes.{class_of}
use Rattle.pg_cmd_base.specs.World.{output}
use Rattle.pg_cmd_base.specs.declared.status.Status.{Status}
use Rattle.pg_prog_explain.specs.Explaining.{PutAs, stated_as}
use Rattle.pg_prog_explain.proofs.ExplainLemmas.{put-as}
use Rattle.pg_prog_explain.proofs.explain.put_found.Goals as goal

pub returns-clause-told : goal.returns-clause-told
returns-clause-told g c =
    let found = c.args.found.now in
    let due = verdict_status (verdict_on (judged found.judged)) in
    let old = output g.S.Sink c.args.out.now in
    let new = output g.S.Sink c.put.new.self in
    let is = c.stated.ensures ∙ ap (stated_as c.put.result) (c.status_of.ensures ∙ ap verdict_status c.verdict.ensures) in
    let puts = subst (λ (t : List ℕ). Puts old.written new.written old.faults new.faults t c.put.result) c.as_slice.ensures.value c.put.ensures.puts in
    subst (λ (s : Status). PutAs found.told.text.items due old new s (class_of s)) (sym is)
    (put-as found.told.text.items due old new c.put.result (verdict-ended (verdict_on (judged found.judged))) puts)

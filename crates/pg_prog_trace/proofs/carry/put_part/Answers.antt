use Rattle.std.proofs.Common.{◌≤◌, Err, sym, ◌∙◌, ap, subst}
use Rattle.std.proofs.lemmas.Result.{err_from_is_err_and}
use Rattle.pg_ast.specs.declared.tree.Desc.{Desc}
use Rattle.pg_lang_valid.specs.Valid.{IsValid}
use Rattle.pg_cmd_base.specs.World.{output}
use Rattle.pg_prog_trace.specs.Plans.{planned_run}
use Rattle.pg_prog_trace.proofs.TracingLemmas.{part-put, part-broken, part-refused}
use Rattle.pg_prog_trace.proofs.carry.put_part.Goals as goal

pub put_run-requires-clause-serves : goal.put_run-requires-clause-serves
put_run-requires-clause-serves g c = subst (λ x. (d : Desc) → IsValid d → g.H.Hardware.serves x d) (sym c.part_of.ensures.fixed) c.requires.able.serves

pub put_run-requires-clause-room : goal.put_run-requires-clause-room
put_run-requires-clause-room g c = subst (λ x. 1048575 ≤ g.H.Hardware.room x) (sym c.part_of.ensures.fixed) c.requires.able.room

pub returns-clause-put : goal.returns-clause-put
returns-clause-put g c =
    part-put c.args.telling c.args.until (planned_run c.args.plan) (planned_run c.in_ok-part.part) (g.S.Sink.written c.args.out.now) (g.S.Sink.written c.put_run.new.out)
    (g.H.Hardware.machinery c.put_run.new.hw).state c.put_run.result c.in_ok-part.ensures.part c.put_run.ensures.reached c.put_run.ensures.put

pub returns-clause-front : goal.returns-clause-front
returns-clause-front g c =
    part-broken c.args.telling c.args.until (planned_run c.args.plan) (planned_run c.in_ok-part.part) (output g.S.Sink c.args.out.now) (output g.S.Sink c.put_run.new.out) c.put_run.result
    c.in_ok-part.ensures.part c.put_run.ensures.front

pub returns-in_err-part-clause-front : goal.returns-in_err-part-clause-front
returns-in_err-part-clause-front g c =
    let fault = err_from_is_err_and c.from_residual.result c.from_residual.ensures.1 in
    part-refused c.args.telling c.args.until (planned_run c.args.plan) (output g.S.Sink c.args.out.now) c.from_residual.result (fault.1 ∙ ap (λ e. Err e) fault.2)

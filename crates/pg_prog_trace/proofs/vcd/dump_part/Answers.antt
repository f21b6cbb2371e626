use Rattle.std.proofs.Common.{sym, subst}
use Rattle.pg_ast.specs.declared.tree.Desc.{Desc}
use Rattle.pg_lang_valid.specs.Valid.{IsValid}
use Rattle.pg_prog_trace.specs.Plans.{planned_run}
use Rattle.pg_prog_trace.proofs.DumpLemmas.{dump-put}
use Rattle.pg_prog_trace.proofs.vcd.dump_part.Goals as goal

pub put_dump-requires-clause-serves : goal.put_dump-requires-clause-serves
put_dump-requires-clause-serves g c = subst (λ x. (d : Desc) → IsValid d → g.H.Hardware.serves x d) (sym c.part_of.ensures.fixed) c.requires.able.serves

pub returns-clause-put : goal.returns-clause-put
returns-clause-put g c =
    let p = c.in_ok-part.part in
    dump-put c.args.monitor c.args.until (planned_run c.args.plan) (planned_run p) c.as_slice-image.result.now (g.S.Sink.written c.args.out.now)
    (g.S.Sink.written c.put_dump.new.out) (g.H.Hardware.machinery c.put_dump.new.hw).state c.put_dump.result c.in_ok-part.ensures.part c.as_slice-image.ensures
    p.can_run.whole c.put_dump.ensures.reached c.put_dump.ensures.put

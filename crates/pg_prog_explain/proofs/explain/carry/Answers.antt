use Rattle.std.proofs.Common.{refl}
use Rattle.pg_cmd_certs.specs.Views.{judged}
use Rattle.pg_prog_explain.specs.Explaining.{beside, explain_words}
use Rattle.pg_prog_explain.proofs.ExplainLemmas.{explained-carried, halted-carried, mends-saves}
use Rattle.pg_prog_explain.proofs.explain.carry.Goals as goal

pub returns-in-Ok-clause-carries : goal.returns-in-Ok-clause-carries
returns-in-Ok-clause-carries g c = λ hw.
    let w = explain_words c.args.request.now in
    let old = beside g.F.Shelf g.S.Sink hw c.args.shelf.now c.args.out.now in
    let new = beside g.F.Shelf g.S.Sink hw c.find.new.shelf c.put_found.new.out in
    explained-carried w old new (judged c.in-Ok.found.judged) c.in-Ok.found.told.text.items c.put_found.result c.in-Ok.ensures.due c.in-Ok.ensures.mends c.put_found.ensures.told

pub returns-in-Ok-clause-files : goal.returns-in-Ok-clause-files
returns-in-Ok-clause-files g c = mends-saves (explain_words c.args.request.now).mend (judged c.in-Ok.found.judged) _ _ c.in-Ok.ensures.mends

pub returns-in-Err-clause-carries : goal.returns-in-Err-clause-carries
returns-in-Err-clause-carries g c = λ hw.
    halted-carried (explain_words c.args.request.now) _ _ c.in-Err.halt c.halted.result c.in-Err.ensures.halts c.halted.ensures.told refl

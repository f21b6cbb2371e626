use Rattle.std.proofs.Common.{Option, inl, inr, refl, sym, subst}
use Rattle.pg_edge.specs.Shelf.{Files}
use Rattle.pg_cmd_certs.specs.Views.{judged}
use Rattle.pg_cmd_base.specs.World.{SavesOnly}
use Rattle.pg_prog_explain.specs.Explaining.{explain_words}
use Rattle.pg_prog_explain.proofs.ExplainLemmas.{due-means, halted-carried, mends-saves}
use Rattle.pg_prog_explain.proofs.explain.carry_json.Goals as goal

pub returns-in-Ok-clause-files : goal.returns-in-Ok-clause-files
returns-in-Ok-clause-files g c =
    let mend = (explain_words c.args.request.now).mend in
    subst (λ (o : Option Files). SavesOnly mend (g.F.Shelf.files c.args.shelf.now) o) (sym c.put_found_json.ensures.reads.same_files)
    (mends-saves mend (judged c.in-Ok.found.judged) _ _ c.in-Ok.ensures.mends)

pub returns-in-Ok-clause-leaves : goal.returns-in-Ok-clause-leaves
returns-in-Ok-clause-leaves g c = λ hw.
    let w = explain_words c.args.request.now in
    inl (record {
      judged = judged c.in-Ok.found.judged;
      due = c.in-Ok.ensures.due;
      means = due-means w.desc w.cert (g.F.Shelf.files c.args.shelf.now) (judged c.in-Ok.found.judged) c.in-Ok.ensures.due;
      status = c.put_found_json.ensures.told;
    })

pub returns-in-Err-clause-leaves : goal.returns-in-Err-clause-leaves
returns-in-Err-clause-leaves g c = λ hw. inr (record {
  given = c.halted.result;
  is = c.code.ensures;
  carries = halted-carried (explain_words c.args.request.now) _ _ c.in-Err.halt c.halted.result c.in-Err.ensures.halts c.halted.ensures.told refl;
})

use Rattle.std.proofs.Common.{List, ℕ, refl, sym, subst}
use Rattle.pg_cmd_base.specs.Classes.{class_of}
use Rattle.pg_cmd_base.specs.World.{output}
use Rattle.pg_cmd_base.specs.declared.status.Status.{Status}
use Rattle.pg_cmd_base.specs.declared.status.Status.TheVariants as status
use Rattle.pg_prog_explain.specs.Explaining.{HaltTold, PutAs}
use Rattle.pg_prog_explain.specs.declared.found.Halt.{Halt}
use Rattle.pg_prog_explain.proofs.ExplainLemmas.{put-as}
use Rattle.pg_prog_explain.proofs.explain.halted.Goals as goal

pub returns-in-Lacking-clause-told : goal.returns-in-Lacking-clause-told
returns-in-Lacking-clause-told g c =
    let old = output g.S.Sink c.args.out.now in
    let new = output g.S.Sink c.put_text.new.out in
    subst (λ (why : Halt). HaltTold why old new c.stated.result) (sym c.in-Lacking.is)
    (subst (λ (s : Status). (text : List ℕ) × PutAs text status.Words old new s (class_of s)) (sym c.stated.ensures)
    (_, put-as _ status.Words old new c.put_text.result refl c.put_text.ensures))

use Rattle.std.proofs.Common.{Some, Err, subst}
use Rattle.pg_edge.specs.ShelfView.{content_of}
use Rattle.pg_cmd_base.specs.Descriptions.{DescDue}
use Rattle.pg_mach_ready.specs.declared.machine.Machine.{Machine}
use Rattle.pg_cmd_base.specs.Answering.{Comes}
use Rattle.pg_cmd_base.specs.declared.refusal.Stop.{Stop}
use Rattle.pg_prog_explain.proofs.ExplainLemmas.{again-came, again-refused}
use Rattle.pg_prog_explain.proofs.load.described.Goals as goal

pub returns-in-Ok-load_machine : goal.returns-in-Ok-load_machine
returns-in-Ok-load_machine c = λ told reads held.
    again-came told c.args.name.now c.args.text.now c.in-Ok.shelf.files c.in-Ok-load_machine.machine.desc c.in-Ok.ensures held c.in-Ok-load_machine.ensures.comes

pub returns-in-Err-Refused : goal.returns-in-Err-Refused
returns-in-Err-Refused c = λ told reads held.
    again-refused told c.args.name.now c.args.text.now c.in-Ok.shelf.files c.in-Err-Refused.why c.in-Ok.ensures held
    (subst (λ (s : Stop). Comes (λ (m : Machine). m.desc) (DescDue (Some (content_of c.in-Ok.shelf.files)) c.args.name.now) c.in-Ok.shelf.reads c.load_machine.new.shelf.reads (Err s))
    c.in-Err-Refused.field-0-is c.in-Err-Refused.ensures.comes)

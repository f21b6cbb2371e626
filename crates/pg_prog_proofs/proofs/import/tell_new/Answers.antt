use Rattle.std.proofs.Common.{subst}
use Rattle.std.specs.Prelude.{string_bytes}
use Rattle.pg_edge.specs.Sink.{Adds}
use Rattle.pg_edge.specs.Told.{BothTold}
use Rattle.pg_cmd_certs.specs.Views.{judged}
use Rattle.pg_cmd_base.specs.World.{output}
use Rattle.pg_prog_proofs.proofs.ImportLemmas.{told_behind}
use Rattle.pg_prog_proofs.proofs.import.tell_new.Goals as goal

pub returns-in-Ok : goal.returns-in-Ok
returns-in-Ok g c =
    let new = c.args.new.now in
    let old = output g.S.Sink c.args.out.now in
    let mid = output g.S.Sink c.put.new.out in
    told_behind (string_bytes new.line) (judged new.judged) old mid (output g.S.Sink c.tell_verdict.new.out) c.tell_verdict.result
    (subst (λ line. BothTold old.written mid.written (Adds line)) c.as_bytes.ensures.value c.in-Ok.ensures.whole) c.in-Ok.ensures.quiet
    c.tell_verdict.ensures.told

use Rattle.pg_prog_proofs.proofs.ImportLemmas.{is_saved_text}
use Rattle.pg_prog_proofs.proofs.import.making.new_certificate.Goals as goal

pub returns-in-Ok-replaced-clause-is_new : goal.returns-in-Ok-replaced-clause-is_new
returns-in-Ok-replaced-clause-is_new c =
    let h = c.in-Ok-replaced.ensures in
    let m = c.in-Ok-replaced.imported in
    record {
      finding = c.in-Ok.taken.finding;
      saved = is_saved_text c.args.machine.desc c.args.cert m.cert c.args.instr c.args.request.now.kind c.in-Some.place c.in-Ok.taken.finding m.text.items m.report
          c.in-Some.ensures c.in-Ok.ensures.right h.replaced h.text h.family h.marks;
      line = c.in-Ok.ensures.line;
    }

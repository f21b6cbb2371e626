use Rattle.std.proofs.Common.{List, ℕ, Option, Ok, Err, sym, subst, arith}
use Rattle.pg_ast.specs.declared.tree.Desc.{Desc}
use Rattle.pg_cert.specs.declared.report.Report.{Report}
use Rattle.pg_edge.specs.Shelf.{Files}
use Rattle.pg_cmd_certs.specs.Views.{judged}
use Rattle.pg_mach_ready.specs.declared.machine.Machine.{Machine}
use Rattle.pg_read.specs.Answer.{most_desc_bytes}
use Rattle.pg_cmd_base.specs.Answering.{Comes}
use Rattle.pg_cmd_base.specs.FileSteps.{HoldsWithin}
use Rattle.pg_cmd_base.specs.Steps.{Came}
use Rattle.pg_prog_base.specs.Either.{EitherDue}
use Rattle.pg_prog_explain.specs.declared.load.Loaded.{Loaded}
use Rattle.pg_prog_explain.proofs.ExplainLemmas.{judged-stopped, judged-refused, judged-came}
use Rattle.pg_prog_base.proofs.CertLemmas.{either-comes}
use Rattle.pg_prog_explain.proofs.load.load_named.Goals as goal

-- the file of the description stops it
pub returns-in-Err-clause-comes : goal.returns-in-Err-clause-comes
returns-in-Err-clause-comes g c =
    judged-stopped {T = Desc} (λ d. d) (λ (l : Loaded). judged l.judged) c.args.desc.now c.args.cert.now (g.F.Shelf.files c.args.shelf.now) _ _ _ c.in-Err.stop c.in-Err.ensures.stops (omega arith)

-- its text does
pub returns-in-Err-described-clause-comes : goal.returns-in-Err-described-clause-comes
returns-in-Err-described-clause-comes g c =
    let told = g.F.Shelf.files c.args.shelf.now in
    let before = g.F.Shelf.reads c.args.shelf.now in
    let held = subst (λ (bytes : List ℕ). HoldsWithin told c.args.desc.now most_desc_bytes bytes) (sym c.as_slice.ensures.value) c.in-Ok.ensures.ok in
    judged-stopped (λ (m : Machine). m.desc) (λ (l : Loaded). judged l.judged) c.args.desc.now c.args.cert.now told before before _ c.in-Err-described.stop
    (c.in-Err-described.ensures told before held) c.load_text.ensures.reads.later

-- the certificate does
pub returns-in-Err-load_either-clause-comes : goal.returns-in-Err-load_either-clause-comes
returns-in-Err-load_either-clause-comes g c =
    let told = g.F.Shelf.files c.args.shelf.now in
    let before = g.F.Shelf.reads c.args.shelf.now in
    let mid = g.F.Shelf.reads c.load_text.new.shelf in
    let after = g.F.Shelf.reads c.load_either.new.shelf in
    let d = c.in-Ok-described.machine.desc in
    let held = subst (λ (bytes : List ℕ). HoldsWithin told c.args.desc.now most_desc_bytes bytes) (sym c.as_slice.ensures.value) c.in-Ok.ensures.ok in
    let either = either-comes d (g.F.Shelf.files c.load_text.new.shelf) c.args.cert.now mid after (Err c.in-Err-load_either.stop) c.in-Err-load_either.ensures.comes in
    judged-refused (λ (l : Loaded). judged l.judged) c.args.desc.now c.args.cert.now told d before mid after c.in-Err-load_either.stop (c.in-Ok-described.ensures told before held)
    c.load_text.ensures.reads.later
    (subst (λ (files : Option Files). Comes {T = Report} (λ report. report) (EitherDue d files c.args.cert.now) mid after (Err c.in-Err-load_either.stop)) c.load_text.ensures.reads.same_files either)

-- nothing does
pub returns-in-Ok-load_either-clause-comes : goal.returns-in-Ok-load_either-clause-comes
returns-in-Ok-load_either-clause-comes g c =
    let told = g.F.Shelf.files c.args.shelf.now in
    let before = g.F.Shelf.reads c.args.shelf.now in
    let mid = g.F.Shelf.reads c.load_text.new.shelf in
    let after = g.F.Shelf.reads c.load_either.new.shelf in
    let d = c.in-Ok-described.machine.desc in
    let report = c.in-Ok-load_either.report in
    let held = subst (λ (bytes : List ℕ). HoldsWithin told c.args.desc.now most_desc_bytes bytes) (sym c.as_slice.ensures.value) c.in-Ok.ensures.ok in
    let due : EitherDue d (g.F.Shelf.files c.load_text.new.shelf) c.args.cert.now (Came report) =
    either-comes d (g.F.Shelf.files c.load_text.new.shelf) c.args.cert.now mid after (Ok report) c.in-Ok-load_either.ensures.comes in
    judged-came c.args.desc.now c.args.cert.now told d report (c.in-Ok-described.ensures told before held)
    (subst (λ (files : Option Files). EitherDue d files c.args.cert.now (Came report)) c.load_text.ensures.reads.same_files due)

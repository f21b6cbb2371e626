use Rattle.std.proofs.Common.{◌≡◌, sym, ap, subst}
use Rattle.pg_cert.specs.declared.cert.Family.TheVariants.{Plain}
use Rattle.pg_cert.specs.declared.report.Verdict.TheVariants.{Accepted}
use Rattle.pg_cmd_certs.specs.Guests.{Loaded}
use Rattle.pg_cmd_certs.specs.Judged.{Judged, verdict_on}
use Rattle.pg_type.specs.Accepting.{IsAccepted}
use Rattle.pg_cmd_certs.proofs.GuestLemmas.{cert-accepts}
use Rattle.pg_cmd_certs.proofs.JudgedLemmas.{certificate-read}
use Rattle.pg_cmd_certs.proofs.guest.load_behind_image.Goals as goal

pub invariant_of-judged : goal.invariant_of-judged
invariant_of-judged g c =
    let m = c.args.machine in
    let read = certificate-read m.desc Plain (g.F.Shelf.files c.args.shelf.now) c.args.source.now.cert.now c.in-Ok.report m.valid c.in-Ok.ensures.comes in
    record { whole = read.whole; fit = read.fit }

pub returns-in-Ok-clause-comes : goal.returns-in-Ok-clause-comes
returns-in-Ok-clause-comes g c =
    let of : Judged → Loaded = λ j. record { desc = j.desc; image = c.args.image; report = j.report } in
    (c.in-Ok.report, c.in-Ok.ensures.comes, ap of c.learned.ensures)

pub returns-in-Ok-clause-accepts : goal.returns-in-Ok-clause-accepts
returns-in-Ok-clause-accepts g c =
    let m = c.args.machine in
    subst (λ (j : Judged). verdict_on j ≡ Accepted → IsAccepted j.desc) (sym c.learned.ensures)
    (cert-accepts m.desc Plain (g.F.Shelf.files c.args.shelf.now) c.args.source.now.cert.now c.in-Ok.report m.valid c.in-Ok.ensures.comes)

pub returns-in-Ok-clause-same : goal.returns-in-Ok-clause-same
returns-in-Ok-clause-same g c = ap (λ (j : Judged). j.desc) c.learned.ensures

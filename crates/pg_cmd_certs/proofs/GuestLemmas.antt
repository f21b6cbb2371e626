-- The files of one guest: what is known of what they hold, and that they come to one thing.
use Rattle.std.proofs.Common.{◌≡◌, ◌-◌, ℕ, List, Option, Some, sym, subst}
use Rattle.pg_ast.specs.declared.tree.Desc.{Desc}
use Rattle.pg_cert.specs.declared.cert.Family.{Family}
use Rattle.pg_cert.specs.declared.cert.Family.TheVariants.{Plain}
use Rattle.pg_cert.specs.declared.report.Report.{Report}
use Rattle.pg_cert.specs.declared.report.Verdict.TheVariants.{Accepted}
use Rattle.pg_edge.specs.Shelf.{Files}
use Rattle.pg_cmd_base.specs.Descriptions.{DescDue}
use Rattle.pg_cmd_base.specs.Images.{ImageDue}
use Rattle.pg_cmd_base.proofs.OneInput.{one-desc, one-image}
use Rattle.pg_cmd_certs.specs.Certificates.{CertDue}
use Rattle.pg_cmd_certs.specs.Guests.{GuestFiles, Loaded, judged_of, behind_image, behind_room, behind_desc, GuestDue}
use Rattle.pg_cmd_certs.specs.Judged.{verdict_on}
use Rattle.pg_cmd_certs.specs.Meaning.{IsAcceptedBy, Means}
use Rattle.pg_cmd_certs.proofs.JudgedLemmas.{IsRead, certificate-read, desc-valid}
use Rattle.pg_cmd_certs.proofs.OneCertificate.{one-certificate}
use Rattle.pg_cmd_base.specs.Rooms.{RoomDue}
use Rattle.pg_cmd_base.specs.Steps.{Came, Gives, IsOne}
use Rattle.pg_cmd_base.proofs.OneRoom.{one-room}
use Rattle.pg_cmd_base.proofs.OneSteps.{one-gives, one-then}
use Rattle.pg_lang_valid.specs.Valid.{IsValid}

-- ---- what is known of it

-- where the verdict of a certificate that was read accepts the machine, the condition of its family holds
pub cert-accepts : (d : Desc) (family : Family) (told : Option Files) (name : List ℕ) (report : Report) → IsValid d → CertDue d family told name (Came report) →
    verdict_on (record { desc = d; report = report }) ≡ Accepted → IsAcceptedBy family d
cert-accepts d family told name report valid h is =
    let read = certificate-read d family told name report valid h in
    subst (λ (f : Family). IsAcceptedBy f d) read.of_family (subst (Means d report) is read.means.means)

-- the certificate was read
pub guest-read : (g : GuestFiles) (told : Option Files) (l : Loaded) → GuestDue g told (Came l) → IsRead Plain (judged_of l)
unfolding GuestDue
guest-read g told l h =
    subst (λ (x : Loaded). IsRead Plain (judged_of x)) (sym h.2.2.2.2)
    (certificate-read h.0 Plain told g.cert h.2.2.2.0 (desc-valid told g.desc h.0 h.1) h.2.2.2.1)

-- ---- one thing, for told files

one-behind_image : (g : GuestFiles) (files : Files) (d : Desc) (image : List ℕ) → IsOne (behind_image g (Some files) d image)
one-behind_image g files d image =
    one-then (CertDue d Plain (Some files) g.cert) (λ report. Gives (record { desc = d; image = image; report = report })) (one-certificate d Plain files g.cert)
    (λ report. one-gives (record { desc = d; image = image; report = report }))

one-behind_room : (g : GuestFiles) (files : Files) (d : Desc) → IsOne (behind_room g (Some files) d)
one-behind_room g files d = one-then (ImageDue (Some files) 0 g.image d.word g.grant) (behind_image g (Some files) d) (one-image files 0 g.image d.word g.grant) (one-behind_image g files d)

one-behind_desc : (g : GuestFiles) (files : Files) (d : Desc) → IsOne (behind_desc g (Some files) d)
one-behind_desc g files d =
    one-then (RoomDue g.grant (d.size - g.kept)) (λ cells. behind_room g (Some files) d) (one-room g.grant (d.size - g.kept)) (λ cells. one-behind_room g files d)

pub one-guest : (files : Files) (g : GuestFiles) → IsOne (GuestDue g (Some files))
unfolding GuestDue
one-guest files g = one-then (DescDue (Some files) g.desc) (behind_desc g (Some files)) (one-desc files g.desc) (one-behind_desc g files)

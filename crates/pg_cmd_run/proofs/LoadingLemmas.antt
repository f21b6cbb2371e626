-- Files of a run of guests: what is known of what they hold, and that they come to one thing.
use Rattle.std.proofs.Common.{◌≡◌, ◌-◌, ◌*◌, ℕ, List, length, Option, Some, sym, subst}
use Rattle.pg_ast.specs.declared.tree.Desc.{Desc}
use Rattle.pg_cert.specs.declared.cert.Family.{Family}
use Rattle.pg_edge.specs.Shelf.{Files}
use Rattle.pg_cmd_base.specs.Descriptions.{DescDue}
use Rattle.pg_cmd_base.specs.Images.{ImagesDue}
use Rattle.pg_cmd_base.proofs.OneInput.{one-desc, one-images}
use Rattle.pg_cmd_certs.specs.Certificates.{CertDue}
use Rattle.pg_cmd_certs.proofs.JudgedLemmas.{IsRead, certificate-read, desc-valid}
use Rattle.pg_cmd_certs.proofs.OneCertificate.{one-certificate}
use Rattle.pg_cmd_base.specs.Rooms.{RoomDue}
use Rattle.pg_cmd_base.specs.Steps.{Came, Gives, IsOne}
use Rattle.pg_cmd_base.proofs.OneRoom.{one-room}
use Rattle.pg_cmd_base.proofs.OneSteps.{one-gives, one-then}
use Rattle.pg_cmd_run.specs.Loading.{GuestFiles, Loaded, judged_of, behind_images, behind_room, behind_desc, GuestsDue}

-- ---- what is known of it

-- the certificate was read
pub guests-read : (family : Family) (f : GuestFiles) (told : Option Files) (l : Loaded) → GuestsDue family f told (Came l) → IsRead family (judged_of l)
unfolding GuestsDue
guests-read family f told l h =
    subst (λ (x : Loaded). IsRead family (judged_of x)) (sym h.2.2.2.2)
    (certificate-read h.0 family told f.cert h.2.2.2.0 (desc-valid told f.desc h.0 h.1) h.2.2.2.1)

-- ---- one thing, for told files

one-behind_images : (family : Family) (f : GuestFiles) (files : Files) (d : Desc) (images : List (List ℕ)) → IsOne (behind_images family f (Some files) d images)
one-behind_images family f files d images =
    one-then (CertDue d family (Some files) f.cert) (λ report. Gives (record { desc = d; images = images; report = report })) (one-certificate d family files f.cert) (λ report. one-gives (record { desc = d; images = images; report = report }))

one-behind_room : (family : Family) (f : GuestFiles) (files : Files) (d : Desc) → IsOne (behind_room family f (Some files) d)
one-behind_room family f files d =
    one-then (ImagesDue (Some files) 0 f.images d.word f.grant) (behind_images family f (Some files) d) (one-images files 0 f.images d.word f.grant) (one-behind_images family f files d)

one-behind_desc : (family : Family) (f : GuestFiles) (files : Files) (d : Desc) → IsOne (behind_desc family f (Some files) d)
one-behind_desc family f files d =
    one-then (RoomDue (length f.images * f.grant) (d.size - f.kept)) (λ cells. behind_room family f (Some files) d) (one-room (length f.images * f.grant) (d.size - f.kept))
    (λ cells. one-behind_room family f files d)

pub one-guests : (family : Family) (f : GuestFiles) (files : Files) → IsOne (GuestsDue family f (Some files))
unfolding GuestsDue
one-guests family f files = one-then (DescDue (Some files) f.desc) (behind_desc family f (Some files)) (one-desc files f.desc) (one-behind_desc family f files)

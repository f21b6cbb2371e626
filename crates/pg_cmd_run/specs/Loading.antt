-- The files of a run of guests, and the steps that load them.
use Rattle.std.specs.Prelude.{ℕ, ◌-◌, ◌*◌, List, length, Option}
use Rattle.pg_ast.specs.declared.tree.Desc.{Desc}
use Rattle.pg_cert.specs.declared.cert.Family.{Family}
use Rattle.pg_cert.specs.declared.report.Report.{Report}
use Rattle.pg_edge.specs.Shelf.{Files}
use Rattle.pg_cmd_base.specs.Descriptions.{DescDue}
use Rattle.pg_cmd_base.specs.Images.{ImagesDue}
use Rattle.pg_cmd_certs.specs.Certificates.{CertDue}
use Rattle.pg_cmd_certs.specs.Judged.{Judged}
use Rattle.pg_cmd_base.specs.declared.refusal.Refusal.{Refusal}
use Rattle.pg_cmd_base.specs.Rooms.{RoomDue}
use Rattle.pg_cmd_base.specs.Steps.{Step, Then, Gives}

-- the names of the files, how many cells each guest is granted, and how many cells monitors keep
pub record GuestFiles : Type 0 where
  pub desc : List ℕ
  pub images : List (List ℕ)
  pub cert : List ℕ
  pub grant : ℕ
  pub kept : ℕ

-- what they hold: a description, images, and what is kept of a certificate
pub record Loaded : Type 0 where
  pub desc : Desc
  pub images : List (List ℕ)
  pub report : Report

-- the description, and what is kept of the certificate of it
abbrev pub judged_of : Loaded → Judged
judged_of l = record { desc = l.desc; report = l.report }

-- the certificate, and then all of it is there
abbrev pub behind_images : Family → GuestFiles → Option Files → Desc → List (List ℕ) → Step Refusal Loaded
behind_images family f told d images = Then (CertDue d family told f.cert) (λ report. Gives (record { desc = d; images = images; report = report }))

-- the images, and what is behind them
abbrev pub behind_room : Family → GuestFiles → Option Files → Desc → Step Refusal Loaded
behind_room family f told d = Then (ImagesDue told 0 f.images d.word f.grant) (behind_images family f told d)

-- the room beside the cells that monitors keep, and what is behind that
abbrev pub behind_desc : Family → GuestFiles → Option Files → Desc → Step Refusal Loaded
behind_desc family f told d = Then (RoomDue (length f.images * f.grant) (d.size - f.kept)) (λ cells. behind_room family f told d)

-- the description, the room, the images, and the certificate of this family
unfoldable pub GuestsDue : Family → GuestFiles → Option Files → Step Refusal Loaded
GuestsDue family f told = Then (DescDue told f.desc) (behind_desc family f told)

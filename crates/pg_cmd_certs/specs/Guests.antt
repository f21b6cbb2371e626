-- The files of one guest, and the steps that load them.
use Rattle.std.specs.Prelude.{ℕ, ◌-◌, List, Option}
use Rattle.pg_ast.specs.declared.tree.Desc.{Desc}
use Rattle.pg_cert.specs.declared.cert.Family.TheVariants.{Plain}
use Rattle.pg_cert.specs.declared.report.Report.{Report}
use Rattle.pg_edge.specs.Shelf.{Files}
use Rattle.pg_cmd_base.specs.Descriptions.{DescDue}
use Rattle.pg_cmd_base.specs.Images.{ImageDue}
use Rattle.pg_cmd_certs.specs.Certificates.{CertDue}
use Rattle.pg_cmd_certs.specs.Judged.{Judged}
use Rattle.pg_cmd_base.specs.declared.refusal.Refusal.{Refusal}
use Rattle.pg_cmd_base.specs.Rooms.{RoomDue}
use Rattle.pg_cmd_base.specs.Steps.{Step, Then, Gives}

-- the names of the files, how many cells the guest is granted, and how many cells monitors keep
pub record GuestFiles : Type 0 where
  pub desc : List ℕ
  pub image : List ℕ
  pub cert : List ℕ
  pub grant : ℕ
  pub kept : ℕ

-- what they hold: a description, an image, and what is kept of a certificate
pub record Loaded : Type 0 where
  pub desc : Desc
  pub image : List ℕ
  pub report : Report

-- the description, and what is kept of the certificate of it
abbrev pub judged_of : Loaded → Judged
judged_of l = record { desc = l.desc; report = l.report }

-- the certificate, and then all of it is there
abbrev pub behind_image : GuestFiles → Option Files → Desc → List ℕ → Step Refusal Loaded
behind_image g told d image = Then (CertDue d Plain told g.cert) (λ report. Gives (record { desc = d; image = image; report = report }))

-- the image, and what is behind it
abbrev pub behind_room : GuestFiles → Option Files → Desc → Step Refusal Loaded
behind_room g told d = Then (ImageDue told 0 g.image d.word g.grant) (behind_image g told d)

-- the room beside the cells of monitors, and what is behind that
abbrev pub behind_desc : GuestFiles → Option Files → Desc → Step Refusal Loaded
behind_desc g told d = Then (RoomDue g.grant (d.size - g.kept)) (λ cells. behind_room g told d)

-- the description, the room, the image, and the certificate
unfoldable pub GuestDue : GuestFiles → Option Files → Step Refusal Loaded
GuestDue g told = Then (DescDue told g.desc) (behind_desc g told)

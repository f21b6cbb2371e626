-- `migrate`: a certificate that is loaded whole, and what is left once the new one was saved.
use Rattle.std.proofs.Common.{◌≡◌, ℕ, ◌≤◌, Bool, List, length, map, Option, Ok, Err, inr, sym, ap, ◌∙◌}
use Rattle.std.specs.Prelude.{if◌then◌else◌}
use Rattle.std.proofs.lemmas.Bool.{le-ltb}
use Rattle.pg_ast.specs.declared.tree.Desc.{Desc}
use Rattle.pg_lang_valid.specs.Valid.{IsValid}
use Rattle.pg_cert.specs.declared.cert.Cert.{Cert}
use Rattle.pg_cert.specs.declared.cert.Family.TheVariants.{Plain}
use Rattle.pg_cert.specs.declared.report.Report.{Report}
use Rattle.pg_cert.specs.Texts.{heading_of, cert_text}
use Rattle.pg_cert.specs.Verdicts.{mark_of}
use Rattle.pg_cli_table.specs.declared.migrate.MigrateWords.{MigrateWords}
use Rattle.pg_edge.specs.Shelf.{Files}
use Rattle.pg_report.specs.declared.line.RefusalLine.TheVariants.{Certificate}
use Rattle.pg_report.specs.declared.line.CertificateLine.TheVariants as told_line
use Rattle.pg_verify.specs.declared.fault.VerifyFault.{VerifyFault}
use Rattle.pg_verify.specs.declared.fault.VerifyFault.TheVariants as fault
use Rattle.pg_verify.specs.Feeding.{most_bytes, verified, verified_whole, IsAnswer}
use Rattle.pg_cmd_base.specs.declared.refusal.Stop.{Stop}
use Rattle.pg_cmd_base.specs.declared.refusal.Stop.TheVariants as stop
use Rattle.pg_cmd_base.specs.Answering.{Comes}
use Rattle.pg_cmd_certs.specs.Certificates.{CertTextDue, CertDue}
use Rattle.pg_cmd_base.specs.FileSteps.{Faulty, HoldsWithin}
use Rattle.pg_cmd_certs.specs.Judged.{Judged, verdict_on, verdict_status, verdict_told}
use Rattle.pg_cmd_certs.specs.Saving.{HasSaved, LeavesUnsaved}
use Rattle.pg_cmd_check.specs.Migrate.{MigratesFile, IsMigratedText, MigrateEnds, MigrateUnsaved}
use Rattle.pg_cmd_certs.specs.Parts.{IsStopOf}
use Rattle.pg_cmd_base.specs.Steps.{Came}
use Rattle.pg_cmd_base.specs.World.{World}
use Rattle.pg_cmd_base.proofs.FileLemmas.{file-came}
use Rattle.pg_cmd_certs.proofs.PartLemmas.{answer_ok, told_known}
use Rattle.pg_cmd_certs.proofs.SavingLemmas.{ends_saved}

-- ---- a certificate that is loaded whole

whole_is : (d : Desc) (bytes : List ℕ) → length bytes ≤ most_bytes → verified_whole d Plain bytes ≡ verified d Plain bytes
whole_is d bytes within = ap (λ (b : Bool). if b then Err fault.Long else verified d Plain bytes) (le-ltb most_bytes (length bytes) within)

pub held_came : (d : Desc) (told : Option Files) (name bytes : List ℕ) (report : Report) → HoldsWithin told name most_bytes bytes →
    IsAnswer (verified_whole d Plain bytes) (Ok report) → CertDue d Plain told name (Came report)
unfolding CertDue
held_came d told name bytes report held answer =
    file-came Certificate told name most_bytes told_line.Long (CertTextDue d Plain) bytes report held
    (answer_ok (verified_whole d Plain bytes) report answer d Plain bytes (whole_is d bytes held.within))

pub held_stops : {T : Type 0} (view : T → Report) (d : Desc) (told : Option Files) (name bytes : List ℕ) (f : VerifyFault) (why : Stop) (before after : ℕ) →
    HoldsWithin told name most_bytes bytes → IsAnswer (verified_whole d Plain bytes) (Err f) → IsStopOf d f why →
    Comes view (CertDue d Plain told name) before after (Err why)
unfolding CertDue
held_stops view d told name bytes f (stop.Refused why) before after held answer told_as =
    let first : verified d Plain bytes ≡ Err f = sym (whole_is d bytes held.within) ∙ answer (told_known d f told_as.0 told_as.1) in
    (Faulty told_as.0, inr (bytes, held, record { fault = f; first = first; told = told_as.1 }), told_as.2)
held_stops view d told name bytes f stop.ReadFault before after held answer told_as = absurd told_as
held_stops view d told name bytes f stop.Memory before after held answer told_as = tt

-- ---- what is written of it

pub is_migrated_text : (d : Desc) (told : Option Files) (name bytes : List ℕ) (cert : Cert) (report : Report) → MigratesFile told name d cert →
    bytes ≡ cert_text d (heading_of cert.family) cert → report.family ≡ cert.family → report.marks ≡ map mark_of cert.findings →
    IsMigratedText told name d bytes report
is_migrated_text d told name bytes cert report h text kept marks = record {
  written = record {
    cert = cert;
    of_family = h.migrated.new_family;
    valid = h.migrated.now;
    text = text ∙ ap (λ f. cert_text d (heading_of f) cert) h.migrated.new_family;
    kept_family = kept ∙ h.migrated.new_family;
    marks = marks;
  };
  from_file = h;
}

-- ---- what is left

module _ (m : MigrateWords) (j : Judged) (old new : World) (bytes : List ℕ) (valid : IsValid j.desc)
    (h : IsMigratedText old.files m.cert j.desc bytes j.report) (hw : new.hw ≡ old.hw) where
  pub migrate_ends : HasSaved m.file bytes old new → MigrateEnds m j old new (verdict_status (verdict_on j)) (verdict_told j)
  migrate_ends saved = record { bytes = bytes; migrated = h; saved = ends_saved m.file Plain old new bytes j valid h.written hw saved }

  pub migrate_unsaved : LeavesUnsaved m.file bytes old new → MigrateUnsaved m j old new
  migrate_unsaved left = record { bytes = bytes; migrated = h; unsaved = left }

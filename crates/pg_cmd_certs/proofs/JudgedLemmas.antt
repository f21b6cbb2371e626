-- A description and a certificate of it: what their steps come to, and what is known of them.
use Rattle.std.proofs.Common.{◌≡◌, ◌*◌, ℕ, ◌≤◌, List, length, All, Option, Err, refl, sym, subst, arith}
use Rattle.pg_ast.specs.declared.tree.Desc.{Desc}
use Rattle.pg_lang_valid.specs.Valid.{IsValid}
use Rattle.pg_cert.specs.declared.cert.Family.{Family}
use Rattle.pg_cert.specs.declared.report.Report.{Report}
use Rattle.pg_cert.specs.Verdicts.{kind_count}
use Rattle.pg_edge.specs.Shelf.{Files}
use Rattle.pg_report.specs.Verdicts.{DoMarkWordsFit}
use Rattle.pg_cmd_base.specs.declared.refusal.Refusal.{Refusal}
use Rattle.pg_cmd_base.specs.declared.refusal.Stop.{Stop}
use Rattle.pg_cmd_base.specs.Answering.{Comes}
use Rattle.pg_cmd_certs.specs.Certificates.{IsCertificate, CertDue}
use Rattle.pg_cmd_base.specs.Descriptions.{DescDue}
use Rattle.pg_cmd_certs.specs.Judged.{Judged, JudgedDue}
use Rattle.pg_cmd_certs.specs.Meaning.{AreShown, VerdictMeans}
use Rattle.pg_cmd_base.specs.Steps.{Step, Came, Then, Gives}
use Rattle.pg_cmd_base.proofs.StepLemmas.{comes-stopped, comes-behind}
use Rattle.pg_cmd_certs.proofs.VerdictMeanings.{marks_family, verdict_means, marks_whole, marks_fit, marks_shown}

-- ---- its steps

abbrev pub behind_cert : Desc → Report → Step Refusal Judged
behind_cert d report = Gives (record { desc = d; report = report })

abbrev pub behind_desc : Family → Option Files → List ℕ → Desc → Step Refusal Judged
behind_desc family told cert d = Then (CertDue d family told cert) (behind_cert d)

-- the description stops it
pub judged-stopped : {T U : Type 0} (view : T → Desc) (shows : U → Judged) (family : Family) (told : Option Files) (desc cert : List ℕ) (before after : ℕ) (why : Stop) →
    Comes view (DescDue told desc) before after (Err why) → before ≤ after → Comes shows (JudgedDue family desc cert told) before after (Err why)
unfolding JudgedDue
judged-stopped view shows family told desc cert before after why h later = comes-stopped view shows (DescDue told desc) (behind_desc family told cert) before after after why h (omega arith)

-- the certificate stops it
pub judged-refused : {T U : Type 0} (view : T → Report) (shows : U → Judged) (family : Family) (told : Option Files) (desc cert : List ℕ) (d : Desc) (before mid after : ℕ) (why : Stop) → DescDue told desc (Came d) →
    before ≤ mid → Comes view (CertDue d family told cert) mid after (Err why) → Comes shows (JudgedDue family desc cert told) before after (Err why)
unfolding JudgedDue
judged-refused view shows family told desc cert d before mid after why came earlier h =
    comes-behind shows (DescDue told desc) (behind_desc family told cert) d before mid after (Err why) came earlier
    (comes-stopped view shows (CertDue d family told cert) (behind_cert d) mid after after why h (omega arith))

pub judged-came : (family : Family) (told : Option Files) (desc cert : List ℕ) (d : Desc) (report : Report) → DescDue told desc (Came d) → CertDue d family told cert (Came report) →
    JudgedDue family desc cert told (Came (record { desc = d; report = report }))
unfolding JudgedDue
judged-came family told desc cert d report came h = (d, came, (report, h, refl))

-- ---- what is known of its work

-- a certificate that was read: its marks can be put, its states show what they are shown for, and its verdict means what it says
pub record IsRead (family : Family) (j : Judged) : Type 0 where
  pub of_family : j.report.family ≡ family
  pub whole : length j.report.marks ≡ length j.desc.instrs * kind_count j.report.family
  pub fit : All (DoMarkWordsFit j.desc.word) j.report.marks
  pub shown : AreShown j.desc j.report
  pub means : VerdictMeans j.desc j.report

pub is-read : (d : Desc) (family : Family) (bytes : List ℕ) (report : Report) → IsValid d → IsCertificate d family bytes report →
    IsRead family (record { desc = d; report = report })
is-read d family bytes report valid h = record {
  of_family = marks_family d family bytes h.progress report valid h.taken h.kept;
  whole = marks_whole d family bytes h.progress report valid h.taken h.kept;
  fit = marks_fit d family bytes h.progress report valid h.taken h.kept;
  shown = marks_shown d family bytes h.progress report valid h.taken h.kept;
  means = verdict_means d family bytes h.progress report valid h.taken h.kept;
}

pub certificate-read : (d : Desc) (family : Family) (told : Option Files) (name : List ℕ) (report : Report) → IsValid d → CertDue d family told name (Came report) →
    IsRead family (record { desc = d; report = report })
unfolding CertDue
certificate-read d family told name report valid h = is-read d family h.0 report valid h.2

pub desc-valid : (told : Option Files) (name : List ℕ) (d : Desc) → DescDue told name (Came d) → IsValid d
unfolding DescDue
desc-valid told name d h = h.2.1

pub judged-read : (family : Family) (told : Option Files) (desc cert : List ℕ) (j : Judged) → JudgedDue family desc cert told (Came j) → IsRead family j
unfolding JudgedDue
judged-read family told desc cert j h = subst (IsRead family) (sym h.2.2) (certificate-read h.0 family told cert h.2.0 (desc-valid told desc h.0 h.1) h.2.1)

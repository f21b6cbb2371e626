-- A certificate of either family that was read.
use Rattle.std.proofs.Common.{◌≡◌, ℕ, ◌≤◌, ◌*◌, List, length, All, Option, Result, Ok, Err, sym, subst, arith}
use Rattle.std.specs.Prelude.{IfOk}
use Rattle.pg_ast.specs.declared.tree.Desc.{Desc}
use Rattle.pg_cert.specs.declared.cert.Family.{Family}
use Rattle.pg_cert.specs.declared.report.Report.{Report}
use Rattle.pg_cert.specs.declared.report.Verdict.TheVariants as verdict
use Rattle.pg_cert.specs.Verdicts.{verdict_of, kind_count}
use Rattle.pg_edge.specs.Count.{Rose}
use Rattle.pg_edge.specs.Shelf.{Files}
use Rattle.pg_cmd_certs.specs.Certificates.{CertDue}
use Rattle.pg_cmd_certs.specs.Meaning.{IsAcceptedBy}
use Rattle.pg_cmd_certs.proofs.GuestLemmas.{cert-accepts}
use Rattle.pg_cmd_certs.proofs.JudgedLemmas.{certificate-read}
use Rattle.pg_report.specs.Verdicts.{DoMarkWordsFit}
use Rattle.pg_cmd_base.specs.declared.refusal.Refusal.{Refusal}
use Rattle.pg_cmd_base.specs.declared.refusal.Stop.{Stop}
use Rattle.pg_cmd_base.specs.declared.refusal.Stop.TheVariants as stop
use Rattle.pg_cmd_base.specs.Answering.{Comes}
use Rattle.pg_cmd_base.specs.Steps.{Step, Came}
use Rattle.pg_cmd_base.proofs.StepLemmas.{rose-within}
use Rattle.pg_lang_valid.specs.Valid.{IsValid}
use Rattle.pg_prog_base.specs.Either.{EitherDue}

-- a step of which a part came first that only read
pub comes-later : {T X : Type 0} (view : T → X) (step : Step Refusal X) (before mid after : ℕ) (r : Result T Stop) → before ≤ mid → Comes view step mid after r →
    Comes view step before after r
comes-later view step before mid after (Ok x) earlier h = h
comes-later view step before mid after (Err (stop.Refused why)) earlier h = h
comes-later view step before mid after (Err stop.ReadFault) earlier h = (h.0, rose-within before mid after after earlier (omega arith) h.1)
comes-later view step before mid after (Err stop.Memory) earlier h = tt

-- the first bytes of a certificate that could not be read: a read that failed, where one may
pub unread-comes : (d : Desc) (family : Family) (told : Option Files) (name : List ℕ) (before after : ℕ) → Rose before after →
    Comes {T = Report} (λ report. report) (CertDue d family told name) before after (Err stop.ReadFault)
unfolding CertDue
unread-comes d family told name before after rose = (tt, rose)

pub read-due : (d : Desc) (family : Family) (told : Option Files) (name : List ℕ) (before after : ℕ) (r : Result Report Stop) → IsValid d →
    Comes (λ report. report) (CertDue d family told name) before after r → IfOk r (λ report. CertDue d report.family told name (Came report))
read-due d family told name before after (Ok report) valid h =
    subst (λ f. CertDue d f told name (Came report)) (sym (certificate-read d family told name report valid h).of_family) h
read-due d family told name before after (Err e) valid h = tt

pub read-accepts : (d : Desc) (family : Family) (told : Option Files) (name : List ℕ) (before after : ℕ) (r : Result Report Stop) → IsValid d →
    Comes (λ report. report) (CertDue d family told name) before after r →
    IfOk r (λ report. verdict_of report.family report.marks ≡ verdict.Accepted → IsAcceptedBy report.family d)
read-accepts d family told name before after (Ok report) valid h =
    λ is. subst (λ f. IsAcceptedBy f d) (sym (certificate-read d family told name report valid h).of_family) (cert-accepts d family told name report valid h is)
read-accepts d family told name before after (Err e) valid h = tt

pub read-whole : (d : Desc) (family : Family) (told : Option Files) (name : List ℕ) (before after : ℕ) (r : Result Report Stop) → IsValid d →
    Comes (λ report. report) (CertDue d family told name) before after r → IfOk r (λ report. length report.marks ≡ length d.instrs * kind_count report.family)
read-whole d family told name before after (Ok report) valid h = (certificate-read d family told name report valid h).whole
read-whole d family told name before after (Err e) valid h = tt

pub read-fit : (d : Desc) (family : Family) (told : Option Files) (name : List ℕ) (before after : ℕ) (r : Result Report Stop) → IsValid d →
    Comes (λ report. report) (CertDue d family told name) before after r → IfOk r (λ report. All (DoMarkWordsFit d.word) report.marks)
read-fit d family told name before after (Ok report) valid h = (certificate-read d family told name report valid h).fit
read-fit d family told name before after (Err e) valid h = tt

-- what comes of it, as that of one of either family
pub either-comes : (d : Desc) (told : Option Files) (name : List ℕ) (before after : ℕ) (r : Result Report Stop) →
    ((family : Family) × Comes (λ report. report) (CertDue d family told name) before after r) → Comes (λ report. report) (EitherDue d told name) before after r
unfolding EitherDue
either-comes d told name before after (Ok report) h = h
either-comes d told name before after (Err (stop.Refused why)) h = h
either-comes d told name before after (Err stop.ReadFault) h = ((h.0, h.1.0), h.1.1)
either-comes d told name before after (Err stop.Memory) h = tt

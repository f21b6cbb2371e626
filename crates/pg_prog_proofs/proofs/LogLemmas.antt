-- The log of a finding that is refuted, in a valid certificate.
use Rattle.std.proofs.Common.{◌≡◌, ℕ, ℤ, List, length, Some, sym, subst}
use Rattle.std.specs.Prelude.{slice_get}
use Rattle.std.proofs.lemmas.Option.{slice_get_within}
use Rattle.pg_ast.specs.declared.tree.Instr.{Instr}
use Rattle.pg_ast.specs.declared.tree.Desc.{Desc}
use Rattle.pg_type.specs.declared.kind.Kind.{Kind}
use Rattle.pg_proof.specs.declared.step.Act.{Act}
use Rattle.pg_proof.specs.Log.{IsClosedLog}
use Rattle.pg_ask.specs.Question.{question}
use Rattle.pg_cert.specs.declared.cert.Finding.TheVariants.{Refuted}
use Rattle.pg_cert.specs.declared.cert.Cert.{Cert}
use Rattle.pg_cert.specs.declared.line.Heading.{Heading}
use Rattle.pg_cert.specs.Texts.{instr_of, kind_of}
use Rattle.pg_cert.specs.Validity.{IsValidFinding}
use Rattle.pg_cert.proofs.Fits.{instr_within}
use Rattle.pg_verify.specs.Verified.{IsValidOf}
use Rattle.pg_cert_migrate.proofs.MadeLemmas.{there}
use Rattle.pg_prog_proofs.specs.Exported.{AreTexts, AreTextsAt}

closed_of : (clauses : List (List ℤ)) (heading : Heading) (d : Desc) (i : Instr) (kind : Kind) (acts : List Act) →
    IsValidFinding clauses heading d i kind (Refuted acts) → IsClosedLog clauses acts
unfolding IsValidFinding
closed_of clauses heading d i kind acts h = h.0

-- clauses that are those of the question of a place
abbrev pub AreOf : Desc → Cert → ℕ → List (List ℤ) → Type 0
AreOf d cert n clauses =
    (i : Instr) → slice_get d.instrs (instr_of cert.family n) ≡ Some i → clauses ≡ question d i (kind_of cert.family n)

pub log_closed : (d : Desc) (heading : Heading) (cert : Cert) (n : ℕ) (acts : List Act) (clauses : List (List ℤ)) → IsValidOf heading d cert →
    slice_get cert.findings n ≡ Some (Refuted acts) → AreOf d cert n clauses → IsClosedLog clauses acts
log_closed d heading cert n acts clauses h e same =
    there d (instr_of cert.family n)
    (instr_within cert.family n (length cert.findings) (length d.instrs) h.valid.whole (slice_get_within cert.findings n (Refuted acts) e))
    (λ i at. subst (λ cs. IsClosedLog cs acts) (sym (same i at))
    (closed_of (question d i (kind_of cert.family n)) heading d i (kind_of cert.family n) acts (h.valid.each n (Refuted acts) i e at)))

-- of an instruction and a kind that are those of the place
pub are_of : (d : Desc) (cert : Cert) (n instr : ℕ) (kind : Kind) (clauses : List (List ℤ)) → instr ≡ instr_of cert.family n →
    kind ≡ kind_of cert.family n → ((i : Instr) → slice_get d.instrs instr ≡ Some i → clauses ≡ question d i kind) → AreOf d cert n clauses
are_of d cert n instr kind clauses same_instr same_kind h =
    subst (λ k. (i : Instr) → slice_get d.instrs (instr_of cert.family n) ≡ Some i → clauses ≡ question d i k) same_kind
    (subst (λ j. (i : Instr) → slice_get d.instrs j ≡ Some i → clauses ≡ question d i kind) same_instr h)

pub are_texts_at : (d : Desc) (cert : Cert) (n : ℕ) (acts : List Act) (clauses : List (List ℤ)) (log text : List ℕ) →
    slice_get cert.findings n ≡ Some (Refuted acts) → AreOf d cert n clauses → AreTexts clauses acts log text → AreTextsAt d cert n log text
are_texts_at d cert n acts clauses log text found same known = record {
  acts = acts;
  found = found;
  texts = λ i at. subst (λ cs. AreTexts cs acts log text) (same i at) known;
}

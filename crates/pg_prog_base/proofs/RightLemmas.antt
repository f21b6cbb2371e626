-- What a log and two states are as findings.
use Rattle.std.proofs.Common.{◌≡◌, ℕ, ◌+◌, ◌^◌, ◌<◌, ◌≤◌, ℤ, List, length, All, Some, refl, sym, ap, subst, ◌∙◌, arith}
use Rattle.std.specs.Prelude.{slice_get}
use Rattle.pg_word.specs.declared.sparse.Sparse.{Sparse}
use Rattle.pg_ast.specs.declared.tree.Instr.{Instr}
use Rattle.pg_ast.specs.declared.tree.Desc.{Desc}
use Rattle.pg_mach_ready.specs.declared.machine.Machine.{Machine}
use Rattle.pg_type.specs.declared.kind.Kind.{Kind}
use Rattle.pg_type.specs.Kinds.{Shows}
use Rattle.pg_type.specs.Listed.{state_of}
use Rattle.pg_cnf.specs.Literals.{AreClauses}
use Rattle.pg_proof.specs.declared.step.Act.{Act}
use Rattle.pg_proof.specs.Log.{IsClosedLog}
use Rattle.pg_proof.specs.Trimmed.{IsTrimmed}
use Rattle.pg_cert.specs.declared.cert.Finding.{Finding}
use Rattle.pg_cert.specs.declared.cert.Finding.TheVariants.{Refuted, Shown}
use Rattle.pg_cert.specs.declared.line.Heading.{Heading}
use Rattle.pg_cert.specs.declared.line.Heading.TheVariants.{PlainTwo}
use Rattle.pg_cert.specs.Texts.{AreListed}
use Rattle.pg_cert.specs.Validity.{IsActUnder, IsValidFinding}
use Rattle.pg_cert.specs.InRange.{IsNumbered}
use Rattle.pg_cert.proofs.InRange.{trimmed_may_stand}
use Rattle.pg_cert_migrate.proofs.MadeLemmas.{numbered}
use Rattle.pg_verify.specs.Feeding.{most_bytes}
use Rattle.pg_prog_base.specs.Imported.{IsRight}

module _ (clauses : List (List ℤ)) (heading : Heading) (d : Desc) (i : Instr) (kind : Kind) where
  closed_valid : (acts : List Act) → IsClosedLog clauses acts → All (IsActUnder heading) acts → IsValidFinding clauses heading d i kind (Refuted acts)
  unfolding IsValidFinding
  closed_valid acts closed under = (closed, under)

  shown_valid : (s t : Sparse) → Shows d i kind (state_of s) (state_of t) → IsValidFinding clauses heading d i kind (Shown s t)
  unfolding IsValidFinding
  shown_valid s t shows = shows

pub refuted_right : (clauses : List (List ℤ)) (variables : ℕ) (log acts : List Act) (d : Desc) (i : Instr) (kind : Kind) →
    AreClauses variables clauses → variables < 2 ^ 31 → length clauses < 2 ^ 31 → length log ≤ most_bytes → IsTrimmed clauses log acts →
    IsRight clauses d i kind (Refuted acts)
refuted_right clauses variables log acts d i kind are few_variables few_clauses few trimmed =
    let given : IsNumbered clauses log = numbered clauses variables log are few_variables few_clauses few in
    record {
      settled = tt;
      valid = λ heading may. closed_valid clauses heading d i kind acts trimmed.closed (trimmed_may_stand clauses heading log acts trimmed given may).1;
      listed = tt;
      numbered = (trimmed_may_stand clauses PlainTwo log acts trimmed given refl).0;
    }

pub shown_right : (clauses : List (List ℤ)) (d : Desc) (i : Instr) (kind : Kind) (s t : Sparse) (f : Finding) → f ≡ Shown s t → AreListed f →
    Shows d i kind (state_of s) (state_of t) → IsRight clauses d i kind f
shown_right clauses d i kind s t f same listed shows =
    subst (λ x. IsRight clauses d i kind x) (sym same)
    (record {
      settled = tt;
      valid = λ heading may. shown_valid clauses heading d i kind s t shows;
      listed = subst AreListed same listed;
      numbered = tt;
    })

-- two listed states show a kind of the instruction with a number
abbrev pub AreShown : Desc → ℕ → Kind → Sparse → Sparse → Type 0
AreShown d instr kind s t = (i : Instr) → slice_get d.instrs instr ≡ Some i → Shows d i kind (state_of s) (state_of t)

pub shown_again : (m n : Machine) (k j : ℕ) (x y : Kind) (s t : Sparse) → m ≡ n → k ≡ j → x ≡ y →
    AreShown m.desc k x s t → AreShown n.desc j y s t
shown_again m n k j x y s t same_machine same_number same_kind h =
    subst (λ z. AreShown n.desc j z s t) same_kind
    (subst (λ z. AreShown n.desc z x s t) same_number (subst (λ (z : Machine). AreShown z.desc k x s t) same_machine h))

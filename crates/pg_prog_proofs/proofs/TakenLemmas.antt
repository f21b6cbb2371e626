-- A finding that is right for a question is right at its place in a certificate.
use Rattle.std.proofs.Common.{◌≡◌, ℕ, ℤ, List, Some, sym, subst}
use Rattle.std.specs.Prelude.{slice_get}
use Rattle.pg_ast.specs.declared.tree.Instr.{Instr}
use Rattle.pg_ast.specs.declared.tree.Desc.{Desc}
use Rattle.pg_mach_ready.specs.declared.machine.Machine.{Machine}
use Rattle.pg_type.specs.declared.kind.Kind.{Kind}
use Rattle.pg_ask.specs.Question.{question}
use Rattle.pg_cert.specs.declared.cert.Finding.{Finding}
use Rattle.pg_cert.specs.declared.cert.Cert.{Cert}
use Rattle.pg_prog_base.specs.Imported.{IsPlaceOf, IsRight, IsRightAt}

-- of the instruction of a number
abbrev pub IsRightFor : (List (List ℤ)) → Desc → ℕ → Kind → Finding → Type 0
IsRightFor clauses d instr kind f = (i : Instr) → slice_get d.instrs instr ≡ Some i → IsRight clauses d i kind f

pub right_again : (m n : Machine) (k j : ℕ) (x y : Kind) (clauses : List (List ℤ)) (f : Finding) → m ≡ n → k ≡ j → x ≡ y →
    IsRightFor clauses m.desc k x f → IsRightFor clauses n.desc j y f
right_again m n k j x y clauses f same_machine same_number same_kind h =
    subst (λ z. IsRightFor clauses n.desc j z f) same_kind
    (subst (λ z. IsRightFor clauses n.desc z x f) same_number (subst (λ (z : Machine). IsRightFor clauses z.desc k x f) same_machine h))

pub right_at_place : (d : Desc) (cert : Cert) (instr : ℕ) (kind : Kind) (place : ℕ) (clauses : List (List ℤ)) (f : Finding) →
    IsPlaceOf cert instr kind place → ((i : Instr) → slice_get d.instrs instr ≡ Some i → clauses ≡ question d i kind) →
    IsRightFor clauses d instr kind f → IsRightAt d cert.family place f
right_at_place d cert instr kind place clauses f h same right = λ i at.
    let there : slice_get d.instrs instr ≡ Some i = subst (λ k. slice_get d.instrs k ≡ Some i) h.of_instr at in
    subst (λ k. IsRight (question d i k) d i k f) (sym h.of_kind)
    (subst (λ cs. IsRight cs d i kind f) (same i there) (right i there))

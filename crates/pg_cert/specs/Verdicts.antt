-- What findings say of a machine: their marks, and the verdict of the marks.
use Rattle.std.specs.Prelude.{ℕ, zero, suc, ◌*◌, ◌/◌, Bool, true, false, not, ◌&&◌, ◌||◌, if◌then◌else◌, List, [], ◌∷◌, length, take, drop, position, unwrap_or, slice_index_or, Option, None, Some}
use Rattle.std.specs.List.{list_any, list_all}
use Rattle.pg_type.specs.declared.kind.Kind.{Kind}
use Rattle.pg_type.specs.declared.kind.Kind.TheVariants.{Privileged, Control, ModeDep, Location, Bound, UControl, ULocation, UBound}
use Rattle.pg_cert.specs.declared.cert.Family.{Family}
use Rattle.pg_cert.specs.declared.cert.Family.TheVariants.{Plain, Hybrid}
use Rattle.pg_cert.specs.declared.cert.Finding.{Finding}
use Rattle.pg_cert.specs.declared.cert.Finding.TheVariants as finding
use Rattle.pg_cert.specs.declared.report.Mark.{Mark}
use Rattle.pg_cert.specs.declared.report.Mark.TheVariants.{Refuted, Shown, Spent}
use Rattle.pg_cert.specs.declared.report.Verdict.{Verdict}
use Rattle.pg_cert.specs.declared.report.Verdict.TheVariants.{Accepted, Refused, Unsettled}

-- the kinds of a family, in order: privileged, and then the sensitive ones
abbrev pub kinds_of : Family → List Kind
kinds_of Plain = Privileged ∷ Control ∷ ModeDep ∷ Location ∷ Bound ∷ []
kinds_of Hybrid = Privileged ∷ UControl ∷ ULocation ∷ UBound ∷ []

abbrev pub kind_count : Family → ℕ
kind_count family = length (kinds_of family)

-- what is kept of a finding
abbrev pub mark_of : Finding → Mark
mark_of (finding.Refuted acts) = Refuted
mark_of (finding.Shown s t) = Shown s t
mark_of (finding.Spent k steps) = Spent k

abbrev pub is_refuted : Mark → Bool
is_refuted Refuted = true
is_refuted (Shown s t) = false
is_refuted (Spent k) = false

abbrev pub is_shown : Mark → Bool
is_shown Refuted = false
is_shown (Shown s t) = true
is_shown (Spent k) = false

abbrev pub is_spent : Mark → Bool
is_spent Refuted = false
is_spent (Shown s t) = false
is_spent (Spent k) = true

-- the marks of instruction i, so many to each, in the order of the kinds
abbrev pub marks_of : ℕ → List Mark → ℕ → List Mark
marks_of kinds marks i = take kinds (drop (i * kinds) marks)

-- shown not to be privileged, and shown to be sensitive
abbrev pub breaks : List Mark → Bool
breaks [] = false
breaks (privileged ∷ sensitive) = is_shown privileged && list_any is_shown sensitive

-- privileged, or not sensitive: nothing shows otherwise
abbrev pub is_settled : List Mark → Bool
is_settled [] = true
is_settled (privileged ∷ sensitive) = is_refuted privileged || list_all is_refuted sensitive

-- the kind of the first mark that is spent
abbrev pub first_spent : Family → List Mark → Kind
first_spent family marks = slice_index_or (kinds_of family) (unwrap_or (position is_spent marks) 0) Privileged

-- the first of so many numbers from this one on that passes a test
unfoldable pub first_where : (ℕ → Bool) → (from count : ℕ) → Option ℕ
first_where p from zero = None
first_where p from (suc n) = (if p from then Some from else first_where p (suc from) n)

-- how many instructions have marks
abbrev pub instr_count : Family → List Mark → ℕ
instr_count family marks = length marks / kind_count family

abbrev pub first_breaking : Family → List Mark → Option ℕ
first_breaking family marks = first_where (λ i. breaks (marks_of (kind_count family) marks i)) 0 (instr_count family marks)

abbrev pub first_unsettled : Family → List Mark → Option ℕ
first_unsettled family marks = first_where (λ i. not (is_settled (marks_of (kind_count family) marks i))) 0 (instr_count family marks)

-- refused for the first instruction that breaks the rule; else accepted where all are settled; else open, for the first
-- that is not settled, and its first kind that is spent
unfoldable pub verdict_of : Family → List Mark → Verdict
verdict_of family marks =
    elim (first_breaking family marks) [
      | Some i ↦ Refused i
      | None ↦ elim (first_unsettled family marks) [
        | Some i ↦ Unsettled i (first_spent family (marks_of (kind_count family) marks i))
        | None ↦ Accepted
      ]
    ]

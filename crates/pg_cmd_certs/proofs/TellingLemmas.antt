-- A verdict that is told ends a command, or breaks it off; and what a command leaves by a verdict.
use Rattle.std.proofs.Common.{◌≡◌, List, ℕ, inl, inr, refl, sym, subst}
use Rattle.pg_cert.specs.declared.cert.Family.{Family}
use Rattle.pg_cert.specs.declared.report.Verdict.{Verdict}
use Rattle.pg_cert.specs.declared.report.Verdict.TheVariants as verdict
use Rattle.pg_edge.specs.Sink.{Adds}
use Rattle.pg_edge.specs.Told.{BothTold}
use Rattle.pg_cmd_base.specs.declared.status.Status.{Status}
use Rattle.pg_cmd_base.specs.Classes.{Class, Ended, Unwritten, Unread, OutOfMemory, class_of}
use Rattle.pg_cmd_base.specs.Commands.{Command, CarriesAs, Carries}
use Rattle.pg_cmd_base.specs.Steps.{Came}
use Rattle.pg_cmd_base.specs.World.{World, Output, IsUntouched}
use Rattle.pg_cmd_certs.specs.Judged.{Judged, verdict_on, verdict_status, verdict_told}
use Rattle.pg_cmd_certs.specs.Telling.{ToldWhole, ToldAs, VerdictEnds, EndsBy}
use Rattle.pg_cmd_certs.proofs.JudgedLemmas.{IsRead}

-- a verdict ends a command
pub verdict-ended : (v : Verdict) → class_of (verdict_status v) ≡ Ended
verdict-ended verdict.Accepted = refl
verdict-ended (verdict.Refused instr) = refl
verdict-ended (verdict.Unsettled instr kind) = refl

pub told-whole : (j : Judged) (old new : Output) (given : Status) → given ≡ verdict_status (verdict_on j) → BothTold old.written new.written (Adds (verdict_told j)) →
    ToldAs j old new given (class_of given)
told-whole j old new given is written =
    let whole : ToldWhole j old new given = record { status = is; written = written } in
    let ended : class_of given ≡ Ended = subst (λ s. class_of s ≡ Ended) (sym is) (verdict-ended (verdict_on j)) in
    subst (λ k. ToldAs j old new given k) (sym ended) whole

told-as : (c : Command) (j : Judged) (old new : World) (work : c.Work) (given : Status) (k : Class) → c.due old.files (Came work) →
    c.ends work old new (verdict_status (verdict_on j)) (verdict_told j) → ToldAs j old.out new.out given k → CarriesAs c old new given k
told-as c j old new work given Ended due ends h = inr (record {
  work = work;
  is_due = due;
  came = record { text = verdict_told j; ends = subst (λ s. c.ends work old new s (verdict_told j)) (sym h.status) ends; written = h.written };
})
told-as c j old new work given Unwritten due ends h =
    inr (inl (record { work = work; is_due = due; given = verdict_status (verdict_on j); text = verdict_told j; ends = ends; front = h }))
told-as c j old new work given Unread due ends h = absurd h
told-as c j old new work given OutOfMemory due ends h = absurd h

-- a command whose text is that of a verdict
pub carries-told : (c : Command) (j : Judged) (old new : World) (work : c.Work) (given : Status) → c.due old.files (Came work) →
    c.ends work old new (verdict_status (verdict_on j)) (verdict_told j) → ToldAs j old.out new.out given (class_of given) → Carries c old new given
carries-told c j old new work given due ends h = record { by_class = told-as c j old new work given (class_of given) due ends h }

-- the verdict of a certificate that was read
pub verdict-ends : (family : Family) (j : Judged) (old new : World) → IsRead family j → IsUntouched old new →
    VerdictEnds family j old new (verdict_status (verdict_on j)) (verdict_told j)
verdict-ends family j old new read same = record { of_family = read.of_family; status = refl; wording = refl; meaning = read.means; untouched = same }

-- ---- by the verdict

pub ends-told : (v : Verdict) (Left : World → World → Status → List ℕ → Type 0) (family : Family) (j : Judged) (old new : World) (given : Status) (text : List ℕ) →
    ¬ (v ≡ verdict.Accepted) → VerdictEnds family j old new given text → EndsBy v Left family j old new given text
ends-told verdict.Accepted Left family j old new given text other ends = absurd (other refl)
ends-told (verdict.Refused number) Left family j old new given text other ends = ends
ends-told (verdict.Unsettled number kind) Left family j old new given text other ends = ends

pub ends-left : (v : Verdict) (Left : World → World → Status → List ℕ → Type 0) (family : Family) (j : Judged) (old new : World) (given : Status) (text : List ℕ) →
    v ≡ verdict.Accepted → Left old new given text → EndsBy v Left family j old new given text
ends-left v Left family j old new given text is left = subst (λ x. EndsBy x Left family j old new given text) (sym is) left

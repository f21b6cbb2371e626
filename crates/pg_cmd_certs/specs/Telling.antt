-- The verdict of a certificate is told: what is put of it, and what a command leaves that tells it.
use Rattle.std.specs.Prelude.{◌≡◌, ℕ, List}
use Rattle.pg_cert.specs.declared.cert.Family.{Family}
use Rattle.pg_cert.specs.declared.report.Verdict.{Verdict}
use Rattle.pg_cert.specs.declared.report.Verdict.TheVariants as verdict
use Rattle.pg_edge.specs.Sink.{Adds}
use Rattle.pg_edge.specs.Told.{BothTold}
use Rattle.pg_cmd_base.specs.declared.status.Status.{Status}
use Rattle.pg_cmd_base.specs.Classes.{Class, Ended, Unwritten, Unread, OutOfMemory}
use Rattle.pg_cmd_base.specs.World.{World, Output, Breaks, IsUntouched}
use Rattle.pg_cmd_certs.specs.Judged.{Judged, verdict_on, verdict_status, verdict_told}
use Rattle.pg_cmd_certs.specs.Meaning.{VerdictMeans}

-- its text was put whole, and the status is its own
pub record ToldWhole (j : Judged) (old new : Output) (given : Status) : Type 0 where
  pub status : given ≡ verdict_status (verdict_on j)
  pub written : BothTold old.written new.written (Adds (verdict_told j))

-- what is put of it, by the class of the status
abbrev pub ToldAs : Judged → Output → Output → Status → Class → Type 0
ToldAs j old new given Ended = ToldWhole j old new given
ToldAs j old new given Unwritten = Breaks (verdict_told j) old new
ToldAs j old new given Unread = ⊥
ToldAs j old new given OutOfMemory = ⊥

-- the verdict of a certificate of this family: the status and the text are those of it, it means what it says, and nothing else
-- is touched
pub record VerdictEnds (family : Family) (j : Judged) (old new : World) (given : Status) (text : List ℕ) : Type 0 where
  pub of_family : j.report.family ≡ family
  pub status : given ≡ verdict_status (verdict_on j)
  pub wording : text ≡ verdict_told j
  pub meaning : VerdictMeans j.desc j.report
  pub untouched : IsUntouched old new

-- by a verdict: where it accepts the machine this is left, and else it is told, and nothing else is touched
abbrev pub EndsBy : Verdict → (World → World → Status → List ℕ → Type 0) → Family → Judged → World → World → Status → List ℕ → Type 0
EndsBy verdict.Accepted Left family j old new given text = Left old new given text
EndsBy (verdict.Refused number) Left family j old new given text = VerdictEnds family j old new given text
EndsBy (verdict.Unsettled number kind) Left family j old new given text = VerdictEnds family j old new given text

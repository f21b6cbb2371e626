-- A command that stops before its work, or whose verdict does not accept, does not end as one that is done.
use Rattle.std.proofs.Common.{◌≡◌, refl, subst}
use Rattle.pg_cert.specs.declared.report.Verdict.{Verdict}
use Rattle.pg_cert.specs.declared.report.Verdict.TheVariants as verdict
use Rattle.pg_cmd_certs.specs.Judged.{verdict_status}
use Rattle.pg_report.specs.declared.line.RefusalLine.{RefusalLine}
use Rattle.pg_report.specs.declared.line.RefusalLine.TheVariants.{Description, Image, Certificate, Room, Source, Saved}
use Rattle.pg_cmd_base.specs.declared.refusal.Refusal.{Refusal}
use Rattle.pg_cmd_base.specs.declared.refusal.Refusal.TheVariants.{Words, Missing, Line}
use Rattle.pg_cmd_base.specs.declared.refusal.Stop.{Stop}
use Rattle.pg_cmd_base.specs.declared.refusal.Stop.TheVariants as stop
use Rattle.pg_cmd_base.specs.declared.status.Status.{Status}
use Rattle.pg_cmd_base.specs.declared.status.Status.TheVariants as status
use Rattle.pg_cmd_base.specs.Answering.{Stops}
use Rattle.pg_cmd_base.specs.Refusals.{line_status, refusal_status}
use Rattle.pg_cmd_base.specs.World.{Output}

line-undone : (line : RefusalLine) → status.Done ≡ line_status line → ⊥
line-undone (Description line) is = absurd (cc is)
line-undone (Image number line) is = absurd (cc is)
line-undone (Certificate line) is = absurd (cc is)
line-undone (Room wanted free) is = absurd (cc is)
line-undone (Source line) is = absurd (cc is)
line-undone (Saved line) is = absurd (cc is)

refusal-undone : (why : Refusal) → status.Done ≡ refusal_status why → ⊥
refusal-undone Words is = absurd (cc is)
refusal-undone Missing is = absurd (cc is)
refusal-undone (Line line) is = line-undone line is

done-undone : (why : Stop) (old new : Output) → Stops why old new status.Done → ⊥
done-undone (stop.Refused why) old new h = refusal-undone why h.status
done-undone stop.ReadFault old new h = absurd (cc h.0)
done-undone stop.Memory old new h = absurd (cc h.0)

pub undone : (why : Stop) (old new : Output) (given : Status) → Stops why old new given → given ≡ status.Done → ⊥
undone why old new given h is = done-undone why old new (subst (λ s. Stops why old new s) is h)

-- ---- a verdict that does not accept

pub not-done : (v : Verdict) → ¬ (v ≡ verdict.Accepted) → status.Done ≡ verdict_status v → ⊥
not-done verdict.Accepted other is = other refl
not-done (verdict.Refused instr) other is = absurd (cc is)
not-done (verdict.Unsettled instr kind) other is = absurd (cc is)

-- `hybrid`: images as guests of one hybrid monitor, where a certificate of the hybrid family says that one may run the machine.
use Rattle.std.specs.Prelude.{◌≡◌, ℕ, List, All, length, map, None}
use Rattle.pg_cert.specs.declared.cert.Family.TheVariants.{Hybrid}
use Rattle.pg_cli_table.specs.declared.run.RunWords.{RunWords}
use Rattle.pg_type.specs.Accepting.{IsHybridAccepted}
use Rattle.pg_lang_meaning.specs.Steps.{bare}
use Rattle.pg_run_guests.specs.UnderHybrid.{RanHybrid, hybrid_text}
use Rattle.pg_run_guests.specs.Runs.{reached_by}
use Rattle.pg_cmd_base.specs.declared.status.Status.{Status}
use Rattle.pg_cmd_base.specs.declared.status.Status.TheVariants as status
use Rattle.pg_cmd_base.specs.Commands.{Command}
use Rattle.pg_cmd_base.specs.World.{World}
use Rattle.pg_cmd_certs.specs.Judged.{verdict_on}
use Rattle.pg_cmd_certs.specs.Telling.{EndsBy}
use Rattle.pg_cmd_run.specs.Run.{JudgedRun, RunDue, RunStarves, guests_in, judged_by}

-- the guests ran: each instruction of the machine is privileged or not sensitive from user states, each image has the granted
-- size, and the text is that of the states that bare machines reach, and of the counts of turns; no file was saved
pub record HybridsEnd (j : JudgedRun) (old new : World) (given : Status) (text : List ℕ) : Type 0 where
  pub status : given ≡ status.Done
  pub accepted : IsHybridAccepted j.desc
  pub granted : All (λ image. length image ≡ j.grant) j.images
  pub reached : reached_by (guests_in j) ≡ map (λ image. bare j.desc image (length image) j.steps) j.images
  pub wording : text ≡ hybrid_text (guests_in j)
  pub ran : RanHybrid (guests_in j) old.hw new.hw
  pub files : new.files ≡ old.files
  pub saves : new.save_faults ≡ old.save_faults

-- by the verdict of the certificate: the guests ran where it accepts the machine; else it is told, and nothing ran
pub record HybridEnds (j : JudgedRun) (old new : World) (given : Status) (text : List ℕ) : Type 0 where
  pub by_verdict : EndsBy (verdict_on (judged_by j)) (HybridsEnd j) Hybrid (judged_by j) old new given text

-- without memory the same is left as of `run`
abbrev pub hybrid_command : RunWords → Command
hybrid_command r = record {
  Work = JudgedRun;
  due = RunDue Hybrid r;
  saved = None;
  ends = HybridEnds;
  unsaved = λ j old new. ⊥;
  starved = RunStarves;
}

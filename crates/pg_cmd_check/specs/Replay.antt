-- `replay`: the states that a certificate shows, and what one step makes of each.
use Rattle.std.specs.Prelude.{◌≡◌, ℕ, List, None}
use Rattle.pg_cert.specs.declared.cert.Family.TheVariants.{Plain}
use Rattle.pg_cli_table.specs.declared.replay.ReplayWords.{ReplayWords}
use Rattle.pg_edge.specs.Sink.{AddsFront}
use Rattle.pg_edge.specs.Told.{BothTold}
use Rattle.pg_report.specs.Replays.{replay_text}
use Rattle.pg_cmd_base.specs.declared.status.Status.{Status}
use Rattle.pg_cmd_base.specs.declared.status.Status.TheVariants.{Done}
use Rattle.pg_cmd_base.specs.Commands.{Command}
use Rattle.pg_cmd_certs.specs.Judged.{Judged, JudgedDue}
use Rattle.pg_cmd_certs.specs.Meaning.{AreShown}
use Rattle.pg_cmd_base.specs.World.{World, IsUntouched}

-- what is written of a certificate
abbrev pub replayed : Judged → List ℕ
replayed j = replay_text j.desc j.report.family j.report.marks

-- its text is that of the states that are shown, each two of which show the kind above them; the verdict does not matter
pub record ReplayEnds (j : Judged) (old new : World) (given : Status) (text : List ℕ) : Type 0 where
  pub status : given ≡ Done
  pub wording : text ≡ replayed j
  pub shown : AreShown j.desc j.report
  pub untouched : IsUntouched old new

-- memory was refused for the state behind a step: a front of the text is there, and no put failed
pub record ReplayStarves (j : Judged) (old new : World) : Type 0 where
  pub quiet : new.out.faults ≡ old.out.faults
  pub front : BothTold old.out.written new.out.written (AddsFront (replayed j))
  pub untouched : IsUntouched old new

abbrev pub replay_command : ReplayWords → Command
replay_command r = record {
  Work = Judged;
  due = JudgedDue Plain r.desc r.cert;
  saved = None;
  ends = ReplayEnds;
  unsaved = λ j old new. ⊥;
  starved = ReplayStarves;
}

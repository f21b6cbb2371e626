-- What the program does, whatever its words are.
use Rattle.std.specs.Prelude.{◌≡◌, ◌⊎◌, ℕ, ◌<◌, List, [], ◌∷◌, ◌++◌, codes}
use Rattle.pg_cmd_base.specs.declared.status.Status.{Status}
use Rattle.pg_cmd_base.specs.Codes.{code_of}
use Rattle.pg_cmd_base.specs.Commands.{Carries}
use Rattle.pg_cmd_base.specs.Steps.{Came}
use Rattle.pg_cmd_base.specs.Usage.{Untaken}
use Rattle.pg_cmd_base.specs.World.{World, SavesOnly}
use Rattle.pg_cmd_certs.specs.Judged.{Judged, verdict_on, verdict_status}
use Rattle.pg_cmd_certs.specs.Meaning.{VerdictMeans}
use Rattle.pg_prog_explain.specs.Explaining.{ExplainWords, ExplainDue, explain_command}

-- how the program is called
unfoldable pub usage_line : List ℕ
usage_line = codes "usage: pg_explain DESC CERT [INSTR [KIND] | --json] [--budget K] [--mend FILE] [--readable]" ++ 10 ∷ []

-- as JSON: description and certificate come to this verdict, which means what it says, and a status below 3 is its own
pub record JsonTold (w : ExplainWords) (old : World) (code : ℕ) : Type 0 where
  pub judged : Judged
  pub due : ExplainDue w old.files (Came judged)
  pub means : VerdictMeans judged.desc judged.report
  pub status : code < 3 → code ≡ code_of (verdict_status (verdict_on judged))

-- it goes no further, as beside the text
pub record JsonHalted (w : ExplainWords) (old new : World) (code : ℕ) : Type 0 where
  pub given : Status
  pub is : code ≡ code_of given
  pub carries : Carries (explain_command w) old new given

abbrev pub JsonLeaves : ExplainWords → World → World → ℕ → Type 0
JsonLeaves w old new code = JsonTold w old code ⊎ JsonHalted w old new code

-- the words ask for text, and that was carried out
pub record TakenText (old new : World) (code : ℕ) : Type 0 where
  pub words : ExplainWords
  pub given : Status
  pub is : code ≡ code_of given
  pub carries : Carries (explain_command words) old new given

-- the words ask for JSON; no file differs but the one that they name to be saved
pub record TakenJson (old new : World) (code : ℕ) : Type 0 where
  pub words : ExplainWords
  pub files : SavesOnly words.mend old.files new.files
  pub leaves : JsonLeaves words old new code

abbrev pub TakenBy : World → World → ℕ → Type 0
TakenBy old new code = TakenText old new code ⊎ TakenJson old new code

-- the words are none that the program takes
pub record UntakenBy (old new : World) (code : ℕ) : Type 0 where
  pub given : Status
  pub is : code ≡ code_of given
  pub untaken : Untaken usage_line old new given

-- what the program made of the world, by the number of the status
abbrev pub ExplainedBy : World → World → ℕ → Type 0
ExplainedBy old new code = UntakenBy old new code ⊎ TakenBy old new code

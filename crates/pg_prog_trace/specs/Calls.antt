-- What the program does, whatever its words are.
use Rattle.std.specs.Prelude.{◌≡◌, ◌⊎◌, ℕ, List, [], ◌∷◌, ◌++◌, codes}
use Rattle.pg_cmd_base.specs.declared.status.Status.{Status}
use Rattle.pg_cmd_base.specs.Codes.{code_of}
use Rattle.pg_cmd_base.specs.Usage.{Untaken, WordsStarve}
use Rattle.pg_cmd_base.specs.World.{World}
use Rattle.pg_prog_trace.specs.declared.request.TraceWords.{TraceWords}
use Rattle.pg_prog_trace.specs.declared.request.Written.{Written}
use Rattle.pg_prog_trace.specs.declared.request.Written.TheVariants.{Text, Json, Vcd}
use Rattle.pg_prog_trace.specs.Tracing.{Traces, TracesForm}

-- how the program is called
unfoldable pub usage_line : List ℕ
usage_line = codes "usage: pg_trace DESC IMAGE --grant G --steps N [--until E] [--cert CERT] [--only-traps] [--counts] [--json | --vcd]" ++ 10 ∷ []

-- what words that ask for a run made of the world, by what they want it written as
abbrev pub TracesAsked : Written → TraceWords → World → World → Status → Type 0
TracesAsked Text w old new given = Traces w old new given
TracesAsked Json w old new given = TracesForm w old new given
TracesAsked Vcd w old new given = TracesForm w old new given

-- the words ask for a run, and it was carried out
pub record Taken (old new : World) (given : Status) : Type 0 where
  pub words : TraceWords
  pub traces : TracesAsked words.form words old new given

-- what the program made of the world
abbrev pub Traced : World → World → Status → Type 0
Traced old new given = Untaken usage_line old new given ⊎ (WordsStarve old new given ⊎ Taken old new given)

-- the same, by the number of the status
pub record TracedBy (old new : World) (code : ℕ) : Type 0 where
  pub given : Status
  pub is : code ≡ code_of given
  pub traced : Traced old new given

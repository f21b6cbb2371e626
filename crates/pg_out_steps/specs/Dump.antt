-- A run as a value change dump: a head, and then the times, of which each is a step.
use Rattle.std.specs.Prelude.{ℕ, zero, suc, List, [], ◌∷◌, ◌++◌, length, codes, Option, None, Some}
use Rattle.std.specs.Fmt.{decimal}
use Rattle.pg_word.specs.declared.psw.Psw.{Psw}
use Rattle.pg_ast.specs.declared.tree.Desc.{Desc}
use Rattle.pg_interp.specs.Outcomes.{number_at}
use Rattle.pg_lang_meaning.specs.States.{State, window}
use Rattle.pg_lang_meaning.specs.Steps.{ending, steps}
use Rattle.pg_out_steps.specs.declared.handling.Monitor.{Monitor}
use Rattle.pg_out_steps.specs.Handling.{handling_under}
use Rattle.pg_out_steps.specs.Lines.{name_at}
use Rattle.pg_out_steps.specs.Tells.{cause_of}
use Rattle.pg_out_steps.specs.declared.sample.Sample.{Sample}
use Rattle.pg_out_steps.specs.declared.signal.Signal.{Signal}
use Rattle.pg_out_steps.specs.Values.{bits_of, letter_of, name_of, sample_text, signals_of}

-- ---- the times

-- the status word of a state, and what the step from it does
abbrev pub sample_of : Option Monitor → Desc → State → Sample
sample_of monitor d s = record {
  psw = s.psw;
  instr = number_at d (window s) s.psw;
  cause = cause_of (ending d (window s) s.psw);
  handling = handling_under monitor d s;
}

-- a status word, behind which there is no step
abbrev pub sample_at_end : Psw → Sample
sample_at_end psw = record { psw = psw; instr = None; cause = None; handling = None }

-- the last of the first n steps from a state
abbrev pub last_sample : Option Monitor → Desc → ℕ → State → Option Sample
last_sample monitor d zero s = None
last_sample monitor d (suc n) s = Some (sample_of monitor d (steps d n s))

-- the first n steps from a state
unfoldable pub steps_text : Option Monitor → Desc → ℕ → State → List ℕ
steps_text monitor d zero s = []
steps_text monitor d (suc n) s =
    steps_text monitor d n s ++ sample_text n (signals_of monitor) (last_sample monitor d n s) (sample_of monitor d (steps d n s))

-- the state behind them
abbrev pub end_text : Option Monitor → Desc → ℕ → State → List ℕ
end_text monitor d n s = sample_text n (signals_of monitor) (last_sample monitor d n s) (sample_at_end (steps d n s).psw)

-- ---- the head

-- a space, a name, and the end of a declaration
abbrev pub named_text : List ℕ → List ℕ
named_text name = 32 ∷ name ++ (codes " $end" ++ 10 ∷ [])

-- the number and the name of an instruction
abbrev pub instr_line : ℕ → List ℕ → List ℕ
instr_line k name = codes "$comment instr " ++ (decimal k ++ named_text name)

-- of the first instructions
unfoldable pub instrs_text : Desc → ℕ → List ℕ
instrs_text d zero = []
instrs_text d (suc k) = instrs_text d k ++ instr_line k (name_at d k)

-- the declaration of a signal: its bits, its letter and its name
abbrev pub declared_text : Signal → List ℕ
declared_text s = 32 ∷ letter_of s ∷ named_text (name_of s)

abbrev pub signal_line : Signal → List ℕ
signal_line s = codes "$var reg " ++ (decimal (bits_of s) ++ declared_text s)

unfoldable pub signals_text : List Signal → List ℕ
signals_text [] = []
signals_text (s ∷ ss) = signal_line s ++ signals_text ss

abbrev pub begin_text : List ℕ
begin_text = codes "$version pg_trace $end" ++ 10 ∷ codes "$comment a step is a unit of time $end" ++ 10 ∷ []

abbrev pub scope_text : List ℕ
scope_text = codes "$timescale 1 ns $end" ++ 10 ∷ codes "$scope module machine $end" ++ 10 ∷ []

abbrev pub scope_end_text : List ℕ
scope_end_text = codes "$upscope $end" ++ 10 ∷ codes "$enddefinitions $end" ++ 10 ∷ []

unfoldable pub head_text : Option Monitor → Desc → List ℕ
head_text monitor d = begin_text ++ (instrs_text d (length d.instrs) ++ (scope_text ++ (signals_text (signals_of monitor) ++ scope_end_text)))

-- ---- the whole

-- the dump of n steps from a state
abbrev pub dump_text : Option Monitor → Desc → ℕ → State → List ℕ
dump_text monitor d n s = head_text monitor d ++ (steps_text monitor d n s ++ end_text monitor d n s)

-- What is dumped of a run at a time: signals, their values, and the text of these.
use Rattle.std.specs.Prelude.{ℕ, zero, suc, ◌+◌, ◌/◌, ◌%◌, ◌==◌, Bool, true, false, if◌then◌else◌, List, [], ◌∷◌, ◌++◌, codes, Option, None, Some}
use Rattle.std.specs.Fmt.{decimal}
use Rattle.pg_word.specs.declared.cause.Cause.{Cause}
use Rattle.pg_word.specs.declared.cause.Cause.TheVariants as cause
use Rattle.pg_word.specs.declared.psw.Mode.{Mode}
use Rattle.pg_word.specs.declared.psw.Mode.TheVariants as mode
use Rattle.pg_out_steps.specs.declared.handling.Handling.{Handling}
use Rattle.pg_out_steps.specs.declared.handling.Handling.TheVariants as handling
use Rattle.pg_out_steps.specs.declared.handling.Monitor.{Monitor}
use Rattle.pg_out_steps.specs.declared.sample.Sample.{Sample}
use Rattle.pg_out_steps.specs.declared.signal.Signal.{Signal}
use Rattle.pg_out_steps.specs.declared.signal.Signal.TheVariants as signal

-- ---- signals

-- where a monitor is named it is told too whether the hardware does a step
abbrev pub signals_of : Option Monitor → List Signal
signals_of None = signal.Mode ∷ signal.P ∷ signal.L ∷ signal.B ∷ signal.Instr ∷ signal.Cause ∷ []
signals_of (Some monitor) = signal.Mode ∷ signal.P ∷ signal.L ∷ signal.B ∷ signal.Instr ∷ signal.Cause ∷ signal.Direct ∷ []

abbrev pub name_of : Signal → List ℕ
name_of signal.Mode = codes "mode"
name_of signal.P = codes "P"
name_of signal.L = codes "l"
name_of signal.B = codes "b"
name_of signal.Instr = codes "instr"
name_of signal.Cause = codes "cause"
name_of signal.Direct = codes "direct"

-- the letter that stands for a signal in the dump
abbrev pub letter_of : Signal → ℕ
letter_of signal.Mode = 109
letter_of signal.P = 112
letter_of signal.L = 108
letter_of signal.B = 98
letter_of signal.Instr = 105
letter_of signal.Cause = 99
letter_of signal.Direct = 100

-- how many bits it has
abbrev pub bits_of : Signal → ℕ
bits_of signal.Mode = 1
bits_of signal.P = 20
bits_of signal.L = 20
bits_of signal.B = 20
bits_of signal.Instr = 20
bits_of signal.Cause = 2
bits_of signal.Direct = 1

-- ---- values

-- 0 in supervisor mode, 1 in user mode
abbrev pub mode_bit : Mode → ℕ
mode_bit mode.S = 0
mode_bit mode.U = 1

-- 0 where the step does not trap
abbrev pub cause_bits : Option Cause → ℕ
cause_bits None = 0
cause_bits (Some cause.Memory) = 1
cause_bits (Some cause.Trap) = 2
cause_bits (Some cause.NoPattern) = 3

-- whether the hardware of the monitor does the step
abbrev pub direct_bit : Option Handling → Option ℕ
direct_bit None = None
direct_bit (Some handling.Direct) = Some 1
direct_bit (Some handling.Emulated) = Some 0

-- the value of a signal; none where it is unknown
abbrev pub value_of : Signal → Sample → Option ℕ
value_of signal.Mode x = Some (mode_bit x.psw.mode)
value_of signal.P x = Some x.psw.p
value_of signal.L x = Some x.psw.l
value_of signal.B x = Some x.psw.b
value_of signal.Instr x = x.instr
value_of signal.Cause x = Some (cause_bits x.cause)
value_of signal.Direct x = direct_bit x.handling

abbrev pub same_value : Option ℕ → Option ℕ → Bool
same_value None None = true
same_value None (Some y) = false
same_value (Some x) None = false
same_value (Some x) (Some y) = x == y

-- a signal has the value that it had before; it has none before the first time
abbrev pub has_stayed : Option Sample → Sample → Signal → Bool
has_stayed None x s = false
has_stayed (Some before) x s = same_value (value_of s before) (value_of s x)

-- ---- text

-- the last n bits of a number, as the digits 0 and 1, the highest first
unfoldable pub bits_text : ℕ → ℕ → List ℕ
bits_text zero x = []
bits_text (suc n) x = bits_text n (x / 2) ++ (48 + x % 2) ∷ []

-- the bits of a value; an x where it is unknown
abbrev pub digits_text : ℕ → Option ℕ → List ℕ
digits_text bits None = 120 ∷ []
digits_text bits (Some value) = bits_text bits value

-- a value: b, its bits, and the letter of the signal
unfoldable pub value_text : Signal → Option ℕ → List ℕ
value_text s value = 98 ∷ digits_text (bits_of s) value ++ 32 ∷ letter_of s ∷ 10 ∷ []

-- the value of a signal, where it is another one than before
abbrev pub change_text : Option Sample → Sample → Signal → List ℕ
change_text before x s = if has_stayed before x s then [] else value_text s (value_of s x)

-- of each of these signals, in order
unfoldable pub changes_text : Option Sample → Sample → List Signal → List ℕ
changes_text before x [] = []
changes_text before x (s ∷ ss) = change_text before x s ++ changes_text before x ss

-- a time, and what is then another value than before
unfoldable pub sample_text : ℕ → List Signal → Option Sample → Sample → List ℕ
sample_text time ss before x = 35 ∷ decimal time ++ 10 ∷ changes_text before x ss

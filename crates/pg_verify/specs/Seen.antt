-- The values of the code as the definitions have them.
use Rattle.std.specs.Prelude.{Bool, true, false, ℕ, ◌≡◌, ◌≢◌, length, Option, None, Some, Result, Ok, Err}
use Rattle.pg_cert_drawn.specs.Drawn.{drawn_of}
use Rattle.pg_verify.specs.declared.fault.VerifyFault.{VerifyFault}
use Rattle.pg_verify.specs.declared.fault.VerifyFault.TheVariants.{Memory}
use Rattle.pg_verify.specs.declared.drawing.Drawing.{Drawing}
use Rattle.pg_verify.specs.declared.drawing.Drawing.TheVariants as drawing
use Rattle.pg_verify.specs.declared.opened.Opened.{Opened}
use Rattle.pg_verify.specs.declared.opened.Opened.TheVariants as opened
use Rattle.pg_verify.specs.Reader.{Progress, Reader, Pair, NoState, FirstSize, FirstState, SecondSize, BothStates, Open, Fresh, Between, Refuting, Showing, Spending, Ended}
use Rattle.pg_verify.specs.declared.states.StatePart.{StatePart}
use Rattle.pg_verify.specs.declared.states.StatePart.TheVariants as part
use Rattle.pg_verify.specs.Taking.{misplaced, with_size, with_psw, with_cells}

abbrev pub pair_of : Drawing → Pair
pair_of drawing.NoState = NoState
pair_of (drawing.FirstSize size) = FirstSize size
pair_of (drawing.FirstState s) = FirstState (drawn_of s)
pair_of (drawing.SecondSize s size) = SecondSize (drawn_of s) size
pair_of (drawing.BothStates s t) = BothStates (drawn_of s) (drawn_of t)

abbrev pub open_of : Opened → Open
open_of opened.Fresh = Fresh
open_of opened.Between = Between
open_of (opened.Refuting header checker) = Refuting header checker
open_of (opened.Showing header pair) = Showing header (pair_of pair)
open_of (opened.Spending header budget count checker) = Spending header budget count checker
open_of opened.Ended = Ended

-- how many clauses have numbers in the log that is open
abbrev pub numbered : Open → ℕ
numbered Fresh = 0
numbered Between = 0
numbered (Refuting header log) = length log.held
numbered (Showing header pair) = 0
numbered (Spending header budget count log) = length log.held
numbered Ended = 0

-- what is answered where a value is due or a refusal: the value is there, or the refusal is told. Lack of memory says nothing
abbrev pub IsTold : {X A : Type 0} → Result X VerifyFault → X → Result A VerifyFault → Type 0
IsTold due there (Ok a) = due ≡ Ok there
IsTold due there (Err f) = f ≢ Memory → due ≡ Err f

-- the same where a pair is due or none
abbrev pub IsPair : Option Pair → Option Drawing → Type 0
IsPair due None = due ≡ None
IsPair due (Some d) = due ≡ Some (pair_of d)

-- what a line says of a state
abbrev pub with_part : StatePart → Pair → Option Pair
with_part (part.Size size) = with_size size
with_part (part.Psw psw) = with_psw psw
with_part (part.Cells first words) = with_cells first words.now

-- a pair with a line more, or that it may not stand there
abbrev pub pair_told : ℕ → Option Pair → Result Pair VerifyFault
pair_told n None = misplaced n
pair_told n (Some pair) = Ok pair

-- a reader, by whether it has refused
abbrev pub reader_of : Option VerifyFault → Progress → Reader
reader_of None p = Ok p
reader_of (Some f) p = Err f

-- a refusal that is due. Lack of memory says nothing
abbrev pub IsFaultDue : Reader → VerifyFault → Type 0
IsFaultDue due f = f ≢ Memory → due ≡ Err f

abbrev pub is_ended : Open → Bool
is_ended Fresh = false
is_ended Between = false
is_ended (Refuting header log) = false
is_ended (Showing header pair) = false
is_ended (Spending header budget count log) = false
is_ended Ended = true

-- How far the text of a certificate has been read, or why it was refused.
use Rattle.std.specs.Prelude.{ℕ, Bool, List, Result}
use Rattle.pg_ast.specs.declared.tree.Desc.{Desc}
use Rattle.pg_proof.specs.State.{State as Log}
use Rattle.pg_cert.specs.declared.cert.Family.{Family}
use Rattle.pg_cert_drawn.specs.Drawn.{Drawn}
use Rattle.pg_verify.specs.declared.fault.VerifyFault.{VerifyFault}

-- how far the two states of a finding have come. A state is whole from its program status word on; rows of cells may follow
pub data Pair : Type 0 where
  NoState : Pair
  FirstSize : (size : ℕ) → Pair
  FirstState : (s : Drawn) → Pair
  SecondSize : (s : Drawn) (size : ℕ) → Pair
  BothStates : (s t : Drawn) → Pair

-- what is open: nothing was read; no finding, behind the first line; a log that is to refute, with what a checker holds; a
-- pair of states; a log that spends a budget, with how many steps it has; or nothing, behind the last line. A finding has
-- the number of its header's line
pub data Open : Type 0 where
  Fresh : Open
  Between : Open
  Refuting : (header : ℕ) (log : Log) → Open
  Showing : (header : ℕ) (pair : Pair) → Open
  Spending : (header budget count : ℕ) (log : Log) → Open
  Ended : Open

-- the mark of a finding that is closed
pub data Mark : Type 0 where
  Refuted : Mark
  Shown : (s t : Drawn) → Mark
  Spent : (budget : ℕ) → Mark

-- how far a text has been read: for which machine and which family, whether clauses may be taken away, the marks of the
-- findings that are closed, what is open, how many lines and bytes were taken, and the bytes of a line that is not whole
pub record Progress : Type 0 where
  pub desc : Desc
  pub family : Family
  pub removes : Bool
  pub marks : List Mark
  pub opened : Open
  pub lines : ℕ
  pub fed : ℕ
  pub rest : List ℕ

-- a reader is somewhere in a text, or has refused it, for good
abbrev pub Reader : Type 0
Reader = Result Progress VerifyFault

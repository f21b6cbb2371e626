-- A machine that guards mend.
use Rattle.std.specs.Prelude.{◌≡◌, ℕ, Bool, true, List, length, Some, slice_get}
use Rattle.pg_ast.specs.declared.tree.Desc.{Desc}
use Rattle.pg_type.specs.Accepting.{IsAccepted}
use Rattle.pg_cert.specs.declared.report.Report.{Report}
use Rattle.pg_cert.specs.Verdicts.{breaks, kind_count, marks_of}
use Rattle.pg_out_guarded.specs.Guards.{IsGuardedDesc}

-- with these guards each instruction is privileged or not sensitive
pub record IsMended (marks : List Bool) (d e : Desc) : Type 0 where
  pub guarded : IsGuardedDesc marks d e
  pub accepted : IsAccepted e

-- a mark for each of so many instructions, and only those are marked that are shown not to be privileged and shown to be sensitive
pub record AreWanted (report : Report) (count : ℕ) (marks : List Bool) : Type 0 where
  pub whole : length marks ≡ count
  pub broken : (k : ℕ) → slice_get marks k ≡ Some true → breaks (marks_of (kind_count report.family) report.marks k) ≡ true

-- the same with guards before some of the instructions that a report shows not to be privileged and to be sensitive
pub record IsMendedBy (d : Desc) (report : Report) (e : Desc) : Type 0 where
  pub marks : List Bool
  pub wanted : AreWanted report (length d.instrs) marks
  pub mended : IsMended marks d e

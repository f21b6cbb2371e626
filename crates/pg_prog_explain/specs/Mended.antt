-- What is saved of a machine that guards mend.
use Rattle.std.specs.Prelude.{◌≡◌, ℕ, List, Some}
use Rattle.pg_ast.specs.declared.tree.Desc.{Desc}
use Rattle.pg_cert.specs.declared.report.Report.{Report}
use Rattle.pg_edge.specs.Shelf.{Files}
use Rattle.pg_cmd_base.specs.Descriptions.{ReadsAs}
use Rattle.pg_out_reasons.specs.Mending.{IsMendedBy}

-- the file of this name has a text that reads as the description with guards, before bodies that a report shows to want them, with
-- which each instruction is privileged or not sensitive
pub record HoldsMended (d : Desc) (report : Report) (name : List ℕ) (files : Files) : Type 0 where
  pub text : List ℕ
  pub held : files name ≡ Some text
  pub mended : Desc
  pub reads : ReadsAs text mended
  pub by : IsMendedBy d report mended

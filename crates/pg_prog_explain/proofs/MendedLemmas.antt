-- What is saved of a machine that guards mend.
use Rattle.std.proofs.Common.{◌≡◌, ℕ, List, Option, None, Some}
use Rattle.pg_ast.specs.declared.tree.Desc.{Desc}
use Rattle.pg_ast.specs.Tokens.{tokens_of}
use Rattle.pg_cert.specs.declared.report.Report.{Report}
use Rattle.pg_edge.specs.Shelf.{Files}
use Rattle.pg_edge.specs.Told.{BothTold}
use Rattle.pg_text.specs.Cutting.{tokens_in}
use Rattle.pg_out_reasons.specs.Mending.{IsMendedBy}
use Rattle.pg_prog_explain.specs.Mended.{HoldsMended}

-- a text that reads as the mended description was saved
pub saved_mended : (d e : Desc) (report : Report) (name text : List ℕ) (was now : Option Files) → IsMendedBy d report e →
    tokens_in text ≡ Some (tokens_of e) → BothTold was now (λ _ files. files name ≡ Some text) → BothTold was now (λ _ files. HoldsMended d report name files)
saved_mended d e report name text None None by reads saved = tt
saved_mended d e report name text None (Some now) by reads saved = saved
saved_mended d e report name text (Some was) None by reads saved = saved
saved_mended d e report name text (Some was) (Some now) by reads saved =
    record { text = text; held = saved; mended = e; reads = record { tokens = reads }; by = by }

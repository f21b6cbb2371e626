use Rattle.pg_type.proofs.AgreeRows.{narrow_loop as narrow_loop_holds, causes_do_not_agree as causes_do_not_agree_holds, sixteen_cells_fit_both as sixteen_cells_fit_both_holds, twenty_cells_fit_one_alone as twenty_cells_fit_one_alone_holds, narrow_m1_serves_hybrid as narrow_m1_serves_hybrid_holds}
use Rattle.pg_type.proofs.rows.worked_agreement.Goals as goal

pub returns : goal.returns
returns c = record {
  narrow_loop = narrow_loop_holds;
  causes_do_not_agree = causes_do_not_agree_holds;
  sixteen_cells_fit_both = sixteen_cells_fit_both_holds;
  twenty_cells_fit_one_alone = twenty_cells_fit_one_alone_holds;
  narrow_m1_serves_hybrid = narrow_m1_serves_hybrid_holds;
}

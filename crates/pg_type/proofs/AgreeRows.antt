-- Machines that agree, by their laws, and two that do not.
use Rattle.std.proofs.Common.{◌≡◌, true, false, ◌<◌, ◌≤◌, ◌^◌, refl, ◌∙◌, ap, arith, lit<, lit≤}
use Rattle.std.proofs.lemmas.List.Elements.{All-replicate}
use Rattle.std.proofs.lemmas.Nat.{pow_pos}
use Rattle.pg_lang_meaning.specs.States.{IsState}
use Rattle.pg_lang_meaning.specs.Steps.{power_on, bare}
use Rattle.pg_lang_valid.specs.Sized.{sized}
use Rattle.pg_type.specs.Examples.{m0, m1}
use Rattle.pg_type.specs.WorkedRuns.{loop_image}
use Rattle.pg_type.specs.WorkedAgreeing.{m0_narrow, sixteen_cells, twenty_cells, NarrowLoop, CausesDoNotAgree, SixteenCellsFitBoth, TwentyCellsFitOneAlone, NarrowM1ServesHybrid}
use Rattle.pg_type.proofs.RunRows.{doubles_in_a_loop}
use Rattle.pg_type.proofs.HybridRow.{m1_serves_hybrid_alone}
use Rattle.pg_type.proofs.AgreeLemmas.{agree-steps, agree-state, agree-hybrid}

pub narrow_loop : NarrowLoop
unfolding bare
narrow_loop = (refl, agree-steps m0 m0_narrow refl 10 (power_on loop_image 16) ∙ doubles_in_a_loop)

pub causes_do_not_agree : CausesDoNotAgree
causes_do_not_agree agrees = let causes : true ≡ false = ap (λ d. d.causes) agrees in cc

sixteen_narrow : IsState m0_narrow sixteen_cells
sixteen_narrow = record {
  size_least = lit≤ tt;
  size_most = lit≤ tt;
  words = All-replicate (λ cell. cell < 2 ^ 32) 16 0 (pow_pos 32);
  fields = record { p = lit< tt; l = lit< tt; b = lit< tt };
}

pub sixteen_cells_fit_both : SixteenCellsFitBoth
sixteen_cells_fit_both = (sixteen_narrow, agree-state m0 m0_narrow refl (lit≤ tt) sixteen_cells sixteen_narrow)

twenty_wide : IsState m0 twenty_cells
twenty_wide = record {
  size_least = lit≤ tt;
  size_most = lit≤ tt;
  words = All-replicate (λ cell. cell < 2 ^ 32) 20 0 (pow_pos 32);
  fields = record { p = lit< tt; l = lit< tt; b = lit< tt };
}

too_many : ¬ IsState m0_narrow twenty_cells
too_many h = let most : 20 ≤ 16 = h.size_most in omega arith

pub twenty_cells_fit_one_alone : TwentyCellsFitOneAlone
twenty_cells_fit_one_alone = (too_many, twenty_wide)

pub narrow_m1_serves_hybrid : NarrowM1ServesHybrid
narrow_m1_serves_hybrid = agree-hybrid m1 (sized 16 m1) refl (lit≤ tt) m1_serves_hybrid_alone.0

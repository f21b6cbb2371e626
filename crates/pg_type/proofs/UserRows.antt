-- What is done alike in user mode on M1, by the laws of a description that a hybrid monitor may run.
use Rattle.std.proofs.Common.{◌≡◌, ◌<◌, ◌^◌, [], ◌∷◌, refl, ◌∙◌, ap, lit<, lit≤, inl, inr}
use Rattle.std.proofs.lemmas.List.Elements.{All-from_recursion}
use Rattle.pg_word.specs.declared.psw.Mode.TheVariants.{U}
use Rattle.pg_lang_meaning.specs.Patterns.{matches, matching, run_length, field_of_letter}
use Rattle.pg_lang_meaning.specs.Values.{let_value}
use Rattle.pg_lang_meaning.specs.Bodies.{Going, body, in_order}
use Rattle.pg_lang_meaning.specs.States.{IsState, window}
use Rattle.pg_lang_meaning.specs.Steps.{Done, left_by, ending, step, ends_in_trap}
use Rattle.pg_type.specs.Kinds.{IsAt, course_at}
use Rattle.pg_type.specs.Accepting.{IsHybridAccepted}
use Rattle.pg_type.specs.Alike.{LookAlike, DoneAlike}
use Rattle.pg_type.specs.Examples.{m1, rtu}
use Rattle.pg_type.specs.WorkedUserMode.{here, elsewhere, elsewhere_in_s, left_here, RtuDoneAlike, RtuTrapsAlike, RtuStepsAlike, RtuKeepsControl, RtuInSupervisorModeIsNotAlike}
use Rattle.pg_lang_meaning.proofs.ValueEquations.{value_rules}
use Rattle.pg_lang_meaning.proofs.DeedEquations.{deed_rules}
use Rattle.pg_type.proofs.HybridRow.{rtu_user_innocuous, m1_serves_hybrid_alone}
use Rattle.pg_type.proofs.AlikeLemmas.{user_done_alike}
use Rattle.pg_type.proofs.AlikeSteps.{user_traps_alike, user_steps_alike, user_kept}

here_state : IsState m1 here
here_state = record {
  size_least = lit≤ tt;
  size_most = lit≤ tt;
  words = All-from_recursion (λ cell. cell < 2 ^ 32) here.cells (lit< tt, (lit< tt, (lit< tt, (lit< tt, tt))));
  fields = record { p = lit< tt; l = lit< tt; b = lit< tt };
}

elsewhere_state : IsState m1 elsewhere
elsewhere_state = record {
  size_least = lit≤ tt;
  size_most = lit≤ tt;
  words = All-from_recursion (λ cell. cell < 2 ^ 32) elsewhere.cells (lit< tt, (lit< tt, (lit< tt, (lit< tt, (lit< tt, (lit< tt, (lit< tt, tt)))))));
  fields = record { p = lit< tt; l = lit< tt; b = lit< tt };
}

alike : LookAlike here elsewhere
alike = record { same_window = refl; same_p = refl }

known : ∥ IsHybridAccepted m1 ∥₁
known = ∣ m1_serves_hybrid_alone.0 ∣₁

-- rtu is found at the first state
rtu_at : IsAt rtu here
unfolding matches
rtu_at = refl

rtu_here : course_at m1 rtu here ≡ Going left_here
unfolding course_at body matches in_order run_length field_of_letter let_value
rtu_here = simp (deed_rules, value_rules)

pub rtu_done_alike : RtuDoneAlike
rtu_done_alike = user_done_alike m1 rtu here elsewhere (inr rtu_user_innocuous) here_state elsewhere_state alike refl refl rtu_at (rw rtu_here tt)

pub rtu_traps_alike : RtuTrapsAlike
rtu_traps_alike = user_traps_alike m1 here elsewhere known here_state elsewhere_state alike refl refl

rtu_ends : ending m1 (window here) here.psw ≡ Done left_here
unfolding ending matching matches body in_order run_length field_of_letter let_value
rtu_ends = simp (deed_rules, value_rules)

pub rtu_steps_alike : RtuStepsAlike
rtu_steps_alike = user_steps_alike m1 here elsewhere left_here known here_state elsewhere_state alike refl refl rtu_ends

-- the step moves P to 3, and the law says that it moves nothing else
rtu_moves : (step m1 here).psw.p ≡ 3
unfolding step
rtu_moves = ap (λ e. (left_by m1 here e).psw.p) rtu_ends

pub rtu_keeps_control : RtuKeepsControl
rtu_keeps_control = user_kept m1 here known here_state refl (ap ends_in_trap rtu_ends) ∙ ap (λ n. record here.psw { p = n }) rtu_moves

-- in supervisor mode it enters user mode
rtu_in_s : course_at m1 rtu elsewhere_in_s ≡ Going (record { window = 0 ∷ 0 ∷ 0x05000003 ∷ 0 ∷ []; psw = record { mode = U; p = 3; l = 3; b = 9 } })
unfolding course_at body matches in_order run_length field_of_letter let_value
rtu_in_s = simp (deed_rules, value_rules)

changed : ¬ DoneAlike m1 rtu here elsewhere_in_s
changed h = h.kept_at_second (rw rtu_in_s (inl (λ e. cc)))

pub rtu_in_supervisor_mode_is_not_alike : RtuInSupervisorModeIsNotAlike
rtu_in_supervisor_mode_is_not_alike = (record { same_window = refl; same_p = refl }, changed)

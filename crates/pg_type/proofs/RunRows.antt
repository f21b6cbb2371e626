-- Runs of bare machines, worked out.
use Rattle.std.proofs.Common.{◌≡◌, [], ◌∷◌, replicate, refl, ap, ◌∙◌, sym}
use Rattle.pg_lang_meaning.specs.Patterns.{matches, matching, run_length, field_of_letter}
use Rattle.pg_lang_meaning.specs.Values.{let_value}
use Rattle.pg_lang_meaning.specs.Bodies.{body, in_order}
use Rattle.pg_lang_meaning.specs.Steps.{step, steps, ending, power_on, bare}
use Rattle.pg_word.specs.declared.psw.Mode.TheVariants.{S}
use Rattle.pg_type.specs.Examples.{m0, m0_causes, state}
use Rattle.pg_type.specs.WorkedRuns.{window_image, window_after, loop_image, loop_after, NoPattern, NoWindow, PastStorage, LastUsable, FirstPastBound, FirstPastSize, RunsPastWindow, DoublesInALoop, WindowOfOneCell, NoPatternCause, MemoryTrapCause, TrapCause, TrapsForEver, WidensAndShifts}
use Rattle.pg_lang_meaning.proofs.StepLaws.{steps-add, steps-around, steps-stay}
use Rattle.pg_lang_meaning.proofs.ValueEquations.{value_rules}
use Rattle.pg_lang_meaning.proofs.DeedEquations.{deed_rules}

pub no_pattern : NoPattern
unfolding bare power_on steps step ending matching matches body in_order run_length field_of_letter let_value
no_pattern = refl

pub no_window : NoWindow
unfolding bare power_on steps step ending matching matches body in_order run_length field_of_letter let_value
no_window = refl

pub past_storage : PastStorage
unfolding bare power_on steps step ending matching matches body in_order run_length field_of_letter let_value
past_storage = refl

pub last_usable : LastUsable
unfolding bare power_on steps step ending matching matches body in_order run_length field_of_letter let_value
last_usable = simp (deed_rules, value_rules)

pub first_past_bound : FirstPastBound
unfolding bare power_on steps step ending matching matches body in_order run_length field_of_letter let_value
first_past_bound = simp (deed_rules, value_rules)

pub first_past_size : FirstPastSize
unfolding bare power_on steps step ending matching matches body in_order run_length field_of_letter let_value
first_past_size = simp (deed_rules, value_rules)

window_first : steps m0 2 (power_on window_image 16) ≡ window_after
unfolding power_on step steps ending matching matches body in_order run_length field_of_letter let_value
window_first = simp (deed_rules, value_rules)

window_again : steps m0 2 window_after ≡ window_after
unfolding power_on step steps ending matching matches body in_order run_length field_of_letter let_value
window_again = simp (deed_rules, value_rules)

pub runs_past_window : RunsPastWindow
unfolding bare
runs_past_window = sym (steps-add m0 2 8 (power_on window_image 16)) ∙ ap (steps m0 8) window_first ∙ steps-around m0 window_after window_again

loop_first : steps m0 2 (power_on loop_image 16) ≡ loop_after
unfolding power_on step steps ending matching matches body in_order run_length field_of_letter let_value
loop_first = simp (deed_rules, value_rules)

loop_again : steps m0 2 loop_after ≡ loop_after
unfolding power_on step steps ending matching matches body in_order run_length field_of_letter let_value
loop_again = simp (deed_rules, value_rules)

pub doubles_in_a_loop : DoublesInALoop
unfolding bare
doubles_in_a_loop = sym (steps-add m0 2 8 (power_on loop_image 16)) ∙ ap (steps m0 8) loop_first ∙ steps-around m0 loop_after loop_again

pub window_of_one_cell : WindowOfOneCell
unfolding bare power_on steps step ending matching matches body in_order run_length field_of_letter let_value
window_of_one_cell = simp (deed_rules, value_rules)

pub no_pattern_cause : NoPatternCause
unfolding bare power_on steps step ending matching matches body in_order run_length field_of_letter let_value
no_pattern_cause = refl

pub memory_trap_cause : MemoryTrapCause
unfolding bare power_on steps step ending matching matches body in_order run_length field_of_letter let_value
memory_trap_cause = refl

pub trap_cause : TrapCause
unfolding bare power_on steps step ending matching matches body in_order run_length field_of_letter let_value
trap_cause = simp (deed_rules, value_rules)

pub widens_and_shifts : WidensAndShifts
unfolding bare power_on steps step ending matching matches body in_order run_length field_of_letter let_value
widens_and_shifts = simp (deed_rules, value_rules)

trapped_once : step m0_causes (state (0x02000000 ∷ replicate 7 0) S 0 0 0) ≡ state (0x02000000 ∷ replicate 7 0) S 0 0 0
unfolding step ending
trapped_once = refl

trapped_twice : steps m0_causes 2 (power_on [] 8) ≡ state (0x02000000 ∷ replicate 7 0) S 0 0 0
unfolding steps step ending power_on matching matches
trapped_twice = refl

pub traps_for_ever : TrapsForEver
unfolding bare
traps_for_ever =
    sym (steps-add m0_causes 2 999998 (power_on [] 8)) ∙ ap (steps m0_causes 999998) trapped_twice
    ∙ steps-stay m0_causes 999998 (state (0x02000000 ∷ replicate 7 0) S 0 0 0) trapped_once

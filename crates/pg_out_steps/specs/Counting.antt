-- Counts of steps.
use Rattle.std.specs.Prelude.{◌≡◌, ℕ, zero, suc, ◌+◌, ◌<◌, ◌≤◌, ◌==◌, Bool, true, false, length, slice_index, Option, None, Some}
use Rattle.std.specs.List.{sum_by}
use Rattle.pg_word.specs.declared.cause.Cause.{Cause}
use Rattle.pg_word.specs.declared.cause.Cause.TheVariants.{Memory, Trap, NoPattern}
use Rattle.pg_word.specs.Psw.{cause_number}
use Rattle.pg_ast.specs.declared.tree.Desc.{Desc}
use Rattle.pg_lang_meaning.specs.States.{State, window}
use Rattle.pg_lang_meaning.specs.Steps.{ending, steps}
use Rattle.pg_hw.specs.Bursts.{one_if}
use Rattle.pg_interp.specs.Outcomes.{number_at}
use Rattle.pg_out_steps.specs.Handling.{SharesCounted}
use Rattle.pg_out_steps.specs.declared.stepped.Stepped.{Stepped}
use Rattle.pg_out_steps.specs.declared.tally.Tally.{Tally}
use Rattle.pg_out_steps.specs.Tells.{cause_of}

-- how many of the first n steps from a state are begun at states with a property
unfoldable pub among : (State → Bool) → Desc → ℕ → State → ℕ
among has d zero s = 0
among has d (suc n) s = among has d n s + one_if (has (steps d n s))

-- ---- what is counted

abbrev pub is_number : ℕ → Option ℕ → Bool
is_number k None = false
is_number k (Some number) = number == k

abbrev pub is_none : Option ℕ → Bool
is_none None = true
is_none (Some number) = false

abbrev pub is_cause : Cause → Option Cause → Bool
is_cause cause None = false
is_cause cause (Some why) = cause_number why == cause_number cause

-- the step from a state fetches a word that means the instruction of number k; or none
abbrev pub fetches : Desc → ℕ → State → Bool
fetches d k s = is_number k (number_at d (window s) s.psw)

abbrev pub fetches_none : Desc → State → Bool
fetches_none d s = is_none (number_at d (window s) s.psw)

-- it traps by this cause
abbrev pub traps_by : Desc → Cause → State → Bool
traps_by d cause s = is_cause cause (cause_of (ending d (window s) s.psw))

-- ---- counts

-- the counts of the first n steps from a state
pub record IsTally (d : Desc) (n : ℕ) (s : State) (t : Tally) : Type 0 where
  pub steps : t.steps ≡ n
  pub size : length t.instrs.items ≡ length d.instrs
  pub instrs : (k : ℕ) → k < length d.instrs → slice_index t.instrs.items k ≡ among (fetches d k) d n s
  pub others : t.others ≡ among (fetches_none d) d n s
  pub memory : t.memory ≡ among (traps_by d Memory) d n s
  pub trap : t.trap ≡ among (traps_by d Trap) d n s
  pub no_pattern : t.no_pattern ≡ among (traps_by d NoPattern) d n s

-- each step fetched one instruction or none, trapped by one cause at most, and is in one share at most
pub record IsBalanced (t : Tally) : Type 0 where
  pub sum : sum_by (λ count. count) t.instrs.items + t.others ≡ t.steps
  pub traps : t.memory + t.trap + t.no_pattern ≤ t.steps
  pub shares : t.shares.direct + t.shares.emulated ≤ t.steps

-- counts with a step more, by its record
pub record Counted (old : Tally) (r : Stepped) (new : Tally) : Type 0 where
  pub steps : new.steps ≡ old.steps + 1
  pub size : length new.instrs.items ≡ length old.instrs.items
  pub instrs : (k : ℕ) → k < length old.instrs.items → slice_index new.instrs.items k ≡ slice_index old.instrs.items k + one_if (is_number k r.instr)
  pub others : new.others ≡ old.others + one_if (is_none r.instr)
  pub memory : new.memory ≡ old.memory + one_if (is_cause Memory r.cause)
  pub trap : new.trap ≡ old.trap + one_if (is_cause Trap r.cause)
  pub no_pattern : new.no_pattern ≡ old.no_pattern + one_if (is_cause NoPattern r.cause)
  pub shares : SharesCounted old.shares r.handling new.shares

-- How statements fare, as the code has it.
use Rattle.std.specs.Prelude.{◌≡◌, ◌-◌, ◌≤◌, length, drop}
use Rattle.pg_lang_valid.specs.declared.widths.Fare.{Fare as Fares}
use Rattle.pg_lang_valid.specs.declared.widths.Fare.TheVariants.{Breaks as BreaksAt, Keeps as KeepsTo}
use Rattle.pg_lang_valid.specs.Widths.{Fare, Breaks, Keeps, LetWidths}

-- what the code answers, with the lets that it leaves visible
abbrev pub fare_as : Fares → LetWidths → Fare
fare_as (BreaksAt place how) lets = Breaks place how
fare_as (KeepsTo next) lets = Keeps next lets

-- lets that are visible still, under those that came since
pub record Grows (old new : LetWidths) : Type 0 where
  pub kept : drop (length new - length old) new ≡ old
  pub longer : length old ≤ length new

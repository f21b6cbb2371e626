-- The room: as many cells are wanted as there are, at most.
use Rattle.std.specs.Prelude.{◌≡◌, ℕ, ◌<◌, ◌≤◌, Result, Ok, Err}
use Rattle.pg_report.specs.declared.line.RefusalLine.TheVariants.{Room}
use Rattle.pg_cmd_base.specs.declared.refusal.Refusal.{Refusal}
use Rattle.pg_cmd_base.specs.declared.refusal.Refusal.TheVariants.{Line}
use Rattle.pg_cmd_base.specs.Steps.{Step, Settles, As}

-- more cells are wanted than are free
pub record TooMany : Type 0 where
  pub wanted : ℕ
  pub free : ℕ

-- so many cells are wanted, and so many are free
abbrev pub RoomFor : ℕ → ℕ → Result ℕ TooMany → Type 0
RoomFor wanted free (Ok cells) = (wanted ≤ free) × (cells ≡ wanted)
RoomFor wanted free (Err why) = (free < wanted) × (why ≡ record { wanted = wanted; free = free })

abbrev pub of_room : TooMany → Refusal
of_room why = Line (Room why.wanted why.free)

-- the room is tried
unfoldable pub RoomDue : ℕ → ℕ → Step Refusal ℕ
RoomDue wanted free = As of_room (Settles (RoomFor wanted free))

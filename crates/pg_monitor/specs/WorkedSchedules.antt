-- Schedules, worked out by hand: each is a law of the crate.
use Rattle.std.specs.Prelude.{◌≡◌, [], ◌∷◌, None}
use Rattle.pg_monitor.specs.Plans.{changes_of}
use Rattle.pg_mon_control.specs.Schedules.{schedule}

-- two guests, slices of three and ten turns each: the last round is of one turn
abbrev pub ShorterLast : Type 0
ShorterLast = schedule 2 3 10 ≡ (0, 3) ∷ (1, 3) ∷ (0, 3) ∷ (1, 3) ∷ (0, 3) ∷ (1, 3) ∷ (0, 1) ∷ (1, 1) ∷ []

-- each slice of it begins with a change of guest, the first among them
abbrev pub ChangesAtEachSlice : Type 0
ChangesAtEachSlice = changes_of (schedule 2 3 10) None ≡ 8

-- a guest alone, with fewer turns than a slice has
abbrev pub OneSliceAlone : Type 0
OneSliceAlone = schedule 1 1000 5 ≡ (0, 5) ∷ []

-- slices that leave nothing: the last round is of no turns
abbrev pub EmptyLast : Type 0
EmptyLast = schedule 2 5 10 ≡ (0, 5) ∷ (1, 5) ∷ (0, 5) ∷ (1, 5) ∷ (0, 0) ∷ (1, 0) ∷ []

-- which changes no guest
abbrev pub NoChangesInEmptyLast : Type 0
NoChangesInEmptyLast = changes_of (schedule 2 5 10) None ≡ 4

-- A guest under monitors, each of which but the outermost runs on the guest of the one below it.
use Rattle.std.specs.Prelude.{◌≡◌, ℕ, ◌+◌, ◌-◌, ◌*◌, ◌<◌, ◌≤◌, ◌^◌, List, length, slice_get, Some}
use Rattle.pg_word.specs.Psw.{packed, power_on_psw}
use Rattle.pg_ast.specs.declared.tree.Desc.{Desc}
use Rattle.pg_lang_meaning.specs.States.{State}
use Rattle.pg_lang_meaning.specs.Steps.{power_on, bare}
use Rattle.pg_alloc.specs.Fit.{kept_cells}
use Rattle.pg_hw.specs.Machinery.{Machinery}
use Rattle.pg_mon_control.specs.Counting.{BottomTurns}
use Rattle.pg_mon_control.specs.Direct.{direct_among}
use Rattle.pg_report.specs.Spans.{span}
use Rattle.pg_run_guests.specs.Setting.{IsImage}
use Rattle.pg_run_guests.specs.declared.nesting.Innermost.{Innermost}

-- an image of a machine that finds room under so many monitors, each of which keeps two cells, and steps that can be counted
pub record CanNest (depth : ℕ) (d : Desc) (image : List ℕ) (steps : ℕ) : Type 0 where
  pub is_image : IsImage d.word image
  pub room : length image + kept_cells * depth ≤ d.size
  pub counted : steps ≤ 2 ^ 32

-- how many of the first n steps from power-on with an image are direct, counted as under one monitor: of an accepted machine as many
-- are so at each base, and under however many monitors
abbrev pub direct_steps : Desc → List ℕ → ℕ → ℕ
direct_steps d image n = direct_among d kept_cells n (power_on image (length image))

-- the innermost guest, n steps after it was switched on with an image
pub record IsInnermost (d : Desc) (image : List ℕ) (n : ℕ) (x : Innermost) : Type 0 where
  pub psw : x.psw ≡ (bare d image (length image) n).psw
  pub direct : x.direct ≡ direct_steps d image n

-- the storage of the hardware that was handed in, after the run: cell 2 * j - 1 holds the word that a trap loads for monitor j, from
-- 1 on, whose machine has 2 * (j - 1) cells fewer; behind the cells of all monitors lies the storage that the bare machine reaches,
-- and behind that nothing
pub record HoldsNested (depth : ℕ) (d : Desc) (image : List ℕ) (n : ℕ) (s : State) : Type 0 where
  pub size : length s.cells ≡ d.size
  pub control : (j : ℕ) → 1 ≤ j → j ≤ depth → slice_get s.cells (kept_cells * j - 1) ≡ Some (packed d.address (power_on_psw (d.size - kept_cells * (j - 1))))
  pub guest : span (kept_cells * depth) (length image) s.cells ≡ (bare d image (length image) n).cells
  pub behind : (at : ℕ) → kept_cells * depth + length image ≤ at → at < d.size → slice_get s.cells at ≡ Some 0

-- that storage, and the counts at the bottom, which have risen by the steps and by the direct ones of them
pub record Nested (depth : ℕ) (d : Desc) (image : List ℕ) (n : ℕ) (old new : Machinery) : Type 0 where
  pub holds : HoldsNested depth d image n new.state
  pub bottom : BottomTurns n (direct_steps d image n) old.bottom new.bottom

-- *RanNested*: the same on the hardware that was handed in, by its own counts
pub record RanNested (depth : ℕ) (d : Desc) (image : List ℕ) (n : ℕ) (old new : Machinery) : Type 0 where
  pub holds : HoldsNested depth d image n new.state
  pub steps : new.tally.steps ≡ old.tally.steps + n
  pub untrapped : new.tally.untrapped ≡ old.tally.untrapped + direct_steps d image n

-- a hardware on which no step was done
pub record NotStepped (old new : Machinery) : Type 0 where
  pub steps : new.tally.steps ≡ old.tally.steps
  pub untrapped : new.tally.untrapped ≡ old.tally.untrapped

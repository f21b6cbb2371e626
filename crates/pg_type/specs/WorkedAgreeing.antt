-- Machines that agree, and two that do not. Each is a law of the crate.
use Rattle.std.specs.Prelude.{◌≡◌, replicate}
use Rattle.pg_word.specs.declared.psw.Mode.TheVariants.{S}
use Rattle.pg_ast.specs.declared.tree.Desc.{Desc}
use Rattle.pg_lang_meaning.specs.States.{State, IsState}
use Rattle.pg_lang_meaning.specs.Steps.{bare}
use Rattle.pg_lang_valid.specs.Sized.{sized}
use Rattle.pg_type.specs.Accepting.{IsHybridAccepted}
use Rattle.pg_type.specs.Agreeing.{Agree}
use Rattle.pg_type.specs.Examples.{m0, m0_causes, m1, state}
use Rattle.pg_type.specs.WorkedRuns.{loop_image, loop_after}

-- m0 with at most 16 cells, where it has 64
abbrev pub m0_narrow : Desc
m0_narrow = sized 16 m0

-- it agrees with m0, and runs the loop that doubles a cell as m0 does
abbrev pub NarrowLoop : Type 0
NarrowLoop = Agree m0 m0_narrow × (bare m0_narrow loop_image 16 10 ≡ loop_after)

-- with causes on, a trap stores another word
abbrev pub CausesDoNotAgree : Type 0
CausesDoNotAgree = ¬ Agree m0 m0_causes

-- sixteen cells are a storage of both, and twenty are one of m0 alone
abbrev pub sixteen_cells : State
sixteen_cells = state (replicate 16 0) S 2 0 16

abbrev pub SixteenCellsFitBoth : Type 0
SixteenCellsFitBoth = IsState m0_narrow sixteen_cells × IsState m0 sixteen_cells

abbrev pub twenty_cells : State
twenty_cells = state (replicate 20 0) S 2 0 20

abbrev pub TwentyCellsFitOneAlone : Type 0
TwentyCellsFitOneAlone = (¬ IsState m0_narrow twenty_cells) × IsState m0 twenty_cells

-- M1 serves a hybrid monitor with fewer cells too
abbrev pub NarrowM1ServesHybrid : Type 0
NarrowM1ServesHybrid = IsHybridAccepted (sized 16 m1)

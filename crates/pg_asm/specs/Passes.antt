-- What is told of lines that are read one after another.
use Rattle.std.specs.Prelude.{◌≡◌, ℕ, ◌<◌, ◌^◌, List, Option, None, Some, All, unwrap_or, Result, Ok, Err}
use Rattle.pg_ast.specs.declared.tree.Desc.{Desc}
use Rattle.pg_asm.specs.declared.fault.AsmFault.{AsmFault}
use Rattle.pg_asm.specs.Said.{Said}
use Rattle.pg_asm.specs.Sources.{Labels, labels_from, cells_from, then_due}

-- the labels of lines, of which the first is line n and begins at this place, behind other labels
abbrev pub labels_due : (n place : ℕ) → Labels → Result (List Said) AsmFault → Result Labels AsmFault
labels_due n place labels saids = then_due saids (λ s. Ok (labels_from n place labels s))

-- their cells, behind others
abbrev pub words_due : Desc → Labels → (n place : ℕ) → List (Option ℕ) → Result (List Said) AsmFault → Result (List (Option ℕ)) AsmFault
words_due d labels n place cells saids = then_due saids (λ s. cells_from d labels n place s cells)

-- what is told of cells that are due: these, or a fault
abbrev pub Told : Result (List (Option ℕ)) AsmFault → List (Option ℕ) → Option AsmFault → Type 0
Told due cells None = due ≡ Ok cells
Told due cells (Some fault) = due ≡ Err fault

-- what is given are words of w bits
abbrev pub AreFit : ℕ → List (Option ℕ) → Type 0
AreFit w cells = All (λ cell. unwrap_or cell 0 < 2 ^ w) cells

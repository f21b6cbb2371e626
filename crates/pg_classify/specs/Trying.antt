-- Two states that are tried.
use Rattle.std.specs.Prelude.{◌≡◌, ℕ, slice_get, Some}
use Rattle.pg_ast.specs.declared.tree.Instr.{Instr}
use Rattle.pg_type.specs.Kinds.{Shows}
use Rattle.pg_type.specs.Listed.{state_of}
use Rattle.pg_classify.specs.declared.extent.Extents.{Extents}
use Rattle.pg_classify.specs.declared.extent.Number.{Number}
use Rattle.pg_classify.specs.declared.extent.Number.TheVariants.{P, Relocation, Place, Bound, Size, Length}
use Rattle.pg_classify.specs.declared.words.Words.{Words}
use Rattle.pg_classify.specs.declared.words.Words.TheVariants.{Same, Moved}
use Rattle.pg_classify.specs.declared.pair.Aim.{Aim}
use Rattle.pg_classify.specs.declared.pair.Pair.{Pair}

-- two states show what is aimed at
abbrev pub IsShown : Aim → Pair → Type 0
IsShown aim pair = (i : Instr) → slice_get aim.machine.now.desc.instrs aim.instr ≡ Some i →
    Shows aim.machine.now.desc i aim.kind (state_of pair.first) (state_of pair.second)

-- what becomes of the words where a number is lowered: the word at P goes with P
abbrev pub words_moved : Number → (from to : ℕ) → Words
words_moved P from to = Moved from to
words_moved Relocation from to = Same
words_moved Place from to = Same
words_moved Bound from to = Same
words_moved Size from to = Same
words_moved Length from to = Same

-- the numbers of two states
abbrev pub numbers_of : Pair → Extents
numbers_of pair = record {
  first = record { size = pair.first.size; psw = pair.first.psw };
  second = record { size = pair.second.size; psw = pair.second.psw };
}

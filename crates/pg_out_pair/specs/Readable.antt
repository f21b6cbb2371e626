-- Two states that are laid out for a reader.
use Rattle.std.specs.Prelude.{ℕ, ◌+◌, ◌≤◌, length}
use Rattle.pg_ast.specs.declared.tree.Instr.{Instr}
use Rattle.pg_ast.specs.declared.tree.Desc.{Desc}
use Rattle.pg_lang_meaning.specs.States.{State}
use Rattle.pg_type.specs.declared.kind.Kind.{Kind}
use Rattle.pg_type.specs.Kinds.{Shows}

-- the most cells of their storages
abbrev pub most_cells : ℕ
most_cells = 24

-- a state of few cells, in which the instruction stands behind the two cells of status words
pub record IsPlain (s : State) : Type 0 where
  pub few : length s.cells ≤ most_cells
  pub behind : 2 ≤ s.psw.l + s.psw.p

-- two such states, which show a kind
pub record IsReadable (d : Desc) (i : Instr) (kind : Kind) (s t : State) : Type 0 where
  pub shows : Shows d i kind s t
  pub first : IsPlain s
  pub second : IsPlain t

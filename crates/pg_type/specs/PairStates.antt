-- Which states are those of a pair, as a kind asks it.
use Rattle.std.specs.Prelude.{◌≡◌, ℕ, ◌<◌, ◌^◌, List, length, All}
use Rattle.pg_ast.specs.declared.tree.Instr.{Instr}
use Rattle.pg_ast.specs.declared.tree.Desc.{Desc}
use Rattle.pg_lang_meaning.specs.States.{State, window}
use Rattle.pg_type.specs.declared.kind.Kind.{Kind}
use Rattle.pg_type.specs.declared.kind.Kind.TheVariants.{Privileged, Control, ModeDep, Location, Bound, UControl, ULocation, UBound}
use Rattle.pg_type.specs.Pair.{Pair, PairShows}

-- two storages are one where the kind makes the two states equal, but for the mode; where it moves the window, or bounds
-- it anew, they are any
abbrev pub SharesStorage : Kind → (first second : List ℕ) → Type 0
SharesStorage Privileged first second = first ≡ second
SharesStorage Control first second = first ≡ second
SharesStorage ModeDep first second = first ≡ second
SharesStorage Location first second = Unit {0}
SharesStorage Bound first second = Unit {0}
SharesStorage UControl first second = first ≡ second
SharesStorage ULocation first second = Unit {0}
SharesStorage UBound first second = Unit {0}

-- two states are those of a pair, as a kind asks it: their words are words of the machine, also outside the window
pub record IsOf (d : Desc) (kind : Kind) (x : Pair) (s t : State) : Type 0 where
  pub first : s.psw ≡ x.first
  pub second : t.psw ≡ x.second
  pub first_size : length s.cells ≡ x.first_size
  pub second_size : length t.cells ≡ x.second_size
  pub first_window : window s ≡ x.window
  pub second_window : window t ≡ x.window
  pub first_words : All (λ cell. cell < 2 ^ d.word) s.cells
  pub second_words : All (λ cell. cell < 2 ^ d.word) t.cells
  pub storage : SharesStorage kind s.cells t.cells

-- a pair of which these are the states, and which shows the kind
pub record ShownAsPair (d : Desc) (i : Instr) (kind : Kind) (s t : State) : Type 0 where
  pub pair : Pair
  pub is_of : IsOf d kind pair s t
  pub shows : PairShows d i kind pair

-- A guest in its grant: the cells of a storage that are its own, and what interpreting one of its steps counts.
use Rattle.std.specs.Prelude.{◌≡◌, ℕ, ◌+◌, List, ◌++◌, length, take, drop}
use Rattle.pg_word.specs.declared.psw.Psw.{Psw}
use Rattle.pg_lang_meaning.specs.States.{State}
use Rattle.pg_hw.specs.declared.counts.Counts.{Counts}
use Rattle.pg_hw.specs.Tallies.{RisesWithin}
use Rattle.pg_hw.specs.Machinery.{Machinery}

-- the state of a guest: the `size` cells from `base` on, and its virtual PSW
abbrev pub guest_at : List ℕ → ℕ → ℕ → Psw → State
guest_at cells base size psw = record { cells = take size (drop base cells); psw = psw }

-- a storage with other cells in place of those from `base` on
abbrev pub with_grant : List ℕ → ℕ → List ℕ → List ℕ
with_grant cells base new = take base cells ++ new ++ drop (base + length new) cells

-- at most n pokes, and nothing else is counted
pub record PokedWithin (n : ℕ) (old new : Counts) : Type 0 where
  pub steps : new.steps ≡ old.steps
  pub untrapped : new.untrapped ≡ old.untrapped
  pub loads : new.loads ≡ old.loads
  pub pokes : RisesWithin 0 n old.pokes new.pokes

-- a hardware that has other cells from `base` on, put there by at most n pokes, beside which nothing changed
pub record GrantPoked (base : ℕ) (new_cells : List ℕ) (n : ℕ) (old new : Machinery) : Type 0 where
  pub state : new.state ≡ record old.state { cells = with_grant old.state.cells base new_cells }
  pub tally : PokedWithin n old.tally new.tally
  pub bottom : new.bottom ≡ old.bottom

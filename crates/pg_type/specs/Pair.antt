-- Pairs of states over one window: what an instruction takes of two states at once, and in what the kinds make the two
-- differ. A body takes a window, a PSW and a word, so neither a storage nor a cell outside the window is here.
use Rattle.std.specs.Prelude.{◌≡◌, ◌≢◌, ◌⊎◌, ℕ, ◌<◌, ◌≤◌, ◌^◌, List, length, slice_get, All, IsSomeAnd, IsTrue}
use Rattle.pg_word.specs.declared.psw.Psw.{Psw}
use Rattle.pg_word.specs.declared.psw.Mode.TheVariants.{S, U}
use Rattle.pg_word.specs.Psw.{IsPsw, window_len_of}
use Rattle.pg_ast.specs.declared.tree.Instr.{Instr}
use Rattle.pg_ast.specs.declared.tree.Desc.{Desc}
use Rattle.pg_lang_meaning.specs.Patterns.{matches}
use Rattle.pg_lang_meaning.specs.Bodies.{Course, After, body}
use Rattle.pg_type.specs.declared.kind.Kind.{Kind}
use Rattle.pg_type.specs.declared.kind.Kind.TheVariants.{Privileged, Control, ModeDep, Location, Bound, UControl, ULocation, UBound}
use Rattle.pg_type.specs.Kinds.{fetched_word, observed, IsDone, IsTrap, IsNoMemTrap, ChangesControl}

-- two states of one window: the usable cells, which are the same in both, and the PSW and the size of each
pub record Pair : Type 0 where
  pub window : List ℕ
  pub first : Psw
  pub second : Psw
  pub first_size : ℕ
  pub second_size : ℕ

-- a pair of states of machines of the description, at both of which the instruction stands at P
pub record IsPair (d : Desc) (i : Instr) (x : Pair) : Type 0 where
  pub first_least : 2 ≤ x.first_size
  pub first_most : x.first_size ≤ d.size
  pub second_least : 2 ≤ x.second_size
  pub second_most : x.second_size ≤ d.size
  pub first_fields : IsPsw d.address x.first
  pub second_fields : IsPsw d.address x.second
  pub words : All (λ cell. cell < 2 ^ d.word) x.window
  pub first_usable : length x.window ≡ window_len_of x.first x.first_size
  pub second_usable : length x.window ≡ window_len_of x.second x.second_size
  pub same_p : x.first.p ≡ x.second.p
  pub at : IsSomeAnd (slice_get x.window x.first.p) (λ word. IsTrue (matches i.pattern.bytes word))

-- a supervisor state, and the same in user mode
pub record IsInBothModes (x : Pair) : Type 0 where
  pub supervisor : x.first.mode ≡ S
  pub same_in_user : x.second ≡ record x.first { mode = U }
  pub same_size : x.first_size ≡ x.second_size

-- one state, given twice
pub record IsGivenTwice (x : Pair) : Type 0 where
  pub same : x.second ≡ x.first
  pub same_size : x.first_size ≡ x.second_size

-- the window at two places
pub record IsMoved (x : Pair) : Type 0 where
  pub same_size : x.first_size ≡ x.second_size
  pub same_bound : x.first.b ≡ x.second.b
  pub same_mode : x.first.mode ≡ x.second.mode
  pub moved : x.first.l ≢ x.second.l

-- the window under two bounds, in storages of any sizes
pub record IsRebounded (x : Pair) : Type 0 where
  pub same_l : x.first.l ≡ x.second.l
  pub same_mode : x.first.mode ≡ x.second.mode
  pub other_bound : x.first.b ≢ x.second.b

-- what a kind makes equal in two states, and in what it makes them differ
abbrev pub Relates : Kind → Pair → Type 0
Relates Privileged x = IsInBothModes x
Relates Control x = IsGivenTwice x
Relates ModeDep x = IsInBothModes x
Relates Location x = IsMoved x
Relates Bound x = IsRebounded x
Relates UControl x = IsGivenTwice x × (x.first.mode ≡ U)
Relates ULocation x = IsMoved x × (x.first.mode ≡ U)
Relates UBound x = IsRebounded x × (x.first.mode ≡ U)

-- the word at P
abbrev pub word_at_p : Pair → ℕ
word_at_p x = fetched_word (slice_get x.window x.first.p)

-- how the instruction ends at the first state, and at the second
unfoldable pub first_course : Desc → Instr → Pair → Course After
first_course d i x = body d i x.window x.first (word_at_p x)

unfoldable pub second_course : Desc → Instr → Pair → Course After
second_course d i x = body d i x.window x.second (word_at_p x)

-- what a kind asks of how the instruction ends at the two
abbrev pub Ends : Kind → Pair → (first second : Course After) → Type 0
Ends Privileged x first second = IsDone second ⊎ (IsNoMemTrap second × IsTrap first)
Ends Control x first second = ChangesControl x.first first
Ends ModeDep x first second = IsDone second × (observed first ≢ observed second)
Ends Location x first second = (IsDone first ⊎ IsDone second) × (observed first ≢ observed second)
Ends Bound x first second = (IsDone first ⊎ IsDone second) × (observed first ≢ observed second)
Ends UControl x first second = ChangesControl x.first first
Ends ULocation x first second = (IsDone first ⊎ IsDone second) × (observed first ≢ observed second)
Ends UBound x first second = (IsDone first ⊎ IsDone second) × (observed first ≢ observed second)

-- a pair shows a kind of an instruction
pub record PairShows (d : Desc) (i : Instr) (kind : Kind) (x : Pair) : Type 0 where
  pub pair : IsPair d i x
  pub relates : Relates kind x
  pub ends : Ends kind x (first_course d i x) (second_course d i x)

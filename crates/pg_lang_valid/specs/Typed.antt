-- What well-typed bodies are run on: numbers in range, and lets that have the widths that they were given.
use Rattle.std.specs.Prelude.{◌≡◌, ℕ, ◌^◌, ◌<◌, ◌≤◌, List, [], ◌∷◌, length, All}
use Rattle.pg_word.specs.Psw.{IsPsw}
use Rattle.pg_word.specs.Bits.{IsWidth}
use Rattle.pg_lang_meaning.specs.Values.{Bits, Entry, Lets}
use Rattle.pg_lang_meaning.specs.Bodies.{Run}
use Rattle.pg_lang_valid.specs.Widths.{Setting, LetWidths}

-- what a body reads at its entry is in range
pub record IsEntry (at : Entry) : Type 0 where
  pub word_width : IsWidth at.w
  pub address_width : IsWidth at.a
  pub pattern : length at.pattern ≤ 64
  pub psw : IsPsw at.a at.psw

-- the setting of an entry
abbrev pub setting_at : Entry → Setting
setting_at at = record { w = at.w; a = at.a; pattern = at.pattern }

-- a value of n bits
pub record HasWidth (n : ℕ) (x : Bits) : Type 0 where
  pub width : x.width ≡ n
  pub fits : x.value < 2 ^ n
  pub is_width : IsWidth n

-- lets with the names and widths that they were given
abbrev pub LetsFit : Lets → LetWidths → Type 0
LetsFit [] [] = Unit {0}
LetsFit [] (w ∷ ws) = ⊥
LetsFit (l ∷ ls) [] = ⊥
LetsFit (l ∷ ls) (w ∷ ws) = (l.0 ≡ w.0) × HasWidth w.1 l.1 × LetsFit ls ws

-- cells of w bits
abbrev pub AreWords : ℕ → List ℕ → Type 0
AreWords w cells = All (λ cell. cell < 2 ^ w) cells

-- a body under way, in range, with lets of these widths
pub record RunFits (at : Entry) (r : Run) (ws : LetWidths) : Type 0 where
  pub window : AreWords at.w r.window
  pub next : IsPsw at.a r.next
  pub lets : LetsFit r.lets ws

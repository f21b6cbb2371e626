-- Generated descriptions: so many instructions, each with one of six bodies, which a draw chooses.
use Rattle.std.specs.Prelude.{◌≡◌, ℕ, zero, suc, ◌+◌, ◌/◌, ◌%◌, false, List, [], ◌∷◌, ◌++◌, length, slice_get, codes, Some}
use Rattle.std.specs.Fmt.{decimal}
use Rattle.pg_ast.specs.declared.tree.Instr.{Instr}
use Rattle.pg_ast.specs.declared.tree.Desc.{Desc}
use Rattle.pg_cmd_gen.specs.Bodies.{body_of}
use Rattle.pg_cmd_gen.specs.Draws.{draw}

-- how many instructions there may be
abbrev pub most_instructions : ℕ
most_instructions = 60

-- the last n bits of a number, as the digits 0 and 1, the highest first
unfoldable pub bits_text : ℕ → ℕ → List ℕ
bits_text zero x = []
bits_text (suc n) x = bits_text n (x / 2) ++ (48 + x % 2) ∷ []

-- `g0`, `g1`, and so on
abbrev pub name_at : ℕ → List ℕ
name_at k = codes "g" ++ decimal k

-- the eight bits of the number that follows, and three addresses
abbrev pub pattern_at : ℕ → List ℕ
pattern_at k = bits_text 8 (k + 1) ++ codes "xxxxxxxxyyyyyyyyzzzzzzzz"

-- the instruction of this number, whose body draw k chooses
pub record IsInstrAt (number k : ℕ) (i : Instr) : Type 0 where
  pub name : i.name.bytes ≡ name_at k
  pub pattern : i.pattern.bytes ≡ pattern_at k
  pub body : i.body ≡ body_of (draw number k % 6)

-- the description of a number, with so many instructions: words of 32 bits, addresses of 8, up to 128 cells, causes off
pub record IsGenerated (number count : ℕ) (d : Desc) : Type 0 where
  pub word : d.word ≡ 32
  pub address : d.address ≡ 8
  pub cells : d.size ≡ 128
  pub causes : d.causes ≡ false
  pub many : length d.instrs ≡ count
  pub each : (k : ℕ) (i : Instr) → slice_get d.instrs k ≡ Some i → IsInstrAt number k i

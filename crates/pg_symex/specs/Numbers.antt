-- What registers, lets and windows are where the nodes have values: what the definitions of bodies read.
use Rattle.std.specs.Prelude.{ℕ, Bool, List, length, map, take}
use Rattle.pg_circuit.specs.declared.node.Gate.{Gate}
use Rattle.pg_word.specs.declared.psw.Psw.{Psw}
use Rattle.pg_word.specs.Psw.{mode_of}
use Rattle.pg_vec.specs.Number.{number}
use Rattle.pg_cells.specs.declared.cell.Write.{Write}
use Rattle.pg_cells.specs.Storage.{written}
use Rattle.pg_cells.specs.Cells.{puts_of}
use Rattle.pg_lang_meaning.specs.Values.{Bits, bits, Entry, Lets}
use Rattle.pg_symex.specs.declared.regs.Regs.{Regs}
use Rattle.pg_symex.specs.declared.regs.Next.{Next}
use Rattle.pg_symex.specs.Flow.{SymEntry, SymLets}

-- a string of gates as a value, with its width
abbrev pub value_of : List Bool → List Gate → Bits
value_of values xs = bits (length xs) (number values xs)

abbrev pub entry_psw : List Bool → Regs → Psw
entry_psw values r = record { mode = mode_of (number values r.mode); p = number values r.p; l = number values r.l; b = number values r.b }

abbrev pub next_psw : List Bool → Next → Psw
next_psw values r = record { mode = mode_of (number values r.mode); p = number values r.p; l = number values r.l; b = number values r.b }

abbrev pub entry_value : List Bool → SymEntry → Entry
entry_value values at = record { w = at.w; a = at.a; psw = entry_psw values at.regs; pattern = at.pattern; word = number values at.word }

abbrev pub lets_value : List Bool → SymLets → Lets
lets_value values lets = map (λ l. (l.0, value_of values l.1)) lets

-- the usable cells of a storage after the writes so far: as many as v says
abbrev pub window_value : List Bool → List ℕ → SymEntry → List Write → List ℕ
window_value values storage at writes = take (number values at.regs.v) (written storage (puts_of values writes))

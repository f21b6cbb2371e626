-- The text of a trace: a line for each step, and the lines of counts. Numbers are decimal, words hexadecimal; lines end with LF.
use Rattle.std.specs.Prelude.{ℕ, zero, suc, ◌+◌, ◌-◌, ◌/◌, ◌==◌, min, Bool, true, false, ◌&&◌, if◌then◌else◌, List, [], ◌∷◌, ◌++◌, length, take, codes, slice_get, slice_index, Option, None, Some}
use Rattle.std.specs.Fmt.{decimal}
use Rattle.pg_word.specs.declared.psw.Psw.{Psw}
use Rattle.pg_word.specs.declared.psw.Mode.{Mode}
use Rattle.pg_word.specs.declared.psw.Mode.TheVariants.{S, U}
use Rattle.pg_word.specs.declared.cause.Cause.{Cause}
use Rattle.pg_word.specs.declared.cause.Cause.TheVariants.{Memory, Trap, NoPattern}
use Rattle.pg_text.specs.Printing.{hex_text}
use Rattle.pg_ast.specs.declared.tree.Desc.{Desc}
use Rattle.pg_ast.specs.declared.tree.Instr.{Instr}
use Rattle.pg_interp.specs.declared.effect.Write.{Write}
use Rattle.pg_asm.specs.Texts.{fields_text}
use Rattle.pg_asm.specs.Words.{fields_of}
use Rattle.pg_out_steps.specs.declared.handling.Handling.{Handling}
use Rattle.pg_out_steps.specs.declared.handling.Handling.TheVariants.{Direct, Emulated}
use Rattle.pg_out_steps.specs.declared.shares.Shares.{Shares}
use Rattle.pg_out_steps.specs.declared.stepped.Stepped.{Stepped}
use Rattle.pg_out_steps.specs.declared.tally.Tally.{Tally}

-- ---- columns

-- 24 spaces, which is the width of the widest column
abbrev pub spaces : List ℕ
spaces = codes "                        "

-- spaces that fill a column behind a text of so many bytes
abbrev pub filling : ℕ → ℕ → List ℕ
filling width len = take (min (width - len) 24) spaces

-- a number at the right of a column
abbrev pub number_text : ℕ → ℕ → List ℕ
number_text width n = filling width (length (decimal n)) ++ decimal n

-- ---- the parts of a line

abbrev pub mode_letter : Mode → ℕ
mode_letter S = 115
mode_letter U = 117

-- how a monitor would handle the step, where one was named
abbrev pub handling_text : Option Handling → List ℕ
handling_text None = []
handling_text (Some Direct) = codes "direct   "
handling_text (Some Emulated) = codes "emulated "

-- the word that was fetched; a dash where there is none
abbrev pub fetched_text : ℕ → Option ℕ → List ℕ
fetched_text w None = 45 ∷ filling (w / 4) 1
fetched_text w (Some word) = hex_text (w / 4) word

-- `NAME f=V ..`: an instruction, and its fields in a word
abbrev pub instr_text : ℕ → Instr → List ℕ
instr_text word i = i.name.bytes ++ fields_text word (fields_of i.pattern.bytes)

-- the instruction of a number; a dash where there is none
abbrev pub said_text : Desc → Option ℕ → Option ℕ → List ℕ
said_text d None number = 45 ∷ []
said_text d (Some word) None = 45 ∷ []
said_text d (Some word) (Some k) = elim (slice_get d.instrs k) [ Some i ↦ instr_text word i | None ↦ 45 ∷ [] ]

abbrev pub said_column : List ℕ → List ℕ
said_column said = said ++ filling 24 (length said)

-- ` [A]=H`: a cell, by its address in the storage, and its new word
abbrev pub cell_text : ℕ → ℕ → ℕ → List ℕ
cell_text w at word = 32 ∷ 91 ∷ decimal at ++ 93 ∷ 61 ∷ hex_text (w / 4) word

-- the stores of an instruction into a window that begins at cell l, in order
unfoldable pub stores_text : ℕ → ℕ → List Write → List ℕ
stores_text w l [] = []
stores_text w l (x ∷ xs) = cell_text w (l + x.at) x.cell ++ stores_text w l xs

abbrev pub same_mode : Mode → Mode → Bool
same_mode S S = true
same_mode S U = false
same_mode U S = false
same_mode U U = true

-- ` P=N`, where it is not the address behind
abbrev pub p_text : Psw → Psw → List ℕ
p_text old new = if new.p == old.p + 1 then [] else codes " P=" ++ decimal new.p

-- ` mode=M`, where it is another one than before
abbrev pub mode_text : Psw → Psw → List ℕ
mode_text old new = if same_mode new.mode old.mode then [] else codes " mode=" ++ mode_letter new.mode ∷ []

-- ` R=L,B`, where it is another one than before
abbrev pub r_text : Psw → Psw → List ℕ
r_text old new = if (new.l == old.l) && (new.b == old.b) then [] else codes " R=" ++ decimal new.l ++ 44 ∷ decimal new.b

-- what an instruction set of the program status word
unfoldable pub moved_text : Psw → Psw → List ℕ
moved_text old new = p_text old new ++ mode_text old new ++ r_text old new

abbrev pub cause_text : Cause → List ℕ
cause_text Memory = codes " trap (memory)"
cause_text Trap = codes " trap (trap)"
cause_text NoPattern = codes " trap (no pattern)"

-- ` to M P`: where the machine goes on
abbrev pub onward_text : Psw → List ℕ
onward_text psw = codes " to " ++ mode_letter psw.mode ∷ 32 ∷ decimal psw.p

-- what a step changed; of a trap why it did, the word that it stored, and where the machine goes on
abbrev pub changes_text : ℕ → List Write → Stepped → Option Cause → List ℕ
changes_text w stores r None = stores_text w r.psw.l stores ++ moved_text r.psw r.next
changes_text w stores r (Some cause) = cause_text cause ++ cell_text w 0 r.kept ++ onward_text r.next ++ r_text r.psw r.next

-- ---- the line of a step: how a monitor would handle it, its number, the mode and P at its begin, the word, the instruction, and what it changed
unfoldable pub step_line : Desc → ℕ → List Write → Stepped → List ℕ
step_line d number stores r =
    handling_text r.handling ++ (number_text 7 number ++ (32 ∷ mode_letter r.psw.mode ∷ 32 ∷ (number_text 5 r.psw.p ++ (32 ∷ (fetched_text d.word r.word
    ++ (32 ∷ (said_column (said_text d r.word r.instr) ++ (changes_text d.word stores r r.cause ++ (10 ∷ [])))))))))

-- ---- counts

-- the name of the instruction of a number
abbrev pub name_at : Desc → ℕ → List ℕ
name_at d k = elim (slice_get d.instrs k) [ Some i ↦ i.name.bytes | None ↦ [] ]

-- a word, a number, and the end of the line
abbrev pub count_line : List ℕ → ℕ → List ℕ
count_line word n = word ++ 32 ∷ decimal n ++ 10 ∷ []

-- a line that is left out where the number is 0
abbrev pub met_line : List ℕ → ℕ → List ℕ
met_line word n = if n == 0 then [] else count_line word n

-- `instr NAME N` for each of the first instructions that was met
unfoldable pub instr_lines : Desc → List ℕ → ℕ → List ℕ
instr_lines d counts zero = []
instr_lines d counts (suc k) = instr_lines d counts k ++ met_line (codes "instr " ++ name_at d k) (slice_index counts k)

-- the lines of counts: of instructions, of steps that fetched none, of traps by cause, and of all steps
unfoldable pub counts_text : Desc → Tally → List ℕ
counts_text d t =
    instr_lines d t.instrs.items (length d.instrs) ++ (met_line (codes "no instr") t.others
    ++ (count_line (codes "trap (memory)") t.memory ++ (count_line (codes "trap (trap)") t.trap
    ++ (count_line (codes "trap (no pattern)") t.no_pattern ++ count_line (codes "steps") t.steps))))

-- the lines of shares
abbrev pub shares_text : Shares → List ℕ
shares_text t = count_line (codes "direct") t.direct ++ count_line (codes "emulated") t.emulated

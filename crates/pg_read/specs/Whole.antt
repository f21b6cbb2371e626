-- Instructions, heads and descriptions.
use Rattle.std.specs.Prelude.{◌≡◌, ℕ, zero, suc, Bool, true, false, List, [], ◌∷◌, length, Option, None, Some, Result, Ok, Err, codes}
use Rattle.pg_lang_token.specs.declared.tok.Tok.{Tok}
use Rattle.pg_lang_token.specs.declared.tok.Sign.TheVariants.{OpenBrace, CloseBrace, Semicolon}
use Rattle.pg_ast.specs.Levels.{most_block_levels}
use Rattle.pg_ast.specs.declared.tree.Instr.{Instr}
use Rattle.pg_ast.specs.declared.tree.Desc.{Desc}
use Rattle.pg_ast.specs.Reading.{then_read, past_found, past_sign, past_word, past_close, instr_of, cons_read, with_instrs}
use Rattle.pg_read.specs.declared.fault.Stop.{Stop}
use Rattle.pg_read.specs.declared.fault.Stop.TheVariants.{Unread, Memory}
use Rattle.pg_read.specs.Steps.{alone, number_at, name_at, pattern_at}
use Rattle.pg_read.specs.Blocks.{body_at}

-- what a reader of all of the tokens answers is what is due, unless memory ran out
abbrev pub IsAllDue : {A : Type 0} → Result A Stop → Option A → Type 0
IsAllDue (Ok a) due = due ≡ Some a
IsAllDue (Err Unread) due = due ≡ None
IsAllDue (Err Memory) due = Unit {0}

-- the instruction of these parts, where there is one, and the tokens behind it
abbrev pub instr_made : Option Instr → List Tok → Option (Instr × List Tok)
instr_made found ts = past_found found ts (λ i us. Some (i, us))

-- an instruction
unfoldable pub instr_at : List Tok → Option (Instr × List Tok)
instr_at ts =
    then_read (past_word (codes "instr") ts alone) (λ _ us. then_read (name_at us) (λ n vs. then_read (pattern_at vs) (λ p ws.
    then_read (past_sign OpenBrace ws (body_at most_block_levels)) (λ body rest. instr_made (instr_of n p body) rest))))

-- the instructions up to the end, fewer than so many
unfoldable pub instrs_within : ℕ → List Tok → Option (List Instr)
instrs_within zero ts = None
instrs_within (suc k) [] = Some []
instrs_within (suc k) (t ∷ ts) = then_read (instr_at (t ∷ ts)) (λ i us. cons_read i (instrs_within k us))

-- the instructions up to the end: there are no more of them than tokens
unfoldable pub instrs_at : List Tok → Option (List Instr)
instrs_at ts = instrs_within (suc (length ts)) ts

-- a line of the head
unfoldable pub line_at : List ℕ → List Tok → Option (ℕ × List Tok)
line_at w ts =
    then_read (past_word w ts alone) (λ _ us. then_read (number_at us) (λ n vs. then_read (past_sign Semicolon vs alone) (λ _ rest. Some (n, rest))))

-- the end of the head, where a closing brace was found: else causes are on
abbrev pub causes_found : List Tok → Option (List Tok) → Option (Bool × List Tok)
causes_found ts (Some us) = Some (false, us)
causes_found ts None =
    then_read (past_word (codes "causes") ts alone) (λ _ us. then_read (past_word (codes "on") us alone) (λ _ vs.
    then_read (past_sign Semicolon vs alone) (λ _ ws. then_read (past_sign CloseBrace ws alone) (λ _ rest. Some (true, rest)))))

-- the end of the head
abbrev pub causes_at : List Tok → Option (Bool × List Tok)
causes_at ts = causes_found ts (past_close ts)

-- a description, of all of the tokens
unfoldable pub desc_at : List Tok → Option Desc
desc_at ts =
    then_read (past_word (codes "machine") ts alone) (λ _ us. then_read (past_sign OpenBrace us alone) (λ _ vs.
    then_read (line_at (codes "word") vs) (λ word ws. then_read (line_at (codes "address") ws) (λ address xs.
    then_read (line_at (codes "size") xs) (λ size ys. then_read (causes_at ys) (λ causes rest.
    with_instrs word address size causes (instrs_at rest)))))))

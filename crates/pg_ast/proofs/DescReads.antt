-- Reading the tokens of a description gives the description back, so the tokens determine it.
use Rattle.std.proofs.Common.{◌≡◌, ℕ, zero, suc, ◌+◌, ◌≤◌, Bool, true, false, nat_le, List, [], ◌∷◌, ◌++◌, length, map, Option, Some, codes, ap, sym, ◌∙◌, refl, arith}
use Rattle.std.specs.List.{list_all}
use Rattle.std.proofs.Math.Bool.{Bool-set}
use Rattle.std.proofs.Math.Bridge.{le_prop}
use Rattle.std.proofs.lemmas.Bool.{le-leb}
use Rattle.std.proofs.lemmas.List.{length-append}
use Rattle.pg_lang_token.specs.Words.{is_pattern_byte}
use Rattle.pg_lang_token.specs.declared.tok.Tok.{Tok}
use Rattle.pg_lang_token.specs.declared.tok.Tok.TheVariants.{Word, Pattern, Sign}
use Rattle.pg_lang_token.specs.declared.tok.Sign.TheVariants.{OpenBrace, CloseBrace}
use Rattle.pg_ast.specs.declared.name.PatternText.{PatternText}
use Rattle.pg_ast.specs.declared.tree.Stmt.{Stmt}
use Rattle.pg_ast.specs.declared.tree.Instr.{Instr}
use Rattle.pg_ast.specs.declared.tree.Desc.{Desc}
use Rattle.pg_ast.specs.Levels.{IsShallow, most_block_levels, most_expr_levels, greatest, block_levels, expr_levels}
use Rattle.pg_ast.specs.Tokens.{stmt_tokens, instr_tokens, head_tokens, tokens_of, flat}
use Rattle.pg_ast.specs.Reading.{pattern_when, pattern_of, instr_when, instr_of, read_expr, read_block, read_instr, read_instrs, read_desc, read_tokens}
use Rattle.pg_ast.proofs.ExprReads.{name_of-bytes}
use Rattle.pg_ast.proofs.StmtReads.{ReadsBlock, read_block-tokens}
use Rattle.pg_ast.proofs.StmtFronts.{block_front}

pattern_when-known : (p : PatternText) (b : Bool) (e : list_all is_pattern_byte p.bytes ≡ b) → pattern_when p.bytes b e ≡ Some p
pattern_when-known p true e = ap (λ q. Some (record { bytes = p.bytes; is_pattern = q })) (Bool-set _ _ e p.is_pattern)
pattern_when-known p false e = cc (p.is_pattern)

-- a pattern is found by its bytes
pub pattern_of-bytes : (p : PatternText) → pattern_of p.bytes ≡ Some p
unfolding pattern_of
pattern_of-bytes p = pattern_when-known p (list_all is_pattern_byte p.bytes) refl

-- that a body keeps the limits has one proof
pub IsShallow-prop : (body : List Stmt) → IsProp (IsShallow body)
IsShallow-prop body x y = λ i. record { blocks = le_prop x.blocks y.blocks i; exprs = le_prop x.exprs y.exprs i }

instr_when-known : (i : Instr) (b c : Bool) (p : nat_le (1 + greatest (map block_levels i.body)) most_block_levels ≡ b) (q : nat_le (greatest (map expr_levels i.body)) most_expr_levels ≡ c) → instr_when i.name i.pattern i.body b c p q ≡ Some i
instr_when-known i true true p q = ap (λ s. Some (record { name = i.name; pattern = i.pattern; body = i.body; shallow = s })) (IsShallow-prop i.body _ i.shallow)
instr_when-known i false c p q = cc (le-leb _ _ i.shallow.blocks)
instr_when-known i true false p q = cc (le-leb _ _ i.shallow.exprs)

-- an instruction is found by its parts
pub instr_of-parts : (i : Instr) → instr_of i.name i.pattern i.body ≡ Some i
unfolding instr_of
instr_of-parts i = instr_when-known i (nat_le (1 + greatest (map block_levels i.body)) most_block_levels) (nat_le (greatest (map expr_levels i.body)) most_expr_levels) refl refl

pub instr_front : (i : Instr) (rest : List Tok) → instr_tokens i ++ rest ≡ Word (codes "instr") ∷ Word i.name.bytes ∷ Pattern i.pattern.bytes ∷ Sign OpenBrace ∷ (flat (map stmt_tokens i.body) ++ (Sign CloseBrace ∷ rest))
unfolding instr_tokens
instr_front i rest = ap (λ z. Word (codes "instr") ∷ Word i.name.bytes ∷ Pattern i.pattern.bytes ∷ z) (block_front (map stmt_tokens i.body) rest)

-- where b reads bodies
module _ (b : List Tok → Option (List Stmt × List Tok)) where
  -- the tokens of an instruction whose body is read give it back and leave what follows
  pub read_instr-tokens : (i : Instr) → ReadsBlock b i.body → (rest : List Tok) → read_instr b (instr_tokens i ++ rest) ≡ Some (i, rest)
  unfolding read_instr
  read_instr-tokens i h rest = rw (instr_front i rest) (simp (name_of-bytes, pattern_of-bytes, h, instr_of-parts))

  read_instrs-next : (k : ℕ) (i : Instr) (more : List Instr) → ReadsBlock b i.body → read_instrs b k (flat (map instr_tokens more)) ≡ Some more →
      read_instrs b (suc k) (flat (map instr_tokens (i ∷ more))) ≡ Some (i ∷ more)
  unfolding read_instrs
  read_instrs-next k i more h hmore =
      rw (instr_front i (flat (map instr_tokens more)), ← (instr_front i (flat (map instr_tokens more))), read_instr-tokens i h (flat (map instr_tokens more)), hmore) refl

instr-length : (i : Instr) → length (flat (map stmt_tokens i.body)) + 1 ≤ length (instr_tokens i)
unfolding instr_tokens
instr-length i = simp length-append (omega arith)

-- the tokens of instructions, read with fuel for their expressions and their tokens, give them back
pub read_instrs-tokens : (instrs : List Instr) (n m k : ℕ) → most_expr_levels ≤ n → length (flat (map instr_tokens instrs)) ≤ m → length (flat (map instr_tokens instrs)) + 1 ≤ k →
    read_instrs (read_block (read_expr n) m) k (flat (map instr_tokens instrs)) ≡ Some instrs
unfolding read_instrs
read_instrs-tokens [] n m zero deep fuel more = absurd (omega arith)
read_instrs-tokens [] n m (suc k) deep fuel more = refl
read_instrs-tokens (i ∷ rest) n m zero deep fuel more = absurd (omega arith)
read_instrs-tokens (i ∷ rest) n m (suc k) deep fuel more =
    let total = length-append (instr_tokens i) (flat (map instr_tokens rest)) in
    let own = instr-length i in
    read_instrs-next (read_block (read_expr n) m) k i rest
    (read_block-tokens i.body n m (omega (arith, i.shallow.exprs)) (omega (arith, total, own)))
    (read_instrs-tokens rest n m k deep (omega (arith, total)) (omega (arith, total, own)))

read_desc-parts : (n word address size : ℕ) (causes : Bool) (instrs : List Instr) → read_instrs (read_block (read_expr n) n) n (flat (map instr_tokens instrs)) ≡ Some instrs →
    let d : Desc = record { word = word; address = address; size = size; causes = causes; instrs = instrs } in read_desc n (tokens_of d) ≡ Some d
unfolding read_desc tokens_of head_tokens
read_desc-parts n word address size true instrs h = simp h
read_desc-parts n word address size false instrs h = simp h

head-some : (d : Desc) → 1 ≤ length (head_tokens d)
unfolding head_tokens
head-some d = simp length-append (omega arith)

-- the tokens of a description, read with fuel for the levels of its expressions and for its tokens, give it back
pub read_desc-tokens : (d : Desc) (n : ℕ) → most_expr_levels ≤ n → length (tokens_of d) ≤ n → read_desc n (tokens_of d) ≡ Some d
unfolding tokens_of
read_desc-tokens d n deep fuel =
    let total = length-append (head_tokens d) (flat (map instr_tokens d.instrs)) in
    let head = head-some d in
    read_desc-parts n d.word d.address d.size d.causes d.instrs (read_instrs-tokens d.instrs n n n deep (omega (arith, total)) (omega (arith, total, head)))

-- the tokens of a description give it back
pub read_back : (d : Desc) → read_tokens (tokens_of d) ≡ Some d
unfolding read_tokens
read_back d = read_desc-tokens d (most_expr_levels + length (tokens_of d)) (omega arith) (omega arith)

-- the tokens determine the description
pub tokens_determine : (c d : Desc) → tokens_of c ≡ tokens_of d → c ≡ d
tokens_determine c d same =
    let read : Some c ≡ Some d = sym (read_back c) ∙ ap read_tokens same ∙ read_back d in cc

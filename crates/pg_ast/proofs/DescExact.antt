-- What a reader takes for a description are the tokens of that description.
use Rattle.std.proofs.Common.{◌≡◌, ℕ, zero, suc, ◌+◌, Bool, true, false, nat_le, List, [], ◌∷◌, ◌++◌, length, map, Option, None, Some, IfSome, ◌↔◌, codes, ap, sym, ◌∙◌, refl}
use Rattle.std.specs.List.{list_all}
use Rattle.pg_lang_token.specs.Words.{is_pattern_byte}
use Rattle.pg_lang_token.specs.declared.tok.Tok.{Tok}
use Rattle.pg_lang_token.specs.declared.tok.Tok.TheVariants.{Word, Number, Pattern, Sign}
use Rattle.pg_lang_token.specs.declared.tok.Sign.TheVariants.{OpenBrace, CloseBrace, Semicolon}
use Rattle.pg_ast.specs.declared.name.Name.{Name as Names}
use Rattle.pg_ast.specs.declared.name.PatternText.{PatternText}
use Rattle.pg_ast.specs.declared.tree.Stmt.{Stmt}
use Rattle.pg_ast.specs.declared.tree.Instr.{Instr}
use Rattle.pg_ast.specs.declared.tree.Desc.{Desc}
use Rattle.pg_ast.specs.Levels.{most_block_levels, most_expr_levels, greatest, block_levels, expr_levels}
use Rattle.pg_ast.specs.Tokens.{instr_tokens, head_tokens, tokens_of, flat}
use Rattle.pg_ast.specs.Reading.{pattern_when, pattern_of, past_pattern, instr_when, instr_of, past_causes, cons_read, with_instrs, read_expr, read_block, read_instr, read_instrs, read_desc, read_tokens}
use Rattle.pg_ast.proofs.Exact.{read_at, then_read-holds, past_found-holds, past_sign-holds, past_word-holds, past_number-holds, past_name-holds}
use Rattle.pg_ast.proofs.ExprExact.{read_expr-exact}
use Rattle.pg_ast.proofs.StmtExact.{IsBlockFront, IsExactBlock, read_block-exact}
use Rattle.pg_ast.proofs.DescReads.{instr_front, read_back}

pattern_when-holds : (w : List ℕ) (b : Bool) (e : list_all is_pattern_byte w ≡ b) → IfSome (pattern_when w b e) (λ p. p.bytes ≡ w)
pattern_when-holds w true e = refl
pattern_when-holds w false e = tt

-- the pattern that was found has these bytes
pub pattern_of-holds : (w : List ℕ) → IfSome (pattern_of w) (λ p. p.bytes ≡ w)
unfolding pattern_of
pattern_of-holds w = pattern_when-holds w (list_all is_pattern_byte w) refl

past_pattern-holds : {B : Type 0} (P : B → Type 0) (ts : List Tok) (go : PatternText → List Tok → Option B) → ((p : PatternText) (us : List Tok) → ts ≡ Pattern p.bytes ∷ us → IfSome (go p us) P) → IfSome (past_pattern ts go) P
past_pattern-holds P [] go h = tt
past_pattern-holds P (Word w ∷ ts) go h = tt
past_pattern-holds P (Number n ∷ ts) go h = tt
past_pattern-holds P (Pattern w ∷ ts) go h =
    past_found-holds P (pattern_of w) ts go (λ p e. h p ts (ap (λ u. Pattern u ∷ ts) (sym (read_at (λ q. q.bytes ≡ w) (pattern_of w) p (pattern_of-holds w) e))))
past_pattern-holds P (Sign s ∷ ts) go h = tt

-- an instruction has these parts
pub record HasParts (n : Names) (p : PatternText) (body : List Stmt) (i : Instr) : Type 0 where
  pub name : i.name ≡ n
  pub pattern : i.pattern ≡ p
  pub body_is : i.body ≡ body

instr_when-holds : (n : Names) (p : PatternText) (body : List Stmt) (b c : Bool) (d : nat_le (1 + greatest (map block_levels body)) most_block_levels ≡ b) (e : nat_le (greatest (map expr_levels body)) most_expr_levels ≡ c) →
    IfSome (instr_when n p body b c d e) (HasParts n p body)
instr_when-holds n p body true true d e = record { name = refl; pattern = refl; body_is = refl }
instr_when-holds n p body true false d e = tt
instr_when-holds n p body false true d e = tt
instr_when-holds n p body false false d e = tt

-- the instruction that was found has these parts
pub instr_of-holds : (n : Names) (p : PatternText) (body : List Stmt) → IfSome (instr_of n p body) (HasParts n p body)
unfolding instr_of
instr_of-holds n p body = instr_when-holds n p body (nat_le (1 + greatest (map block_levels body)) most_block_levels) (nat_le (greatest (map expr_levels body)) most_expr_levels) refl refl

-- the tokens are those of the instruction, and then the rest
abbrev pub IsInstrFront : List Tok → Instr × List Tok → Type 0
IsInstrFront ts p = ts ≡ instr_tokens p.0 ++ p.1

-- the tokens are those of the instructions
abbrev pub IsInstrs : List Tok → List Instr → Type 0
IsInstrs ts instrs = ts ≡ flat (map instr_tokens instrs)

-- an instruction in front of those that were read
pub cons-exact : (ts us : List Tok) (i : Instr) → ts ≡ instr_tokens i ++ us → (read : Option (List Instr)) → IfSome read (IsInstrs us) → IfSome (cons_read i read) (IsInstrs ts)
cons-exact ts us i e None h = tt
cons-exact ts us i e (Some instrs) h = cc

-- where b reads bodies
module _ (b : List Tok → Option (List Stmt × List Tok)) (block : IsExactBlock b) where
  -- what was read as an instruction are its tokens
  pub instr-exact : (ts : List Tok) → IfSome (read_instr b ts) (IsInstrFront ts)
  unfolding read_instr
  instr-exact ts =
      let all : Instr × List Tok → Type 0 = IsInstrFront ts in
      past_word-holds all (codes "instr") ts _ (λ t1 p1.
      past_name-holds all t1 _ (λ n t2 p2.
      past_pattern-holds all t2 _ (λ p t3 p3.
      past_sign-holds all OpenBrace t3 _ (λ t4 p4.
      then_read-holds all (b t4) _ (λ body t5 p5.
      past_found-holds all (instr_of n p body) t5 _ (λ i p6.
      let parts = read_at (HasParts n p body) (instr_of n p body) i (instr_of-holds n p body) p6 in
      cc (instr_front i t5, p1, p2, p3, p4, read_at (IsBlockFront t4) (b t4) (body, t5) (block t4) p5, parts.name, parts.pattern, parts.body_is)))))))

  instrs-exact : (k : ℕ) (ts : List Tok) → IfSome (read_instrs b k ts) (IsInstrs ts)
  unfolding read_instrs
  instrs-exact zero ts = tt
  instrs-exact (suc k) [] = refl
  instrs-exact (suc k) (t ∷ ts) =
      then_read-holds (IsInstrs (t ∷ ts)) (read_instr b (t ∷ ts)) _ (λ i us e.
      cons-exact (t ∷ ts) us i (read_at (IsInstrFront (t ∷ ts)) (read_instr b (t ∷ ts)) (i, us) (instr-exact (t ∷ ts)) e) (read_instrs b k us) (instrs-exact k us))

past_causes-holds : {B : Type 0} (P : B → Type 0) (ts : List Tok) (go : Bool → List Tok → Option B) →
    ((us : List Tok) → ts ≡ Word (codes "causes") ∷ Word (codes "on") ∷ Sign Semicolon ∷ Sign CloseBrace ∷ us → IfSome (go true us) P) →
    ((us : List Tok) → ts ≡ Sign CloseBrace ∷ us → IfSome (go false us) P) → IfSome (past_causes ts go) P
past_causes-holds P [] go on off = tt
past_causes-holds P (Word w ∷ ts) go on off =
    past_word-holds P (codes "causes") (Word w ∷ ts) _ (λ t1 p1.
    past_word-holds P (codes "on") t1 _ (λ t2 p2.
    past_sign-holds P Semicolon t2 _ (λ t3 p3.
    past_sign-holds P CloseBrace t3 _ (λ t4 p4. on t4 (cc)))))
past_causes-holds P (Number n ∷ ts) go on off = tt
past_causes-holds P (Pattern w ∷ ts) go on off = tt
past_causes-holds P (Sign s ∷ ts) go on off = past_sign-holds P CloseBrace (Sign s ∷ ts) _ (λ t1 p1. off t1 p1)

-- the tokens are those of the description
abbrev pub IsTokens : List Tok → Desc → Type 0
IsTokens ts d = ts ≡ tokens_of d

-- the tokens of a description with these parts, behind the head's last number
abbrev pub behind_size : Bool → List Tok → List Tok
behind_size true ts = Word (codes "causes") ∷ Word (codes "on") ∷ Sign Semicolon ∷ Sign CloseBrace ∷ ts
behind_size false ts = Sign CloseBrace ∷ ts

desc_front : (word address size : ℕ) (causes : Bool) (instrs : List Instr) →
    tokens_of (record { word = word; address = address; size = size; causes = causes; instrs = instrs }) ≡
    Word (codes "machine") ∷ Sign OpenBrace ∷ Word (codes "word") ∷ Number word ∷ Sign Semicolon ∷ Word (codes "address") ∷ Number address ∷ Sign Semicolon ∷
    Word (codes "size") ∷ Number size ∷ Sign Semicolon ∷ behind_size causes (flat (map instr_tokens instrs))
unfolding tokens_of head_tokens
desc_front word address size true instrs = refl
desc_front word address size false instrs = refl

-- a description of the numbers of a head and of the instructions behind it
pub with_instrs-exact : (ts us : List Tok) (word address size : ℕ) (causes : Bool) →
    ts ≡ Word (codes "machine") ∷ Sign OpenBrace ∷ Word (codes "word") ∷ Number word ∷ Sign Semicolon ∷ Word (codes "address") ∷ Number address ∷ Sign Semicolon ∷
    Word (codes "size") ∷ Number size ∷ Sign Semicolon ∷ behind_size causes us →
    (read : Option (List Instr)) → IfSome read (IsInstrs us) → IfSome (with_instrs word address size causes read) (IsTokens ts)
with_instrs-exact ts us word address size causes e None h = tt
with_instrs-exact ts us word address size causes e (Some instrs) h = e ∙ ap (λ v. Word (codes "machine") ∷ Sign OpenBrace ∷ Word (codes "word") ∷ Number word ∷ Sign Semicolon ∷ Word (codes "address") ∷ Number address ∷ Sign Semicolon ∷
    Word (codes "size") ∷ Number size ∷ Sign Semicolon ∷ behind_size causes v) h ∙ sym (desc_front word address size causes instrs)

-- what was read as a description are its tokens
pub read_desc-exact : (n : ℕ) (ts : List Tok) → IfSome (read_desc n ts) (λ d. ts ≡ tokens_of d)
unfolding read_desc
read_desc-exact n ts =
    let all : Desc → Type 0 = IsTokens ts in
    let instrs = instrs-exact (read_block (read_expr n) n) (read_block-exact (read_expr n) (read_expr-exact n) n) n in
    past_word-holds all (codes "machine") ts _ (λ t1 p1.
    past_sign-holds all OpenBrace t1 _ (λ t2 p2.
    past_word-holds all (codes "word") t2 _ (λ t3 p3.
    past_number-holds all t3 _ (λ word t4 p4.
    past_sign-holds all Semicolon t4 _ (λ t5 p5.
    past_word-holds all (codes "address") t5 _ (λ t6 p6.
    past_number-holds all t6 _ (λ address t7 p7.
    past_sign-holds all Semicolon t7 _ (λ t8 p8.
    past_word-holds all (codes "size") t8 _ (λ t9 p9.
    past_number-holds all t9 _ (λ size t10 p10.
    past_sign-holds all Semicolon t10 _ (λ t11 p11.
    past_causes-holds all t11 _
    (λ us q. with_instrs-exact ts us word address size true (cc) _ (instrs us))
    (λ us q. with_instrs-exact ts us word address size false (cc) _ (instrs us)))))))))))))

-- reading answers with a description exactly for its tokens
pub read_exactly : (ts : List Tok) (d : Desc) → (read_tokens ts ≡ Some d) ↔ (ts ≡ tokens_of d)
unfolding read_tokens
read_exactly ts d = (λ e. read_at (λ c. ts ≡ tokens_of c) (read_tokens ts) d (read_desc-exact (most_expr_levels + length ts) ts) e, λ e. ap read_tokens e ∙ read_back d)

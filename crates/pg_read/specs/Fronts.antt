-- What the tokens of descriptions begin with, where the trees may go down any number of levels: which tokens are wrong,
-- which are too deep, and which come to an end too early.
use Rattle.std.specs.Prelude.{◌≡◌, ◌≢◌, ℕ, suc, ◌<◌, Bool, true, false, map, List, [], ◌∷◌, ◌++◌, length, take, codes}
use Rattle.pg_lang_token.specs.declared.tok.Tok.{Tok}
use Rattle.pg_lang_token.specs.declared.tok.Tok.TheVariants.{Word, Pattern}
use Rattle.pg_ast.specs.declared.name.Name.{Name}
use Rattle.pg_ast.specs.declared.name.PatternText.{PatternText}
use Rattle.pg_ast.specs.declared.tree.Stmt.{Stmt}
use Rattle.pg_ast.specs.declared.tree.Desc.{Desc}
use Rattle.pg_ast.specs.Tokens.{flat, block_tokens, stmt_tokens, head_tokens, tokens_of}
use Rattle.pg_read.specs.Marks.{Mark, Plain, is_deep, has_deep, body_marks}

-- an instruction of any depth
pub record WideInstr : Type 0 where
  pub name : Name
  pub pattern : PatternText
  pub body : List Stmt

-- a description of any depth
pub record Wide : Type 0 where
  pub word : ℕ
  pub address : ℕ
  pub size : ℕ
  pub causes : Bool
  pub instrs : List WideInstr

-- a description with the same head and no instructions
abbrev pub bare_of : Wide → Desc
bare_of w = record { word = w.word; address = w.address; size = w.size; causes = w.causes; instrs = [] }

abbrev pub wide_instr_tokens : WideInstr → List Tok
wide_instr_tokens i = Word (codes "instr") ∷ Word i.name.bytes ∷ Pattern i.pattern.bytes ∷ block_tokens (map stmt_tokens i.body)

-- the tokens of a description of any depth
unfoldable pub wide_tokens : Wide → List Tok
wide_tokens w = head_tokens (bare_of w) ++ flat (map wide_instr_tokens w.instrs)

-- the marks of instructions one after another: depth is a matter of their bodies alone
abbrev pub instrs_marks : List WideInstr → List Mark
instrs_marks [] = []
instrs_marks (i ∷ more) = Plain ∷ Plain ∷ Plain ∷ body_marks i.body ++ instrs_marks more

-- the marks of its tokens
unfoldable pub wide_marks : Wide → List Mark
wide_marks w = map (λ t. Plain) (head_tokens (bare_of w)) ++ instrs_marks w.instrs

-- some description of any depth begins with these tokens, and they have these marks there
pub record IsMarkedFront (ts : List Tok) (marks : List Mark) : Type 0 where
  pub wide : Wide
  pub rest : List Tok
  pub begins : wide_tokens wide ≡ ts ++ rest
  pub marked : take (length ts) (wide_marks wide) ≡ marks

-- and none of them is too deep
pub record IsAllowed (ts : List Tok) : Type 0 where
  pub marks : List Mark
  pub front : IsMarkedFront ts marks
  pub shallow : has_deep marks ≡ false

-- the token at k is the first with which no description goes on
pub record IsWrongAt (ts : List Tok) (k : ℕ) : Type 0 where
  pub inside : k < length ts
  pub allowed : IsAllowed (take k ts)
  pub wrong : (marks : List Mark) → IsMarkedFront (take (suc k) ts) marks → ⊥

-- descriptions begin so, and none ends here
pub record EndsEarly (ts : List Tok) : Type 0 where
  pub allowed : IsAllowed ts
  pub none : (d : Desc) → tokens_of d ≢ ts

-- the token at k is the first that is too deep
pub record IsDeepAt (ts : List Tok) (k : ℕ) : Type 0 where
  pub inside : k < length ts
  pub allowed : IsAllowed (take k ts)
  pub marks : List Mark
  pub last : Mark
  pub deep : is_deep last ≡ true
  pub front : IsMarkedFront (take (suc k) ts) (marks ++ last ∷ [])

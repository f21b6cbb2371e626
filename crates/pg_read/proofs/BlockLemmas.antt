-- Blocks, step by step.
use Rattle.std.proofs.Common.{◌≡◌, ℕ, zero, suc, ◌+◌, ◌-◌, ◌≤◌, ◌<◌, List, [], ◌∷◌, ◌++◌, length, Option, None, Some, ap, sym, ◌∙◌, refl, arith}
use Rattle.std.proofs.lemmas.List.{append_assoc, length-append, append-nil}
use Rattle.pg_lang_token.specs.declared.tok.Tok.{Tok}
use Rattle.pg_ast.specs.Levels.{most_expr_levels}
use Rattle.pg_ast.specs.Reading.{then_read, past_close, read_expr, read_stmt}
use Rattle.pg_ast.specs.declared.tree.Stmt.{Stmt}
use Rattle.pg_read.specs.Blocks.{body_at, stmts_at}

pub body_at-zero : (ts : List Tok) → body_at 0 ts ≡ None
unfolding body_at
body_at-zero ts = refl

pub body_at-below : (n : ℕ) (ts : List Tok) → 0 < n → body_at n ts ≡ stmts_at (read_stmt (read_expr most_expr_levels) (body_at (n - 1))) (suc (length ts)) ts
unfolding body_at
body_at-below zero ts h = absurd (omega arith)
body_at-below (suc n) ts h = let e : suc n - 1 ≡ n = omega arith in rw e refl

pub ruleset body_rules = (body_at-zero, body_at-below)

-- ---- the loop over the statements of a block

-- statements in front of those that were read
abbrev behind_stmts : List Stmt → Option (List Stmt × List Tok) → Option (List Stmt × List Tok)
behind_stmts ss None = None
behind_stmts ss (Some p) = Some (ss ++ p.0, p.1)

-- the statements so far, and what is left of all of these tokens
pub record StmtsSoFar (stmt : List Tok → Option (Stmt × List Tok)) (all left : List Tok) (ss : List Stmt) : Type 0 where
  pub few : length left + length ss ≤ length all
  pub same : stmts_at stmt (suc (length all)) all ≡ behind_stmts ss (stmts_at stmt (suc (length all - length ss)) left)

behind-next : (ss : List Stmt) (s : Stmt) (x : Option (List Stmt × List Tok)) → behind_stmts ss (then_read x (λ more rest. Some (s ∷ more, rest))) ≡ behind_stmts (ss ++ s ∷ []) x
behind-next ss s None = refl
behind-next ss s (Some p) = ap (λ z. Some (z, p.1)) (sym (append_assoc ss (s ∷ []) p.0))

module _ (stmt : List Tok → Option (Stmt × List Tok)) where
  stmts_at-next : (k : ℕ) (ts us : List Tok) (s : Stmt) → past_close ts ≡ None → stmt ts ≡ Some (s, us) →
      stmts_at stmt (suc k) ts ≡ then_read (stmts_at stmt k us) (λ more rest. Some (s ∷ more, rest))
  unfolding stmts_at
  stmts_at-next k ts us s open_yet e = rw (open_yet, e) refl

  stmts_at-stop : (k : ℕ) (ts : List Tok) → past_close ts ≡ None → stmt ts ≡ None → stmts_at stmt (suc k) ts ≡ None
  unfolding stmts_at
  stmts_at-stop k ts open_yet e = rw (open_yet, e) refl

  stmts_at-end : (k : ℕ) (ts rest : List Tok) → past_close ts ≡ Some rest → stmts_at stmt (suc k) ts ≡ Some ([], rest)
  unfolding stmts_at
  stmts_at-end k ts rest closed = rw closed refl

  pub StmtsSoFar-next : (all left us : List Tok) (ss : List Stmt) (s : Stmt) → StmtsSoFar stmt all left ss → past_close left ≡ None → stmt left ≡ Some (s, us) → length us < length left →
      StmtsSoFar stmt all us (ss ++ s ∷ [])
  StmtsSoFar-next all left us ss s h open_yet e shorter =
      let longer : length (ss ++ s ∷ []) ≡ length ss + 1 = simp length-append in
      let few = h.few in
      let fuel : length all - length ss ≡ suc (length all - length (ss ++ s ∷ [])) = omega arith in
      record {
        few = omega arith;
        same = h.same ∙ rw (fuel, stmts_at-next (suc (length all - length (ss ++ s ∷ []))) left us s open_yet e) (behind-next ss s (stmts_at stmt (suc (length all - length (ss ++ s ∷ []))) us));
      }

  pub StmtsSoFar-all : (all left rest : List Tok) (ss : List Stmt) → StmtsSoFar stmt all left ss → past_close left ≡ Some rest → stmts_at stmt (suc (length all)) all ≡ Some (ss, rest)
  StmtsSoFar-all all left rest ss h closed = h.same ∙ rw (stmts_at-end (length all - length ss) left rest closed) (ap (λ z. Some (z, rest)) (append-nil ss))

  pub StmtsSoFar-stop : (all left : List Tok) (ss : List Stmt) → StmtsSoFar stmt all left ss → past_close left ≡ None → stmt left ≡ None → stmts_at stmt (suc (length all)) all ≡ None
  StmtsSoFar-stop all left ss h open_yet e = h.same ∙ ap (behind_stmts ss) (stmts_at-stop _ left open_yet e)

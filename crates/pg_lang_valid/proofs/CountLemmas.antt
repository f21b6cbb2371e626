-- Counts that stop: adding them adds what they count.
use Rattle.std.proofs.Common.{◌≡◌, ℕ, ◌+◌, ◌<◌, ◌≤◌, List, [], ◌∷◌, length, drop, map, get_or, refl, ap, sym, ◌∙◌, arith, drop-cons, add-one, add-zero, zero-add, add_assoc}
use Rattle.std.proofs.lemmas.List.{drop_all}
use Rattle.pg_ast.specs.declared.tree.Stmt.{Stmt}
use Rattle.pg_lang_valid.specs.declared.limits.Counts.{Counts}
use Rattle.pg_lang_valid.specs.Limits.{Tally, tally, both, all_of, stmt_tally}
use Rattle.pg_lang_valid.specs.Counted.{stopped, capped, added}

stopped-add : (m n : ℕ) → stopped (stopped m + stopped n) ≡ stopped (m + n)
stopped-add m n = omega arith

counts_equal : {a b c d p q r s : ℕ} → a ≡ p → b ≡ q → c ≡ r → d ≡ s →
    (let x : Counts = record { accesses = a; lets = b; statements = c; expressions = d } in x)
    ≡ (record { accesses = p; lets = q; statements = r; expressions = s })
counts_equal e f g h = cc

pub added-capped : (s t : Tally) → added (capped s) (capped t) ≡ capped (both s t)
unfolding capped added both
added-capped s t =
    counts_equal (stopped-add s.accesses t.accesses) (stopped-add s.lets t.lets)
    (stopped-add s.statements t.statements) (stopped-add s.expressions t.expressions)

pub both-assoc : (s t u : Tally) → both (both s t) u ≡ both s (both t u)
unfolding both
both-assoc s t u = simp add_assoc

pub both-none : (t : Tally) → both (tally 0 0 0 0) t ≡ t
unfolding both
both-none t = simp zero-add

pub both-none_right : (t : Tally) → both t (tally 0 0 0 0) ≡ t
unfolding both
both-none_right t = simp add-zero

pub all_of-none : all_of [] ≡ tally 0 0 0 0
unfolding all_of
all_of-none = refl

pub all_of-some : (t : Tally) (ts : List Tally) → all_of (t ∷ ts) ≡ both t (all_of ts)
unfolding all_of
all_of-some t ts = refl

-- what is left of some statements, one of them counted
pub left-tally : (ss : List Stmt) (i : ℕ) (s : Stmt) → i < length ss →
    all_of (map stmt_tally (drop i ss)) ≡ both (stmt_tally (get_or ss i s)) (all_of (map stmt_tally (drop (i + 1) ss)))
left-tally ss i s h = rw (drop-cons ss i s) (rw add-one (all_of-some _ _))

-- a statement more is counted
pub counted_more : (so_far : Tally) (ss : List Stmt) (i : ℕ) (s d : Stmt) → i < length ss → s ≡ get_or ss i d →
    both so_far (all_of (map stmt_tally (drop i ss))) ≡ all_of (map stmt_tally ss) →
    both (both so_far (stmt_tally s)) (all_of (map stmt_tally (drop (i + 1) ss))) ≡ all_of (map stmt_tally ss)
counted_more so_far ss i s d h e before =
    both-assoc so_far (stmt_tally s) _
    ∙ ap (both so_far) (ap (λ x. both (stmt_tally x) (all_of (map stmt_tally (drop (i + 1) ss)))) e ∙ sym (left-tally ss i d h))
    ∙ before

-- where no statement is left, all are counted
pub counted_all : (so_far : Tally) (ss : List Stmt) (i : ℕ) → length ss ≤ i →
    both so_far (all_of (map stmt_tally (drop i ss))) ≡ all_of (map stmt_tally ss) → so_far ≡ all_of (map stmt_tally ss)
counted_all so_far ss i over before =
    sym (both-none_right so_far) ∙ ap (both so_far) (sym all_of-none)
    ∙ ap (λ left. both so_far (all_of (map stmt_tally left))) (sym (drop_all i ss over)) ∙ before

pub ruleset count_rules = (added-capped, all_of-none, both-none)

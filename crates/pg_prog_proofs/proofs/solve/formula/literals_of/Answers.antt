use Rattle.std.proofs.Common.{SFits, w32, ◌≡◌, ◌/◌, ℕ, ℤ, List, nat_abs, slice_index_or, subst, sym, arith}
use Rattle.std.proofs.lemmas.Int.{to_z-of_z}
use Rattle.pg_sat_guide.proofs.LiteralLemmas.{SFits-literal}
use Rattle.pg_prog_proofs.proofs.ClauseLemmas.{IsDraft, draft-push}
use Rattle.pg_prog_proofs.proofs.solve.formula.literals_of.Goals as goal

pub loop-code-preserved : goal.loop-code-preserved
loop-code-preserved c =
    let e : nat_abs c.literal_of.result ≡ slice_index_or c.args.codes.now c.loop-code.code-index 0 / 2 = c.literal_of.ensures in
    let fits : SFits w32 c.literal_of.result =
    SFits-literal c.args.variables c.literal_of.result c.requires (omega (arith, e, c.if-code-last-2.false), omega (arith, e, c.if-code-variables.false)) in
    let pushed = simp to_z-of_z at c.in_ok-push.ensures in
    subst (λ (n : ℕ). IsDraft c.args.variables n c.push.new.literals.items) e
    (subst (λ (zs : List ℤ). IsDraft c.args.variables (nat_abs c.literal_of.result) zs) (sym pushed)
    (draft-push c.args.variables (c.loop-code.last / 2) c.loop-code.literals.items c.literal_of.result c.loop-code.invariant
    (omega (arith, e, c.if-code-last-2.false)) (omega (arith, e, c.if-code-variables.false))))

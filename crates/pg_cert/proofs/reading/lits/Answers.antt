use Rattle.std.proofs.Common.{w32, FitsSigned, [], ◌∷◌, ◌++◌, drop, ap, sym, ◌∙◌, arith, rules}
use Rattle.std.proofs.lemmas.Int.{to_z-of_z}
use Rattle.pg_cert.specs.Reading.{read_lits, is_zero}
use Rattle.pg_cert.proofs.Walks.{lits_none, lits_end, lits_more, lits_over}
use Rattle.pg_cert.proofs.reading.lits.Goals as goal

pub returns-in-None : goal.returns-in-None
returns-in-None c =
    let parts = c.args.parts.now in
    lits_none (read_lits (drop c.args.from parts)) c.loop-at.lits c.loop-at.at parts _ c.literal.result (omega (arith, c.len-at-end.ensures, c.loop-at-test.true)) c.part.ensures c.literal.ensures c.in-None.is c.loop-at.invariant

pub returns-then-is_zero : goal.returns-then-is_zero
returns-then-is_zero c =
    let parts = c.args.parts.now in
    let fits : FitsSigned w32 c.in-Some.lit = search rules in
    let is_end = ap is_zero (sym (to_z-of_z w32 c.in-Some.lit fits)) ∙ sym c.is_zero.ensures ∙ c.if-is_zero.true in
    lits_end (read_lits (drop c.args.from parts)) c.loop-at.lits c.loop-at.at parts _ c.literal.result c.in-Some.lit (omega (arith, c.len-at-end.ensures, c.loop-at-test.true)) c.part.ensures c.literal.ensures c.in-Some.is is_end c.loop-at.invariant

pub loop-at-preserved : goal.loop-at-preserved
loop-at-preserved c =
    let parts = c.args.parts.now in
    let fits : FitsSigned w32 c.in-Some.lit = search rules in
    let is_lit = ap is_zero (sym (to_z-of_z w32 c.in-Some.lit fits)) ∙ sym c.is_zero.ensures ∙ c.if-is_zero.false in
    lits_more (read_lits (drop c.args.from parts)) c.loop-at.lits _ c.loop-at.at parts _ c.literal.result c.in-Some.lit (omega (arith, c.len-at-end.ensures, c.loop-at-test.true)) c.part.ensures c.literal.ensures c.in-Some.is is_lit (c.in_ok-push-in-Some.ensures.ok ∙ ap (λ z. c.loop-at.lits ++ z ∷ []) (to_z-of_z w32 c.in-Some.lit fits)) c.loop-at.invariant

pub returns : goal.returns
returns c =
    let parts = c.args.parts.now in
    lits_over (read_lits (drop c.args.from parts)) c.loop-at.lits c.loop-at.at parts (omega (arith, c.len-at-end.ensures, c.loop-at-test.false)) c.loop-at.invariant

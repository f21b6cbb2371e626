use Rattle.std.proofs.Common.{w32, to_z, of_z, rules, sym, ap, ◌∙◌, Some, get_or, pos, ℤ}
use Rattle.pg_watch.proofs.look.has_true.Goals as goal

pub returns-in-Some-true : goal.returns-in-Some-true
returns-in-Some-true c = λ yes.
    let lit : ℤ = to_z w32 (of_z w32 (get_or c.args.clause.now c.loop-lit.lit-index (pos 0))) in
    record { which = lit; there = search rules; holds = sym c.in-Some-true.ensures ∙ ap (λ b. Some b) c.in-Some-true.field-0-test }

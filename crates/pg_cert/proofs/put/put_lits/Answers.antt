use Rattle.std.proofs.Common.{SFits, w32, pos, rules, get_or}
use Rattle.std.proofs.lemmas.Int.{to_z-of_z}
use Rattle.std.specs.Fmt.{signed_decimal}
use Rattle.pg_cert.proofs.Spacing.{spaced_more}
use Rattle.pg_cert.proofs.put.put_lits.Goals as goal

pub loop-lit-preserved : goal.loop-lit-preserved
loop-lit-preserved c =
    let fits : SFits w32 (get_or c.args.lits.now c.loop-lit.lit-index (pos 0)) = search rules in
    let put = simp to_z-of_z at c.in_ok-put_lit.ensures in
    spaced_more signed_decimal c.args.lits.now c.loop-lit.lit-index (pos 0) c.loop-lit.into.items c.put_lit.new.into.items _ c.loop-lit-test.true put c.loop-lit.invariant

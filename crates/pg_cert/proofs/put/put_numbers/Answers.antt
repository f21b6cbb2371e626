use Rattle.std.specs.Fmt.{decimal}
use Rattle.pg_cert.proofs.Spacing.{spaced_more}
use Rattle.pg_cert.proofs.put.put_numbers.Goals as goal

pub loop-number-preserved : goal.loop-number-preserved
loop-number-preserved c =
    spaced_more decimal c.args.numbers.now c.loop-number.number-index 0 c.loop-number.into.items c.put_number.new.into.items _ c.loop-number-test.true c.in_ok-put_number.ensures c.loop-number.invariant

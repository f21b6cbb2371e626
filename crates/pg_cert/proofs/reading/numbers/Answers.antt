use Rattle.std.proofs.Common.{drop, sym, ◌∙◌, arith}
use Rattle.pg_cert.specs.Reading.{read_numbers}
use Rattle.pg_cert.proofs.Walks.{numbers_none, numbers_end, numbers_behind, numbers_more, numbers_over}
use Rattle.pg_cert.proofs.reading.numbers.Goals as goal

pub returns-in-None : goal.returns-in-None
returns-in-None c =
    let parts = c.args.parts.now in
    numbers_none (read_numbers (drop c.args.from parts)) c.loop-at.numbers c.loop-at.at parts _ c.number.result (omega (arith, c.len-at-end.ensures, c.loop-at-test.true)) c.part.ensures c.number.ensures.number c.in-None.is c.loop-at.invariant

pub returns-then-at-len : goal.returns-then-at-len
returns-then-at-len c =
    let parts = c.args.parts.now in
    numbers_end (read_numbers (drop c.args.from parts)) c.loop-at.numbers c.loop-at.at parts _ c.number.result c.in-Some.value (omega (arith, c.len-at-end.ensures, c.loop-at-test.true)) c.part.ensures c.number.ensures.number c.in-Some.is (omega (arith, c.if-value-eq0.true)) (omega (arith, c.if-at-len.true, c.len.ensures)) c.loop-at.invariant

pub returns-then-value-eq0 : goal.returns-then-value-eq0
returns-then-value-eq0 c =
    let parts = c.args.parts.now in
    numbers_behind (read_numbers (drop c.args.from parts)) c.loop-at.numbers c.loop-at.at parts _ c.number.result c.in-Some.value (omega (arith, c.len-at-end.ensures, c.loop-at-test.true)) c.part.ensures c.number.ensures.number c.in-Some.is (omega (arith, c.if-value-eq0.true)) (λ same. c.if-at-len.false (same ∙ sym c.len.ensures)) c.loop-at.invariant

pub loop-at-preserved : goal.loop-at-preserved
loop-at-preserved c =
    let parts = c.args.parts.now in
    numbers_more (read_numbers (drop c.args.from parts)) c.loop-at.numbers _ c.loop-at.at parts _ c.number.result c.in-Some.value (omega (arith, c.len-at-end.ensures, c.loop-at-test.true)) c.part.ensures c.number.ensures.number c.in-Some.is (λ same. c.if-value-eq0.false same) c.in_ok-push-in-Some.ensures.ok c.loop-at.invariant

pub returns : goal.returns
returns c =
    let parts = c.args.parts.now in
    numbers_over (read_numbers (drop c.args.from parts)) c.loop-at.numbers c.loop-at.at parts (omega (arith, c.len-at-end.ensures, c.loop-at-test.false)) c.loop-at.invariant

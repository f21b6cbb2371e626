use Rattle.std.proofs.Common.{◌≡◌, ◌∷◌, [], length, ap, ◌∙◌, arith}
use Rattle.std.proofs.lemmas.List.{take_rest, length-append}
use Rattle.pg_asm.specs.Said.{value_said}
use Rattle.pg_asm.proofs.OperandLemmas.{parted, numbers-begin, numbers-more, numbers-none, numbers-end}
use Rattle.pg_asm.proofs.encode.numbers_of.Goals as goal

pub slice_bounds-number_of-count : goal.slice_bounds-number_of-count
slice_bounds-number_of-count c =
    let p = parted c.loop-part.left.now c.in-Some.rest.now c.in-Some.part.now c.in-Some.ensures.parts c.loop-part.invariant.says in
    omega (arith, p.here.long)

pub slice_bounds-number_of-start : goal.slice_bounds-number_of-start
slice_bounds-number_of-start c =
    let p = parted c.loop-part.left.now c.in-Some.rest.now c.in-Some.part.now c.in-Some.ensures.parts c.loop-part.invariant.says in
    omega (arith, p.here.long)

pub returns-in-None : goal.returns-in-None
returns-in-None c =
    let p = parted c.loop-part.left.now c.in-Some.rest.now c.in-Some.part.now c.in-Some.ensures.parts c.loop-part.invariant.says in
    numbers-none c.args.labels.now c.loop-part.numbers.items p.operand c.loop-part.left.now c.in-Some.rest.now _ p.whole
    (c.in-None.ensures p.operand.value (ap value_said (take_rest c.in-Some.part.now 2) ∙ p.here.value)) c.loop-part.invariant.so_far

pub loop-part-preserved : goal.loop-part-preserved
loop-part-preserved c =
    let p = parted c.loop-part.left.now c.in-Some.rest.now c.in-Some.part.now c.in-Some.ensures.parts c.loop-part.invariant.says in
    record {
      says = p.says;
      room = omega (arith, c.loop-part.invariant.room, ap length c.in-Some.ensures.parts, ap length c.push.ensures.items, length-append c.loop-part.numbers.items (c.in-Some-number_of.number ∷ []));
      so_far = numbers-more c.args.labels.now c.loop-part.numbers.items c.push.new.self.items c.in-Some-number_of.number p.operand c.loop-part.left.now c.in-Some.rest.now _ p.whole
          (c.in-Some-number_of.ensures p.operand.value (ap value_said (take_rest c.in-Some.part.now 2) ∙ p.here.value)) c.push.ensures.items c.loop-part.invariant.so_far;
    }

pub returns : goal.returns
returns c = numbers-end c.args.labels.now c.loop-part.numbers.items c.loop-part.left.now _ c.in_default.ensures.parts c.loop-part.invariant.so_far

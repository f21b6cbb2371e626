use Rattle.std.proofs.Common.{◌≡◌, ◌==◌, ◌<◌, false, true, length, get_or, sym, ap, ◌∙◌, arith}
use Rattle.std.proofs.lemmas.Bool.{eq-eqb, ne_eqb}
use Rattle.pg_asm.specs.declared.fields.LetterField.{LetterField}
use Rattle.pg_asm.proofs.OperandLemmas.{parted, letters-behind, letters-other, letters-more, letters-end}
use Rattle.pg_asm.proofs.encode.have_letters.Goals as goal

pub returns-then-k-fields : goal.returns-then-k-fields
returns-then-k-fields c =
    let p = parted c.loop-part.left.now c.in-Some.rest.now c.in-Some.part.now c.in-Some.ensures.parts c.loop-part.invariant.says in
    letters-behind c.args.fields.now c.loop-part.k p.operand c.loop-part.left.now c.in-Some.rest.now _ (omega arith) p.whole c.loop-part.invariant.so_far

pub bounds-part-0 : goal.bounds-part-0
bounds-part-0 c =
    let p = parted c.loop-part.left.now c.in-Some.rest.now c.in-Some.part.now c.in-Some.ensures.parts c.loop-part.invariant.says in
    omega (arith, p.here.long)

pub returns-then-fields-k : goal.returns-then-fields-k
returns-then-fields-k c =
    let p = parted c.loop-part.left.now c.in-Some.rest.now c.in-Some.part.now c.in-Some.ensures.parts c.loop-part.invariant.says in
    letters-other c.args.fields.now c.loop-part.k (record { letter = 0; width = 0; low = 0 }) p.operand c.loop-part.left.now c.in-Some.rest.now c.in-Some.part.now _
    (omega arith) p.whole p.here.letter c.if-fields-k.true c.loop-part.invariant.so_far

pub loop-part-preserved : goal.loop-part-preserved
loop-part-preserved c =
    let p = parted c.loop-part.left.now c.in-Some.rest.now c.in-Some.part.now c.in-Some.ensures.parts c.loop-part.invariant.says in
    record {
      says = p.says;
      within = omega arith;
      so_far = letters-more c.args.fields.now c.loop-part.k (record { letter = 0; width = 0; low = 0 }) p.operand c.loop-part.left.now c.in-Some.rest.now c.in-Some.part.now _
          (omega arith) p.whole p.here.letter c.if-fields-k.false c.loop-part.invariant.so_far;
    }

pub returns : goal.returns
returns c = letters-end c.args.fields.now c.loop-part.k c.loop-part.left.now _ c.loop-part.invariant.within c.in_default.ensures.parts c.loop-part.invariant.so_far

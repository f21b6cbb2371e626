use Rattle.std.proofs.Common.{◌≡◌, ◌∷◌, [], length, length-append, ◌<◌, All, true, false, ap, sym, subst, arith}
use Rattle.pg_asm.specs.declared.fields.LetterField.{LetterField}
use Rattle.pg_asm.specs.Words.{begins_field}
use Rattle.pg_asm.proofs.FieldLemmas.{fields-low, fields-more, fields-same, fields-end, length-behind}
use Rattle.pg_asm.proofs.fields.fields_of.Goals as goal

pub loop-byte-preserved-then-begins_field : goal.loop-byte-preserved-then-begins_field
loop-byte-preserved-then-begins_field c =
    let b : begins_field c.loop-byte.before c.in-Some.byte ≡ true = cc in
    record {
      so_far = fields-more c.loop-byte.fields.items c.push.new.self.items c.field_here.result c.loop-byte.before c.in-Some.byte c.loop-byte.left.now c.in-Some.behind.now _
          c.push.ensures.items c.field_here.ensures c.in-Some.ensures b c.loop-byte.invariant.so_far;
      room = omega (arith, ap length c.in-Some.ensures, ap length c.push.ensures.items, length-append c.loop-byte.fields.items (c.field_here.result ∷ []), c.loop-byte.invariant.room);
    }

pub loop-byte-preserved : goal.loop-byte-preserved
loop-byte-preserved c =
    let b : begins_field c.loop-byte.before c.in-Some.byte ≡ false = cc in
    record {
      so_far = fields-same c.loop-byte.fields.items c.loop-byte.before c.in-Some.byte c.loop-byte.left.now c.in-Some.behind.now _ c.in-Some.ensures b c.loop-byte.invariant.so_far;
      room = omega (arith, ap length c.in-Some.ensures, c.loop-byte.invariant.room);
    }

pub returns-clause-fields : goal.returns-clause-fields
returns-clause-fields c = fields-end c.loop-byte.fields.items c.loop-byte.before c.loop-byte.left.now _ c.in_default.ensures c.loop-byte.invariant.so_far

pub returns-clause-low : goal.returns-clause-low
returns-clause-low c =
    let all = fields-end c.loop-byte.fields.items c.loop-byte.before c.loop-byte.left.now _ c.in_default.ensures c.loop-byte.invariant.so_far in
    subst (All (λ (f : LetterField). f.low < 64)) (sym all) (fields-low 0 c.args.pattern.now 64 c.requires)

pub returns-clause-few : goal.returns-clause-few
returns-clause-few c = omega (arith, c.loop-byte.invariant.room)

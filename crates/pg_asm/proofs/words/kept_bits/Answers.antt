use Rattle.std.proofs.Common.{◌≡◌, ◌*◌, ◌^◌, length, ap, ◌∙◌, rules}
use Rattle.pg_asm.proofs.FieldLemmas.{kept-room}
use Rattle.pg_asm.proofs.words.kept_bits.Goals as goal

pub overflow_add-kept : goal.overflow_add-kept
overflow_add-kept c =
    let room = kept-room c.in-Some.byte c.args.word c.loop-byte.kept c.placed-kept.result c.loop-byte.left.now c.in-Some.behind.now c.args.pattern.now c.in-Some.ensures c.requires
    (c.placed-kept.ensures ∙ ap (λ b. b * 2 ^ length c.in-Some.behind.now) c.kept_bit.ensures.value) c.loop-byte.invariant.sum in
    search (rules, room)

use Rattle.std.proofs.Common.{◌≤◌, Bool, true, false, List, length, sym, subst, arith}
use Rattle.pg_circuit.specs.declared.node.Gate.{Gate}
use Rattle.pg_ask.proofs.NumberSteps.{number_room}
use Rattle.pg_ask.proofs.states.number.Goals as goal
use mir.Val.{bool_byte}

byte-small : (b : Bool) → bool_byte b ≤ 1
byte-small true = omega arith
byte-small false = omega arith

pub overflow_mul-number : goal.overflow_mul-number
overflow_mul-number c =
    let wide = subst (λ (gs : List Gate). length gs ≤ 64) (sym c.as_slice-gates.ensures.gates) c.as_slice-gates.ensures.width.most in
    let room = number_room c.args.assignment.now c.as_slice-gates.result.now c.loop-k.k c.loop-k.number c.loop-k.invariant c.loop-k-test.true wide in
    omega (arith, room)

pub overflow_add-number : goal.overflow_add-number
overflow_add-number c =
    let wide = subst (λ (gs : List Gate). length gs ≤ 64) (sym c.as_slice-gates.ensures.gates) c.as_slice-gates.ensures.width.most in
    let room = number_room c.args.assignment.now c.as_slice-gates.result.now c.loop-k.k c.loop-k.number c.loop-k.invariant c.loop-k-test.true wide in
    let small : c.from.result ≤ 1 = subst (λ n. n ≤ 1) (sym c.from.ensures) (byte-small c.value-bit.result) in
    omega (arith, room, small)

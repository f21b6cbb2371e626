use Rattle.std.proofs.Common.{◌≡◌, ℕ, ◌%◌, ap, arith}
use Rattle.pg_cmd_gen.specs.Draws.{draw}
use Rattle.pg_cmd_gen.proofs.FromState.{four-behind, draw-behind}
use Rattle.pg_cmd_gen.proofs.programs.word.Goals as goal

pub returns-clause-word : goal.returns-clause-word
returns-clause-word c =
    let s = c.args.draws.now.state in
    let behind = four-behind s _ _ _ _ c.next.ensures.state c.next-x.ensures.state c.next-y.ensures.state c.next-z.ensures.state in
    let pattern : c.next.result % c.args.count ≡ draw s 0 % c.args.count = ap (λ (d : ℕ). d % c.args.count) c.next.ensures.draw in
    let x : c.next-x.result ≡ draw s 1 = draw-behind s _ 1 _ c.next.ensures.state c.next-x.ensures.draw in
    let y : c.next-y.result ≡ draw s 2 = draw-behind s _ 2 _ behind.0 c.next-y.ensures.draw in
    let z : c.next-z.result ≡ draw s 3 = draw-behind s _ 3 _ behind.1 c.next-z.ensures.draw in
    omega (arith, pattern, x, y, z, c.from.ensures)

pub returns-clause-draws : goal.returns-clause-draws
returns-clause-draws c =
    (four-behind c.args.draws.now.state _ _ _ _ c.next.ensures.state c.next-x.ensures.state c.next-y.ensures.state c.next-z.ensures.state).2

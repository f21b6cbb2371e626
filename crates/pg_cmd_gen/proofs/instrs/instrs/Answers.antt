use Rattle.std.proofs.Common.{◌%◌, ℕ, ap, ◌∙◌}
use Rattle.pg_cmd_gen.specs.Bodies.{body_of}
use Rattle.pg_cmd_gen.proofs.FromState.{begun-none, begun-next, draw-behind}
use Rattle.pg_cmd_gen.proofs.instrs.instrs.Goals as goal

pub loop-k-init : goal.loop-k-init
loop-k-init c = begun-none c.args.draws.now.state c.new-instrs.result c.new-instrs.ensures

pub loop-k-preserved : goal.loop-k-preserved
loop-k-preserved c =
    let s = c.args.draws.now.state in
    let k = c.loop-k.k in
    let h = c.loop-k.invariant in
    let made = c.in_ok-instr.ensures in
    begun-next s c.loop-k.instrs k c.loop-k.draws.state c.in_ok-instr.instr _ _ h
    (record {
      name = made.name;
      pattern = made.pattern;
      body = made.body ∙ ap (λ (d : ℕ). body_of (d % 6)) (draw-behind s c.loop-k.draws.state k c.next-draw.result h.behind c.next-draw.ensures.draw);
    })
    c.next-draw.ensures.state c.in_ok-push.ensures.ok

use Rattle.std.proofs.Common.{◌*◌, ap, ◌∙◌, arith}
use Rattle.pg_word.specs.Psw.{packed}
use Rattle.pg_cmd_gen.proofs.FromState.{cells-begun, cells-next, behind-next, none-behind}
use Rattle.pg_cmd_gen.proofs.programs.image.Goals as goal

pub loop-cell-init : goal.loop-cell-init
loop-cell-init c = record {
  cells = cells-begun c.args.draws.now.state c.args.count _ _ _ _ c.new-cells.ensures c.in_ok-push.ensures.ok (c.pack.ensures.word ∙ ap (packed 8) c.power_on.ensures) c.in_ok-push-2.ensures.ok;
  behind = none-behind c.args.draws.now.state;
}

pub loop-cell-preserved : goal.loop-cell-preserved
loop-cell-preserved c =
    let s = c.args.draws.now.state in
    let n = c.loop-cell._cell in
    let h = c.loop-cell.invariant in
    record {
      cells = cells-next s c.args.count n _ _ _ _ h.cells h.behind c.word-word.ensures.word c.in_ok-push-3.ensures.ok;
      behind = behind-next s (4 * n) 4 _ _ _ h.behind c.word-word.ensures.draws (omega arith);
    }

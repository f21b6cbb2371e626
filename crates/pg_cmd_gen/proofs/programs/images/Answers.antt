use Rattle.std.proofs.Common.{◌*◌, arith}
use Rattle.pg_cmd_gen.specs.Images.{program_cells}
use Rattle.pg_cmd_gen.proofs.FromState.{images-begun, images-next, behind-next, none-behind}
use Rattle.pg_cmd_gen.proofs.programs.images.Goals as goal

pub loop-image-init : goal.loop-image-init
loop-image-init c = record {
  images = images-begun c.args.draws.now.state c.args.count _ c.new-images.ensures;
  behind = none-behind c.args.draws.now.state;
}

pub loop-image-preserved : goal.loop-image-preserved
loop-image-preserved c =
    let s = c.args.draws.now.state in
    let n = c.loop-image._image in
    let h = c.loop-image.invariant in
    record {
      images = images-next s c.args.count n _ _ _ _ h.images h.behind c.in_ok-image.ensures.image c.in_ok-push.ensures.ok;
      behind = behind-next s (4 * (program_cells * n)) (4 * program_cells) _ _ _ h.behind c.in_ok-image.ensures.draws (omega arith);
    }

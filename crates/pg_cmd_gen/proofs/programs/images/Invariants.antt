use Rattle.std.proofs.Common.{◌≡◌, ◌*◌}
use Rattle.pg_cmd_gen.specs.Draws.{state_behind}
use Rattle.pg_cmd_gen.specs.Images.{program_cells}
use Rattle.pg_cmd_gen.specs.Drawing.{images_from}
use Rattle.pg_cmd_gen.proofs.programs.images.Given as goal

abbrev pub invariant-loop-image : goal.invariant-loop-image
invariant-loop-image l = record {
  images : l.images ≡ images_from l.fn.draws.state l.count l._image;
  behind : l.draws.state ≡ state_behind l.fn.draws.state (4 * (program_cells * l._image));
}

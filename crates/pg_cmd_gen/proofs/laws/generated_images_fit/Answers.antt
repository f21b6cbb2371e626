use Rattle.std.proofs.Common.{refl}
use Rattle.pg_cmd_gen.proofs.ImageLemmas.{images-filled}
use Rattle.pg_cmd_gen.proofs.laws.generated_images_fit.Goals as goal

pub returns : goal.returns
returns c = record { filled = images-filled; four = λ number count. refl }

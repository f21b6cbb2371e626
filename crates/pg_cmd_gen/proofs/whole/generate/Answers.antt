use Rattle.std.proofs.Common.{◌≡◌, ℕ, All, length, ap, sym, subst}
use Rattle.pg_cmd_gen.specs.Generated.{IsGenerated}
use Rattle.pg_cmd_gen.specs.Images.{images_of, IsFilled}
use Rattle.pg_cmd_gen.proofs.FromState.{images-behind}
use Rattle.pg_cmd_gen.proofs.ValidLemmas.{generated-valid}
use Rattle.pg_cmd_gen.proofs.ImageLemmas.{images-filled}
use Rattle.pg_cmd_gen.proofs.whole.generate.Goals as goal

pub returns-clause-images : goal.returns-clause-images
returns-clause-images c =
    images-behind c.args.number c.args.count _ _ c.in_ok-images.images c.new-draws.ensures c.in_ok-desc.ensures.draws c.in_ok-images.ensures

pub returns-clause-valid : goal.returns-clause-valid
returns-clause-valid c =
    let is : IsGenerated c.args.number c.args.count c.in_ok-desc.desc = subst (λ (n : ℕ). IsGenerated n c.args.count c.in_ok-desc.desc) c.new-draws.ensures c.in_ok-desc.ensures.desc in
    generated-valid c.args.number c.args.count c.in_ok-desc.desc c.requires.least c.requires.most is

pub returns-clause-four : goal.returns-clause-four
returns-clause-four c =
    let images : c.in_ok-images.images ≡ images_of c.args.number c.args.count =
    images-behind c.args.number c.args.count _ _ c.in_ok-images.images c.new-draws.ensures c.in_ok-desc.ensures.draws c.in_ok-images.ensures in
    ap length images

pub returns-clause-filled : goal.returns-clause-filled
returns-clause-filled c =
    let images : c.in_ok-images.images ≡ images_of c.args.number c.args.count =
    images-behind c.args.number c.args.count _ _ c.in_ok-images.images c.new-draws.ensures c.in_ok-desc.ensures.draws c.in_ok-images.ensures in
    subst (All IsFilled) (sym images) (images-filled c.args.number c.args.count c.requires.least c.requires.most)

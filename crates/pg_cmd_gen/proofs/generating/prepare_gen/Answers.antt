use Rattle.std.proofs.Common.{◌≡◌, ◌∙◌, ℕ, sym, subst}
use Rattle.pg_ast.specs.declared.tree.Desc.{Desc}
use Rattle.pg_cmd_gen.specs.Generated.{IsGenerated}
use Rattle.pg_cmd_gen.specs.Images.{images_of}
use Rattle.pg_cmd_gen.proofs.GeneratingLemmas.{input-runs}
use Rattle.pg_cmd_gen.proofs.generating.prepare_gen.Goals as goal

pub invariant_of-result : goal.invariant_of-result
invariant_of-result g c =
    let number = c.args.words.now.number in
    let count = c.instrs.result in
    let machine = c.in_ok-cert.cert.judged.machine in
    let made = c.in_ok-made.made in
    let same : machine.desc ≡ made.desc = c.in_ok-cert.ensures.machine ∙ c.in-Ok.ensures.ok in
    let generated : IsGenerated number count machine.desc = subst (λ (d : Desc). IsGenerated number count d) (sym same) c.in_ok-made.ensures.desc in
    record { can_run = input-runs number count machine made.images generated c.in_ok-made.ensures.four c.in_ok-made.ensures.filled }

pub returns-clause-images : goal.returns-clause-images
returns-clause-images g c =
    subst (λ (n : ℕ). c.in_ok-made.made.images ≡ images_of c.args.words.now.number n) c.instrs.ensures.instrs c.in_ok-made.ensures.images

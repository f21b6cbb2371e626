use Rattle.std.proofs.Common.{◌++◌, ap, ◌∙◌}
use Rattle.pg_cert.specs.declared.line.Line.TheVariants.{Step}
use Rattle.pg_cert.specs.Lines.{line_parts, line_text}
use Rattle.pg_cert.proofs.TextLemmas.{lines_more}
use Rattle.pg_cert.proofs.text.put_steps.Goals as goal

pub loop-step-preserved : goal.loop-step-preserved
unfolding line_text line_parts
loop-step-preserved c = λ shape.
    let old = c.loop-step.into.items in
    lines_more shape Step c.args.steps.now c.loop-step.step-index c.step-item.result old c.put_step.new.into.items _ c.loop-step-test.true
    (c.in_ok-put_step.ensures ∙ ap (λ s. old ++ line_text shape (Step s)) c.step-item.is) (c.loop-step.invariant shape)

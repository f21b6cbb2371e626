use Rattle.std.proofs.Common.{◌++◌, ap, ◌∙◌}
use Rattle.pg_cert.specs.Lines.{line_text}
use Rattle.pg_cert.specs.Texts.{act_line}
use Rattle.pg_cert.proofs.TextLemmas.{lines_more}
use Rattle.pg_cert.proofs.text.put_acts.Goals as goal

pub loop-act-preserved : goal.loop-act-preserved
loop-act-preserved c = λ shape.
    let old = c.loop-act.into.items in
    lines_more shape act_line c.args.acts.now c.loop-act.act-index c.act-item.result old c.put_act.new.into.items _ c.loop-act-test.true
    (c.in_ok-put_act.ensures shape ∙ ap (λ a. old ++ line_text shape (act_line a)) c.act-item.is) (c.loop-act.invariant shape)

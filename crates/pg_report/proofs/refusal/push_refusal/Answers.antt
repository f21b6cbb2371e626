use Rattle.std.proofs.Common.{◌++◌, sym, ◌∙◌, ap}
use Rattle.pg_report.specs.Texts.{refusal_text}
use Rattle.pg_report.proofs.Texts.{pushed-three}
use Rattle.pg_report.proofs.refusal.push_refusal.Goals as goal

pub returns-in-Description : goal.returns-in-Description
unfolding refusal_text
returns-in-Description c = record {
  items = pushed-three _ _ _ _ _ _ _ c.push.ensures.items c.push_description.ensures.items c.push-in-Description.ensures.items ∙ ap (λ line. c.args.text.now.items ++ refusal_text line) (sym c.in-Description.is);
}

use Rattle.std.proofs.Common.{ap, ◌∙◌}
use Rattle.std.specs.Option.{option_map}
use Rattle.pg_asm.specs.declared.mark.Mark.{Mark}
use Rattle.pg_asm.proofs.OperandLemmas.{number-digits, number-name}
use Rattle.pg_asm.proofs.encode.number_of.Goals as goal

pub returns-in-Some-mark_of : goal.returns-in-Some-mark_of
returns-in-Some-mark_of c = λ value said.
    ap (option_map (λ (m : Mark). m.place)) c.in-Some-mark_of.ensures ∙ number-name c.args.labels.now c.args.text.now value c.in-None.ensures said

pub returns-in-None-mark_of : goal.returns-in-None-mark_of
returns-in-None-mark_of c = λ value said.
    ap (option_map (λ (m : Mark). m.place)) c.in-None-mark_of.ensures ∙ number-name c.args.labels.now c.args.text.now value c.in-None.ensures said

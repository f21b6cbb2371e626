use Rattle.std.proofs.Common.{◌≡◌, ◌++◌, drop}
use Rattle.pg_asm.specs.Texts.{fields_text}
use Rattle.pg_out_steps.proofs.line.push_fields.Given as goal

abbrev pub invariant-loop-field : goal.invariant-loop-field
invariant-loop-field l = l.text.items ++ fields_text l.word (drop l.field-index l.fields) ≡ l.initial.text.items ++ fields_text l.word l.fields

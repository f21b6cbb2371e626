use Rattle.std.proofs.Common.{◌≡◌, ◌++◌, drop, map}
use Rattle.pg_word.specs.declared.shape.Shape.{Shape}
use Rattle.pg_cert.specs.Texts.{act_line, lines_text}
use Rattle.pg_cert.proofs.text.put_acts.Given as goal

abbrev pub invariant-loop-act : goal.invariant-loop-act
invariant-loop-act l = (shape : Shape) → l.into.items ++ lines_text shape (map act_line (drop l.act-index l.acts)) ≡ l.initial.into.items ++ lines_text shape (map act_line l.acts)

use Rattle.std.proofs.Common.{◌≡◌, ◌++◌, drop, map}
use Rattle.pg_word.specs.declared.shape.Shape.{Shape}
use Rattle.pg_cert.specs.declared.line.Line.TheVariants.{Step}
use Rattle.pg_cert.specs.Texts.{lines_text}
use Rattle.pg_cert.proofs.text.put_steps.Given as goal

abbrev pub invariant-loop-step : goal.invariant-loop-step
invariant-loop-step l = (shape : Shape) → l.into.items ++ lines_text shape (map Step (drop l.step-index l.steps)) ≡ l.initial.into.items ++ lines_text shape (map Step l.steps)

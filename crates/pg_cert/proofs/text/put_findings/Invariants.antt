use Rattle.std.proofs.Common.{◌≡◌, ◌++◌, drop}
use Rattle.pg_lang_meaning.specs.States.{shape_of}
use Rattle.pg_cert.specs.Texts.{findings_lines, lines_text}
use Rattle.pg_cert.proofs.text.put_findings.Given as goal

abbrev pub invariant-loop-number : goal.invariant-loop-number
invariant-loop-number l =
    l.into.items ++ lines_text (shape_of l.machine.desc) (findings_lines l.machine.desc l.fn.family l.number (drop l.number l.findings))
    ≡ l.initial.into.items ++ lines_text (shape_of l.machine.desc) (findings_lines l.machine.desc l.fn.family 0 l.findings)

use Rattle.std.proofs.Common.{◌+◌, length, ◌∙◌, arith}
use Rattle.std.proofs.lemmas.Result.{err_from_is_err_and}
use Rattle.pg_edge.proofs.PutsLaws.{Puts-none, Puts-then, Puts-stopped}
use Rattle.pg_cert.specs.Texts.{name_of}
use Rattle.pg_cert.specs.Verdicts.{kind_count, marks_of}
use Rattle.pg_report.specs.Verdicts.{answer_line, answer_lines}
use Rattle.pg_report.proofs.Verdicts.{answer_lines-none, answer_lines-next, answer_lines-front, answer_read, marked}
use Rattle.pg_report.proofs.verdict.put_answers.Goals as goal

pub loop-instr-init : goal.loop-instr-init
loop-instr-init g c = rw (answer_lines-none c.args.m.now.desc _ _) (Puts-none _ _ _)

pub marks_of-marks-requires : goal.marks_of-marks-requires
marks_of-marks-requires g c = marked c.args.report.now.family _ _ _ c.requires.whole (omega (arith, c.count-instr-end.ensures, c.loop-instr-test.true))

pub loop-instr-preserved : goal.loop-instr-preserved
loop-instr-preserved g c =
    let d = c.args.m.now.desc in
    let family = c.args.report.now.family in
    let marks = c.args.report.now.marks in
    let i = c.loop-instr.instr in
    let line = answer_line (name_of d i) family (marks_of (kind_count family) marks i) in
    let put = rw (answer_read d family marks _ i _ _ c.name.ensures c.marks_of-marks.ensures.marks (c.as_slice.ensures.value ∙ c.answer_line.ensures)) at c.in_ok-put.ensures.puts in
    rw (answer_lines-next d family marks i) (Puts-then _ _ _ _ _ _ (answer_lines d family marks i) line _ _ c.loop-instr.invariant put)

pub returns-in_err-put : goal.returns-in_err-put
returns-in_err-put g c =
    let d = c.args.m.now.desc in
    let family = c.args.report.now.family in
    let marks = c.args.report.now.marks in
    let i = c.loop-instr.instr in
    let line = answer_line (name_of d i) family (marks_of (kind_count family) marks i) in
    let put = rw (answer_read d family marks _ i _ _ c.name.ensures c.marks_of-marks.ensures.marks (c.as_slice.ensures.value ∙ c.answer_line.ensures)) at c.in_err-put.ensures.puts in
    let fault = err_from_is_err_and c.from_residual.result c.from_residual.ensures.1 in
    let rest = answer_lines-front d family marks (i + 1) (length d.instrs) (omega (arith, c.count-instr-end.ensures)) in
    let front = Puts-then _ _ _ _ _ _ (answer_lines d family marks i) line _ _ c.loop-instr.invariant put in
    rw fault.1 (rw rest.1 (rw (answer_lines-next d family marks i) (Puts-stopped _ _ _ _ _ rest.0 _ _ front)))

use Rattle.std.proofs.Common.{refl, arith}
use Rattle.pg_type.specs.declared.kind.Kind.TheVariants.{Privileged}
use Rattle.pg_report.proofs.KindAnswers.{answers_over, answers_more}
use Rattle.pg_report.proofs.answers.push_answers.Goals as goal

pub loop-place-preserved : goal.loop-place-preserved
loop-place-preserved c =
    let now = c.loop-place.invariant in
    let put = c.push_answer.ensures in record {
      so_far = answers_more c.args.kinds.now c.args.marks.now c.loop-place.place Privileged _ c.index-marks-place.result c.loop-place.line.items _ _
          (omega (arith, c.requires.both, c.loop-place-test.true)) c.loop-place-test.true refl c.index-marks-place.is put.items now.so_far;
      len = omega (arith, put.len, now.len);
    }

pub returns-clause-items : goal.returns-clause-items
returns-clause-items c =
    answers_over c.args.kinds.now c.args.marks.now c.loop-place.place c.loop-place.line.items _ (omega (arith, c.requires.both, c.loop-place-test.false)) c.loop-place.invariant.so_far

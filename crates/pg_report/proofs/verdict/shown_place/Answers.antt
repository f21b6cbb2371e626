use Rattle.std.proofs.Common.{None, Some, arith}
use Rattle.pg_report.proofs.Verdicts.{place_shown}
use Rattle.pg_report.proofs.verdict.shown_place.Goals as goal

pub returns-in-None-clause-place : goal.returns-in-None-clause-place
returns-in-None-clause-place c = omega (arith, place_shown c.args.marks.now None c.in-None.ensures.place)

pub returns-in-Some-clause-place : goal.returns-in-Some-clause-place
returns-in-Some-clause-place c = omega (arith, place_shown c.args.marks.now (Some c.in-Some.place) c.in-Some.ensures.place)

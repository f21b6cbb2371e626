use Rattle.std.proofs.Common.{◌≡◌, ◌+◌, ◌≤◌, ◌++◌, drop}
use Rattle.pg_prog_base.specs.Lrat.{acts_text}
use Rattle.pg_prog_base.proofs.lrat.push_acts.Given as goal

abbrev pub invariant-loop-act : goal.invariant-loop-act
invariant-loop-act l = record {
  text : l.text.items ++ acts_text l.last (drop l.act-index l.acts) ≡ l.initial.text.items ++ acts_text l.fn.clauses l.acts;
  few : l.last ≤ l.fn.clauses + l.act-index;
}

use Rattle.std.proofs.Common.{sym, ◌∙◌}
use Rattle.pg_ask.proofs.AskSteps.{begun_view, decides}
use Rattle.pg_ask.proofs.CausesLaw.{causes-keep}
use Rattle.pg_ask.proofs.asking.ask.Goals as goal

pub draw-requires-clause-instr : goal.draw-requires-clause-instr
draw-requires-clause-instr c = c.requires

pub draw-requires-clause-view : goal.draw-requires-clause-view
draw-requires-clause-view c =
    begun_view c.args.machine.now.desc c.shape-shape.result.now c.new-touched.result c.new-touched.ensures.view
    c.shape-shape.ensures.numbers

pub draw-requires-clause-over : goal.draw-requires-clause-over
draw-requires-clause-over c = c.new-touched.ensures.over

pub invariant_of-result : goal.invariant_of-result
invariant_of-result c =
    record {
      asked = record {
        valid = c.args.machine.now.valid;
        in_range = c.requires;
        of = c.in_ok-drawn.ensures.made;
      };
    }

pub returns-clause-question : goal.returns-clause-question
returns-clause-question c = λ i here. (c.in_ok-drawn.ensures.made i here).clauses_are

pub returns-clause-causes : goal.returns-clause-causes
returns-clause-causes c =
    λ i causes here. (c.in_ok-drawn.ensures.made i here).clauses_are
    ∙ sym (causes-keep c.args.machine.now.desc i c.args.kind causes)

pub returns-clause-exact : goal.returns-clause-exact
returns-clause-exact c =
    λ i here. decides c.args.machine.now.desc c.args.instr i c.args.kind c.in_ok-drawn.drawn.cnf.clauses
    c.args.machine.now.valid here
    (c.in_ok-drawn.ensures.made i here).clauses_are

pub returns-clause-variables : goal.returns-clause-variables
returns-clause-variables c = c.in_ok-drawn.ensures.variables

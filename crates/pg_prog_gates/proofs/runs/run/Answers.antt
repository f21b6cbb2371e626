use Rattle.std.proofs.Common.{ap, ◌∙◌}
use Rattle.pg_cells.specs.View.{View}
use Rattle.pg_prog_gates.proofs.OverLemmas.{over_after}
use Rattle.pg_prog_gates.proofs.runs.run.Goals as goal

pub returns-clause-over : goal.returns-clause-over
returns-clause-over c =
    over_after c.args.machine.now.desc c.args.instr c.args.regs.now c.args.circuit.now.nodes c.args.touched.now c.run_symbolic.new.c.nodes c.run_symbolic.new.t c.in_ok-_outcome._outcome
    c.requires.instr c.requires.no_write c.run_symbolic.ensures.runs c.in_ok-_outcome.ensures.made
    (ap (λ (v : View). v.w) c.in_ok-_outcome.ensures.view ∙ c.requires.word_width) (ap (λ (v : View). v.a) c.in_ok-_outcome.ensures.view ∙ c.requires.address_width)

use Rattle.std.proofs.Common.{◌∙◌, sym, ap, subst}
use Rattle.pg_cells.specs.View.{View}
use Rattle.pg_cells.specs.Over.{IsOver}
use Rattle.pg_vec.proofs.Kept.{all_there_later}
use Rattle.pg_ask.proofs.RunSteps.{run_over, ended_step, view_end, end_leaves}
use Rattle.pg_ask.proofs.ends.end_of.Goals as goal

pub run_symbolic-requires-clause-word_width : goal.run_symbolic-requires-clause-word_width
run_symbolic-requires-clause-word_width c = ap (λ (x : View). x.w) c.requires.view

pub run_symbolic-requires-clause-address_width : goal.run_symbolic-requires-clause-address_width
run_symbolic-requires-clause-address_width c = ap (λ (x : View). x.a) c.requires.view

pub touch-requires-clause-over : goal.touch-requires-clause-over
touch-requires-clause-over c =
    run_over c.args.m.now.desc c.args.instr c.args.regs.now c.args.circuit.now.nodes c.run_symbolic.new.c.nodes c.args.touched.now c.run_symbolic.new.t c.in_ok-outcome.outcome c.args.m.now.valid c.requires.instr c.args.circuit.now.circuit c.requires.over c.requires.regs c.requires.view c.in_ok-outcome.ensures.view c.in_ok-outcome.ensures.made

pub touch-requires-clause-there : goal.touch-requires-clause-there
touch-requires-clause-there c = all_there_later c.args.circuit.now.nodes c.run_symbolic.new.c.nodes c.args.compared.now c.run_symbolic.ensures.kept c.requires.compared.there

pub touch-requires-clause-width : goal.touch-requires-clause-width
touch-requires-clause-width c = c.requires.compared.wide ∙ sym (ap (λ (x : View). x.a) c.in_ok-outcome.ensures.view ∙ ap (λ (x : View). x.a) c.requires.view)

pub returns-clause-made : goal.returns-clause-made
returns-clause-made c = λ i here.
    ended_step c.args.m.now.desc i c.args.regs.now c.args.compared.now c.args.circuit.now.nodes c.run_symbolic.new.c.nodes c.touch.new.circuit.nodes c.args.touched.now c.run_symbolic.new.t c.touch.new.self c.rewind.new.self c.in_ok-outcome.outcome c.in_ok-word.word
    c.requires.view c.in_ok-outcome.ensures.view (c.in_ok-outcome.ensures.made i here) c.in_ok-word.ensures.made c.in_ok-word.ensures.cells c.rewind.ensures.view

pub returns-clause-view : goal.returns-clause-view
returns-clause-view c = view_end c.args.m.now.desc c.args.touched.now c.run_symbolic.new.t c.touch.new.self c.rewind.new.self _ c.requires.view c.in_ok-outcome.ensures.view c.in_ok-word.ensures.cells c.rewind.ensures.view

pub returns-clause-there : goal.returns-clause-there
returns-clause-there c =
    (end_leaves c.args.m.now.desc c.args.instr c.args.regs.now c.args.compared.now c.args.circuit.now.nodes c.touch.new.circuit.nodes c.args.touched.now.cells c.rewind.new.self.cells _ c.args.m.now.valid c.requires.instr c.args.circuit.now.circuit
    (subst (λ (x : View). IsOver c.args.circuit.now.nodes x) c.requires.view c.requires.over) c.requires.regs c.requires.compared (returns-clause-made c)).there

pub returns-clause-kept : goal.returns-clause-kept
returns-clause-kept c =
    (end_leaves c.args.m.now.desc c.args.instr c.args.regs.now c.args.compared.now c.args.circuit.now.nodes c.touch.new.circuit.nodes c.args.touched.now.cells c.rewind.new.self.cells _ c.args.m.now.valid c.requires.instr c.args.circuit.now.circuit
    (subst (λ (x : View). IsOver c.args.circuit.now.nodes x) c.requires.view c.requires.over) c.requires.regs c.requires.compared (returns-clause-made c)).front

pub returns-clause-over : goal.returns-clause-over
returns-clause-over c =
    let all = end_leaves c.args.m.now.desc c.args.instr c.args.regs.now c.args.compared.now c.args.circuit.now.nodes c.touch.new.circuit.nodes c.args.touched.now.cells c.rewind.new.self.cells _ c.args.m.now.valid c.requires.instr c.args.circuit.now.circuit
    (subst (λ (x : View). IsOver c.args.circuit.now.nodes x) c.requires.view c.requires.over) c.requires.regs c.requires.compared (returns-clause-made c) in
    subst (λ (x : View). IsOver c.touch.new.circuit.nodes x) (sym (returns-clause-view c)) all.over

use Rattle.std.proofs.Common.{◌∙◌, length, sym, ap}
use Rattle.std.proofs.lemmas.Result.{IfOk-weaker}
use Rattle.pg_cells.specs.View.{View}
use Rattle.pg_cells.proofs.OverLaws.{IsOver-later}
use Rattle.pg_vec.proofs.Kept.{front_then}
use Rattle.pg_symex.proofs.RunSteps.{found_instr}
use Rattle.pg_ask.proofs.ThereLaws.{unknowns_on}
use Rattle.pg_ask.proofs.AskSteps.{word_bits, fitted_as}
use Rattle.pg_ask.proofs.asking.fit_at_p.Goals as goal

pub touch-requires-clause-over : goal.touch-requires-clause-over
touch-requires-clause-over c = c.requires.over

pub touch-requires-clause-there : goal.touch-requires-clause-there
touch-requires-clause-there c = c.requires.unknowns.p.there

pub touch-requires-clause-width : goal.touch-requires-clause-width
touch-requires-clause-width c = c.requires.unknowns.p.wide ∙ sym (ap (λ (v : View). v.a) c.requires.view)

pub fit-requires-clause-unknowns : goal.fit-requires-clause-unknowns
fit-requires-clause-unknowns c =
    unknowns_on c.args.circuit.now.nodes c.touch.new.circuit.nodes _ c.args.u.now c.touch.ensures.grows.front
    c.requires.unknowns

pub fit-requires-clause-word : goal.fit-requires-clause-word
fit-requires-clause-word c =
    word_bits c.args.machine.now.desc c.args.instr c.index-instrs-instr.result (length c.touch.new.circuit.nodes) _
    c.in_ok-word.word
    c.args.machine.now.valid
    (found_instr c.as_slice-instrs.result.now c.args.machine.now.desc.instrs c.args.instr c.index-instrs-instr.result
    c.as_slice-instrs.ensures c.requires.instr c.index-instrs-instr.is)
    c.in_ok-word.ensures.there c.in_ok-word.ensures.width (ap (λ (v : View). v.w) c.requires.view)

pub returns-clause-made : goal.returns-clause-made
returns-clause-made c =
    IfOk-weaker c.fit.result _ _
    (λ f made. fitted_as c.args.machine.now.desc c.args.instr c.args.kind c.index-instrs-instr.result
    c.args.circuit.now.nodes
    c.touch.new.circuit.nodes c.fit.new.circuit.nodes c.args.u.now c.in_ok-word.word f.usable f.gate c.args.touched.now
    (found_instr c.as_slice-instrs.result.now c.args.machine.now.desc.instrs c.args.instr c.index-instrs-instr.result
    c.as_slice-instrs.ensures c.requires.instr c.index-instrs-instr.is)
    c.in_ok-word.ensures.made made)
    c.fit.ensures.made

pub returns-clause-cells : goal.returns-clause-cells
returns-clause-cells c = IfOk-weaker c.fit.result _ _ (λ f made. c.in_ok-word.ensures.cells) c.fit.ensures.made

pub returns-clause-over : goal.returns-clause-over
returns-clause-over c =
    IfOk-weaker c.fit.result _ _
    (λ f there. IsOver-later c.touch.new.circuit.nodes c.fit.new.circuit.nodes c.touch.new.self there.front
    c.touch.ensures.over)
    c.fit.ensures.there

pub returns-clause-there : goal.returns-clause-there
returns-clause-there c =
    IfOk-weaker c.fit.result _ _
    (λ f there. record {
      front = front_then c.args.circuit.now.nodes c.touch.new.circuit.nodes c.fit.new.circuit.nodes
          c.touch.ensures.grows.front there.front;
      are_bits = there.are_bits;
    })
    c.fit.ensures.there

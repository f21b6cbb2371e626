use Rattle.pg_symex.proofs.RunLaw.{all_run_right}
use Rattle.pg_symex.proofs.RunSteps.{over_as, found_instr, found_decoder, outcome_found}
use Rattle.pg_symex.proofs.StmtCosts.{few_of_valid}
use Rattle.pg_symex.proofs.symbolic.run_symbolic.Goals as goal

pub returns-clause-runs : goal.returns-clause-runs
returns-clause-runs c = λ i found none.
    all_run_right c.args.m.now.desc c.args.instr i c.args.regs.now c.args.c.now.nodes c.args.t.now.cells c.args.m.now.valid found c.args.c.now.circuit
    (over_as c.args.c.now.nodes c.args.t.now _ _ c.requires.word_width c.requires.address_width none c.requires.over) c.requires.regs

pub returns-clause-few : goal.returns-clause-few
returns-clause-few c =
    few_of_valid c.args.m.now.desc c.args.instr c.index-instrs-instr.result c.args.t.now.writes c.args.c.now.nodes c.run_instr.new.c.nodes c.args.m.now.valid
    (found_instr c.as_slice-instrs.result.now c.args.m.now.desc.instrs c.args.instr c.index-instrs-instr.result c.as_slice-instrs.ensures c.requires.instr c.index-instrs-instr.is) c.run_instr.ensures.few

pub run_instr-requires : goal.run_instr-requires
run_instr-requires c = record {
  may = record {
    number = c.args.instr;
    found = found_instr c.as_slice-instrs.result.now c.args.m.now.desc.instrs c.args.instr c.index-instrs-instr.result c.as_slice-instrs.ensures c.requires.instr c.index-instrs-instr.is;
    decoder_is = found_decoder c.as_slice-instrs.result.now c.args.m.now.desc.instrs c.args.instr c.index-instrs-instr.result c.decoder.result.now c.as_slice-instrs.ensures c.requires.instr c.index-instrs-instr.is c.decoder.ensures;
    word_width = c.requires.word_width;
    address_width = c.requires.address_width;
    over = c.requires.over;
    are_regs = c.requires.regs;
  };
}

pub returns-clause-made : goal.returns-clause-made
returns-clause-made c =
    outcome_found c.run_instr.result c.args.m.now.desc c.args.instr c.index-instrs-instr.result c.args.regs.now c.args.c.now.nodes c.run_instr.new.c.nodes c.args.t.now c.run_instr.new.t
    (found_instr c.as_slice-instrs.result.now c.args.m.now.desc.instrs c.args.instr c.index-instrs-instr.result c.as_slice-instrs.ensures c.requires.instr c.index-instrs-instr.is) c.run_instr.ensures.made

pub returns-clause-view : goal.returns-clause-view
returns-clause-view c = c.run_instr.ensures.view

pub returns-clause-kept : goal.returns-clause-kept
returns-clause-kept c = c.run_instr.ensures.kept

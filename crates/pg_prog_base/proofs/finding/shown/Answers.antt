use Rattle.std.proofs.Common.{◌<◌, length, sym, subst}
use Rattle.pg_mach_ready.specs.declared.machine.Machine.{Machine}
use Rattle.pg_prog_base.proofs.RightLemmas.{shown_again, shown_right}
use Rattle.pg_prog_base.proofs.finding.shown.Goals as goal

pub small-one-requires : goal.small-one-requires
small-one-requires c =
    let asked = c.args.asked.now in
    record {
      there = subst (λ k. k < length c.machine.result.now.desc.instrs) (sym c.instr.ensures)
          (subst (λ (m : Machine). asked.instr < length m.desc.instrs) (sym c.machine.ensures) asked.asked.in_range);
      shown = shown_again asked.machine.now c.machine.result.now asked.instr c.instr.result asked.kind c.kind.result c.in_ok-first.first
          c.in_ok-first.second (sym c.machine.ensures) (sym c.instr.ensures) (sym c.kind.ensures) c.in_ok-first.ensures;
    }

pub returns : goal.returns
returns c = λ i at.
    let asked = c.args.asked.now in
    let pair = c.small-one.result in
    shown_right asked.cnf.clauses asked.machine.now.desc i asked.kind pair.0 pair.1 c.pair.result c.pair.ensures.finding
    c.pair.ensures.listed
    (shown_again c.machine.result.now asked.machine.now c.instr.result asked.instr c.kind.result asked.kind pair.0 pair.1 c.machine.ensures
    c.instr.ensures c.kind.ensures c.small-one.ensures i at)

use Rattle.std.proofs.Common.{arith, sym, ◌∙◌}
use Rattle.std.proofs.lemmas.List.{length-map}
use Rattle.pg_lang_valid.specs.Twice.{instr_names}
use Rattle.pg_verify.proofs.NameLemmas.{named_here, named_elsewhere, named_nowhere}
use Rattle.pg_verify.proofs.reading.instr_named.Goals as goal

pub returns-then-eq-clause-named : goal.returns-then-eq-clause-named
returns-then-eq-clause-named c =
    let instrs = c.args.machine.now.desc.instrs in
    named_here (instr_names instrs) c.args.name.now c.loop-instr.instr c.name.result.now
    (omega (arith, length-map instrs (λ i. i.name.bytes), c.count-instr-end.ensures)) c.loop-instr.invariant c.name.ensures (sym c.eq.ensures ∙ c.if-eq.true)

pub loop-instr-preserved : goal.loop-instr-preserved
loop-instr-preserved c =
    named_elsewhere (instr_names c.args.machine.now.desc.instrs) c.args.name.now c.loop-instr.instr c.name.result.now
    c.loop-instr.invariant c.name.ensures (sym c.eq.ensures ∙ c.if-eq.false)

pub returns-clause-named : goal.returns-clause-named
returns-clause-named c =
    let instrs = c.args.machine.now.desc.instrs in
    let same = length-map instrs (λ i. i.name.bytes) in
    named_nowhere (instr_names instrs) c.args.name.now c.loop-instr.instr
    (omega (arith, same, c.count-instr-end.ensures)) (omega (arith, same, c.count-instr-end.ensures)) c.loop-instr.invariant

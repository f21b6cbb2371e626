use Rattle.std.proofs.Common.{◌≡◌, ◌∙◌, refl}
use Rattle.pg_cmd_base.specs.declared.status.Status.TheVariants.{Done}
use Rattle.pg_cmd_base.specs.World.{IsUntouched, around}
use Rattle.pg_cmd_base.proofs.CarryLemmas.{carries-done, carries-broken}
use Rattle.pg_cmd_plain.specs.Disasm.{disasm_command}
use Rattle.pg_cmd_plain.specs.AsmPlans.{written}
use Rattle.pg_cmd_plain.proofs.EndsLemmas.{disasm-ends}
use Rattle.pg_cmd_plain.proofs.disasm.carry_disasm.Goals as goal

pub returns-in-Ok-put_text-clause-carries : goal.returns-in-Ok-put_text-clause-carries
returns-in-Ok-put_text-clause-carries g c =
    let p = c.in-Ok.plan in
    let old = around g.F.Shelf g.S.Sink g.H.Hardware c.args.shelf.now c.args.out.now c.args.hw.now in
    let new = around g.F.Shelf g.S.Sink g.H.Hardware c.prepare_disasm.new.shelf c.put_text.new.out c.args.hw.now in
    let same : IsUntouched old new = record { files = c.prepare_disasm.ensures.reads.same_files; saves = c.prepare_disasm.ensures.reads.same_saves; hw = refl } in
    let ends = disasm-ends (written p) old new c.deref.result.now (record { valid = p.machine.valid; within = p.within; words = p.words }) (c.deref.ensures.value ∙ p.said) same in
    carries-done (disasm_command c.args.words.now) old new (written p) c.deref.result.now c.in-Ok.ensures.comes ends c.in-Ok-put_text.ensures.whole

pub returns-clause-carries : goal.returns-clause-carries
returns-clause-carries g c =
    let p = c.in-Ok.plan in
    let old = around g.F.Shelf g.S.Sink g.H.Hardware c.args.shelf.now c.args.out.now c.args.hw.now in
    let new = around g.F.Shelf g.S.Sink g.H.Hardware c.prepare_disasm.new.shelf c.put_text.new.out c.args.hw.now in
    let same : IsUntouched old new = record { files = c.prepare_disasm.ensures.reads.same_files; saves = c.prepare_disasm.ensures.reads.same_saves; hw = refl } in
    let ends = disasm-ends (written p) old new c.deref.result.now (record { valid = p.machine.valid; within = p.within; words = p.words }) (c.deref.ensures.value ∙ p.said) same in
    carries-broken (disasm_command c.args.words.now) old new (written p) Done c.deref.result.now c.in-Ok.ensures.comes ends (record { cause = c.in-Err-put_text.ensures.cause; front = c.in-Err-put_text.ensures.front })

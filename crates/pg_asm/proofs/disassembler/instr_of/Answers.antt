use Rattle.std.proofs.Common.{◌≤◌, List, length, get_or, ap, ◌∙◌, arith}
use Rattle.pg_ast.specs.declared.tree.Instr.{Instr}
use Rattle.pg_lang_valid.proofs.PatternFacts.{valid-short}
use Rattle.pg_asm.proofs.disassembler.instr_of.Goals as goal

pub returns-clause-short : goal.returns-clause-short
returns-clause-short c =
    let i = c.index-as_slice-number.result in
    let same = c.index-as_slice-number.is ∙ ap (λ (is : List Instr). get_or is c.args.number i) c.as_slice.ensures in
    let short : length i.pattern.bytes ≤ 64 =
    omega (arith, ap (λ (x : Instr). length x.pattern.bytes) same, valid-short c.args.machine.now.desc c.args.machine.now.valid c.args.number i c.requires) in
    short

use Rattle.std.proofs.Common.{◌≤◌, List, length, get_or, ap, ◌∙◌, arith}
use Rattle.pg_ast.specs.declared.tree.Instr.{Instr}
use Rattle.pg_lang_valid.proofs.PatternFacts.{valid-short}
use Rattle.pg_out_steps.proofs.line.instr_of.Goals as goal

pub returns-clause-short : goal.returns-clause-short
returns-clause-short c =
    let i = c.index-as_slice-k.result in
    let same = c.index-as_slice-k.is ∙ ap (λ (is : List Instr). get_or is c.args.k i) c.as_slice.ensures in
    let short : length i.pattern.bytes ≤ 64 =
    omega (arith, ap (λ (x : Instr). length x.pattern.bytes) same, valid-short c.args.m.now.desc c.args.m.now.valid c.args.k i c.requires) in
    short

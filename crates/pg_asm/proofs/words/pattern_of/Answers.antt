use Rattle.std.proofs.Common.{◌≡◌, ◌≤◌, List, length, get_or, All, ap, sym, ◌∙◌, arith}
use Rattle.pg_ast.specs.declared.tree.Instr.{Instr}
use Rattle.pg_lang_valid.proofs.PatternFacts.{valid-short}
use Rattle.pg_asm.proofs.DecodeLemmas.{pattern-at, pattern-length}
use Rattle.pg_asm.proofs.words.pattern_of.Goals as goal

pub returns-clause-pattern : goal.returns-clause-pattern
returns-clause-pattern c =
    c.as_bytes.ensures ∙ ap (λ (is : List Instr). (get_or is c.args.number c.index-as_slice-number.result).pattern.bytes) c.as_slice.ensures
    ∙ pattern-at c.args.machine.now.desc.instrs c.args.number c.index-as_slice-number.result c.requires

pub returns-clause-len : goal.returns-clause-len
returns-clause-len c =
    ap length c.as_bytes.ensures ∙ ap (λ (is : List Instr). length (get_or is c.args.number c.index-as_slice-number.result).pattern.bytes) c.as_slice.ensures
    ∙ pattern-length c.args.machine.now.desc c.args.number c.index-as_slice-number.result c.args.machine.now.valid c.requires

pub returns-clause-short : goal.returns-clause-short
returns-clause-short c =
    let same : c.as_bytes.result.now ≡ (get_or c.args.machine.now.desc.instrs c.args.number c.index-as_slice-number.result).pattern.bytes =
    c.as_bytes.ensures ∙ ap (λ (is : List Instr). (get_or is c.args.number c.index-as_slice-number.result).pattern.bytes) c.as_slice.ensures in
    omega (arith, ap length same, valid-short c.args.machine.now.desc c.args.machine.now.valid c.args.number c.index-as_slice-number.result c.requires)

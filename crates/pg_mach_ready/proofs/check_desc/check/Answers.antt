use Rattle.std.proofs.Common.{◌≤◌, List, length, All, sym, subst}
use Rattle.pg_ast.specs.declared.tree.Instr.{Instr}
use Rattle.pg_lang_valid.proofs.PatternFacts.{valid-short}
use Rattle.pg_lang_valid.proofs.FaultLemmas.{valid_memory}
use Rattle.pg_mach_ready.specs.Skips.{IsTable}
use Rattle.pg_mach_ready.proofs.check_desc.check.Goals as goal

pub returns-in-Err-clause-only_memory : goal.returns-in-Err-clause-only_memory
returns-in-Err-clause-only_memory c = λ v. valid_memory c.args.desc c.in-Err.fault c.in-Err.ensures.fault v

pub of-requires : goal.of-requires
of-requires c =
    let P : List Instr → Type 0 = λ is. All (λ i. length i.pattern.bytes ≤ 64) is in
    subst P (sym c.as_slice.ensures) (valid-short c.args.desc c.in-Ok.ensures.valid)

pub of-requires-in-Ok-of-2-clause-table_is : goal.of-requires-in-Ok-of-2-clause-table_is
of-requires-in-Ok-of-2-clause-table_is c =
    let t = c.in-Ok-of.table in
    let P : List Instr → Type 0 = λ is. IsTable is t.decoders.items t.opcodes.items t.shift t.skips.items in
    subst P c.as_slice.ensures c.in-Ok-of.ensures.table

use Rattle.pg_asm.proofs.SourceBack.{source_text-assembles}
use Rattle.pg_asm.proofs.laws.disassembled_text_assembles.Goals as goal

pub returns : goal.returns
returns c size cells len few fits short = source_text-assembles c.args.desc.now size cells c.requires len few fits short

use Rattle.pg_asm.proofs.ShownBack.{asm_text-reads_back}
use Rattle.pg_asm.proofs.laws.asm_text_reads_back.Goals as goal

pub returns : goal.returns
returns c w size cells bytes least most len few fits = asm_text-reads_back w size cells bytes least most len few fits

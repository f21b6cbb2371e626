use Rattle.pg_asm.proofs.SourceFacts.{asm_text-of_source}
use Rattle.pg_asm.proofs.laws.assembled_text_reads_back.Goals as goal

pub returns : goal.returns
returns c = λ size text cells few due. asm_text-of_source c.args.desc.now size text cells c.requires few due

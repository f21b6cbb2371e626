use Rattle.pg_asm.proofs.SourceFacts.{source-image}
use Rattle.pg_asm.proofs.laws.assembled_images_fit.Goals as goal

pub returns-clause-len : goal.returns-clause-len
returns-clause-len c = λ size text cells due. (source-image c.args.desc.now size text cells c.requires due).len

pub returns-clause-fit : goal.returns-clause-fit
returns-clause-fit c = λ size text cells due. (source-image c.args.desc.now size text cells c.requires due).fit

use Rattle.pg_type.proofs.PaperLemmas.{accepted-paper}
use Rattle.pg_type.proofs.laws.accepted_means_paper_words.Goals as goal

pub returns : goal.returns
returns c = accepted-paper c.args.desc.now c.requires

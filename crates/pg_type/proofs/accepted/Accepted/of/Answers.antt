use Rattle.pg_type.proofs.PaperLemmas.{accepted-paper}
use Rattle.pg_type.proofs.accepted.Accepted.of.Goals as goal

pub returns-clause-paper_words : goal.returns-clause-paper_words
returns-clause-paper_words c = accepted-paper c.args.machine.now.desc c.requires

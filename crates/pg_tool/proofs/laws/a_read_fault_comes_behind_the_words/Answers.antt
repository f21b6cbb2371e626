use Rattle.pg_tool.proofs.AskedLemmas.{misread_words}
use Rattle.pg_tool.proofs.laws.a_read_fault_comes_behind_the_words.Goals as goal

pub returns : goal.returns
returns c = misread_words

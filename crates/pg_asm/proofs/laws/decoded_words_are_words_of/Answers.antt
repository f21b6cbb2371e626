use Rattle.pg_asm.proofs.DecodeLemmas.{decoded-is, remade}
use Rattle.pg_asm.proofs.laws.decoded_words_are_words_of.Goals as goal

pub returns-clause-there : goal.returns-clause-there
returns-clause-there c = λ word number values h. (decoded-is c.args.desc.now.instrs word number values h).within

pub returns-clause-matched : goal.returns-clause-matched
returns-clause-matched c = λ word number values h. (decoded-is c.args.desc.now.instrs word number values h).matched

pub returns-clause-fit : goal.returns-clause-fit
returns-clause-fit c = λ word number values h. (remade c.args.desc.now.instrs word number values (decoded-is c.args.desc.now.instrs word number values h)).fits

pub returns-clause-again : goal.returns-clause-again
returns-clause-again c = λ word number values h. (remade c.args.desc.now.instrs word number values (decoded-is c.args.desc.now.instrs word number values h)).kept

use Rattle.std.proofs.Common.{sym, ap, ◌∙◌, arith}
use Rattle.pg_word.specs.Psw.{window_len_of}
use Rattle.pg_word.proofs.SparseLemmas.{length-storage_of}
use Rattle.pg_out_pair.proofs.touched.length_of.Goals as goal

pub returns-clause-value : goal.returns-clause-value
returns-clause-value c = c.window_len.ensures ∙ ap (λ n. window_len_of c.args.state.now.psw n) (sym (length-storage_of c.args.state.now.size c.args.state.now.cells))

pub returns-clause-within : goal.returns-clause-within
returns-clause-within c = λ a l. omega (arith, c.window_len.ensures)

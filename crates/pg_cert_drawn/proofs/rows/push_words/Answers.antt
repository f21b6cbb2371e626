use Rattle.std.proofs.Common.{arith, ◌∙◌}
use Rattle.pg_cert_drawn.proofs.PushedRows.{row_goes_on}
use Rattle.pg_cert_drawn.proofs.rows.push_words.Goals as goal

pub loop-word-preserved : goal.loop-word-preserved
loop-word-preserved c =
    let told = c.in_ok-push_word.ensures in
    record {
      so_far = row_goes_on c.args.state.now.cells c.loop-word.state.cells c.push_word.new.state.cells c.args.first c.args.words.now c.loop-word.at c.loop-word.word-index
          (omega arith) told.cells c.loop-word.invariant.so_far;
      same_size = told.size ∙ c.loop-word.invariant.same_size;
      same_psw = told.psw ∙ c.loop-word.invariant.same_psw;
    }

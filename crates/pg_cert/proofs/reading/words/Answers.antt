use Rattle.std.proofs.Common.{drop, arith}
use Rattle.pg_cert.specs.Reading.{read_words}
use Rattle.pg_cert.proofs.Walks.{words_none, words_more, words_over}
use Rattle.pg_cert.proofs.reading.words.Goals as goal

pub returns-in-None : goal.returns-in-None
returns-in-None c =
    let parts = c.args.parts.now in
    words_none c.args.w (read_words c.args.w (drop c.args.from parts)) c.loop-at.words c.loop-at.at parts _ c.hex_word_of.result (omega (arith, c.len-at-end.ensures, c.loop-at-test.true)) c.part.ensures c.hex_word_of.ensures.value c.in-None.is c.loop-at.invariant

pub loop-at-preserved : goal.loop-at-preserved
loop-at-preserved c =
    let parts = c.args.parts.now in
    words_more c.args.w (read_words c.args.w (drop c.args.from parts)) c.loop-at.words _ c.loop-at.at parts _ c.hex_word_of.result c.in-Some.word (omega (arith, c.len-at-end.ensures, c.loop-at-test.true)) c.part.ensures c.hex_word_of.ensures.value c.in-Some.is c.in_ok-push-in-Some.ensures.ok c.loop-at.invariant

pub returns : goal.returns
returns c =
    let parts = c.args.parts.now in
    words_over c.args.w (read_words c.args.w (drop c.args.from parts)) c.loop-at.words c.loop-at.at parts (omega (arith, c.len-at-end.ensures, c.loop-at-test.false)) c.loop-at.invariant

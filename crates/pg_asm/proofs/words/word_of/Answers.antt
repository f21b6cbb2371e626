use Rattle.std.proofs.Common.{◌≡◌, ◌<◌, ◌^◌, true, length, sym, ap, subst, ◌∙◌, arith}
use Rattle.pg_asm.specs.Words.{IsWordOf, fit, fields_of, pattern_of, word_by}
use Rattle.pg_asm.proofs.WordLemmas.{word-is, word-fits}
use Rattle.pg_asm.proofs.words.word_of.Goals as goal

pub returns-clause-word : goal.returns-clause-word
returns-clause-word c =
    let p = pattern_of c.args.machine.now.desc.instrs c.args.number in
    let same = c.word_by.ensures ∙ ap (λ q. word_by q c.args.values.now) c.pattern_of.ensures.pattern in
    subst (IsWordOf p c.args.values.now) (sym same) (word-is p c.args.values.now c.requires.fit)

pub returns-clause-fits : goal.returns-clause-fits
returns-clause-fits c =
    let p = pattern_of c.args.machine.now.desc.instrs c.args.number in
    let same = c.word_by.ensures ∙ ap (λ q. word_by q c.args.values.now) c.pattern_of.ensures.pattern in
    let size = ap (λ n. 2 ^ n) (sym (ap length c.pattern_of.ensures.pattern) ∙ c.pattern_of.ensures.len) in
    omega (arith, same, size, word-fits p c.args.values.now c.requires.fit)

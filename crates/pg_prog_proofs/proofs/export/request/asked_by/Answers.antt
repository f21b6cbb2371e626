use Rattle.std.proofs.Common.{sym, ◌∙◌, string_bytes, Global}
use Rattle.pg_prog_proofs.proofs.WordLemmas.{asked_both, asked_log, is_option}
use Rattle.pg_prog_proofs.proofs.export.request.asked_by.Goals as goal

pub returns-in-len5 : goal.returns-in-len5
returns-in-len5 c =
    asked_log (string_bytes {Z = Global}) c.file-item.result c.cert-item.result c.instr-item.result c.word-item.result c.args.words.now c.request_of.result c.names_of-names.result
    c.as_str.result c.in-len5.len_at_least c.in-len5.len_below c.file-item.is c.cert-item.is c.instr-item.is c.word-item.is c.names_of-names.ensures.file
    c.as_str.ensures.value c.names_of-names.ensures.instr c.names_of-names.ensures.word c.request_of.ensures.names c.request_of.ensures.cert c.request_of.ensures.kind
    c.request_of.ensures.cnf

pub returns-in-len7 : goal.returns-in-len7
returns-in-len7 c =
    let option = sym c.as_str-then-words-lt8.ensures.value ∙ is_option c.as_str-then-words-lt8.result.now c.eq.result c.eq.ensures c.if-eq.true in
    asked_both (string_bytes {Z = Global}) c.file-item-then-words-lt8.result c.cert-item-then-words-lt8.result c.instr-item-then-words-lt8.result
    c.word-item-then-words-lt8.result c.option-item.result c.cnf-item.result c.args.words.now c.request_of-in-len7.result c.names_of-names-in-len7.result
    c.as_str-in-len7.result c.as_str-in-len7-2.result c.in-len7.len_at_least c.in-len7.len_below c.file-item-then-words-lt8.is c.cert-item-then-words-lt8.is
    c.instr-item-then-words-lt8.is c.word-item-then-words-lt8.is c.option-item.is c.cnf-item.is c.names_of-names-in-len7.ensures.file c.as_str-in-len7.ensures.value
    c.names_of-names-in-len7.ensures.instr c.names_of-names-in-len7.ensures.word option c.as_str-in-len7-2.ensures.value c.request_of-in-len7.ensures.names
    c.request_of-in-len7.ensures.cert c.request_of-in-len7.ensures.kind c.request_of-in-len7.ensures.cnf

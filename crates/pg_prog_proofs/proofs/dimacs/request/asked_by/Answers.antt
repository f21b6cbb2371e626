use Rattle.std.proofs.Common.{sym, ap, ◌∙◌, string_bytes, Global}
use Rattle.pg_cert.specs.Reading.{read_kind}
use Rattle.pg_prog_proofs.proofs.WordLemmas.{asks_dimacs}
use Rattle.pg_prog_proofs.proofs.dimacs.request.asked_by.Goals as goal

pub returns : goal.returns
returns c =
    asks_dimacs (string_bytes {Z = Global}) c.file-item.result c.instr-item.result c.word-item.result c.args.words.now _ c.in-len4.len_at_least c.in-len4.len_below
    c.file-item.is c.instr-item.is c.word-item.is c.as_str.ensures.value c.as_str-2.ensures.value c.as_str-3.ensures.value
    (ap read_kind (c.as_str-3.ensures.value ∙ sym c.as_bytes.ensures.value) ∙ sym c.kind.ensures ∙ c.in_ok-kind.was)

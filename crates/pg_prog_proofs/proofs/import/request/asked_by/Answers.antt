use Rattle.std.proofs.Common.{sym, ap, ◌∙◌, string_bytes, Global}
use Rattle.pg_cert.specs.Reading.{read_kind}
use Rattle.pg_prog_proofs.proofs.ImportLemmas.{asks_import}
use Rattle.pg_prog_proofs.proofs.import.request.asked_by.Goals as goal

pub returns : goal.returns
returns c =
    asks_import (string_bytes {Z = Global}) c.desc-item.result c.cert-item.result c.instr-item.result c.word-item.result c.proof-item.result c.file-item.result
    c.args.words.now _ c.in-len7.len_at_least c.in-len7.len_below c.desc-item.is c.cert-item.is c.instr-item.is c.word-item.is c.proof-item.is c.file-item.is
    c.as_str.ensures.value c.as_str-2.ensures.value c.as_str-3.ensures.value c.as_str-4.ensures.value c.as_str-5.ensures.value c.as_str-6.ensures.value
    (ap read_kind (c.as_str-4.ensures.value ∙ sym c.as_bytes.ensures.value) ∙ sym c.kind.ensures ∙ c.in_ok-kind.was)

use Rattle.std.proofs.lemmas.List.{take_all}
use Rattle.pg_lang_token.specs.Words.{most_name_bytes}
use Rattle.pg_report.proofs.Names.{length-name}
use Rattle.pg_report.proofs.laws.names_are_shown_whole.Goals as goal

pub returns : goal.returns
returns c = λ n. take_all most_name_bytes n.bytes (length-name n.bytes n.is_name)

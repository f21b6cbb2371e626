use Rattle.pg_lang_valid.proofs.FaultLemmas.{is_valid, no_fault}
use Rattle.pg_lang_valid.proofs.laws.valid_where_no_fault.Goals as goal

pub returns : goal.returns
returns c = (is_valid c.args.desc.now, no_fault c.args.desc.now)

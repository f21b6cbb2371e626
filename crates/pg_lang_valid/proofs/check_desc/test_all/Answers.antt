use Rattle.pg_lang_valid.proofs.FaultLemmas.{of_shape, of_limits, of_names_once, of_parts, valid_of}
use Rattle.pg_lang_valid.proofs.check_desc.test_all.Goals as goal

pub returns-in-Err-clause-fault : goal.returns-in-Err-clause-fault
returns-in-Err-clause-fault c = of_shape c.args.desc.now c.in-Err.fault c.in-Err.ensures.err

pub returns-in-Err-test_limits-clause-fault : goal.returns-in-Err-test_limits-clause-fault
returns-in-Err-test_limits-clause-fault c = of_limits c.args.desc.now c.in-Err-test_limits.fault c.in-Ok.ensures.ok c.in-Err-test_limits.ensures.err

pub returns-in-Err-test_names_once-clause-fault : goal.returns-in-Err-test_names_once-clause-fault
returns-in-Err-test_names_once-clause-fault c = of_names_once c.args.desc.now c.in-Err-test_names_once.fault c.in-Ok.ensures.ok c.in-Ok-test_limits.ensures.ok c.in-Err-test_names_once.ensures.err

pub returns-in-Err-test_parts-clause-fault : goal.returns-in-Err-test_parts-clause-fault
returns-in-Err-test_parts-clause-fault c = of_parts c.args.desc.now c.in-Err-test_parts.fault c.in-Ok.ensures.ok c.in-Ok-test_limits.ensures.ok c.in-Ok-test_names_once.ensures.ok c.in-Err-test_parts.ensures.err

pub returns-in-Ok-test_parts-clause-valid : goal.returns-in-Ok-test_parts-clause-valid
returns-in-Ok-test_parts-clause-valid c = valid_of c.args.desc.now c.in-Ok.ensures.ok c.in-Ok-test_limits.ensures.ok c.in-Ok-test_names_once.ensures.ok c.in-Ok-test_parts.ensures.ok

use Rattle.pg_lang_valid.proofs.FaultLemmas.{part_patterns, part_overlaps, part_names_known, part_widths, part_none}
use Rattle.pg_lang_valid.proofs.check_desc.test_parts.Goals as goal

pub returns-in-Err-clause-err : goal.returns-in-Err-clause-err
returns-in-Err-clause-err c = part_patterns c.args.desc.now c.in-Err.fault c.in-Err.ensures.err

pub returns-in-Err-test_overlaps-clause-err : goal.returns-in-Err-test_overlaps-clause-err
returns-in-Err-test_overlaps-clause-err c = part_overlaps c.args.desc.now c.in-Err-test_overlaps.fault c.in-Ok.ensures.ok c.in-Err-test_overlaps.ensures.err

pub returns-in-Err-test_names_known-clause-err : goal.returns-in-Err-test_names_known-clause-err
returns-in-Err-test_names_known-clause-err c = part_names_known c.args.desc.now c.in-Err-test_names_known.fault c.in-Ok.ensures.ok c.in-Ok-test_overlaps.ensures.ok c.in-Err-test_names_known.ensures.err

pub returns-in-Err-test_widths-clause-err : goal.returns-in-Err-test_widths-clause-err
returns-in-Err-test_widths-clause-err c = part_widths c.args.desc.now c.in-Err-test_widths.fault c.in-Ok.ensures.ok c.in-Ok-test_overlaps.ensures.ok c.in-Ok-test_names_known.ensures.ok c.in-Err-test_widths.ensures.err

pub returns-in-Ok-test_widths-clause-ok : goal.returns-in-Ok-test_widths-clause-ok
returns-in-Ok-test_widths-clause-ok c = part_none c.args.desc.now c.in-Ok.ensures.ok c.in-Ok-test_overlaps.ensures.ok c.in-Ok-test_names_known.ensures.ok c.in-Ok-test_widths.ensures.ok

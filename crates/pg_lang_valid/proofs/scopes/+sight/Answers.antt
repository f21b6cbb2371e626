-- What each form of statement comes to, by the equation of its form.
use Rattle.std.proofs.Common.{arith}
use Rattle.pg_lang_valid.proofs.CheckStmtEquations.{sight_of_rules}
use Rattle.pg_lang_valid.proofs.scopes.+sight.Goals as goal

pub unknown_in_stmt-returns-in-Err-clause-unknown : goal.unknown_in_stmt-returns-in-Err-clause-unknown
unknown_in_stmt-returns-in-Err-clause-unknown t c = grind (arith, sight_of_rules)

pub unknown_in_stmt-returns-in-Err-clause-after : goal.unknown_in_stmt-returns-in-Err-clause-after
unknown_in_stmt-returns-in-Err-clause-after t c = grind (arith, sight_of_rules)

pub unknown_in_stmt-returns-in-Ok-clause-unknown : goal.unknown_in_stmt-returns-in-Ok-clause-unknown
unknown_in_stmt-returns-in-Ok-clause-unknown t c = grind (arith, sight_of_rules)

pub unknown_in_stmt-returns-in-Ok-clause-after : goal.unknown_in_stmt-returns-in-Ok-clause-after
unknown_in_stmt-returns-in-Ok-clause-after t c = grind (arith, sight_of_rules)

pub unknown_in_stmt-returns-in-Store-clause-unknown : goal.unknown_in_stmt-returns-in-Store-clause-unknown
unknown_in_stmt-returns-in-Store-clause-unknown t c = grind (arith, sight_of_rules)

pub unknown_in_stmt-returns-in-Store-clause-after : goal.unknown_in_stmt-returns-in-Store-clause-after
unknown_in_stmt-returns-in-Store-clause-after t c = grind (arith, sight_of_rules)

pub unknown_in_stmt-returns-in-Trap-clause-unknown : goal.unknown_in_stmt-returns-in-Trap-clause-unknown
unknown_in_stmt-returns-in-Trap-clause-unknown t c = grind (arith, sight_of_rules)

pub unknown_in_stmt-returns-in-Trap-clause-after : goal.unknown_in_stmt-returns-in-Trap-clause-after
unknown_in_stmt-returns-in-Trap-clause-after t c = grind (arith, sight_of_rules)

pub unknown_in_stmt-returns-in-Err-unknown_in_block-clause-unknown : goal.unknown_in_stmt-returns-in-Err-unknown_in_block-clause-unknown
unknown_in_stmt-returns-in-Err-unknown_in_block-clause-unknown t c = grind (arith, sight_of_rules)

pub unknown_in_stmt-returns-in-Err-unknown_in_block-clause-after : goal.unknown_in_stmt-returns-in-Err-unknown_in_block-clause-after
unknown_in_stmt-returns-in-Err-unknown_in_block-clause-after t c = grind (arith, sight_of_rules)

pub unknown_in_stmt-returns-in-None-clause-unknown : goal.unknown_in_stmt-returns-in-None-clause-unknown
unknown_in_stmt-returns-in-None-clause-unknown t c = grind (arith, sight_of_rules)

pub unknown_in_stmt-returns-in-None-clause-after : goal.unknown_in_stmt-returns-in-None-clause-after
unknown_in_stmt-returns-in-None-clause-after t c = grind (arith, sight_of_rules)

pub unknown_in_stmt-returns-in-Err-unknown_in_block-2-clause-unknown : goal.unknown_in_stmt-returns-in-Err-unknown_in_block-2-clause-unknown
unknown_in_stmt-returns-in-Err-unknown_in_block-2-clause-unknown t c = grind (arith, sight_of_rules)

pub unknown_in_stmt-returns-in-Err-unknown_in_block-2-clause-after : goal.unknown_in_stmt-returns-in-Err-unknown_in_block-2-clause-after
unknown_in_stmt-returns-in-Err-unknown_in_block-2-clause-after t c = grind (arith, sight_of_rules)

pub unknown_in_stmt-returns-in-Ok-unknown_in_block-2-clause-unknown : goal.unknown_in_stmt-returns-in-Ok-unknown_in_block-2-clause-unknown
unknown_in_stmt-returns-in-Ok-unknown_in_block-2-clause-unknown t c = grind (arith, sight_of_rules)

pub unknown_in_stmt-returns-in-Ok-unknown_in_block-2-clause-after : goal.unknown_in_stmt-returns-in-Ok-unknown_in_block-2-clause-after
unknown_in_stmt-returns-in-Ok-unknown_in_block-2-clause-after t c = grind (arith, sight_of_rules)

pub unknown_in_stmt-returns-in-Pc-clause-unknown : goal.unknown_in_stmt-returns-in-Pc-clause-unknown
unknown_in_stmt-returns-in-Pc-clause-unknown t c = grind (arith, sight_of_rules)

pub unknown_in_stmt-returns-in-Pc-clause-after : goal.unknown_in_stmt-returns-in-Pc-clause-after
unknown_in_stmt-returns-in-Pc-clause-after t c = grind (arith, sight_of_rules)

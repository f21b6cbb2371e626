-- How each form of statement fares, by the equation of its form.
use Rattle.std.proofs.Common.{arith}
use Rattle.pg_lang_valid.proofs.FareEquations.{fare_rules}
use Rattle.pg_lang_valid.proofs.GrowLemmas.{grow_rules}
use Rattle.pg_lang_valid.proofs.widths.+fare.Goals as goal

pub fare_of-returns-in-Let-clause-fare : goal.fare_of-returns-in-Let-clause-fare
fare_of-returns-in-Let-clause-fare t c = grind (arith, grow_rules, fare_rules)

pub fare_of-returns-in-Let-clause-kept : goal.fare_of-returns-in-Let-clause-kept
fare_of-returns-in-Let-clause-kept t c = grind (arith, grow_rules, fare_rules)

pub fare_of-returns-in-Store-clause-fare : goal.fare_of-returns-in-Store-clause-fare
fare_of-returns-in-Store-clause-fare t c = grind (arith, grow_rules, fare_rules)

pub fare_of-returns-in-Store-clause-kept : goal.fare_of-returns-in-Store-clause-kept
fare_of-returns-in-Store-clause-kept t c = grind (arith, grow_rules, fare_rules)

pub fare_of-returns-in-Mode-clause-fare : goal.fare_of-returns-in-Mode-clause-fare
fare_of-returns-in-Mode-clause-fare t c = grind (arith, grow_rules, fare_rules)

pub fare_of-returns-in-Mode-clause-kept : goal.fare_of-returns-in-Mode-clause-kept
fare_of-returns-in-Mode-clause-kept t c = grind (arith, grow_rules, fare_rules)

pub fare_of-returns-in-Trap-clause-fare : goal.fare_of-returns-in-Trap-clause-fare
fare_of-returns-in-Trap-clause-fare t c = grind (arith, grow_rules, fare_rules)

pub fare_of-returns-in-Trap-clause-kept : goal.fare_of-returns-in-Trap-clause-kept
fare_of-returns-in-Trap-clause-kept t c = grind (arith, grow_rules, fare_rules)

pub fare_of-returns-in-None-clause-fare : goal.fare_of-returns-in-None-clause-fare
fare_of-returns-in-None-clause-fare t c = grind (arith, grow_rules, fare_rules)

pub fare_of-returns-in-None-clause-kept : goal.fare_of-returns-in-None-clause-kept
fare_of-returns-in-None-clause-kept t c = grind (arith, grow_rules, fare_rules)

pub fare_of-returns-in-Some-clause-fare : goal.fare_of-returns-in-Some-clause-fare
fare_of-returns-in-Some-clause-fare t c = grind (arith, grow_rules, fare_rules)

pub fare_of-returns-in-Some-clause-kept : goal.fare_of-returns-in-Some-clause-kept
fare_of-returns-in-Some-clause-kept t c = grind (arith, grow_rules, fare_rules)

pub fare_of-returns-in_default-fares_in_block-clause-fare : goal.fare_of-returns-in_default-fares_in_block-clause-fare
fare_of-returns-in_default-fares_in_block-clause-fare t c = grind (arith, grow_rules, fare_rules)

pub fare_of-returns-in_default-fares_in_block-clause-kept : goal.fare_of-returns-in_default-fares_in_block-clause-kept
fare_of-returns-in_default-fares_in_block-clause-kept t c = grind (arith, grow_rules, fare_rules)

pub fare_of-returns-in_default-fares_in_block-2-clause-fare : goal.fare_of-returns-in_default-fares_in_block-2-clause-fare
fare_of-returns-in_default-fares_in_block-2-clause-fare t c = grind (arith, grow_rules, fare_rules)

pub fare_of-returns-in_default-fares_in_block-2-clause-kept : goal.fare_of-returns-in_default-fares_in_block-2-clause-kept
fare_of-returns-in_default-fares_in_block-2-clause-kept t c = grind (arith, grow_rules, fare_rules)

pub fare_of-returns-in_default-clause-fare : goal.fare_of-returns-in_default-clause-fare
fare_of-returns-in_default-clause-fare t c = grind (arith, grow_rules, fare_rules)

pub fare_of-returns-in_default-clause-kept : goal.fare_of-returns-in_default-clause-kept
fare_of-returns-in_default-clause-kept t c = grind (arith, grow_rules, fare_rules)

pub fare_of-returns-in_default-2-clause-fare : goal.fare_of-returns-in_default-2-clause-fare
fare_of-returns-in_default-2-clause-fare t c = grind (arith, grow_rules, fare_rules)

pub fare_of-returns-in_default-2-clause-kept : goal.fare_of-returns-in_default-2-clause-kept
fare_of-returns-in_default-2-clause-kept t c = grind (arith, grow_rules, fare_rules)

pub fare_of-returns-in-Pc-clause-fare : goal.fare_of-returns-in-Pc-clause-fare
fare_of-returns-in-Pc-clause-fare t c = grind (arith, grow_rules, fare_rules)

pub fare_of-returns-in-Pc-clause-kept : goal.fare_of-returns-in-Pc-clause-kept
fare_of-returns-in-Pc-clause-kept t c = grind (arith, grow_rules, fare_rules)

-- again

-- The width of each form of expression, by the equation of its form.
use Rattle.std.proofs.Common.{arith}
use Rattle.pg_lang_valid.proofs.WidthEquations.{judged_rules}
use Rattle.pg_lang_valid.proofs.widths.+width_of.Goals as goal

pub returns-in-Lit : goal.returns-in-Lit
returns-in-Lit t c = grind (arith, judged_rules)

pub returns-in-Name : goal.returns-in-Name
returns-in-Name t c = grind (arith, judged_rules)

pub returns-in-Pc : goal.returns-in-Pc
returns-in-Pc t c = grind (arith, judged_rules)

pub returns-in-Mode : goal.returns-in-Mode
returns-in-Mode t c = grind (arith, judged_rules)

pub returns-in-Load : goal.returns-in-Load
returns-in-Load t c = grind (arith, judged_rules)

pub returns-in-Not : goal.returns-in-Not
returns-in-Not t c = grind (arith, judged_rules)

pub returns-in-Bin : goal.returns-in-Bin
returns-in-Bin t c = grind (arith, judged_rules)

pub returns-in-Cat : goal.returns-in-Cat
returns-in-Cat t c = grind (arith, judged_rules)

pub returns-in-Cut : goal.returns-in-Cut
returns-in-Cut t c = grind (arith, judged_rules)

pub returns-in-Ext : goal.returns-in-Ext
returns-in-Ext t c = grind (arith, judged_rules)

pub returns-in-Sel : goal.returns-in-Sel
returns-in-Sel t c = grind (arith, judged_rules)

use Rattle.std.proofs.Common.{◌≡◌, true, false, sym, ◌∙◌}
use Rattle.std.proofs.lemmas.List.{take_rest}
use Rattle.pg_asm.specs.Said.{begins_operand}
use Rattle.pg_asm.proofs.LineLemmas.{operand-some, operand-none}
use Rattle.pg_asm.proofs.line.is_operand.Goals as goal

pub returns-then-begins_operand : goal.returns-then-begins_operand
returns-then-begins_operand c =
    let b : begins_operand c.args.part.now ≡ true = cc in
    c.is_value.ensures ∙ operand-some c.args.part.now _ b (take_rest c.args.part.now 2)

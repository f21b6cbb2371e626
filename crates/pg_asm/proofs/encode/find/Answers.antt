use Rattle.std.proofs.Common.{◌≡◌, ℕ, List, bytes_eq, position, ap, ◌∙◌}
use Rattle.pg_lang_valid.specs.Twice.{instr_names}
use Rattle.pg_asm.proofs.LineLemmas.{name-utf8}
use Rattle.pg_asm.proofs.encode.find.Goals as goal

pub returns-in-Ok-clause-number : goal.returns-in-Ok-clause-number
returns-in-Ok-clause-number c =
    c.find.ensures ∙ ap (λ (t : List ℕ). position (λ m. bytes_eq m t) (instr_names c.args.machine.now.desc.instrs)) c.in-Ok.ensures.cases.0

pub returns-in-Err-clause-number : goal.returns-in-Err-clause-number
returns-in-Err-clause-number c = absurd (c.in-Err.ensures.cases.0 (name-utf8 c.args.name.now c.requires))

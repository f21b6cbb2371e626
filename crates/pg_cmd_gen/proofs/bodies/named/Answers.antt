use Rattle.std.proofs.Common.{ℕ, [], ◌∷◌, ap, ◌∙◌}
use Rattle.pg_cmd_gen.proofs.NameLemmas.{field_by-bytes}
use Rattle.pg_cmd_gen.proofs.bodies.named.Goals as goal

pub returns : goal.returns
returns c = field_by-bytes c.args.field c.new.result (c.new.ensures ∙ c.in_ok-letter.ensures ∙ ap (λ (b : ℕ). b ∷ []) c.letter.ensures)

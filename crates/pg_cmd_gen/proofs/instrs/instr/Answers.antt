use Rattle.std.proofs.Common.{ℕ, ◌%◌, List, IsTrue, sym, subst}
use Rattle.std.specs.List.{list_all}
use Rattle.pg_lang_token.specs.Words.{is_name, is_pattern_byte}
use Rattle.pg_ast.specs.Levels.{IsShallow}
use Rattle.pg_cmd_gen.proofs.Tables.{name_at-is_name, pattern_at-is_pattern}
use Rattle.pg_cmd_gen.proofs.BodyLemmas.{body_of-sound}
use Rattle.pg_cmd_gen.proofs.instrs.instr.Goals as goal

pub new-name-requires : goal.new-name-requires
new-name-requires c = subst (λ (bytes : List ℕ). IsTrue (is_name bytes)) (sym c.in_ok-name_bytes.ensures) (name_at-is_name c.args.k c.requires)

pub new-pattern-requires : goal.new-pattern-requires
new-pattern-requires c = subst (λ (bytes : List ℕ). IsTrue (list_all is_pattern_byte bytes)) (sym c.in_ok-pattern_bytes.ensures) (pattern_at-is_pattern c.args.k c.requires)

pub new-requires : goal.new-requires
new-requires c = subst IsShallow (sym c.in_ok-body.ensures) (body_of-sound (c.args.draw % 6)).shallow

use Rattle.std.proofs.Common.{◌≡◌, ◌++◌, map, drop}
use Rattle.pg_ast.specs.Tokens.{flat, instr_tokens, tokens_of}
use Rattle.pg_lang_print.proofs.tokens.desc_tokens.Given as goal

abbrev pub invariant-loop-instr : goal.invariant-loop-instr
invariant-loop-instr l = l.list ++ flat (map instr_tokens (drop l.instr-index l.desc.instrs)) ≡ tokens_of l.desc

use Rattle.std.proofs.Common.{sym, subst}
use Rattle.pg_ast.specs.Levels.{IsShallow}
use Rattle.pg_out_guarded.proofs.GuardLemmas.{guarded-shallow}
use Rattle.pg_out_guarded.proofs.guard.with_guard.Goals as goal

pub new-requires : goal.new-requires
new-requires c = subst IsShallow (sym c.in_ok-longer.ensures) (guarded-shallow c.args.instr.body c.args.instr.shallow)

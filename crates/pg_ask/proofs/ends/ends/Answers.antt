use Rattle.std.proofs.Common.{sym}
use Rattle.pg_ask.proofs.AskSteps.{unknowns_width}
use Rattle.pg_ask.proofs.CodeSteps.{end_width}
use Rattle.pg_ask.proofs.ends.ends.Goals as goal

pub broken-requires-clause-trap : goal.broken-requires-clause-trap
broken-requires-clause-trap c = c.requires.first.trap

pub broken-requires-clause-second_mem_trap : goal.broken-requires-clause-second_mem_trap
broken-requires-clause-second_mem_trap c = c.requires.second.mem_trap

pub broken-requires-clause-second_trap : goal.broken-requires-clause-second_trap
broken-requires-clause-second_trap c = c.requires.second.trap

pub control-requires-clause-unknowns : goal.control-requires-clause-unknowns
control-requires-clause-unknowns c = unknowns_width _ _ _ c.args.u.now (sym c.requires.unknowns.p.wide) c.requires.unknowns

pub control-requires-clause-first : goal.control-requires-clause-first
control-requires-clause-first c = end_width _ _ _ _ c.args.both.now.first (sym c.requires.unknowns.p.wide) c.requires.first

pub mode-requires-clause-unknowns : goal.mode-requires-clause-unknowns
mode-requires-clause-unknowns c = c.requires.unknowns

pub mode-requires-clause-usable : goal.mode-requires-clause-usable
mode-requires-clause-usable c = c.requires.usable

pub mode-requires-clause-first : goal.mode-requires-clause-first
mode-requires-clause-first c = c.requires.first

pub mode-requires-clause-second : goal.mode-requires-clause-second
mode-requires-clause-second c = c.requires.second

pub either-requires-clause-unknowns : goal.either-requires-clause-unknowns
either-requires-clause-unknowns c = c.requires.unknowns

pub either-requires-clause-usable : goal.either-requires-clause-usable
either-requires-clause-usable c = c.requires.usable

pub either-requires-clause-first : goal.either-requires-clause-first
either-requires-clause-first c = c.requires.first

pub either-requires-clause-second : goal.either-requires-clause-second
either-requires-clause-second c = c.requires.second

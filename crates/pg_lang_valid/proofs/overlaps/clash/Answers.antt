use Rattle.std.proofs.Common.{sym, ◌∙◌, arith}
use Rattle.pg_lang_valid.proofs.CheckLemmas.{clash-end}
use Rattle.pg_lang_valid.proofs.overlaps.clash.Goals as goal

pub returns : goal.returns
returns c = sym (clash-end c.args.p.now c.args.q.now c.loop-i.i (omega arith)) ∙ c.loop-i.invariant

use Rattle.std.proofs.Common.{sym, ap, ◌∙◌, Some}
use Rattle.pg_interp.proofs.WriteLemmas.{written-none, written-some}
use Rattle.pg_interp.proofs.overlay.OverlayCells.cell.Goals as goal

pub returns-in-None : goal.returns-in-None
returns-in-None g c = sym (written-none c.args.self.now.writes.now _ c.args.a (sym c.in-None.ensures))

pub returns-in-Some : goal.returns-in-Some
returns-in-Some g c =
    ap Some c.overlaid.ensures ∙ sym (written-some c.args.self.now.writes.now _ c.args.a c.in-Some.cell (sym c.in-Some.ensures))

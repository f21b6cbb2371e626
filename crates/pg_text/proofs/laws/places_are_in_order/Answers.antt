use Rattle.pg_text.proofs.Places.{cut_in_order}
use Rattle.pg_text.proofs.laws.places_are_in_order.Goals as goal

pub returns : goal.returns
returns c ts h = cut_in_order c.args.text.now ts h

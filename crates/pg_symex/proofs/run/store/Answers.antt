use Rattle.pg_vec.proofs.Kept.{all_there_later}
use Rattle.pg_symex.specs.EntryView.{entry_as}
use Rattle.pg_symex.proofs.StmtSteps.{store_flow, store_over}
use Rattle.pg_symex.proofs.run.store.Goals as goal

pub write-requires-clause-over : goal.write-requires-clause-over
write-requires-clause-over c =
    store_over (entry_as c.args.at.now) c.args.c.now.nodes c.access.new.circuit.nodes c.args.t.now c.args.run.now c.access.new.guards c.args.address.now c.requires.ready c.requires.address c.in_ok-access.ensures.made

pub write-requires-clause-guard : goal.write-requires-clause-guard
write-requires-clause-guard c =
    (store_flow (entry_as c.args.at.now) c.args.c.now.nodes c.access.new.circuit.nodes c.args.t.now c.args.run.now c.access.new.guards c.args.address.now c.requires.ready c.requires.address c.in_ok-access.ensures.made).live

pub write-requires-clause-address : goal.write-requires-clause-address
write-requires-clause-address c = all_there_later _ _ c.args.address.now c.access.ensures.kept.front c.requires.address.there

pub write-requires-clause-value : goal.write-requires-clause-value
write-requires-clause-value c = all_there_later _ _ c.args.value.now c.access.ensures.kept.front c.requires.value.there

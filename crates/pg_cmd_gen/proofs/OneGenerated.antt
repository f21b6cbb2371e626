-- `gen` comes to one thing.
use Rattle.std.proofs.Common.{Some, Ok, Err, ap}
use Rattle.pg_cli_table.specs.declared.generating.GenWords.{GenWords}
use Rattle.pg_edge.specs.Shelf.{Files}
use Rattle.pg_cmd_gen.proofs.OneDescription.{one-generated}
use Rattle.pg_cmd_base.specs.Steps.{IsOne}
use Rattle.pg_cmd_gen.specs.Generating.{GenDue}

pub one-gen : (files : Files) (g : GenWords) → IsOne (GenDue g (Some files))
one-gen files g (Ok d) (Ok e) h k = ap (λ x. Ok x) (one-generated g.number g.count d e h k)
one-gen files g (Ok d) (Err why) h k = absurd k
one-gen files g (Err why) b h k = absurd h

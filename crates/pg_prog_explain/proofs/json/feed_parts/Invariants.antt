use Rattle.pg_cmd_base.specs.Answering.{OnlyReads}
use Rattle.pg_prog_explain.proofs.json.feed_parts.Given as goal

abbrev pub invariant-loop : goal.invariant-loop
invariant-loop g l = OnlyReads g.F.Shelf l.initial.shelf l.shelf

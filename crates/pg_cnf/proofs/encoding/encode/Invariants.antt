use Rattle.std.proofs.Common.{◌≡◌, ◌*◌, ◌≤◌, ◌++◌, length, take, drop}
use Rattle.pg_circuit.specs.Nodes.{IsAfter}
use Rattle.pg_cnf.specs.Encoded.{clauses_from}
use Rattle.pg_cnf.proofs.encoding.encode.Given as goal

abbrev pub invariant-loop-number : goal.invariant-loop-number
invariant-loop-number l = record {
  clauses : l.cnf.clauses ++ clauses_from l.number (drop l.number l.nodes) ≡ clauses_from 0 l.nodes;
  few : length l.cnf.clauses ≤ 4 * l.number;
  variables : l.cnf.variables ≡ length l.nodes;
  in_order : IsAfter (take l.number l.nodes) (drop l.number l.nodes);
}

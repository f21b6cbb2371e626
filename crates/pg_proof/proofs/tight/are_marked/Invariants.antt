use Rattle.std.proofs.Common.{◌≡◌, length, drop}
use Rattle.std.specs.List.{list_all}
use Rattle.pg_proof.specs.Places.{is_marked, AreWithin}
use Rattle.pg_proof.proofs.tight.are_marked.Given as goal

abbrev pub invariant-loop-literal : goal.invariant-loop-literal
invariant-loop-literal l = record {
  rest : list_all (is_marked l.flags) (drop l.literal-index l.literals) ≡ list_all (is_marked l.flags) l.literals;
  within : AreWithin (length l.flags) (drop l.literal-index l.literals);
}

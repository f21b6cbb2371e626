use Rattle.std.proofs.Common.{◌∙◌, ap}
use Rattle.pg_proof.specs.Flags.{flags_of}
use Rattle.pg_proof.proofs.FlagLemmas.{IsStamped-zeros, flags_of-zeros}
use Rattle.pg_proof.proofs.marks.Marks.new.Goals as goal

pub invariant_of-result : goal.invariant_of-result
invariant_of-result c = rw c.in_ok-stamps.ensures (IsStamped-zeros c.args.places)

pub returns : goal.returns
returns c = ap (flags_of 1) c.in_ok-stamps.ensures ∙ flags_of-zeros c.args.places

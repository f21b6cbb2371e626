use Rattle.std.proofs.Common.{ℕ, ◌%◌, ap}
use Rattle.pg_cmd_gen.proofs.DrawLemmas.{first_of_0 as first_of_0_is, first_of_2 as first_of_2_is}
use Rattle.pg_cmd_gen.proofs.laws.worked_draws.Goals as goal

pub returns : goal.returns
returns c = record {
  first_of_0 = first_of_0_is;
  body_of_0 = ap (λ (x : ℕ). x % 6) first_of_0_is;
  first_of_2 = first_of_2_is;
  body_of_2 = ap (λ (x : ℕ). x % 6) first_of_2_is;
}

use Rattle.std.proofs.Common.{◌≡◌, refl, arith}
use Rattle.std.proofs.lemmas.List.Elements.{All-push, All-same}
use Rattle.pg_run_still.specs.declared.rounds.Rest.{Rest}
use Rattle.pg_run_still.proofs.GoingLemmas.{no_turns}
use Rattle.pg_run_still.proofs.rounds.none_had.Goals as goal

pub loop-preserved : goal.loop-preserved
loop-preserved c = record {
  count = (let before = c.loop.invariant.count in omega (arith, before, c.push.ensures.len));
  each = All-same (λ (rest : Rest). rest ≡ no_turns) _ _ c.push.ensures.items (All-push (λ (rest : Rest). rest ≡ no_turns) c.loop.rests.items no_turns c.loop.invariant.each refl);
}

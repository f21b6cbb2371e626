use Rattle.std.proofs.Common.{inl, inr, refl}
use Rattle.pg_prog_explain.specs.Calls.{usage_line}
use Rattle.pg_prog_explain.proofs.explain.run.Goals as goal

pub returns-in-None-clause-explained : goal.returns-in-None-clause-explained
unfolding usage_line
returns-in-None-clause-explained g c = λ hw. inl (record {
  given = c.tell_usage.result;
  is = c.code.ensures;
  untaken = record { told = c.tell_usage.ensures.told; untouched = record { files = refl; saves = refl; hw = refl } };
})

pub returns-in-Some-clause-explained : goal.returns-in-Some-clause-explained
returns-in-Some-clause-explained g c = λ hw. inr (c.carry_asked.ensures.taken hw)

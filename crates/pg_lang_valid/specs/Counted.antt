-- Counts that stop at the greatest number of 64 bits.
use Rattle.std.specs.Prelude.{ℕ, ◌+◌, ◌-◌, ◌^◌, min}
use Rattle.pg_lang_valid.specs.declared.limits.Counts.{Counts}
use Rattle.pg_lang_valid.specs.Limits.{Tally}

-- a count, where it is no more than a number of 64 bits can say
abbrev pub stopped : ℕ → ℕ
stopped n = min n (2 ^ 64 - 1)

unfoldable pub capped : Tally → Counts
capped t = record {
  accesses = stopped t.accesses;
  lets = stopped t.lets;
  statements = stopped t.statements;
  expressions = stopped t.expressions;
}

unfoldable pub added : Counts → Counts → Counts
added x y = record {
  accesses = stopped (x.accesses + y.accesses);
  lets = stopped (x.lets + y.lets);
  statements = stopped (x.statements + y.statements);
  expressions = stopped (x.expressions + y.expressions);
}

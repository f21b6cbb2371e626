-- What is left of a sink where a put of a text may fail, and memory for it may be refused.
use Rattle.std.specs.Prelude.{ℕ, ◌≤◌, List, Option, Result, OnOk, OnErr, IsErrOf}
use Rattle.pg_edge.specs.Count.{Rose}
use Rattle.pg_edge.specs.Sink.{Adds, AddsFront}
use Rattle.pg_edge.specs.Told.{BothTold}
use Rattle.pg_out_steps.specs.declared.tracing.TraceFault.{TraceFault}
use Rattle.pg_out_steps.specs.declared.tracing.TraceFault.TheVariants.{Output}

-- this text was put whole, or on either fault a front of it; a fault of the output was counted
pub record PutsUpTo {T : Type 0} (was now : Option (List ℕ)) (before after : ℕ) (text : List ℕ) (result : Result T TraceFault) : Type 0 where
  pub whole : OnOk result (BothTold was now (Adds text))
  pub front : OnErr result (BothTold was now (AddsFront text))
  pub later : before ≤ after
  pub cause : IsErrOf result Output → Rose before after

-- What is executed at P is the instruction that stands there.
use Rattle.std.proofs.Common.{subst}
use Rattle.pg_word.specs.declared.sparse.Sparse.{Sparse}
use Rattle.pg_lang_meaning.specs.States.{window}
use Rattle.pg_lang_meaning.specs.Steps.{Ending, ending}
use Rattle.pg_interp.specs.Outcomes.{IsOutcome}
use Rattle.pg_type.specs.Listed.{state_of}
use Rattle.pg_replay.proofs.RunLemmas.{ending-course}
use Rattle.pg_replay.proofs.observe.run.Goals as goal

pub returns : goal.returns
returns c =
    let d = c.args.m.now.desc in
    subst (λ (e : Ending). IsOutcome d.word (window (state_of c.args.s.now)) e c.execute.result)
    (ending-course d c.args.i.now (state_of c.args.s.now) c.args.m.now.valid c.requires.of c.requires.stands.at)
    (subst (λ (x : Sparse). IsOutcome d.word (window (state_of x)) (ending d (window (state_of x)) c.args.s.now.psw) c.execute.result) c.window_of.ensures c.execute.ensures)

-- Two states that show a kind are a pair that can be told.
use Rattle.pg_type.specs.Listed.{state_of}
use Rattle.pg_out_pair.proofs.PairLemmas.{shown-by}
use Rattle.pg_out_pair.proofs.told.explain.Goals as goal

pub tell_both-requires : goal.tell_both-requires
tell_both-requires c =
    shown-by c.args.m.now.desc c.args.instr c.args.kind (state_of c.args.s.now) (state_of c.args.t.now) c.requires.there
    (λ i at. (c.replay.ensures i at).0 c.if-not-replay.false)

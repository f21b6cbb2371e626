use Rattle.pg_nest.proofs.LevelLemmas.{carries-of}
use Rattle.pg_nest.proofs.level.Level.into_inner.Goals as goal

pub returns-clause-carries : goal.returns-clause-carries
returns-clause-carries g c = λ some.
    let l = c.args.self in
    carries-of l.accepted.machine.now.desc (g.H.Hardware.machinery l.hw).state l.monitor l.idle l.runs l.presents some

use Rattle.std.proofs.Common.{subst, ◌+◌, ◌*◌, ◌^◌, ◌<◌}
use Rattle.pg_word.specs.declared.shape.Shape.{Shape}
use Rattle.pg_hw.proofs.ServingLaws.{IsServedWord-of}
use Rattle.pg_mon_control.proofs.LoadLemmas.{control-word, control-is, Stands-new}
use Rattle.pg_mon_control.proofs.taking.take_storage.Goals as goal

pub poke-requires-clause-word : goal.poke-requires-clause-word
poke-requires-clause-word g c =
    let d = c.args.m.now.desc in
    IsServedWord-of _ d c.pack-word.result c.requires.served
    (control-word d c.pack-word.result c.args.m.now.valid (subst (λ (s : Shape). c.pack-word.result < 2 ^ (3 * s.a + 1)) c.shape-shape.ensures.numbers c.pack-word.ensures.high))

pub returns-clause-stands : goal.returns-clause-stands
returns-clause-stands g c =
    let d = c.args.m.now.desc in
    Stands-new d _ _ c.pack-word.result c.args.m.now.valid c.requires.state c.requires.size c.poke.ensures.poked
    (control-is d _ _ _ c.shape-shape.ensures.numbers c.pack-word.ensures.word c.power_on.ensures)
    (control-word d c.pack-word.result c.args.m.now.valid (subst (λ (s : Shape). c.pack-word.result < 2 ^ (3 * s.a + 1)) c.shape-shape.ensures.numbers c.pack-word.ensures.high))

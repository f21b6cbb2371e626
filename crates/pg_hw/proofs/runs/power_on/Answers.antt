use Rattle.pg_hw.proofs.PokeLemmas.{Poked-switched_on}
use Rattle.pg_hw.proofs.runs.power_on.Goals as goal

pub returns-clause-switched_on : goal.returns-clause-switched_on
returns-clause-switched_on g c =
    Poked-switched_on c.args.image.now _ _ _ _ _ c.poke_all.ensures.poked c.requires.size c.size-size.ensures c.power_on.ensures c.set_psw.ensures.loaded

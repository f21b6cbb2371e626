use Rattle.pg_cmd_base.specs.World.{around}
use Rattle.pg_cmd_base.proofs.CarryLemmas.{exactly-of}
use Rattle.pg_cmd_plain.proofs.OneBare.{one-bare}
use Rattle.pg_prog_go.specs.Bare.{bare_go_command, bare_words}
use Rattle.pg_prog_go.proofs.bare.carry_bare.Goals as goal

pub returns-clause-exactly : goal.returns-clause-exactly
returns-clause-exactly g c = λ files told.
    exactly-of (bare_go_command c.args.words.now) files (around g.F.Shelf g.S.Sink g.H.Hardware c.args.shelf.now c.args.out.now c.args.hw.now)
    (around g.F.Shelf g.S.Sink g.H.Hardware c.carry_out.new.shelf c.carry_out.new.out c.carry_out.new.hw) c.carry_out.result told (one-bare files (bare_words c.args.words.now))
    c.carry_out.ensures.carries

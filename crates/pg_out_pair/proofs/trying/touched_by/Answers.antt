-- States that show a kind are states of the machine.
use Rattle.pg_type.specs.Listed.{state_of}
use Rattle.pg_out_pair.proofs.ReadableLemmas.{readable_states}
use Rattle.pg_out_pair.proofs.trying.touched_by.Goals as goal

pub touched-requires : goal.touched-requires
touched-requires c =
    (readable_states c.args.aim.now.machine.now.desc c.args.aim.now.instr c.args.aim.now.kind (state_of c.args.pair.now.first) (state_of c.args.pair.now.second)
    c.args.aim.now.there c.requires).0

pub touched-requires-2 : goal.touched-requires-2
touched-requires-2 c =
    (readable_states c.args.aim.now.machine.now.desc c.args.aim.now.instr c.args.aim.now.kind (state_of c.args.pair.now.first) (state_of c.args.pair.now.second)
    c.args.aim.now.there c.requires).1

use Rattle.pg_sat.proofs.TurnLemmas.{learned_on, room_left}
use Rattle.pg_sat.proofs.turn.learn.Goals as goal

pub back-requires-clause-room : goal.back-requires-clause-room
back-requires-clause-room c =
    let cnf = c.args.cnf.now in
    room_left cnf.clauses cnf.variables c.args.budget c.args.watches.now c.args.steps.now.items c.requires.solving cnf.few_clauses c.requires.few c.requires.budget

pub returns : goal.returns
returns c =
    let went = c.in_ok-fix in
    learned_on c.args.cnf.now.clauses c.args.cnf.now.variables c.args.budget c.args.watches.now c.back.new.watches c.args.steps.now.items c.back.new.steps.items
    went.fix went.ensures.solving went.ensures.end went.ensures.quiet went.ensures.steps c.requires.few

use Rattle.std.proofs.Common.{◌∙◌, ap, sym, take, drop}
use Rattle.pg_lang_meaning.specs.States.{State}
use Rattle.pg_lang_meaning.specs.Steps.{ByMemTrap, ByTrap, ByNoPattern, Done}
use Rattle.pg_interp.specs.Writes.{written}
use Rattle.pg_interp.specs.declared.effect.Effect.{Effect}
use Rattle.pg_interp.specs.Outcomes.{ending_as, outcome_in}
use Rattle.pg_routine.proofs.KeepLemmas.{IsDone, done-still, done-next, done-kept}
use Rattle.pg_routine.proofs.StepLemmas.{few-writes, seen-words, step-of, traps-of, step-done}
use Rattle.pg_routine.proofs.StoreLemmas.{PokedWithin-more, GrantPoked-as}
use Rattle.pg_routine.proofs.routine.emulate_seen.Goals as goal

pub step_in-ended-requires-clause-words : goal.step_in-ended-requires-clause-words
step_in-ended-requires-clause-words g c =
    seen-words c.args.m.now.desc _ _ _ _ c.span_of-span.result.from c.span_of-span.result.len
    c.requires.within c.span_of-span.ensures.from c.span_of-span.ensures.len c.requires.guest

pub returns-in-MemTrap-clause-grant : goal.returns-in-MemTrap-clause-grant
returns-in-MemTrap-clause-grant g c =
    let w = take c.span_of-span.result.len (drop c.span_of-span.result.from (g.H.Hardware.machinery c.args.hw.now).state.cells) in
    GrantPoked-as c.args.base 8 _ _ _ _
    (ap (λ (r : State). r.cells)
    (step-of c.args.m.now.desc _ _ _ _ _ _ (outcome_in c.step_in-ended.new.frame c.step_in-ended.result) ByMemTrap c.requires.within c.span_of-span.ensures.from c.span_of-span.ensures.len c.step_in-ended.ensures (ap (λ r. ending_as w (outcome_in c.step_in-ended.new.frame r)) c.in-MemTrap.is)))
    c.trap.ensures.grant

pub returns-in-MemTrap-clause-psw : goal.returns-in-MemTrap-clause-psw
returns-in-MemTrap-clause-psw g c =
    let w = take c.span_of-span.result.len (drop c.span_of-span.result.from (g.H.Hardware.machinery c.args.hw.now).state.cells) in
    c.trap.ensures.psw
    ∙ ap (λ r. r.psw)
    (step-of c.args.m.now.desc _ _ _ _ _ _ (outcome_in c.step_in-ended.new.frame c.step_in-ended.result) ByMemTrap c.requires.within c.span_of-span.ensures.from c.span_of-span.ensures.len c.step_in-ended.ensures (ap (λ r. ending_as w (outcome_in c.step_in-ended.new.frame r)) c.in-MemTrap.is))

pub returns-in-MemTrap-clause-trapped : goal.returns-in-MemTrap-clause-trapped
returns-in-MemTrap-clause-trapped g c =
    let w = take c.span_of-span.result.len (drop c.span_of-span.result.from (g.H.Hardware.machinery c.args.hw.now).state.cells) in
    c.trap.ensures.trapped
    ∙ traps-of c.args.m.now.desc _ _ _ _ _ _ (outcome_in c.step_in-ended.new.frame c.step_in-ended.result) ByMemTrap c.requires.within c.span_of-span.ensures.from c.span_of-span.ensures.len c.step_in-ended.ensures (ap (λ r. ending_as w (outcome_in c.step_in-ended.new.frame r)) c.in-MemTrap.is)

pub returns-in-Trap-clause-grant : goal.returns-in-Trap-clause-grant
returns-in-Trap-clause-grant g c =
    let w = take c.span_of-span.result.len (drop c.span_of-span.result.from (g.H.Hardware.machinery c.args.hw.now).state.cells) in
    GrantPoked-as c.args.base 8 _ _ _ _
    (ap (λ (r : State). r.cells)
    (step-of c.args.m.now.desc _ _ _ _ _ _ (outcome_in c.step_in-ended.new.frame c.step_in-ended.result) ByTrap c.requires.within c.span_of-span.ensures.from c.span_of-span.ensures.len c.step_in-ended.ensures (ap (λ r. ending_as w (outcome_in c.step_in-ended.new.frame r)) c.in-Trap.is)))
    c.trap-in-Trap.ensures.grant

pub returns-in-Trap-clause-psw : goal.returns-in-Trap-clause-psw
returns-in-Trap-clause-psw g c =
    let w = take c.span_of-span.result.len (drop c.span_of-span.result.from (g.H.Hardware.machinery c.args.hw.now).state.cells) in
    c.trap-in-Trap.ensures.psw
    ∙ ap (λ r. r.psw)
    (step-of c.args.m.now.desc _ _ _ _ _ _ (outcome_in c.step_in-ended.new.frame c.step_in-ended.result) ByTrap c.requires.within c.span_of-span.ensures.from c.span_of-span.ensures.len c.step_in-ended.ensures (ap (λ r. ending_as w (outcome_in c.step_in-ended.new.frame r)) c.in-Trap.is))

pub returns-in-Trap-clause-trapped : goal.returns-in-Trap-clause-trapped
returns-in-Trap-clause-trapped g c =
    let w = take c.span_of-span.result.len (drop c.span_of-span.result.from (g.H.Hardware.machinery c.args.hw.now).state.cells) in
    c.trap-in-Trap.ensures.trapped
    ∙ traps-of c.args.m.now.desc _ _ _ _ _ _ (outcome_in c.step_in-ended.new.frame c.step_in-ended.result) ByTrap c.requires.within c.span_of-span.ensures.from c.span_of-span.ensures.len c.step_in-ended.ensures (ap (λ r. ending_as w (outcome_in c.step_in-ended.new.frame r)) c.in-Trap.is)

pub returns-in-NoPattern-clause-grant : goal.returns-in-NoPattern-clause-grant
returns-in-NoPattern-clause-grant g c =
    let w = take c.span_of-span.result.len (drop c.span_of-span.result.from (g.H.Hardware.machinery c.args.hw.now).state.cells) in
    GrantPoked-as c.args.base 8 _ _ _ _
    (ap (λ (r : State). r.cells)
    (step-of c.args.m.now.desc _ _ _ _ _ _ (outcome_in c.step_in-ended.new.frame c.step_in-ended.result) ByNoPattern c.requires.within c.span_of-span.ensures.from c.span_of-span.ensures.len c.step_in-ended.ensures (ap (λ r. ending_as w (outcome_in c.step_in-ended.new.frame r)) c.in-NoPattern.is)))
    c.trap-in-NoPattern.ensures.grant

pub returns-in-NoPattern-clause-psw : goal.returns-in-NoPattern-clause-psw
returns-in-NoPattern-clause-psw g c =
    let w = take c.span_of-span.result.len (drop c.span_of-span.result.from (g.H.Hardware.machinery c.args.hw.now).state.cells) in
    c.trap-in-NoPattern.ensures.psw
    ∙ ap (λ r. r.psw)
    (step-of c.args.m.now.desc _ _ _ _ _ _ (outcome_in c.step_in-ended.new.frame c.step_in-ended.result) ByNoPattern c.requires.within c.span_of-span.ensures.from c.span_of-span.ensures.len c.step_in-ended.ensures (ap (λ r. ending_as w (outcome_in c.step_in-ended.new.frame r)) c.in-NoPattern.is))

pub returns-in-NoPattern-clause-trapped : goal.returns-in-NoPattern-clause-trapped
returns-in-NoPattern-clause-trapped g c =
    let w = take c.span_of-span.result.len (drop c.span_of-span.result.from (g.H.Hardware.machinery c.args.hw.now).state.cells) in
    c.trap-in-NoPattern.ensures.trapped
    ∙ traps-of c.args.m.now.desc _ _ _ _ _ _ (outcome_in c.step_in-ended.new.frame c.step_in-ended.result) ByNoPattern c.requires.within c.span_of-span.ensures.from c.span_of-span.ensures.len c.step_in-ended.ensures (ap (λ r. ending_as w (outcome_in c.step_in-ended.new.frame r)) c.in-NoPattern.is)

pub returns-in-Done-clause-grant : goal.returns-in-Done-clause-grant
returns-in-Done-clause-grant g c =
    let effect : Effect = record { writes = c.step_in-ended.new.frame.writes; psw = c.step_in-ended.new.frame.next } in
    let done = ap (outcome_in c.step_in-ended.new.frame) c.in-Done.is in
    let old = (g.H.Hardware.machinery c.args.hw.now).state in
    record {
      state = c.store.ensures.grant.state
          ∙ ap (λ cs. let u : State = record old { cells = cs } in u)
          (step-done c.args.m.now.desc _ _ _ _ _ _ (outcome_in c.step_in-ended.new.frame c.step_in-ended.result) effect _ c.requires.within c.span_of-span.ensures.from c.span_of-span.ensures.len c.step_in-ended.ensures done c.as_slice-writes.ensures);
      tally = PokedWithin-more _ 8 _ _ (few-writes _ _ _ (outcome_in c.step_in-ended.new.frame c.step_in-ended.result) effect c.as_slice-writes.result.now c.step_in-ended.ensures done c.as_slice-writes.ensures) c.store.ensures.grant.tally;
      bottom = c.store.ensures.grant.bottom;
    }

pub returns-in-Done-clause-psw : goal.returns-in-Done-clause-psw
returns-in-Done-clause-psw g c =
    let w = take c.span_of-span.result.len (drop c.span_of-span.result.from (g.H.Hardware.machinery c.args.hw.now).state.cells) in
    let e = Done (record { window = written c.step_in-ended.new.frame.writes w; psw = c.step_in-ended.new.frame.next }) in
    ap (λ r. r.psw)
    (step-of c.args.m.now.desc _ _ _ _ _ _ (outcome_in c.step_in-ended.new.frame c.step_in-ended.result) e c.requires.within c.span_of-span.ensures.from c.span_of-span.ensures.len c.step_in-ended.ensures (ap (λ r. ending_as w (outcome_in c.step_in-ended.new.frame r)) c.in-Done.is))

pub returns-in-Done-clause-trapped : goal.returns-in-Done-clause-trapped
returns-in-Done-clause-trapped g c =
    let w = take c.span_of-span.result.len (drop c.span_of-span.result.from (g.H.Hardware.machinery c.args.hw.now).state.cells) in
    let e = Done (record { window = written c.step_in-ended.new.frame.writes w; psw = c.step_in-ended.new.frame.next }) in
    traps-of c.args.m.now.desc _ _ _ _ _ _ (outcome_in c.step_in-ended.new.frame c.step_in-ended.result) e c.requires.within c.span_of-span.ensures.from c.span_of-span.ensures.len c.step_in-ended.ensures (ap (λ r. ending_as w (outcome_in c.step_in-ended.new.frame r)) c.in-Done.is)

pub returns-in-MemTrap-clause-still : goal.returns-in-MemTrap-clause-still
returns-in-MemTrap-clause-still g c is =
    let w = take c.span_of-span.result.len (drop c.span_of-span.result.from (g.H.Hardware.machinery c.args.hw.now).state.cells) in
    sym (step-of c.args.m.now.desc _ _ _ _ _ _ (outcome_in c.step_in-ended.new.frame c.step_in-ended.result) ByMemTrap c.requires.within c.span_of-span.ensures.from c.span_of-span.ensures.len c.step_in-ended.ensures (ap (λ r. ending_as w (outcome_in c.step_in-ended.new.frame r)) c.in-MemTrap.is))
    ∙ c.trap.ensures.still is

pub returns-in-MemTrap-clause-moves : goal.returns-in-MemTrap-clause-moves
returns-in-MemTrap-clause-moves g c is same =
    let w = take c.span_of-span.result.len (drop c.span_of-span.result.from (g.H.Hardware.machinery c.args.hw.now).state.cells) in
    c.trap.ensures.moves is
    ((step-of c.args.m.now.desc _ _ _ _ _ _ (outcome_in c.step_in-ended.new.frame c.step_in-ended.result) ByMemTrap c.requires.within c.span_of-span.ensures.from c.span_of-span.ensures.len c.step_in-ended.ensures (ap (λ r. ending_as w (outcome_in c.step_in-ended.new.frame r)) c.in-MemTrap.is)) ∙ same)

pub returns-in-Trap-clause-still : goal.returns-in-Trap-clause-still
returns-in-Trap-clause-still g c is =
    let w = take c.span_of-span.result.len (drop c.span_of-span.result.from (g.H.Hardware.machinery c.args.hw.now).state.cells) in
    sym (step-of c.args.m.now.desc _ _ _ _ _ _ (outcome_in c.step_in-ended.new.frame c.step_in-ended.result) ByTrap c.requires.within c.span_of-span.ensures.from c.span_of-span.ensures.len c.step_in-ended.ensures (ap (λ r. ending_as w (outcome_in c.step_in-ended.new.frame r)) c.in-Trap.is))
    ∙ c.trap-in-Trap.ensures.still is

pub returns-in-Trap-clause-moves : goal.returns-in-Trap-clause-moves
returns-in-Trap-clause-moves g c is same =
    let w = take c.span_of-span.result.len (drop c.span_of-span.result.from (g.H.Hardware.machinery c.args.hw.now).state.cells) in
    c.trap-in-Trap.ensures.moves is
    ((step-of c.args.m.now.desc _ _ _ _ _ _ (outcome_in c.step_in-ended.new.frame c.step_in-ended.result) ByTrap c.requires.within c.span_of-span.ensures.from c.span_of-span.ensures.len c.step_in-ended.ensures (ap (λ r. ending_as w (outcome_in c.step_in-ended.new.frame r)) c.in-Trap.is)) ∙ same)

pub returns-in-NoPattern-clause-still : goal.returns-in-NoPattern-clause-still
returns-in-NoPattern-clause-still g c is =
    let w = take c.span_of-span.result.len (drop c.span_of-span.result.from (g.H.Hardware.machinery c.args.hw.now).state.cells) in
    sym (step-of c.args.m.now.desc _ _ _ _ _ _ (outcome_in c.step_in-ended.new.frame c.step_in-ended.result) ByNoPattern c.requires.within c.span_of-span.ensures.from c.span_of-span.ensures.len c.step_in-ended.ensures (ap (λ r. ending_as w (outcome_in c.step_in-ended.new.frame r)) c.in-NoPattern.is))
    ∙ c.trap-in-NoPattern.ensures.still is

pub returns-in-NoPattern-clause-moves : goal.returns-in-NoPattern-clause-moves
returns-in-NoPattern-clause-moves g c is same =
    let w = take c.span_of-span.result.len (drop c.span_of-span.result.from (g.H.Hardware.machinery c.args.hw.now).state.cells) in
    c.trap-in-NoPattern.ensures.moves is
    ((step-of c.args.m.now.desc _ _ _ _ _ _ (outcome_in c.step_in-ended.new.frame c.step_in-ended.result) ByNoPattern c.requires.within c.span_of-span.ensures.from c.span_of-span.ensures.len c.step_in-ended.ensures (ap (λ r. ending_as w (outcome_in c.step_in-ended.new.frame r)) c.in-NoPattern.is)) ∙ same)

pub returns-in-Done-clause-still : goal.returns-in-Done-clause-still
returns-in-Done-clause-still g c is =
    let effect : Effect = record { writes = c.step_in-ended.new.frame.writes; psw = c.step_in-ended.new.frame.next } in
    done-still c.args.m.now.desc _ c.args.base c.args.size c.args.psw.now _ _ (outcome_in c.step_in-ended.new.frame c.step_in-ended.result) effect c.as_slice-writes.result.now
    (record {
      within = c.requires.within;
      from_is = c.span_of-span.ensures.from;
      len_is = c.span_of-span.ensures.len;
      outcome = c.step_in-ended.ensures;
      is = ap (outcome_in c.step_in-ended.new.frame) c.in-Done.is;
      writes = c.as_slice-writes.ensures;
    }) (c.leaves-still.ensures.psw is) (c.leaves-still.ensures.kept is)

pub returns-in-Done-clause-moves : goal.returns-in-Done-clause-moves
returns-in-Done-clause-moves g c is same =
    let effect : Effect = record { writes = c.step_in-ended.new.frame.writes; psw = c.step_in-ended.new.frame.next } in
    let done : IsDone c.args.m.now.desc (g.H.Hardware.machinery c.args.hw.now).state.cells c.args.base c.args.size c.args.psw.now c.span_of-span.result.from c.span_of-span.result.len
    (outcome_in c.step_in-ended.new.frame c.step_in-ended.result) effect c.as_slice-writes.result.now = record {
      within = c.requires.within;
      from_is = c.span_of-span.ensures.from;
      len_is = c.span_of-span.ensures.len;
      outcome = c.step_in-ended.ensures;
      is = ap (outcome_in c.step_in-ended.new.frame) c.in-Done.is;
      writes = c.as_slice-writes.ensures;
    } in
    c.leaves-still.ensures.moved is (done-next _ _ _ _ _ _ _ _ _ _ done same) (done-kept _ _ _ _ _ _ _ _ _ _ done same)

use Rattle.std.proofs.Common.{refl, ap, arith}
use Rattle.pg_mach_ready.specs.declared.machine.Machine.{Machine}
use Rattle.pg_run_guests.specs.Runs.{run_of}
use Rattle.pg_run_guests.proofs.SettingLemmas.{set-up-same}
use Rattle.pg_run_guests.proofs.StartedLemmas.{loaded-few}
use Rattle.pg_run_guests.proofs.HybridRanLemmas.{run-left, run-have}
use Rattle.pg_run_guests.proofs.hybrid_running.run_hybrid.Goals as goal

pub returns-in-Err-clause-set_up : goal.returns-in-Err-clause-set_up
returns-in-Err-clause-set_up g c =
    let machine = c.args.accepted.machine.now in
    set-up-same (run_of machine c.args.images.now 1 0) (run_of machine c.args.images.now c.args.slice c.args.steps) _ _ refl refl refl c.in-Err.ensures.set_up

pub run_on-requires-clause-count : goal.run_on-requires-clause-count
run_on-requires-clause-count g c =
    loaded-few (run_of c.args.accepted.machine.now c.args.images.now c.args.slice c.args.steps) (g.H.Hardware.machinery c.args.hw.now) (g.H.Hardware.machinery c.start.new.hw) c.requires.counts c.in-Ok.ensures.made

pub returns-clause-ran : goal.returns-clause-ran
returns-clause-ran g c =
    let machine = c.args.accepted.machine.now in
    run-left (run_of machine c.args.images.now c.args.slice c.args.steps) (g.H.Hardware.machinery c.args.hw.now) (g.H.Hardware.machinery c.start.new.hw)
    (g.H.Hardware.machinery c.run_on.new.hw) c.in-Ok.hybrid c.run_on.result
    (record {
      loaded = record { can_run = c.requires.can_run; can_count = c.requires.counts; valid = machine.valid; made = c.in-Ok.ensures.made };
      desc = ap (λ (m : Machine). m.desc) c.in-Ok.ensures.machine;
      begun = c.in-Ok.ensures.begun;
      stands = c.run_on.ensures.stands;
      each = _;
      had = _;
      states = c.run_on.ensures.states;
      followed = c.run_on.ensures.followed;
      of_slice = grind arith;
      of_turns = grind arith;
      machine = ap (λ (m : Machine). m.desc) c.run_on.ensures.machine;
      turns = c.run_on.ensures.turns;
      direct = c.run_on.ensures.direct;
    })

pub returns-clause-have_run : goal.returns-clause-have_run
returns-clause-have_run g c =
    let machine = c.args.accepted.machine.now in
    run-have (run_of machine c.args.images.now c.args.slice c.args.steps) (g.H.Hardware.machinery c.args.hw.now) (g.H.Hardware.machinery c.start.new.hw)
    (g.H.Hardware.machinery c.run_on.new.hw) c.in-Ok.hybrid c.run_on.result
    (record {
      loaded = record { can_run = c.requires.can_run; can_count = c.requires.counts; valid = machine.valid; made = c.in-Ok.ensures.made };
      desc = ap (λ (m : Machine). m.desc) c.in-Ok.ensures.machine;
      begun = c.in-Ok.ensures.begun;
      stands = c.run_on.ensures.stands;
      each = _;
      had = _;
      states = c.run_on.ensures.states;
      followed = c.run_on.ensures.followed;
      of_slice = grind arith;
      of_turns = grind arith;
      machine = ap (λ (m : Machine). m.desc) c.run_on.ensures.machine;
      turns = c.run_on.ensures.turns;
      direct = c.run_on.ensures.direct;
    })

use Rattle.std.proofs.Common.{◌-◌, refl, ap, ◌∙◌}
use Rattle.pg_hw.specs.declared.counts.Counts.{Counts}
use Rattle.pg_mach_ready.specs.declared.machine.Machine.{Machine}
use Rattle.pg_run_guests.specs.Runs.{run_of}
use Rattle.pg_run_guests.proofs.SettingLemmas.{set-up-same}
use Rattle.pg_run_still.proofs.RanLemmas.{run-have, standing-can}
use Rattle.pg_run_still.proofs.running.run_until_still.Goals as goal

pub returns-in-Err-clause-set_up : goal.returns-in-Err-clause-set_up
returns-in-Err-clause-set_up g c =
    let machine = c.args.accepted.machine.now in
    set-up-same (run_of machine c.args.images.now 1 0) (run_of machine c.args.images.now c.args.slice c.args.steps) _ _ refl refl refl c.in-Err.ensures.set_up

pub returns-clause-rested : goal.returns-clause-rested
returns-clause-rested g c =
    let machine = c.args.accepted.machine.now in
    let r = run_of machine c.args.images.now c.args.slice c.args.steps in
    run-have r (g.H.Hardware.machinery c.args.hw.now) (g.H.Hardware.machinery c.start.new.hw) (g.H.Hardware.machinery c.run_rounds-rests.new.hw) c.in-Ok.monitor c.run_rounds-rests.new.monitor
    c.run_rounds-rests.result.items
    (record {
      can_go = c.requires.can_go;
      loaded = record { can_run = standing-can r c.requires.can_go; can_count = c.requires.counts; valid = machine.valid; made = c.in-Ok.ensures.made };
      desc = ap (λ (m : Machine). m.desc) c.in-Ok.ensures.machine;
      begun = c.in-Ok.ensures.begun;
      stands = c.run_rounds-rests.ensures.stands;
      ran = c.run_rounds-rests.ensures.ran;
      machine = ap (λ (m : Machine). m.desc) c.run_rounds-rests.ensures.machine;
    }) _ refl refl
    (ap (λ (x : Counts). x.steps - c.counts-before.result.steps) c.counts-after.ensures ∙ ap (λ (x : Counts). (g.H.Hardware.machinery c.run_rounds-rests.new.hw).tally.steps - x.steps) c.counts-before.ensures)
    (ap (λ (x : Counts). x.untrapped - c.counts-before.result.untrapped) c.counts-after.ensures ∙ ap (λ (x : Counts). (g.H.Hardware.machinery c.run_rounds-rests.new.hw).tally.untrapped - x.untrapped) c.counts-before.ensures)

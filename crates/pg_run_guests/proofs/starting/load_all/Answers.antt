use Rattle.std.proofs.Common.{◌∙◌, ap, length}
use Rattle.pg_mach_ready.specs.declared.machine.Machine.{Machine}
use Rattle.pg_lang_meaning.specs.Steps.{power_on}
use Rattle.pg_run_guests.specs.Runs.{switched_on}
use Rattle.pg_run_guests.proofs.ReachedLemmas.{switched_on-cells, switched_on-within, switched_on-at}
use Rattle.pg_run_guests.proofs.BegunLemmas.{one-begun, one-no_more, one-made, one-fits, image-least, image-words}
use Rattle.pg_monitor.specs.Monitors.{base_for, kept_by}
use Rattle.pg_run_guests.proofs.starting.load_all.Goals as goal

pub unreachable-requires : goal.unreachable-requires
unreachable-requires g c =
    let d = c.args.monitor.now.accepted.machine.now.desc in
    let before = c.loop-image.invariant in
    one-fits d (switched_on c.args.images.now) c.loop-image.image-index (power_on c.image-item.result (length c.image-item.result)) (kept_by c.loop-image.monitor) _ (ap (λ (m : Machine). m.desc) before.machine) c.requires.fit
    (switched_on-within c.args.images.now c.loop-image.image-index c.loop-image-test.true)
    (switched_on-at c.args.images.now c.loop-image.image-index c.image-item.result c.loop-image-test.true c.image-item.is)
    before.begun before.no_more
    (ap (λ xs. base_for c.loop-image.monitor (length xs)) (switched_on-cells c.image-item.result) ∙ c.in-Err-NoRoom.ensures.no_room c.in-Err-NoRoom.field-0-is)

pub load-requires-clause-least : goal.load-requires-clause-least
load-requires-clause-least g c =
    image-least c.args.monitor.now.accepted.machine.now.desc c.args.images.now c.loop-image.image-index c.image-item.result c.requires.fit c.loop-image-test.true c.image-item.is

pub load-requires-clause-words : goal.load-requires-clause-words
load-requires-clause-words g c =
    image-words c.args.monitor.now.accepted.machine.now.desc _ c.args.images.now c.loop-image.image-index c.image-item.result c.requires.fit c.loop-image-test.true c.image-item.is
    (ap (λ (m : Machine). m.desc) c.loop-image.invariant.machine)

pub loop-image-preserved : goal.loop-image-preserved
loop-image-preserved g c =
    let d = c.args.monitor.now.accepted.machine.now.desc in
    let before = c.loop-image.invariant in
    record {
      machine = c.load.ensures.machine ∙ before.machine;
      begun = one-begun d (switched_on c.args.images.now) c.loop-image.image-index (power_on c.image-item.result (length c.image-item.result)) (kept_by c.loop-image.monitor) (kept_by c.load.new.self) (g.H.Hardware.machinery c.args.hw.now) (g.H.Hardware.machinery c.loop-image.hw) (g.H.Hardware.machinery c.load.new.hw)
          (record {
            desc = ap (λ (m : Machine). m.desc) before.machine;
            fit = c.requires.fit;
            within = switched_on-within c.args.images.now c.loop-image.image-index c.loop-image-test.true;
            is = switched_on-at c.args.images.now c.loop-image.image-index c.image-item.result c.loop-image-test.true c.image-item.is;
            begun = before.begun;
            no_more = before.no_more;
            made = before.made;
            admitted = c.in-Ok.ensures.admitted;
            stands = c.load.ensures.stands;
          });
      no_more = one-no_more d (switched_on c.args.images.now) c.loop-image.image-index (power_on c.image-item.result (length c.image-item.result)) (kept_by c.loop-image.monitor) (kept_by c.load.new.self) (g.H.Hardware.machinery c.args.hw.now) (g.H.Hardware.machinery c.loop-image.hw) (g.H.Hardware.machinery c.load.new.hw)
          (record {
            desc = ap (λ (m : Machine). m.desc) before.machine;
            fit = c.requires.fit;
            within = switched_on-within c.args.images.now c.loop-image.image-index c.loop-image-test.true;
            is = switched_on-at c.args.images.now c.loop-image.image-index c.image-item.result c.loop-image-test.true c.image-item.is;
            begun = before.begun;
            no_more = before.no_more;
            made = before.made;
            admitted = c.in-Ok.ensures.admitted;
            stands = c.load.ensures.stands;
          });
      made = one-made d (switched_on c.args.images.now) c.loop-image.image-index (power_on c.image-item.result (length c.image-item.result)) (kept_by c.loop-image.monitor) (kept_by c.load.new.self) (g.H.Hardware.machinery c.args.hw.now) (g.H.Hardware.machinery c.loop-image.hw) (g.H.Hardware.machinery c.load.new.hw)
          (record {
            desc = ap (λ (m : Machine). m.desc) before.machine;
            fit = c.requires.fit;
            within = switched_on-within c.args.images.now c.loop-image.image-index c.loop-image-test.true;
            is = switched_on-at c.args.images.now c.loop-image.image-index c.image-item.result c.loop-image-test.true c.image-item.is;
            begun = before.begun;
            no_more = before.no_more;
            made = before.made;
            admitted = c.in-Ok.ensures.admitted;
            stands = c.load.ensures.stands;
          });
      fixed = c.load.ensures.fixed ∙ before.fixed;
    }

use Rattle.std.proofs.Common.{◌≡◌, refl, ap, rules}
use Rattle.std.specs.Prelude.{OnOk}
use Rattle.std.proofs.lemmas.Result.{on_ok_weaker}
use Rattle.pg_hw.specs.Machinery.{Machinery}
use Rattle.pg_run_guests.specs.Nesting.{RanNested}
use Rattle.pg_run_guests.proofs.NestLemmas.{own_counts, as_lent, lent-nested}
use Rattle.pg_run_guests.proofs.nesting.nest.Goals as goal

pub returns-clause-nested : goal.returns-clause-nested
returns-clause-nested g c =
    let d = c.args.accepted.machine.now.desc in
    let old : Machinery = g.H.Hardware.machinery c.args.hw.now in
    let lent : Machinery = g.H.Hardware.machinery c.new-lent.result.hw.now in
    let low : Machinery = g.H.Hardware.machinery c.in_depth-lent.result.hw.now in
    let ran : OnOk c.in_depth-lent.new.out (RanNested c.args.depth d c.args.image.now c.args.steps old low) =
    on_ok_weaker c.in_depth-lent.new.out
    (λ nested. lent-nested c.args.depth d c.args.image.now c.args.steps (as_lent lent) (as_lent low) old low c.requires.counts c.requires.can_nest nested
    (ap (λ h. own_counts (g.H.Hardware.machinery h)) c.new-lent.ensures.same) refl refl)
    c.in_depth-lent.ensures.nested in
    search (rules, ran)

use Rattle.std.proofs.Common.{ℕ, ◌≡◌, ap, sym, subst, ◌∙◌, lit≤, List, [], ◌∷◌, slice_get, arith}
use Rattle.pg_hw.specs.Machinery.{Machinery}
use Rattle.pg_run_guests.specs.HaveRun.{HaveRun}
use Rattle.pg_run_guests.specs.UnderMonitor.{RanGuests}
use Rattle.pg_run_guests.specs.Runs.{run_of}
use Rattle.pg_run_guests.specs.Setting.{CanRun, SetUp}
use Rattle.pg_run_guests.proofs.NestLemmas.{one-can_run, one-nested, one-some, one-guest-psw, one-direct, one-refused}
use Rattle.pg_run_guests.proofs.nesting.run_one.Goals as goal

pub run_guests-requires-clause-can_run : goal.run_guests-requires-clause-can_run
run_guests-requires-clause-can_run g c =
    let m = c.args.accepted.machine.now in
    subst (λ (images : List (List ℕ)). CanRun (run_of m images 18446744073709551615 c.args.steps)) (sym c.from_ref-images.ensures.value)
    (one-can_run m c.args.image.now 18446744073709551615 c.args.steps m.valid c.requires.can_nest (lit≤ tt))

pub returns-in-Ok-clause-innermost : goal.returns-in-Ok-clause-innermost
returns-in-Ok-clause-innermost g c =
    let m = c.args.accepted.machine.now in
    let image = c.args.image.now in
    let h = g.H.Hardware.machinery c.run_guests.new.hw in
    let have : HaveRun (run_of m (image ∷ []) 18446744073709551615 c.args.steps) c.in-Ok.ran h =
    subst (λ (images : List (List ℕ)). HaveRun (run_of m images 18446744073709551615 c.args.steps) c.in-Ok.ran h) c.from_ref-images.ensures.value c.in-Ok.ensures.have_run in
    record {
      psw = one-guest-psw m image 18446744073709551615 c.args.steps c.in-Ok.ran h c.guests.result.now _ have c.guests.ensures;
      direct = c.direct.ensures ∙ one-direct m image 18446744073709551615 c.args.steps c.in-Ok.ran h have;
    }

pub returns-in-Ok-clause-nested : goal.returns-in-Ok-clause-nested
returns-in-Ok-clause-nested g c =
    let m = c.args.accepted.machine.now in
    let image = c.args.image.now in
    let old = g.H.Hardware.machinery c.args.hw.now in
    let new = g.H.Hardware.machinery c.run_guests.new.hw in
    one-nested m image 18446744073709551615 c.args.steps old new
    (subst (λ (images : List (List ℕ)). RanGuests (run_of m images 18446744073709551615 c.args.steps) old new) c.from_ref-images.ensures.value c.in-Ok.ensures.ran)

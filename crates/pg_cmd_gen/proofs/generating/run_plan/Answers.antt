use Rattle.std.proofs.Common.{◌≡◌, ◌∙◌, ℕ, List, sym, ap, subst, arith}
use Rattle.pg_mach_ready.specs.declared.machine.Machine.{Machine}
use Rattle.pg_cert.specs.declared.report.Verdict.{Verdict}
use Rattle.pg_cert.specs.declared.report.Verdict.TheVariants.{Accepted}
use Rattle.pg_cmd_certs.specs.Judged.{verdict_on}
use Rattle.pg_run_guests.specs.UnderMonitor.{RanGuests}
use Rattle.pg_run_guests.specs.Runs.{run_of}
use Rattle.pg_run_guests.specs.Setting.{SetUp}
use Rattle.pg_cmd_gen.specs.Generating.{RanBy, gen_slice, gen_steps}
use Rattle.pg_cmd_gen.specs.Plans.{judged_input, run_of_plan}
use Rattle.pg_cmd_base.proofs.AbleLemmas.{size-small}
use Rattle.pg_cmd_gen.proofs.generating.run_plan.Goals as goal

pub run_guests-requires-clause-room : goal.run_guests-requires-clause-room
run_guests-requires-clause-room g c =
    let m = c.args.plan.now.cert.judged.machine in
    let same = ap (λ (x : Machine). x.desc.size) c.of-accepted.ensures.same in
    let small = size-small m.desc m.valid in
    omega (arith, same, small, c.requires.able.room)

pub returns-in-Ok-clause-ran : goal.returns-in-Ok-clause-ran
returns-in-Ok-clause-ran g c =
    let p = c.args.plan.now in
    let old = g.H.Hardware.machinery c.args.hw.now in
    let new = g.H.Hardware.machinery c.run_guests.new.hw in
    let is : verdict_on (judged_input p) ≡ Accepted = sym c.verdict.ensures ∙ c.is_accepted.ensures.yes c.if-not-is_accepted.false in
    let ran : RanGuests (run_of_plan p) old new =
    subst (λ (m : Machine). RanGuests (run_of m p.images gen_slice gen_steps) old new) c.of-accepted.ensures.same
    (subst (λ (xs : List (List ℕ)). RanGuests (run_of c.of-accepted.result.machine.now xs gen_slice gen_steps) old new) c.as_slice.ensures c.in-Ok.ensures.ran) in
    subst (λ (v : Verdict). RanBy v (run_of_plan p) old new) (sym is) (c.requires.accepts is, ran)

pub returns-in-Err-clause-set_up : goal.returns-in-Err-clause-set_up
returns-in-Err-clause-set_up g c =
    let p = c.args.plan.now in
    let old = g.H.Hardware.machinery c.args.hw.now in
    let new = g.H.Hardware.machinery c.run_guests.new.hw in
    subst (λ (m : Machine). SetUp (run_of m p.images gen_slice gen_steps) old new) c.of-accepted.ensures.same
    (subst (λ (xs : List (List ℕ)). SetUp (run_of c.of-accepted.result.machine.now xs gen_slice gen_steps) old new) c.as_slice.ensures c.in-Err.ensures.set_up)

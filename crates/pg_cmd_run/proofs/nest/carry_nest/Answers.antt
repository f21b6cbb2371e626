use Rattle.std.proofs.Common.{◌≡◌, ◌∙◌, refl, sym, ap, subst, arith}
use Rattle.pg_cert.specs.declared.report.Verdict.TheVariants.{Accepted}
use Rattle.pg_edge.specs.Sink.{Puts}
use Rattle.pg_edge.specs.declared.shelf.Failed.{Failed}
use Rattle.pg_cmd_certs.specs.Judged.{verdict_on}
use Rattle.pg_cmd_certs.proofs.TellingLemmas.{carries-told}
use Rattle.pg_mach_ready.specs.declared.machine.Machine.{Machine}
use Rattle.pg_run_guests.specs.Nesting.{RanNested}
use Rattle.pg_cmd_base.specs.declared.status.Status.TheVariants.{Done}
use Rattle.pg_cmd_base.specs.World.{IsUntouched, around}
use Rattle.pg_cmd_base.proofs.AbleLemmas.{size-small}
use Rattle.pg_cmd_base.proofs.CarryLemmas.{carries-done, carries-broken, carries-starved}
use Rattle.pg_cmd_run.specs.Nest.{judged_by, nest_command, told_of}
use Rattle.pg_cmd_run.specs.NestPlans.{nest_run}
use Rattle.pg_cmd_run.proofs.NestLemmas.{nest-told, nest-ran}
use Rattle.pg_cmd_run.proofs.nest.carry_nest.Goals as goal

-- ---- the verdict is told

pub returns-then-not-is_accepted-clause-carries : goal.returns-then-not-is_accepted-clause-carries
returns-then-not-is_accepted-clause-carries g c =
    let n = c.args.words.now in
    let j = nest_run c.in-Ok.plan in
    let old = around g.F.Shelf g.S.Sink g.H.Hardware c.args.shelf.now c.args.out.now c.args.hw.now in
    let new = around g.F.Shelf g.S.Sink g.H.Hardware c.prepare_nest.new.shelf c.tell_verdict.new.out c.args.hw.now in
    let other : ¬ (verdict_on (judged_by j) ≡ Accepted) = λ e. c.is_accepted.ensures.no c.if-not-is_accepted.true (c.verdict.ensures ∙ e) in
    let same : IsUntouched old new = record { files = c.prepare_nest.ensures.reads.same_files; saves = c.prepare_nest.ensures.reads.same_saves; hw = refl } in
    carries-told (nest_command n) (judged_by j) old new j c.tell_verdict.result c.in-Ok.ensures.comes
    (nest-told (g.F.Shelf.files c.args.shelf.now) n j old new c.in-Ok.ensures.comes other same) c.tell_verdict.ensures.told

-- ---- the guest runs

pub of-accepted-requires : goal.of-accepted-requires
of-accepted-requires g c = c.in-Ok.ensures.accepts (sym c.verdict.ensures ∙ c.is_accepted.ensures.yes c.if-not-is_accepted.false)

pub nest-requires-clause-room : goal.nest-requires-clause-room
nest-requires-clause-room g c =
    let m = c.in-Ok.plan.judged.machine in
    let same = ap (λ (x : Machine). x.desc.size) c.of-accepted.ensures.same in
    let small = size-small m.desc m.valid in
    omega (arith, same, small, c.requires.able.room)

pub returns-in-Err-nest-clause-carries : goal.returns-in-Err-nest-clause-carries
returns-in-Err-nest-clause-carries g c =
    let j = nest_run c.in-Ok.plan in
    let old = around g.F.Shelf g.S.Sink g.H.Hardware c.args.shelf.now c.args.out.now c.args.hw.now in
    let new = around g.F.Shelf g.S.Sink g.H.Hardware c.prepare_nest.new.shelf c.args.out.now c.nest.new.hw in
    carries-starved (nest_command c.args.words.now) old new j c.in-Ok.ensures.comes
    (record {
      accepted = sym c.verdict.ensures ∙ c.is_accepted.ensures.yes c.if-not-is_accepted.false;
      silent = refl {a = old.out};
      files = c.prepare_nest.ensures.reads.same_files;
      saves = c.prepare_nest.ensures.reads.same_saves;
      stepped = c.in-Err-nest.ensures.refused;
    })

-- ---- its text is put

pub returns-in-Ok-put_nested-clause-carries : goal.returns-in-Ok-put_nested-clause-carries
returns-in-Ok-put_nested-clause-carries g c =
    let p = c.in-Ok.plan in
    let j = nest_run p in
    let old = around g.F.Shelf g.S.Sink g.H.Hardware c.args.shelf.now c.args.out.now c.args.hw.now in
    let new = around g.F.Shelf g.S.Sink g.H.Hardware c.prepare_nest.new.shelf c.put_nested.new.out c.nest.new.hw in
    let is : verdict_on (judged_by j) ≡ Accepted = sym c.verdict.ensures ∙ c.is_accepted.ensures.yes c.if-not-is_accepted.false in
    let ran : RanNested j.depth j.desc j.image j.steps old.hw new.hw =
    subst (λ (m : Machine). RanNested p.depth m.desc p.image p.steps old.hw new.hw) c.of-accepted.ensures.same c.in-Ok-nest.ensures.nested in
    let ends = nest-ran j old new is (c.in-Ok.ensures.accepts is) p.filled ran c.prepare_nest.ensures.reads.same_files c.prepare_nest.ensures.reads.same_saves in
    let whole = subst (λ x. Puts {T = Unit {0}} {E = Failed} old.out.written new.out.written old.out.faults new.out.faults (told_of j) x) c.in-Ok-put_nested.is c.put_nested.ensures in
    carries-done (nest_command c.args.words.now) old new j (told_of j) c.in-Ok.ensures.comes ends whole.whole

pub returns-clause-carries : goal.returns-clause-carries
returns-clause-carries g c =
    let p = c.in-Ok.plan in
    let j = nest_run p in
    let old = around g.F.Shelf g.S.Sink g.H.Hardware c.args.shelf.now c.args.out.now c.args.hw.now in
    let new = around g.F.Shelf g.S.Sink g.H.Hardware c.prepare_nest.new.shelf c.put_nested.new.out c.nest.new.hw in
    let is : verdict_on (judged_by j) ≡ Accepted = sym c.verdict.ensures ∙ c.is_accepted.ensures.yes c.if-not-is_accepted.false in
    let ran : RanNested j.depth j.desc j.image j.steps old.hw new.hw =
    subst (λ (m : Machine). RanNested p.depth m.desc p.image p.steps old.hw new.hw) c.of-accepted.ensures.same c.in-Ok-nest.ensures.nested in
    let ends = nest-ran j old new is (c.in-Ok.ensures.accepts is) p.filled ran c.prepare_nest.ensures.reads.same_files c.prepare_nest.ensures.reads.same_saves in
    let broken = subst (λ x. Puts {T = Unit {0}} {E = Failed} old.out.written new.out.written old.out.faults new.out.faults (told_of j) x) c.in-Err-put_nested.is c.put_nested.ensures in
    carries-broken (nest_command c.args.words.now) old new j Done (told_of j) c.in-Ok.ensures.comes ends (record { cause = broken.cause; front = broken.front })

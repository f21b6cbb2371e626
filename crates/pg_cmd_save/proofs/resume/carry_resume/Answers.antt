use Rattle.std.proofs.Common.{◌≡◌, ◌∙◌, List, ℕ, refl, sym, ap, subst, arith}
use Rattle.pg_cert.specs.declared.report.Verdict.TheVariants.{Accepted}
use Rattle.pg_edge.specs.Sink.{Puts}
use Rattle.pg_edge.specs.declared.shelf.Failed.{Failed}
use Rattle.pg_run_guests.specs.HaveRun.{HaveRun}
use Rattle.pg_run_guests.specs.UnderMonitor.{RanGuests, state_run}
use Rattle.pg_cmd_certs.specs.Judged.{verdict_on}
use Rattle.pg_cmd_certs.proofs.TellingLemmas.{carries-told}
use Rattle.pg_mach_ready.specs.declared.machine.Machine.{Machine}
use Rattle.pg_run_guests.specs.Setting.{SetUp}
use Rattle.pg_cmd_base.specs.declared.status.Status.TheVariants.{Done}
use Rattle.pg_cmd_base.specs.World.{IsUntouched, around}
use Rattle.pg_cmd_base.proofs.AbleLemmas.{size-small}
use Rattle.pg_cmd_base.proofs.CarryLemmas.{carries-stopped, carries-done, carries-broken, carries-starved}
use Rattle.pg_cmd_save.specs.Plans.{resume_run}
use Rattle.pg_cmd_save.specs.Save.{one_slice}
use Rattle.pg_cmd_save.specs.Resume.{guest_on, judged_on, resume_command, told_on}
use Rattle.pg_cmd_save.proofs.EndsLemmas.{resume-told, resume-ran}
use Rattle.pg_cmd_save.proofs.resume.carry_resume.Goals as goal
use Rattle.pg_type.specs.Listed.{state_of}

-- ---- it stops before its work

pub returns-in-Err-clause-carries : goal.returns-in-Err-clause-carries
returns-in-Err-clause-carries g c =
    let old = around g.F.Shelf g.S.Sink g.H.Hardware c.args.shelf.now c.args.out.now c.args.hw.now in
    let new = around g.F.Shelf g.S.Sink g.H.Hardware c.prepare_resume.new.shelf c.stopped.new.out c.args.hw.now in
    carries-stopped (resume_command c.args.words.now) resume_run old new c.in-Err.stop c.stopped.result c.in-Err.ensures.comes c.stopped.ensures.stops
    (record { files = c.prepare_resume.ensures.reads.same_files; saves = c.prepare_resume.ensures.reads.same_saves; hw = refl })

-- ---- the verdict is told

pub returns-then-not-is_accepted-clause-carries : goal.returns-then-not-is_accepted-clause-carries
returns-then-not-is_accepted-clause-carries g c =
    let r = c.args.words.now in
    let j = resume_run c.in-Ok.plan in
    let old = around g.F.Shelf g.S.Sink g.H.Hardware c.args.shelf.now c.args.out.now c.args.hw.now in
    let new = around g.F.Shelf g.S.Sink g.H.Hardware c.prepare_resume.new.shelf c.tell_verdict.new.out c.args.hw.now in
    let other : ¬ (verdict_on (judged_on j) ≡ Accepted) = λ e. c.is_accepted.ensures.no c.if-not-is_accepted.true (c.verdict.ensures ∙ e) in
    let same : IsUntouched old new = record { files = c.prepare_resume.ensures.reads.same_files; saves = c.prepare_resume.ensures.reads.same_saves; hw = refl } in
    carries-told (resume_command r) (judged_on j) old new j c.tell_verdict.result c.in-Ok.ensures.comes
    (resume-told (g.F.Shelf.files c.args.shelf.now) r j old new c.in-Ok.ensures.comes other same) c.tell_verdict.ensures.told

-- ---- the guest goes on

pub of-accepted-requires : goal.of-accepted-requires
of-accepted-requires g c = c.in-Ok.ensures.accepts (sym c.verdict.ensures ∙ c.is_accepted.ensures.yes c.if-not-is_accepted.false)

pub run_state-requires-clause-room : goal.run_state-requires-clause-room
run_state-requires-clause-room g c =
    let m = c.in-Ok.plan.judged.machine in
    let same = ap (λ (x : Machine). x.desc.size) c.of-accepted.ensures.same in
    let small = size-small m.desc m.valid in
    omega (arith, same, small, c.requires.able.room)

pub returns-in-Err-run_state-clause-carries : goal.returns-in-Err-run_state-clause-carries
returns-in-Err-run_state-clause-carries g c =
    let p = c.in-Ok.plan in
    let j = resume_run p in
    let old = around g.F.Shelf g.S.Sink g.H.Hardware c.args.shelf.now c.args.out.now c.args.hw.now in
    let new = around g.F.Shelf g.S.Sink g.H.Hardware c.prepare_resume.new.shelf c.args.out.now c.run_state.new.hw in
    let set_up : SetUp (guest_on j) old.hw new.hw =
    subst (λ (m : Machine). SetUp (state_run m p.skip (state_of p.saved.state) one_slice p.steps) old.hw new.hw) c.of-accepted.ensures.same c.in-Err-run_state.ensures.set_up in
    carries-starved (resume_command c.args.words.now) old new j c.in-Ok.ensures.comes
    (record {
      accepted = sym c.verdict.ensures ∙ c.is_accepted.ensures.yes c.if-not-is_accepted.false;
      silent = refl {a = old.out};
      files = c.prepare_resume.ensures.reads.same_files;
      saves = c.prepare_resume.ensures.reads.same_saves;
      set_up = set_up;
    })

pub put_resumed-requires : goal.put_resumed-requires
put_resumed-requires g c =
    let p = c.in-Ok.plan in
    let h = g.H.Hardware.machinery c.run_state.new.hw in
    record {
      have_run = subst (λ (m : Machine). HaveRun (state_run m p.skip (state_of p.saved.state) one_slice p.steps) c.in-Ok-run_state.ran h) c.of-accepted.ensures.same
          c.in-Ok-run_state.ensures.have_run;
    }

-- ---- its text is put

pub returns-in-Ok-put_resumed-clause-carries : goal.returns-in-Ok-put_resumed-clause-carries
returns-in-Ok-put_resumed-clause-carries g c =
    let p = c.in-Ok.plan in
    let j = resume_run p in
    let old = around g.F.Shelf g.S.Sink g.H.Hardware c.args.shelf.now c.args.out.now c.args.hw.now in
    let new = around g.F.Shelf g.S.Sink g.H.Hardware c.prepare_resume.new.shelf c.put_resumed.new.out c.run_state.new.hw in
    let is : verdict_on (judged_on j) ≡ Accepted = sym c.verdict.ensures ∙ c.is_accepted.ensures.yes c.if-not-is_accepted.false in
    let ran : RanGuests (guest_on j) old.hw new.hw =
    subst (λ (m : Machine). RanGuests (state_run m p.skip (state_of p.saved.state) one_slice p.steps) old.hw new.hw) c.of-accepted.ensures.same c.in-Ok-run_state.ensures.ran in
    let ends = resume-ran j old new is (c.in-Ok.ensures.accepts is) ran c.prepare_resume.ensures.reads.same_files c.prepare_resume.ensures.reads.same_saves in
    let whole = subst (λ x. Puts {T = Unit {0}} {E = Failed} old.out.written new.out.written old.out.faults new.out.faults (told_on j) x) c.in-Ok-put_resumed.is c.put_resumed.ensures in
    carries-done (resume_command c.args.words.now) old new j (told_on j) c.in-Ok.ensures.comes ends whole.whole

pub returns-clause-carries : goal.returns-clause-carries
returns-clause-carries g c =
    let p = c.in-Ok.plan in
    let j = resume_run p in
    let old = around g.F.Shelf g.S.Sink g.H.Hardware c.args.shelf.now c.args.out.now c.args.hw.now in
    let new = around g.F.Shelf g.S.Sink g.H.Hardware c.prepare_resume.new.shelf c.put_resumed.new.out c.run_state.new.hw in
    let is : verdict_on (judged_on j) ≡ Accepted = sym c.verdict.ensures ∙ c.is_accepted.ensures.yes c.if-not-is_accepted.false in
    let ran : RanGuests (guest_on j) old.hw new.hw =
    subst (λ (m : Machine). RanGuests (state_run m p.skip (state_of p.saved.state) one_slice p.steps) old.hw new.hw) c.of-accepted.ensures.same c.in-Ok-run_state.ensures.ran in
    let ends = resume-ran j old new is (c.in-Ok.ensures.accepts is) ran c.prepare_resume.ensures.reads.same_files c.prepare_resume.ensures.reads.same_saves in
    let broken = subst (λ x. Puts {T = Unit {0}} {E = Failed} old.out.written new.out.written old.out.faults new.out.faults (told_on j) x) c.in-Err-put_resumed.is c.put_resumed.ensures in
    carries-broken (resume_command c.args.words.now) old new j Done (told_on j) c.in-Ok.ensures.comes ends (record { cause = broken.cause; front = broken.front })

use Rattle.std.proofs.Common.{◌≡◌, ◌∙◌, ℕ, List, refl, sym, ap, subst, arith}
use Rattle.pg_mach_ready.specs.declared.machine.Machine.{Machine}
use Rattle.pg_cert.specs.declared.report.Verdict.TheVariants.{Accepted}
use Rattle.pg_run_guests.specs.HaveRun.{HaveRun}
use Rattle.pg_run_guests.specs.UnderMonitor.{RanGuests}
use Rattle.pg_run_guests.proofs.ToldLemmas.{have-within}
use Rattle.pg_run_guests.specs.Runs.{run_of, text_of}
use Rattle.pg_run_guests.specs.Setting.{SetUp}
use Rattle.pg_run_guests.specs.Telling.{AreWithin}
use Rattle.pg_edge.specs.Sink.{Puts}
use Rattle.pg_edge.specs.declared.shelf.Failed.{Failed}
use Rattle.pg_run_guests.proofs.ReachedLemmas.{reached-bare}
use Rattle.pg_cmd_base.specs.declared.status.Status.TheVariants.{Done}
use Rattle.pg_cmd_base.specs.World.{IsUntouched, around}
use Rattle.pg_cmd_base.proofs.AbleLemmas.{size-small}
use Rattle.pg_cmd_base.proofs.CarryLemmas.{carries-done, carries-broken, carries-starved}
use Rattle.pg_cmd_certs.specs.Judged.{verdict_on}
use Rattle.pg_cmd_certs.proofs.TellingLemmas.{carries-told}
use Rattle.pg_cmd_run.specs.Plans.{judged_run}
use Rattle.pg_cmd_run.specs.Run.{guests_in, judged_by, run_command}
use Rattle.pg_cmd_run.proofs.EndsLemmas.{run-told, run-ran, ran-text}
use Rattle.pg_cmd_run.proofs.run.carry_run.Goals as goal

-- ---- the verdict is told

pub returns-then-not-is_accepted-clause-carries : goal.returns-then-not-is_accepted-clause-carries
returns-then-not-is_accepted-clause-carries g c =
    let r = c.args.words.now in
    let j = judged_run c.in-Ok.plan in
    let old = around g.F.Shelf g.S.Sink g.H.Hardware c.args.shelf.now c.args.out.now c.args.hw.now in
    let new = around g.F.Shelf g.S.Sink g.H.Hardware c.prepare_run.new.shelf c.tell_verdict.new.out c.args.hw.now in
    let other : ¬ (verdict_on (judged_by j) ≡ Accepted) = λ e. c.is_accepted.ensures.no c.if-not-is_accepted.true (c.verdict.ensures ∙ e) in
    let same : IsUntouched old new = record { files = c.prepare_run.ensures.reads.same_files; saves = c.prepare_run.ensures.reads.same_saves; hw = refl } in
    carries-told (run_command r) (judged_by j) old new j c.tell_verdict.result c.in-Ok.ensures.comes
    (run-told (g.F.Shelf.files c.args.shelf.now) r j old new c.in-Ok.ensures.comes other same) c.tell_verdict.ensures.told

-- ---- the guests run

pub of-accepted-requires : goal.of-accepted-requires
of-accepted-requires g c = c.in-Ok.ensures.accepts (sym c.verdict.ensures ∙ c.is_accepted.ensures.yes c.if-not-is_accepted.false)

pub run_guests-requires-clause-room : goal.run_guests-requires-clause-room
run_guests-requires-clause-room g c =
    let m = c.in-Ok.plan.judged.machine in
    let same = ap (λ (x : Machine). x.desc.size) c.of-accepted.ensures.same in
    let small = size-small m.desc m.valid in
    omega (arith, same, small, c.requires.able.room)

pub returns-in-Err-run_guests-clause-carries : goal.returns-in-Err-run_guests-clause-carries
returns-in-Err-run_guests-clause-carries g c =
    let p = c.in-Ok.plan in
    let j = judged_run p in
    let old = around g.F.Shelf g.S.Sink g.H.Hardware c.args.shelf.now c.args.out.now c.args.hw.now in
    let new = around g.F.Shelf g.S.Sink g.H.Hardware c.prepare_run.new.shelf c.args.out.now c.run_guests.new.hw in
    let set_up : SetUp (guests_in j) old.hw new.hw =
    subst (λ (m : Machine). SetUp (run_of m p.images p.slice p.steps) old.hw new.hw) c.of-accepted.ensures.same
    (subst (λ (xs : List (List ℕ)). SetUp (run_of c.of-accepted.result.machine.now xs p.slice p.steps) old.hw new.hw) c.as_slice-images.ensures c.in-Err-run_guests.ensures.set_up) in
    carries-starved (run_command c.args.words.now) old new j c.in-Ok.ensures.comes
    (record {
      accepted = sym c.verdict.ensures ∙ c.is_accepted.ensures.yes c.if-not-is_accepted.false;
      silent = refl {a = old.out};
      files = c.prepare_run.ensures.reads.same_files;
      saves = c.prepare_run.ensures.reads.same_saves;
      set_up = set_up;
    })

pub put_guests-requires-clause-words : goal.put_guests-requires-clause-words
put_guests-requires-clause-words g c =
    let p = c.in-Ok.plan in
    let h = g.H.Hardware.machinery c.run_guests.new.hw in
    let have : HaveRun (guests_in (judged_run p)) c.in-Ok-run_guests.ran h =
    subst (λ (m : Machine). HaveRun (run_of m p.images p.slice p.steps) c.in-Ok-run_guests.ran h) c.of-accepted.ensures.same
    (subst (λ (xs : List (List ℕ)). HaveRun (run_of c.of-accepted.result.machine.now xs p.slice p.steps) c.in-Ok-run_guests.ran h) c.as_slice-images.ensures c.in-Ok-run_guests.ensures.have_run) in
    have.stands.real_state.words

pub put_guests-requires-clause-within : goal.put_guests-requires-clause-within
put_guests-requires-clause-within g c =
    let p = c.in-Ok.plan in
    let h = g.H.Hardware.machinery c.run_guests.new.hw in
    let have : HaveRun (guests_in (judged_run p)) c.in-Ok-run_guests.ran h =
    subst (λ (m : Machine). HaveRun (run_of m p.images p.slice p.steps) c.in-Ok-run_guests.ran h) c.of-accepted.ensures.same
    (subst (λ (xs : List (List ℕ)). HaveRun (run_of c.of-accepted.result.machine.now xs p.slice p.steps) c.in-Ok-run_guests.ran h) c.as_slice-images.ensures c.in-Ok-run_guests.ensures.have_run) in
    subst (λ gs. AreWithin h.state gs) (sym c.guests-guests.ensures) (have-within (guests_in (judged_run p)) c.in-Ok-run_guests.ran h have)

pub returns-in-Ok-put_guests-clause-carries : goal.returns-in-Ok-put_guests-clause-carries
returns-in-Ok-put_guests-clause-carries g c =
    let p = c.in-Ok.plan in
    let j = judged_run p in
    let r = guests_in j in
    let old = around g.F.Shelf g.S.Sink g.H.Hardware c.args.shelf.now c.args.out.now c.args.hw.now in
    let new = around g.F.Shelf g.S.Sink g.H.Hardware c.prepare_run.new.shelf c.put_guests.new.out c.run_guests.new.hw in
    let is : verdict_on (judged_by j) ≡ Accepted = sym c.verdict.ensures ∙ c.is_accepted.ensures.yes c.if-not-is_accepted.false in
    let ran : RanGuests r old.hw new.hw =
    subst (λ (m : Machine). RanGuests (run_of m p.images p.slice p.steps) old.hw new.hw) c.of-accepted.ensures.same
    (subst (λ (xs : List (List ℕ)). RanGuests (run_of c.of-accepted.result.machine.now xs p.slice p.steps) old.hw new.hw) c.as_slice-images.ensures c.in-Ok-run_guests.ensures.ran) in
    let have : HaveRun r c.in-Ok-run_guests.ran new.hw =
    subst (λ (m : Machine). HaveRun (run_of m p.images p.slice p.steps) c.in-Ok-run_guests.ran new.hw) c.of-accepted.ensures.same
    (subst (λ (xs : List (List ℕ)). HaveRun (run_of c.of-accepted.result.machine.now xs p.slice p.steps) c.in-Ok-run_guests.ran new.hw) c.as_slice-images.ensures c.in-Ok-run_guests.ensures.have_run) in
    let told = ran-text r c.in-Ok-run_guests.ran new.hw c.guests-guests.result.now c.turns-turns.result c.direct-direct.result have c.guests-guests.ensures c.turns-turns.ensures c.direct-direct.ensures in
    let put : Puts {T = Unit {0}} {E = Failed} old.out.written new.out.written old.out.faults new.out.faults (text_of r) c.put_guests.result =
    subst (λ t. Puts {T = Unit {0}} {E = Failed} old.out.written new.out.written old.out.faults new.out.faults t c.put_guests.result) told c.put_guests.ensures in
    let ends = run-ran j old new is (c.in-Ok.ensures.accepts is) p.filled (reached-bare p.judged.machine p.images p.slice p.steps) ran c.prepare_run.ensures.reads.same_files
    c.prepare_run.ensures.reads.same_saves in
    let whole = subst (λ x. Puts {T = Unit {0}} {E = Failed} old.out.written new.out.written old.out.faults new.out.faults (text_of r) x) c.in-Ok-put_guests.is put in
    carries-done (run_command c.args.words.now) old new j (text_of r) c.in-Ok.ensures.comes ends whole.whole

pub returns-clause-carries : goal.returns-clause-carries
returns-clause-carries g c =
    let p = c.in-Ok.plan in
    let j = judged_run p in
    let r = guests_in j in
    let old = around g.F.Shelf g.S.Sink g.H.Hardware c.args.shelf.now c.args.out.now c.args.hw.now in
    let new = around g.F.Shelf g.S.Sink g.H.Hardware c.prepare_run.new.shelf c.put_guests.new.out c.run_guests.new.hw in
    let is : verdict_on (judged_by j) ≡ Accepted = sym c.verdict.ensures ∙ c.is_accepted.ensures.yes c.if-not-is_accepted.false in
    let ran : RanGuests r old.hw new.hw =
    subst (λ (m : Machine). RanGuests (run_of m p.images p.slice p.steps) old.hw new.hw) c.of-accepted.ensures.same
    (subst (λ (xs : List (List ℕ)). RanGuests (run_of c.of-accepted.result.machine.now xs p.slice p.steps) old.hw new.hw) c.as_slice-images.ensures c.in-Ok-run_guests.ensures.ran) in
    let have : HaveRun r c.in-Ok-run_guests.ran new.hw =
    subst (λ (m : Machine). HaveRun (run_of m p.images p.slice p.steps) c.in-Ok-run_guests.ran new.hw) c.of-accepted.ensures.same
    (subst (λ (xs : List (List ℕ)). HaveRun (run_of c.of-accepted.result.machine.now xs p.slice p.steps) c.in-Ok-run_guests.ran new.hw) c.as_slice-images.ensures c.in-Ok-run_guests.ensures.have_run) in
    let told = ran-text r c.in-Ok-run_guests.ran new.hw c.guests-guests.result.now c.turns-turns.result c.direct-direct.result have c.guests-guests.ensures c.turns-turns.ensures c.direct-direct.ensures in
    let put : Puts {T = Unit {0}} {E = Failed} old.out.written new.out.written old.out.faults new.out.faults (text_of r) c.put_guests.result =
    subst (λ t. Puts {T = Unit {0}} {E = Failed} old.out.written new.out.written old.out.faults new.out.faults t c.put_guests.result) told c.put_guests.ensures in
    let ends = run-ran j old new is (c.in-Ok.ensures.accepts is) p.filled (reached-bare p.judged.machine p.images p.slice p.steps) ran c.prepare_run.ensures.reads.same_files
    c.prepare_run.ensures.reads.same_saves in
    let broken = subst (λ x. Puts {T = Unit {0}} {E = Failed} old.out.written new.out.written old.out.faults new.out.faults (text_of r) x) c.in-Err-put_guests.is put in
    carries-broken (run_command c.args.words.now) old new j Done (text_of r) c.in-Ok.ensures.comes ends (record { cause = broken.cause; front = broken.front })

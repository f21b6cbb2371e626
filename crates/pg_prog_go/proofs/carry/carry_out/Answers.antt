use Rattle.std.proofs.Common.{◌≡◌, ◌∙◌, ℕ, All, List, refl, sym, ap, subst, arith}
use Rattle.pg_mach_ready.specs.declared.machine.Machine.{Machine}
use Rattle.pg_cert.specs.declared.report.Verdict.TheVariants.{Accepted}
use Rattle.pg_run_guests.specs.Runs.{run_of}
use Rattle.pg_run_guests.specs.Setting.{SetUp}
use Rattle.pg_mon_control.specs.Guests.{virtuals}
use Rattle.pg_run_still.specs.declared.view.View.{View}
use Rattle.pg_edge.specs.Sink.{Puts}
use Rattle.pg_edge.specs.declared.shelf.Failed.{Failed}
use Rattle.pg_cmd_base.specs.declared.status.Status.TheVariants.{Done}
use Rattle.pg_cmd_base.specs.World.{IsUntouched, around}
use Rattle.pg_cmd_base.proofs.AbleLemmas.{size-small}
use Rattle.pg_cmd_base.proofs.CarryLemmas.{carries-done, carries-broken, carries-starved}
use Rattle.pg_cmd_certs.specs.Judged.{verdict_on}
use Rattle.pg_cmd_certs.proofs.TellingLemmas.{carries-told}
use Rattle.pg_cmd_run.specs.Run.{guests_in, judged_by}
use Rattle.pg_run_still.specs.Rested.{HaveRested}
use Rattle.pg_run_still.specs.Running.{still_text, text_of_rest}
use Rattle.pg_run_still.specs.Views.{AreViewsOf}
use Rattle.pg_prog_go.specs.Going.{go_command}
use Rattle.pg_prog_go.specs.Plans.{judged_go}
use Rattle.pg_prog_go.proofs.EndsLemmas.{go-told, go-ran, granted-by, rested-text, rested-count, rested-views, rested-within}
use Rattle.pg_prog_go.proofs.carry.carry_out.Goals as goal

-- ---- the verdict is told

pub returns-then-not-is_accepted-clause-carries : goal.returns-then-not-is_accepted-clause-carries
returns-then-not-is_accepted-clause-carries g c =
    let r = c.args.words.now in
    let j = judged_go c.in-Ok.plan in
    let old = around g.F.Shelf g.S.Sink g.H.Hardware c.args.shelf.now c.args.out.now c.args.hw.now in
    let new = around g.F.Shelf g.S.Sink g.H.Hardware c.prepare_go.new.shelf c.tell_verdict.new.out c.args.hw.now in
    let other : ¬ (verdict_on (judged_by j) ≡ Accepted) = λ e. c.is_accepted.ensures.no c.if-not-is_accepted.true (c.verdict.ensures ∙ e) in
    let same : IsUntouched old new = record { files = c.prepare_go.ensures.reads.same_files; saves = c.prepare_go.ensures.reads.same_saves; hw = refl } in
    carries-told (go_command r) (judged_by j) old new j c.tell_verdict.result c.in-Ok.ensures.comes
    (go-told (g.F.Shelf.files c.args.shelf.now) r j old new c.in-Ok.ensures.comes other same) c.tell_verdict.ensures.told

-- ---- the guests run

pub of-accepted-requires : goal.of-accepted-requires
of-accepted-requires g c = c.in-Ok.ensures.accepts (sym c.verdict.ensures ∙ c.is_accepted.ensures.yes c.if-not-is_accepted.false)

pub run_until_still-requires-clause-room : goal.run_until_still-requires-clause-room
run_until_still-requires-clause-room g c =
    let m = c.in-Ok.plan.judged.machine in
    let same = ap (λ (x : Machine). x.desc.size) c.of-accepted.ensures.same in
    let small = size-small m.desc m.valid in
    omega (arith, same, small, c.requires.able.room)

pub returns-in-Err-run_until_still-clause-carries : goal.returns-in-Err-run_until_still-clause-carries
returns-in-Err-run_until_still-clause-carries g c =
    let p = c.in-Ok.plan in
    let j = judged_go p in
    let old = around g.F.Shelf g.S.Sink g.H.Hardware c.args.shelf.now c.args.out.now c.args.hw.now in
    let new = around g.F.Shelf g.S.Sink g.H.Hardware c.prepare_go.new.shelf c.args.out.now c.run_until_still.new.hw in
    let set_up : SetUp (guests_in j) old.hw new.hw =
    subst (λ (m : Machine). SetUp (run_of m p.images p.slice p.steps) old.hw new.hw) c.of-accepted.ensures.same
    (subst (λ (xs : List (List ℕ)). SetUp (run_of c.of-accepted.result.machine.now xs p.slice p.steps) old.hw new.hw) c.as_slice-images.ensures c.in-Err-run_until_still.ensures.set_up) in
    carries-starved (go_command c.args.words.now) old new j c.in-Ok.ensures.comes
    (record {
      accepted = sym c.verdict.ensures ∙ c.is_accepted.ensures.yes c.if-not-is_accepted.false;
      silent = refl {a = old.out};
      files = c.prepare_go.ensures.reads.same_files;
      saves = c.prepare_go.ensures.reads.same_saves;
      set_up = set_up;
    })

pub put_rested-requires-clause-words : goal.put_rested-requires-clause-words
put_rested-requires-clause-words g c =
    let p = c.in-Ok.plan in
    let have : HaveRested (guests_in (judged_go p)) c.in-Ok-run_until_still.ran (g.H.Hardware.machinery c.args.hw.now) (g.H.Hardware.machinery c.run_until_still.new.hw) =
    subst (λ (m : Machine). HaveRested (run_of m p.images p.slice p.steps) c.in-Ok-run_until_still.ran (g.H.Hardware.machinery c.args.hw.now) (g.H.Hardware.machinery c.run_until_still.new.hw)) c.of-accepted.ensures.same
    (subst (λ (xs : List (List ℕ)). HaveRested (run_of c.of-accepted.result.machine.now xs p.slice p.steps) c.in-Ok-run_until_still.ran (g.H.Hardware.machinery c.args.hw.now) (g.H.Hardware.machinery c.run_until_still.new.hw)) c.as_slice-images.ensures c.in-Ok-run_until_still.ensures.rested) in
    have.stands.real_state.words

pub put_rested-requires-clause-within : goal.put_rested-requires-clause-within
put_rested-requires-clause-within g c =
    let p = c.in-Ok.plan in
    let have : HaveRested (guests_in (judged_go p)) c.in-Ok-run_until_still.ran (g.H.Hardware.machinery c.args.hw.now) (g.H.Hardware.machinery c.run_until_still.new.hw) =
    subst (λ (m : Machine). HaveRested (run_of m p.images p.slice p.steps) c.in-Ok-run_until_still.ran (g.H.Hardware.machinery c.args.hw.now) (g.H.Hardware.machinery c.run_until_still.new.hw)) c.of-accepted.ensures.same
    (subst (λ (xs : List (List ℕ)). HaveRested (run_of c.of-accepted.result.machine.now xs p.slice p.steps) c.in-Ok-run_until_still.ran (g.H.Hardware.machinery c.args.hw.now) (g.H.Hardware.machinery c.run_until_still.new.hw)) c.as_slice-images.ensures c.in-Ok-run_until_still.ensures.rested) in
    rested-within (guests_in (judged_go p)) c.in-Ok-run_until_still.ran _ _ have

pub put_rested-requires-clause-views : goal.put_rested-requires-clause-views
put_rested-requires-clause-views g c =
    let p = c.in-Ok.plan in
    let have : HaveRested (guests_in (judged_go p)) c.in-Ok-run_until_still.ran (g.H.Hardware.machinery c.args.hw.now) (g.H.Hardware.machinery c.run_until_still.new.hw) =
    subst (λ (m : Machine). HaveRested (run_of m p.images p.slice p.steps) c.in-Ok-run_until_still.ran (g.H.Hardware.machinery c.args.hw.now) (g.H.Hardware.machinery c.run_until_still.new.hw)) c.of-accepted.ensures.same
    (subst (λ (xs : List (List ℕ)). HaveRested (run_of c.of-accepted.result.machine.now xs p.slice p.steps) c.in-Ok-run_until_still.ran (g.H.Hardware.machinery c.args.hw.now) (g.H.Hardware.machinery c.run_until_still.new.hw)) c.as_slice-images.ensures c.in-Ok-run_until_still.ensures.rested) in
    let w = c.args.words.now in
    let granted = granted-by (g.F.Shelf.files c.args.shelf.now) w (judged_go p) c.in-Ok.ensures.comes in
    let within : AreViewsOf (judged_go p).grant w.views.items = subst (λ n. AreViewsOf n w.views.items) granted w.within in
    subst (λ (vs : List View). All (λ guest. AreViewsOf guest.size vs) c.in-Ok-run_until_still.ran.monitor.guests) (sym c.as_slice.ensures.value)
    (rested-views (judged_go p) w.views.items c.in-Ok-run_until_still.ran _ _ have p.filled within)

pub put_rested-requires-clause-count : goal.put_rested-requires-clause-count
put_rested-requires-clause-count g c =
    let p = c.in-Ok.plan in
    let have : HaveRested (guests_in (judged_go p)) c.in-Ok-run_until_still.ran (g.H.Hardware.machinery c.args.hw.now) (g.H.Hardware.machinery c.run_until_still.new.hw) =
    subst (λ (m : Machine). HaveRested (run_of m p.images p.slice p.steps) c.in-Ok-run_until_still.ran (g.H.Hardware.machinery c.args.hw.now) (g.H.Hardware.machinery c.run_until_still.new.hw)) c.of-accepted.ensures.same
    (subst (λ (xs : List (List ℕ)). HaveRested (run_of c.of-accepted.result.machine.now xs p.slice p.steps) c.in-Ok-run_until_still.ran (g.H.Hardware.machinery c.args.hw.now) (g.H.Hardware.machinery c.run_until_still.new.hw)) c.as_slice-images.ensures c.in-Ok-run_until_still.ensures.rested) in
    rested-count (guests_in (judged_go p)) c.in-Ok-run_until_still.ran _ _ have

pub returns-in-Ok-put_rested-clause-carries : goal.returns-in-Ok-put_rested-clause-carries
returns-in-Ok-put_rested-clause-carries g c =
    let p = c.in-Ok.plan in
    let j = judged_go p in
    let r = guests_in j in
    let ran_code = c.in-Ok-run_until_still.ran in
    let old = around g.F.Shelf g.S.Sink g.H.Hardware c.args.shelf.now c.args.out.now c.args.hw.now in
    let new = around g.F.Shelf g.S.Sink g.H.Hardware c.prepare_go.new.shelf c.put_rested.new.out c.run_until_still.new.hw in
    let is : verdict_on (judged_by j) ≡ Accepted = sym c.verdict.ensures ∙ c.is_accepted.ensures.yes c.if-not-is_accepted.false in
    let have : HaveRested (guests_in (judged_go p)) c.in-Ok-run_until_still.ran (g.H.Hardware.machinery c.args.hw.now) (g.H.Hardware.machinery c.run_until_still.new.hw) =
    subst (λ (m : Machine). HaveRested (run_of m p.images p.slice p.steps) c.in-Ok-run_until_still.ran (g.H.Hardware.machinery c.args.hw.now) (g.H.Hardware.machinery c.run_until_still.new.hw)) c.of-accepted.ensures.same
    (subst (λ (xs : List (List ℕ)). HaveRested (run_of c.of-accepted.result.machine.now xs p.slice p.steps) c.in-Ok-run_until_still.ran (g.H.Hardware.machinery c.args.hw.now) (g.H.Hardware.machinery c.run_until_still.new.hw)) c.as_slice-images.ensures c.in-Ok-run_until_still.ensures.rested) in
    let vs = c.args.words.now.views.items in
    let told = ap (λ (xs : List View). still_text r.desc.word xs (virtuals new.hw.state.cells ran_code.monitor.guests) ran_code.rests.items ran_code.turns ran_code.direct) c.as_slice.ensures.value
    ∙ rested-text r vs ran_code old.hw new.hw have in
    let put : Puts {T = Unit {0}} {E = Failed} old.out.written new.out.written old.out.faults new.out.faults (text_of_rest r vs ran_code.rests.items have.rounds) c.put_rested.result =
    subst (λ t. Puts {T = Unit {0}} {E = Failed} old.out.written new.out.written old.out.faults new.out.faults t c.put_rested.result) told c.put_rested.ensures in
    let ends = go-ran vs j ran_code old new is (c.in-Ok.ensures.accepts is) p.filled have c.prepare_go.ensures.reads.same_files
    c.prepare_go.ensures.reads.same_saves in
    let whole = subst (λ x. Puts {T = Unit {0}} {E = Failed} old.out.written new.out.written old.out.faults new.out.faults (text_of_rest r vs ran_code.rests.items have.rounds) x) c.in-Ok-put_rested.is put in
    carries-done (go_command c.args.words.now) old new j (text_of_rest r vs ran_code.rests.items have.rounds) c.in-Ok.ensures.comes ends whole.whole

pub returns-clause-carries : goal.returns-clause-carries
returns-clause-carries g c =
    let p = c.in-Ok.plan in
    let j = judged_go p in
    let r = guests_in j in
    let ran_code = c.in-Ok-run_until_still.ran in
    let old = around g.F.Shelf g.S.Sink g.H.Hardware c.args.shelf.now c.args.out.now c.args.hw.now in
    let new = around g.F.Shelf g.S.Sink g.H.Hardware c.prepare_go.new.shelf c.put_rested.new.out c.run_until_still.new.hw in
    let is : verdict_on (judged_by j) ≡ Accepted = sym c.verdict.ensures ∙ c.is_accepted.ensures.yes c.if-not-is_accepted.false in
    let have : HaveRested (guests_in (judged_go p)) c.in-Ok-run_until_still.ran (g.H.Hardware.machinery c.args.hw.now) (g.H.Hardware.machinery c.run_until_still.new.hw) =
    subst (λ (m : Machine). HaveRested (run_of m p.images p.slice p.steps) c.in-Ok-run_until_still.ran (g.H.Hardware.machinery c.args.hw.now) (g.H.Hardware.machinery c.run_until_still.new.hw)) c.of-accepted.ensures.same
    (subst (λ (xs : List (List ℕ)). HaveRested (run_of c.of-accepted.result.machine.now xs p.slice p.steps) c.in-Ok-run_until_still.ran (g.H.Hardware.machinery c.args.hw.now) (g.H.Hardware.machinery c.run_until_still.new.hw)) c.as_slice-images.ensures c.in-Ok-run_until_still.ensures.rested) in
    let vs = c.args.words.now.views.items in
    let told = ap (λ (xs : List View). still_text r.desc.word xs (virtuals new.hw.state.cells ran_code.monitor.guests) ran_code.rests.items ran_code.turns ran_code.direct) c.as_slice.ensures.value
    ∙ rested-text r vs ran_code old.hw new.hw have in
    let put : Puts {T = Unit {0}} {E = Failed} old.out.written new.out.written old.out.faults new.out.faults (text_of_rest r vs ran_code.rests.items have.rounds) c.put_rested.result =
    subst (λ t. Puts {T = Unit {0}} {E = Failed} old.out.written new.out.written old.out.faults new.out.faults t c.put_rested.result) told c.put_rested.ensures in
    let ends = go-ran vs j ran_code old new is (c.in-Ok.ensures.accepts is) p.filled have c.prepare_go.ensures.reads.same_files
    c.prepare_go.ensures.reads.same_saves in
    let broken = subst (λ x. Puts {T = Unit {0}} {E = Failed} old.out.written new.out.written old.out.faults new.out.faults (text_of_rest r vs ran_code.rests.items have.rounds) x) c.in-Err-put_rested.is put in
    carries-broken (go_command c.args.words.now) old new j Done (text_of_rest r vs ran_code.rests.items have.rounds) c.in-Ok.ensures.comes ends (record { cause = broken.cause; front = broken.front })

use Rattle.std.proofs.Common.{◌∙◌, refl, sym, ap, subst}
use Rattle.pg_cert.specs.declared.cert.Family.TheVariants.{Plain}
use Rattle.pg_edge.specs.Told.{BothTold}
use Rattle.pg_run_guests.specs.Runs.{GuestRun}
use Rattle.pg_run_guests.specs.Setting.{SetUp}
use Rattle.pg_cmd_certs.specs.Judged.{verdict_on, verdict_status}
use Rattle.pg_cmd_certs.proofs.TellingLemmas.{verdict-ended}
use Rattle.pg_cmd_base.specs.Commands.{Carries}
use Rattle.pg_cmd_base.specs.World.{around}
use Rattle.pg_cmd_base.proofs.CarryLemmas.{carries-ended, carries-broken, carries-starved, carries-unsaved}
use Rattle.pg_cmd_certs.specs.Saving.{HasSaved, HoldsNow, HoldsAtMost}
use Rattle.pg_cmd_certs.proofs.SavingLemmas.{is_saved}
use Rattle.pg_cmd_gen.specs.Generating.{GenEnds, RanBy, gen_command, generated_text}
use Rattle.pg_cmd_gen.specs.Plans.{judged_input}
use Rattle.pg_cmd_gen.proofs.GeneratingLemmas.{checked-accepts, gen-ends, plan-run}
use Rattle.pg_cmd_gen.proofs.generating.carry_gen.Goals as goal

pub returns-in-Err-save_text-clause-carries : goal.returns-in-Err-save_text-clause-carries
returns-in-Err-save_text-clause-carries g c =
    let w = c.args.words.now in
    let p = c.in-Ok.plan in
    let old = around g.F.Shelf g.S.Sink g.H.Hardware c.args.shelf.now c.args.out.now c.args.hw.now in
    let new = around g.F.Shelf g.S.Sink g.H.Hardware c.save_text.new.shelf c.args.out.now c.args.hw.now in
    carries-unsaved (gen_command w) old new p.cert.judged.machine.desc w.cert c.in-Ok.ensures.desc refl c.in-Err-save_text.ensures.cause refl
    (record {
      bytes = p.cert.text.items;
      report = p.cert.judged.report;
      checked = c.in-Ok.ensures.checked;
      unsaved = record { left = subst (λ bytes. BothTold old.files new.files (HoldsAtMost w.cert bytes)) c.as_slice.ensures.value c.in-Err-save_text.ensures.left; hw = refl };
    })

pub run_plan-requires-clause-accepts : goal.run_plan-requires-clause-accepts
run_plan-requires-clause-accepts g c = λ is.
    let p = c.in-Ok.plan in
    checked-accepts p.cert.judged.machine.desc p.cert.text.items p.cert.judged.report p.cert.judged.machine.valid c.in-Ok.ensures.checked is

-- the certificate is saved, and memory is refused for the guests
pub returns-in-Err-run_plan-clause-carries : goal.returns-in-Err-run_plan-clause-carries
returns-in-Err-run_plan-clause-carries g c =
    let w = c.args.words.now in
    let p = c.in-Ok.plan in
    let j = judged_input p in
    let bytes = p.cert.text.items in
    let old = around g.F.Shelf g.S.Sink g.H.Hardware c.args.shelf.now c.args.out.now c.args.hw.now in
    let new = around g.F.Shelf g.S.Sink g.H.Hardware c.save_text.new.shelf c.args.out.now c.run_plan.new.hw in
    let saved : HasSaved w.cert bytes old new = record {
      saved = subst (λ bs. BothTold old.files new.files (HoldsNow w.cert bs)) c.as_slice.ensures.value c.in-Ok-save_text.ensures.saved;
      whole = c.in-Ok-save_text.ensures.whole;
    } in
    carries-starved (gen_command w) old new j.desc c.in-Ok.ensures.desc
    (record {
      bytes = bytes;
      report = j.report;
      checked = c.in-Ok.ensures.checked;
      saving = is_saved w.cert Plain old new bytes j p.cert.judged.machine.valid c.in-Ok.ensures.checked.written saved;
      accepted = c.in-Err-run_plan.ensures.accepted;
      silent = refl;
      set_up = subst (λ (r : GuestRun). SetUp r old.hw new.hw) (plan-run p w c.in-Ok.ensures.images) c.in-Err-run_plan.ensures.set_up;
    })

-- its text is put

pub returns-in-Ok-put_generated-clause-carries : goal.returns-in-Ok-put_generated-clause-carries
returns-in-Ok-put_generated-clause-carries g c =
    let w = c.args.words.now in
    let p = c.in-Ok.plan in
    let j = judged_input p in
    let v = verdict_on j in
    let bytes = p.cert.text.items in
    let old = around g.F.Shelf g.S.Sink g.H.Hardware c.args.shelf.now c.args.out.now c.args.hw.now in
    let new = around g.F.Shelf g.S.Sink g.H.Hardware c.save_text.new.shelf c.put_generated.new.out c.run_plan.new.hw in
    let saved : HasSaved w.cert bytes old new = record {
      saved = subst (λ bs. BothTold old.files new.files (HoldsNow w.cert bs)) c.as_slice.ensures.value c.in-Ok-save_text.ensures.saved;
      whole = c.in-Ok-save_text.ensures.whole;
    } in
    let ends : GenEnds w j.desc old new (verdict_status v) (generated_text w j.desc v) =
    gen-ends w j old new bytes p.cert.judged.machine.valid c.in-Ok.ensures.checked saved
    (subst (λ (r : GuestRun). RanBy v r old.hw new.hw) (plan-run p w c.in-Ok.ensures.images) c.in-Ok-run_plan.ensures.ran) in
    subst (λ s. Carries (gen_command w) old new s) (sym (c.status_of.ensures ∙ ap verdict_status c.verdict.ensures))
    (carries-ended (gen_command w) old new j.desc (verdict_status v) (generated_text w j.desc v) (verdict-ended v)
    c.in-Ok.ensures.desc ends c.in-Ok-put_generated.ensures.whole)

pub returns-clause-carries : goal.returns-clause-carries
returns-clause-carries g c =
    let w = c.args.words.now in
    let p = c.in-Ok.plan in
    let j = judged_input p in
    let v = verdict_on j in
    let bytes = p.cert.text.items in
    let old = around g.F.Shelf g.S.Sink g.H.Hardware c.args.shelf.now c.args.out.now c.args.hw.now in
    let new = around g.F.Shelf g.S.Sink g.H.Hardware c.save_text.new.shelf c.put_generated.new.out c.run_plan.new.hw in
    let saved : HasSaved w.cert bytes old new = record {
      saved = subst (λ bs. BothTold old.files new.files (HoldsNow w.cert bs)) c.as_slice.ensures.value c.in-Ok-save_text.ensures.saved;
      whole = c.in-Ok-save_text.ensures.whole;
    } in
    carries-broken (gen_command w) old new j.desc (verdict_status v) (generated_text w j.desc v) c.in-Ok.ensures.desc
    (gen-ends w j old new bytes p.cert.judged.machine.valid c.in-Ok.ensures.checked saved
    (subst (λ (r : GuestRun). RanBy v r old.hw new.hw) (plan-run p w c.in-Ok.ensures.images) c.in-Ok-run_plan.ensures.ran))
    (record { cause = c.in-Err-put_generated.ensures.cause; front = c.in-Err-put_generated.ensures.front })

use Rattle.std.proofs.Common.{◌≡◌, ◌∙◌, ℕ, List, refl, sym, subst, arith}
use Rattle.pg_cert.specs.declared.report.Verdict.TheVariants.{Accepted}
use Rattle.pg_edge.specs.Count.{Rose}
use Rattle.pg_edge.specs.Shelf.{Files}
use Rattle.pg_edge.specs.Sink.{Puts}
use Rattle.pg_edge.specs.Told.{BothTold}
use Rattle.pg_edge.specs.declared.shelf.Failed.{Failed}
use Rattle.pg_run_guests.proofs.ToldLemmas.{have-within}
use Rattle.pg_cmd_certs.specs.Judged.{verdict_on}
use Rattle.pg_cmd_certs.proofs.TellingLemmas.{carries-told}
use Rattle.pg_run_guests.specs.Telling.{AreWithin}
use Rattle.pg_cmd_base.specs.declared.status.Status.TheVariants.{Done}
use Rattle.pg_cmd_base.specs.World.{IsUntouched, around}
use Rattle.pg_cmd_base.proofs.CarryLemmas.{carries-stopped, carries-done, carries-broken, carries-starved, carries-unsaved}
use Rattle.pg_cmd_certs.specs.Saving.{HasSaved, HoldsNow, HoldsAtMost}
use Rattle.pg_cmd_save.specs.Plans.{save_run}
use Rattle.pg_cmd_save.specs.Save.{guest_of, judged_by, reached, save_command, saved_of, told_of_run}
use Rattle.pg_cmd_save.proofs.GuestLemmas.{ran-told}
use Rattle.pg_cmd_save.proofs.RunLemmas.{save-reached}
use Rattle.pg_cmd_save.proofs.EndsLemmas.{save-told, save-ran}
use Rattle.pg_cmd_save.proofs.save.carry_save.Goals as goal

-- ---- it stops before its work

pub returns-in-Err-clause-carries : goal.returns-in-Err-clause-carries
returns-in-Err-clause-carries g c =
    let old = around g.F.Shelf g.S.Sink g.H.Hardware c.args.shelf.now c.args.out.now c.args.hw.now in
    let new = around g.F.Shelf g.S.Sink g.H.Hardware c.prepare_save.new.shelf c.stopped.new.out c.args.hw.now in
    carries-stopped (save_command c.args.words.now) save_run old new c.in-Err.stop c.stopped.result c.in-Err.ensures.comes c.stopped.ensures.stops
    (record { files = c.prepare_save.ensures.reads.same_files; saves = c.prepare_save.ensures.reads.same_saves; hw = refl })

-- ---- the verdict is told

pub returns-then-not-is_accepted-clause-carries : goal.returns-then-not-is_accepted-clause-carries
returns-then-not-is_accepted-clause-carries g c =
    let s = c.args.words.now in
    let j = save_run c.in-Ok.plan in
    let old = around g.F.Shelf g.S.Sink g.H.Hardware c.args.shelf.now c.args.out.now c.args.hw.now in
    let new = around g.F.Shelf g.S.Sink g.H.Hardware c.prepare_save.new.shelf c.tell_verdict.new.out c.args.hw.now in
    let other : ¬ (verdict_on (judged_by j) ≡ Accepted) = λ e. c.is_accepted.ensures.no c.if-not-is_accepted.true (c.verdict.ensures ∙ e) in
    let same : IsUntouched old new = record { files = c.prepare_save.ensures.reads.same_files; saves = c.prepare_save.ensures.reads.same_saves; hw = refl } in
    carries-told (save_command s) (judged_by j) old new j c.tell_verdict.result c.in-Ok.ensures.comes
    (save-told (g.F.Shelf.files c.args.shelf.now) s j old new c.in-Ok.ensures.comes other same) c.tell_verdict.ensures.told

-- ---- the guest runs

pub run_plan-requires-clause-accepted : goal.run_plan-requires-clause-accepted
run_plan-requires-clause-accepted g c = c.in-Ok.ensures.accepts (sym c.verdict.ensures ∙ c.is_accepted.ensures.yes c.if-not-is_accepted.false)

pub returns-in-Err-run_plan-clause-carries : goal.returns-in-Err-run_plan-clause-carries
returns-in-Err-run_plan-clause-carries g c =
    let j = save_run c.in-Ok.plan in
    let old = around g.F.Shelf g.S.Sink g.H.Hardware c.args.shelf.now c.args.out.now c.args.hw.now in
    let new = around g.F.Shelf g.S.Sink g.H.Hardware c.prepare_save.new.shelf c.args.out.now c.run_plan.new.hw in
    carries-starved (save_command c.args.words.now) old new j c.in-Ok.ensures.comes
    (record {
      accepted = sym c.verdict.ensures ∙ c.is_accepted.ensures.yes c.if-not-is_accepted.false;
      silent = refl {a = old.out};
      files = c.prepare_save.ensures.reads.same_files;
      saves = c.prepare_save.ensures.reads.same_saves;
      set_up = c.in-Err-run_plan.ensures.set_up;
    })

-- the save failed
pub returns-in-Err-save_text-clause-carries : goal.returns-in-Err-save_text-clause-carries
returns-in-Err-save_text-clause-carries g c =
    let s = c.args.words.now in
    let j = save_run c.in-Ok.plan in
    let old = around g.F.Shelf g.S.Sink g.H.Hardware c.args.shelf.now c.args.out.now c.args.hw.now in
    let new = around g.F.Shelf g.S.Sink g.H.Hardware c.save_text.new.shelf c.args.out.now c.run_plan.new.hw in
    let reads = c.prepare_save.ensures.reads in
    let mid = g.F.Shelf.files c.prepare_save.new.shelf in
    let left : BothTold old.files new.files (HoldsAtMost s.file (saved_of j)) =
    subst (λ f. BothTold f new.files (HoldsAtMost s.file (saved_of j))) reads.same_files
    (subst (λ bytes. BothTold mid new.files (HoldsAtMost s.file bytes)) (c.as_slice.ensures.value ∙ c.in-Ok-run_plan.ensures.text) c.in-Err-save_text.ensures.left) in
    carries-unsaved (save_command s) old new j s.file c.in-Ok.ensures.comes refl (subst (λ n. Rose n new.save_faults) reads.same_saves c.in-Err-save_text.ensures.cause)
    (refl {a = old.out})
    (record { accepted = sym c.verdict.ensures ∙ c.is_accepted.ensures.yes c.if-not-is_accepted.false; left = left; ran = c.in-Ok-run_plan.ensures.ran })

-- ---- its text is put

pub put_guests-requires-clause-words : goal.put_guests-requires-clause-words
put_guests-requires-clause-words g c = c.in-Ok-run_plan.ensures.have_run.stands.real_state.words

pub put_guests-requires-clause-within : goal.put_guests-requires-clause-within
put_guests-requires-clause-within g c =
    let h = g.H.Hardware.machinery c.run_plan.new.hw in
    subst (λ gs. AreWithin h.state gs) (sym c.guests-guests.ensures) (have-within (guest_of (save_run c.in-Ok.plan)) c.in-Ok-run_plan.saved.ran h c.in-Ok-run_plan.ensures.have_run)

pub returns-in-Ok-put_guests-clause-carries : goal.returns-in-Ok-put_guests-clause-carries
returns-in-Ok-put_guests-clause-carries g c =
    let s = c.args.words.now in
    let p = c.in-Ok.plan in
    let j = save_run p in
    let old = around g.F.Shelf g.S.Sink g.H.Hardware c.args.shelf.now c.args.out.now c.args.hw.now in
    let new = around g.F.Shelf g.S.Sink g.H.Hardware c.save_text.new.shelf c.put_guests.new.out c.run_plan.new.hw in
    let mid = g.F.Shelf.files c.prepare_save.new.shelf in
    let is : verdict_on (judged_by j) ≡ Accepted = sym c.verdict.ensures ∙ c.is_accepted.ensures.yes c.if-not-is_accepted.false in
    let saved : HasSaved s.file (saved_of j) old new = record {
      saved = subst (λ f. BothTold f new.files (HoldsNow s.file (saved_of j))) c.prepare_save.ensures.reads.same_files
          (subst (λ bytes. BothTold mid new.files (HoldsNow s.file bytes)) (c.as_slice.ensures.value ∙ c.in-Ok-run_plan.ensures.text) c.in-Ok-save_text.ensures.saved);
      whole = c.in-Ok-save_text.ensures.whole ∙ c.prepare_save.ensures.reads.same_saves;
    } in
    let told = ran-told (guest_of j) (reached j) c.in-Ok-run_plan.saved.ran new.hw c.guests-guests.result.now c.turns-turns.result c.direct-direct.result c.in-Ok-run_plan.ensures.have_run
    (save-reached j p.filled) (omega arith) c.guests-guests.ensures c.turns-turns.ensures c.direct-direct.ensures in
    let put : Puts {T = Unit {0}} {E = Failed} old.out.written new.out.written old.out.faults new.out.faults (told_of_run j) c.put_guests.result =
    subst (λ t. Puts {T = Unit {0}} {E = Failed} old.out.written new.out.written old.out.faults new.out.faults t c.put_guests.result) told c.put_guests.ensures in
    let ends = save-ran s.file j old new is (c.in-Ok.ensures.accepts is) p.filled saved c.in-Ok-run_plan.ensures.ran in
    let whole = subst (λ x. Puts {T = Unit {0}} {E = Failed} old.out.written new.out.written old.out.faults new.out.faults (told_of_run j) x) c.in-Ok-put_guests.is put in
    carries-done (save_command s) old new j (told_of_run j) c.in-Ok.ensures.comes ends whole.whole

pub returns-clause-carries : goal.returns-clause-carries
returns-clause-carries g c =
    let s = c.args.words.now in
    let p = c.in-Ok.plan in
    let j = save_run p in
    let old = around g.F.Shelf g.S.Sink g.H.Hardware c.args.shelf.now c.args.out.now c.args.hw.now in
    let new = around g.F.Shelf g.S.Sink g.H.Hardware c.save_text.new.shelf c.put_guests.new.out c.run_plan.new.hw in
    let mid = g.F.Shelf.files c.prepare_save.new.shelf in
    let is : verdict_on (judged_by j) ≡ Accepted = sym c.verdict.ensures ∙ c.is_accepted.ensures.yes c.if-not-is_accepted.false in
    let saved : HasSaved s.file (saved_of j) old new = record {
      saved = subst (λ f. BothTold f new.files (HoldsNow s.file (saved_of j))) c.prepare_save.ensures.reads.same_files
          (subst (λ bytes. BothTold mid new.files (HoldsNow s.file bytes)) (c.as_slice.ensures.value ∙ c.in-Ok-run_plan.ensures.text) c.in-Ok-save_text.ensures.saved);
      whole = c.in-Ok-save_text.ensures.whole ∙ c.prepare_save.ensures.reads.same_saves;
    } in
    let told = ran-told (guest_of j) (reached j) c.in-Ok-run_plan.saved.ran new.hw c.guests-guests.result.now c.turns-turns.result c.direct-direct.result c.in-Ok-run_plan.ensures.have_run
    (save-reached j p.filled) (omega arith) c.guests-guests.ensures c.turns-turns.ensures c.direct-direct.ensures in
    let put : Puts {T = Unit {0}} {E = Failed} old.out.written new.out.written old.out.faults new.out.faults (told_of_run j) c.put_guests.result =
    subst (λ t. Puts {T = Unit {0}} {E = Failed} old.out.written new.out.written old.out.faults new.out.faults t c.put_guests.result) told c.put_guests.ensures in
    let ends = save-ran s.file j old new is (c.in-Ok.ensures.accepts is) p.filled saved c.in-Ok-run_plan.ensures.ran in
    let broken = subst (λ x. Puts {T = Unit {0}} {E = Failed} old.out.written new.out.written old.out.faults new.out.faults (told_of_run j) x) c.in-Err-put_guests.is put in
    carries-broken (save_command s) old new j Done (told_of_run j) c.in-Ok.ensures.comes ends (record { cause = broken.cause; front = broken.front })

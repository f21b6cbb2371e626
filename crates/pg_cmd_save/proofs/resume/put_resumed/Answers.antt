use Rattle.std.proofs.Common.{◌≡◌, ◌+◌, [], ◌∷◌, List, ℕ, Ok, Err, refl, sym, subst, arith}
use Rattle.pg_edge.specs.Sink.{Puts}
use Rattle.pg_edge.specs.declared.shelf.Failed.{Failed}
use Rattle.pg_edge.proofs.PutsLaws.{Puts-then, Puts-stopped}
use Rattle.pg_run_guests.proofs.ToldLemmas.{have-within}
use Rattle.pg_report.specs.Runs.{run_text, total_line}
use Rattle.pg_run_guests.specs.Telling.{AreWithin}
use Rattle.pg_cmd_save.specs.Plans.{resume_run}
use Rattle.pg_run_guests.specs.Runs.{direct_turns_of}
use Rattle.pg_cmd_save.specs.Resume.{ResumeRun, guest_on, reached_on}
use Rattle.pg_cmd_save.proofs.GuestLemmas.{ran-told}
use Rattle.pg_cmd_save.proofs.resume.put_resumed.Goals as goal

abbrev told_of_run_on : ResumeRun → List ℕ
told_of_run_on j = run_text j.desc.word (reached_on j ∷ []) j.steps (direct_turns_of (guest_on j))

pub put_guests-requires-clause-words : goal.put_guests-requires-clause-words
put_guests-requires-clause-words g c = c.requires.have_run.stands.real_state.words

pub put_guests-requires-clause-within : goal.put_guests-requires-clause-within
put_guests-requires-clause-within g c =
    let h = g.H.Hardware.machinery c.args.hw.now in
    subst (λ gs. AreWithin h.state gs) (sym c.guests-guests.ensures) (have-within (guest_on (resume_run c.args.plan.now)) c.args.ran.now h c.requires.have_run)

pub returns-in-Err : goal.returns-in-Err
returns-in-Err g c =
    let j = resume_run c.args.plan.now in
    let h = g.H.Hardware.machinery c.args.hw.now in
    let told = ran-told (guest_on j) (reached_on j) c.args.ran.now h c.guests-guests.result.now c.turns-turns.result c.direct-direct.result c.requires.have_run refl (omega arith)
    c.guests-guests.ensures c.turns-turns.ensures c.direct-direct.ensures in
    let first = subst (λ (t : List ℕ). Puts {T = Unit {0}} {E = Failed} (g.S.Sink.written c.args.out.now) (g.S.Sink.written c.put_guests.new.out) (g.S.Sink.faults c.args.out.now)
    (g.S.Sink.faults c.put_guests.new.out) t (Err c.in-Err.failed)) told c.in-Err.ensures in
    Puts-stopped _ _ _ _ (told_of_run_on j) (total_line (j.saved.steps + j.steps)) _ _ first

pub returns : goal.returns
returns g c =
    let j = resume_run c.args.plan.now in
    let h = g.H.Hardware.machinery c.args.hw.now in
    let told = ran-told (guest_on j) (reached_on j) c.args.ran.now h c.guests-guests.result.now c.turns-turns.result c.direct-direct.result c.requires.have_run refl (omega arith)
    c.guests-guests.ensures c.turns-turns.ensures c.direct-direct.ensures in
    let first = subst (λ (t : List ℕ). Puts {T = Unit {0}} {E = Failed} (g.S.Sink.written c.args.out.now) (g.S.Sink.written c.put_guests.new.out) (g.S.Sink.faults c.args.out.now)
    (g.S.Sink.faults c.put_guests.new.out) t (Ok c.in-Ok.field-0)) told c.in-Ok.ensures in
    let last = subst (λ (n : ℕ). Puts {T = Unit {0}} {E = Failed} (g.S.Sink.written c.put_guests.new.out) (g.S.Sink.written c.put_total.new.out) (g.S.Sink.faults c.put_guests.new.out)
    (g.S.Sink.faults c.put_total.new.out) (total_line (n + j.steps)) c.put_total.result) c.from.ensures c.put_total.ensures in
    Puts-then _ _ _ _ _ _ (told_of_run_on j) (total_line (j.saved.steps + j.steps)) _ _ first last

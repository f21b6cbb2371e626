use Rattle.std.proofs.Common.{◌≡◌, ◌∙◌, ◌++◌, ℕ, List, [], Option, Ok, Err, sym, ap, subst}
use Rattle.std.proofs.lemmas.Result.{err_from_is_err_and}
use Rattle.pg_ast.specs.declared.tree.Desc.{Desc}
use Rattle.pg_cmd_certs.specs.Judged.{verdict_on}
use Rattle.pg_edge.specs.Sink.{Puts}
use Rattle.pg_edge.specs.declared.shelf.Failed.{Failed}
use Rattle.pg_edge.proofs.PutsLaws.{Puts-none, Puts-then, Puts-stopped}
use Rattle.pg_run_guests.specs.declared.running.Ran.{Ran}
use Rattle.pg_run_guests.proofs.ToldLemmas.{have-within}
use Rattle.pg_run_guests.specs.Runs.{GuestRun}
use Rattle.pg_run_guests.specs.Telling.{AreWithin}
use Rattle.pg_report.specs.Summaries.{instructions_line}
use Rattle.pg_report.specs.Verdicts.{outcome_line}
use Rattle.pg_cmd_gen.specs.Generating.{HaveRunBy, generated_run, generated_text, run_told}
use Rattle.pg_cmd_gen.specs.Plans.{judged_input, run_of_plan}
use Rattle.pg_cmd_gen.proofs.GeneratingLemmas.{have-accepted, plan-run, told-some, told-none}
use Rattle.pg_cmd_gen.proofs.generating.put_generated.Goals as goal

pub returns-in_err-put_instructions : goal.returns-in_err-put_instructions
unfolding generated_text
returns-in_err-put_instructions g c =
    let w = c.args.words.now in
    let p = c.args.plan.now in
    let v = verdict_on (judged_input p) in
    let fault = err_from_is_err_and c.from_residual.result c.from_residual.ensures.1 in
    let put : Puts {T = Unit {0}} {E = Failed} (g.S.Sink.written c.args.out.now) (g.S.Sink.written c.put_instructions.new.out) (g.S.Sink.faults c.args.out.now)
    (g.S.Sink.faults c.put_instructions.new.out) (instructions_line w.count) (Err c.in_err-put_instructions.field-0.0) =
    subst (λ (n : ℕ). Puts {T = Unit {0}} {E = Failed} (g.S.Sink.written c.args.out.now) (g.S.Sink.written c.put_instructions.new.out) (g.S.Sink.faults c.args.out.now)
    (g.S.Sink.faults c.put_instructions.new.out) (instructions_line n) (Err c.in_err-put_instructions.field-0.0)) c.instrs.ensures.instrs c.in_err-put_instructions.ensures in
    rw fault.1 (Puts-stopped _ _ _ _ (instructions_line w.count) (outcome_line p.cert.judged.machine.desc v ++ run_told v (generated_run w p.cert.judged.machine.desc)) _ _ put)

pub returns-in_err-put_outcome : goal.returns-in_err-put_outcome
unfolding generated_text
returns-in_err-put_outcome g c =
    let w = c.args.words.now in
    let p = c.args.plan.now in
    let v = verdict_on (judged_input p) in
    let told = run_told v (generated_run w p.cert.judged.machine.desc) in
    let fault = err_from_is_err_and c.from_residual-in_err-put_outcome.result c.from_residual-in_err-put_outcome.ensures.1 in
    let first : Puts {T = Unit {0}} {E = Failed} (g.S.Sink.written c.args.out.now) (g.S.Sink.written c.put_instructions.new.out) (g.S.Sink.faults c.args.out.now)
    (g.S.Sink.faults c.put_instructions.new.out) (instructions_line w.count) (Ok c.in_ok-put_instructions.field-0) =
    subst (λ (n : ℕ). Puts {T = Unit {0}} {E = Failed} (g.S.Sink.written c.args.out.now) (g.S.Sink.written c.put_instructions.new.out) (g.S.Sink.faults c.args.out.now)
    (g.S.Sink.faults c.put_instructions.new.out) (instructions_line n) (Ok c.in_ok-put_instructions.field-0)) c.instrs.ensures.instrs c.in_ok-put_instructions.ensures in
    rw fault.1 (Puts-then _ _ _ _ _ _ (instructions_line w.count) (outcome_line p.cert.judged.machine.desc v ++ told) _ _ first
    (Puts-stopped _ _ _ _ (outcome_line p.cert.judged.machine.desc v) told _ _ c.in_err-put_outcome.ensures))

pub put_summaries-requires : goal.put_summaries-requires
put_summaries-requires g c =
    let p = c.args.plan.now in
    let v = verdict_on (judged_input p) in
    let h = g.H.Hardware.machinery c.args.hw.now in
    let have = subst (λ (o : Option Ran). HaveRunBy v (run_of_plan p) o h) c.in-Some.is c.requires.have_run in
    let ran = (have-accepted v (run_of_plan p) c.in-Some.ran h have).0 in
    record { within = subst (λ gs. AreWithin h.state gs) (sym c.guests-guests.ensures) (have-within (run_of_plan p) c.in-Some.ran h ran) }

pub returns-in-Some : goal.returns-in-Some
unfolding generated_text
returns-in-Some g c =
    let w = c.args.words.now in
    let p = c.args.plan.now in
    let v = verdict_on (judged_input p) in
    let h = g.H.Hardware.machinery c.args.hw.now in
    let told = run_told v (generated_run w p.cert.judged.machine.desc) in
    let have = subst (λ (o : Option Ran). HaveRunBy v (run_of_plan p) o h) c.in-Some.is c.requires.have_run in
    let same = told-some v (run_of_plan p) c.in-Some.ran h c.guests-guests.result.now c.turns-turns.result c.direct-direct.result have c.guests-guests.ensures c.turns-turns.ensures c.direct-direct.ensures
    ∙ ap (λ (r : GuestRun). run_told v r) (plan-run p w c.requires.images) in
    let first : Puts {T = Unit {0}} {E = Failed} (g.S.Sink.written c.args.out.now) (g.S.Sink.written c.put_instructions.new.out) (g.S.Sink.faults c.args.out.now)
    (g.S.Sink.faults c.put_instructions.new.out) (instructions_line w.count) (Ok c.in_ok-put_instructions.field-0) =
    subst (λ (n : ℕ). Puts {T = Unit {0}} {E = Failed} (g.S.Sink.written c.args.out.now) (g.S.Sink.written c.put_instructions.new.out) (g.S.Sink.faults c.args.out.now)
    (g.S.Sink.faults c.put_instructions.new.out) (instructions_line n) (Ok c.in_ok-put_instructions.field-0)) c.instrs.ensures.instrs c.in_ok-put_instructions.ensures in
    let last : Puts {T = Unit {0}} {E = Failed} (g.S.Sink.written c.put_outcome.new.out) (g.S.Sink.written c.put_summaries.new.out) (g.S.Sink.faults c.put_outcome.new.out)
    (g.S.Sink.faults c.put_summaries.new.out) told c.put_summaries.result =
    subst (λ (t : List ℕ). Puts {T = Unit {0}} {E = Failed} (g.S.Sink.written c.put_outcome.new.out) (g.S.Sink.written c.put_summaries.new.out) (g.S.Sink.faults c.put_outcome.new.out)
    (g.S.Sink.faults c.put_summaries.new.out) t c.put_summaries.result) same c.put_summaries.ensures in
    Puts-then _ _ _ _ _ _ (instructions_line w.count) (outcome_line p.cert.judged.machine.desc v ++ told) _ _ first
    (Puts-then _ _ _ _ _ _ (outcome_line p.cert.judged.machine.desc v) told _ _ c.in_ok-put_outcome.ensures last)

pub returns-in-None : goal.returns-in-None
unfolding generated_text
returns-in-None g c =
    let w = c.args.words.now in
    let p = c.args.plan.now in
    let v = verdict_on (judged_input p) in
    let h = g.H.Hardware.machinery c.args.hw.now in
    let told = run_told v (generated_run w p.cert.judged.machine.desc) in
    let have = subst (λ (o : Option Ran). HaveRunBy v (run_of_plan p) o h) c.in-None.is c.requires.have_run in
    let none : told ≡ [] = ap (λ (r : GuestRun). run_told v r) (sym (plan-run p w c.requires.images)) ∙ told-none v (run_of_plan p) h have in
    let first : Puts {T = Unit {0}} {E = Failed} (g.S.Sink.written c.args.out.now) (g.S.Sink.written c.put_instructions.new.out) (g.S.Sink.faults c.args.out.now)
    (g.S.Sink.faults c.put_instructions.new.out) (instructions_line w.count) (Ok c.in_ok-put_instructions.field-0) =
    subst (λ (n : ℕ). Puts {T = Unit {0}} {E = Failed} (g.S.Sink.written c.args.out.now) (g.S.Sink.written c.put_instructions.new.out) (g.S.Sink.faults c.args.out.now)
    (g.S.Sink.faults c.put_instructions.new.out) (instructions_line n) (Ok c.in_ok-put_instructions.field-0)) c.instrs.ensures.instrs c.in_ok-put_instructions.ensures in
    let last : Puts {T = Unit {0}} {E = Failed} (g.S.Sink.written c.put_outcome.new.out) (g.S.Sink.written c.put_outcome.new.out) (g.S.Sink.faults c.put_outcome.new.out)
    (g.S.Sink.faults c.put_outcome.new.out) told (Ok tt) =
    subst (λ (t : List ℕ). Puts {T = Unit {0}} {E = Failed} (g.S.Sink.written c.put_outcome.new.out) (g.S.Sink.written c.put_outcome.new.out) (g.S.Sink.faults c.put_outcome.new.out)
    (g.S.Sink.faults c.put_outcome.new.out) t (Ok tt)) (sym none) (Puts-none (g.S.Sink.written c.put_outcome.new.out) (g.S.Sink.faults c.put_outcome.new.out) tt) in
    Puts-then _ _ _ _ _ _ (instructions_line w.count) (outcome_line p.cert.judged.machine.desc v ++ told) _ _ first
    (Puts-then _ _ _ _ _ _ (outcome_line p.cert.judged.machine.desc v) told _ _ c.in_ok-put_outcome.ensures last)

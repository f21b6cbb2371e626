use Rattle.std.proofs.Common.{length, sym, ◌∙◌, ap, subst, arith}
use Rattle.std.specs.Prelude.{IfOk, OnOk}
use Rattle.pg_hw.specs.Machinery.{Machinery}
use Rattle.pg_lang_meaning.specs.States.{IsState}
use Rattle.pg_lang_valid.proofs.StepSound.{power_on-state}
use Rattle.pg_out_steps.specs.Counting.{IsTally}
use Rattle.pg_out_steps.specs.Handling.{AreShares}
use Rattle.pg_out_steps.specs.Traces.{PutsTrace}
use Rattle.pg_out_steps.proofs.TraceLemmas.{on-err, some-none, blank-length, reached}
use Rattle.pg_out_steps.proofs.tracing.trace_bare.Goals as goal

pub power_on-requires-clause-size : goal.power_on-requires-clause-size
power_on-requires-clause-size g c =
    sym (blank-length (length c.args.image.now)) ∙ ap (λ (m : Machinery). length m.state.cells) (sym c.in_ok-install.ensures.installed)

pub trace-requires-clause-state : goal.trace-requires-clause-state
trace-requires-clause-state g c =
    subst (λ s. IsState c.args.m.now.desc s) (sym (ap (λ (m : Machinery). m.state) c.power_on.ensures.switched_on))
    (power_on-state c.args.m.now.desc c.args.image.now (length c.args.image.now) c.args.m.now.valid c.requires.least c.requires.most (omega arith) c.requires.words)

pub returns-clause-tally : goal.returns-clause-tally
returns-clause-tally g c =
    subst (λ s. IfOk c.trace.result (λ t. IsTally c.args.m.now.desc c.args.n s t)) (ap (λ (m : Machinery). m.state) c.power_on.ensures.switched_on) c.trace.ensures.tally

pub returns-clause-shares : goal.returns-clause-shares
returns-clause-shares g c =
    subst (λ s. IfOk c.trace.result (λ t. AreShares c.args.telling.monitor c.args.m.now.desc c.args.n s t.shares)) (ap (λ (m : Machinery). m.state) c.power_on.ensures.switched_on)
    c.trace.ensures.shares

pub returns-clause-puts : goal.returns-clause-puts
returns-clause-puts g c =
    subst (λ s. OnOk c.trace.result (PutsTrace c.args.telling c.args.m.now.desc c.args.n s (g.S.Sink.written c.args.out.now) (g.S.Sink.written c.trace.new.out)))
    (ap (λ (m : Machinery). m.state) c.power_on.ensures.switched_on) c.trace.ensures.puts

pub returns-clause-state : goal.returns-clause-state
returns-clause-state g c =
    reached c.args.m.now.desc c.args.image.now c.args.n _ _ c.trace.result (ap (λ (m : Machinery). m.state) c.power_on.ensures.switched_on) c.trace.ensures.ran

pub returns-in_err-install-clause-front : goal.returns-in_err-install-clause-front
returns-in_err-install-clause-front g c = on-err c.from_residual.result (some-none c.args.telling c.args.m.now.desc c.args.n _ _)

use Rattle.std.proofs.Common.{◌≡◌, ℕ, List, ◌++◌, length, sym, ◌∙◌, ap, subst, arith}
use Rattle.std.specs.Prelude.{OnOk}
use Rattle.pg_edge.specs.Sink.{Adds}
use Rattle.pg_edge.specs.Told.{BothTold}
use Rattle.pg_hw.specs.Machinery.{Machinery}
use Rattle.pg_lang_meaning.specs.States.{IsState}
use Rattle.pg_lang_meaning.specs.Steps.{power_on}
use Rattle.pg_lang_valid.proofs.StepSound.{power_on-state}
use Rattle.pg_out_steps.proofs.TraceLemmas.{blank-length}
use Rattle.pg_out_steps.specs.declared.signal.Signal.{Signal}
use Rattle.pg_out_steps.specs.Dump.{head_text, sample_at_end}
use Rattle.pg_out_steps.specs.Values.{sample_text}
use Rattle.pg_out_steps.proofs.DumpLemmas.{reached-anyway, whole-put}
use Rattle.pg_out_steps.proofs.dump.put_dump.Goals as goal

pub power_on-requires-clause-size : goal.power_on-requires-clause-size
power_on-requires-clause-size g c =
    sym (blank-length (length c.args.image.now)) ∙ ap (λ (m : Machinery). length m.state.cells) (sym c.in_ok-install.ensures.installed)

pub put_steps-requires-clause-state : goal.put_steps-requires-clause-state
put_steps-requires-clause-state g c =
    subst (λ s. IsState c.args.m.now.desc s) (sym (ap (λ (m : Machinery). m.state) c.power_on.ensures.switched_on))
    (power_on-state c.args.m.now.desc c.args.image.now (length c.args.image.now) c.args.m.now.valid c.requires.least c.requires.most (omega arith) c.requires.words)

pub returns-clause-reached : goal.returns-clause-reached
returns-clause-reached g c =
    reached-anyway c.args.m.now.desc c.args.image.now c.args.n _ _ c.put_end.result (ap (λ (m : Machinery). m.state) c.power_on.ensures.switched_on) c.in_ok-last.ensures.ran

pub returns-clause-put : goal.returns-clause-put
returns-clause-put g c =
    let d = c.args.m.now.desc in
    let monitor = c.args.monitor in
    let was = g.S.Sink.written c.args.out.now in
    let first = g.S.Sink.written c.put.new.self in
    let mid = g.S.Sink.written c.put_steps.new.out in
    let now = g.S.Sink.written c.put_end.new.out in
    let new = g.H.Hardware.machinery c.put_steps.new.hw in
    let head : c.as_slice.result.now ≡ head_text monitor d =
    c.as_slice.ensures.value ∙ c.in_ok-push_head.ensures ∙ ap (λ (bytes : List ℕ). bytes ++ head_text monitor d) c.new-text.ensures.items in
    whole-put monitor d c.args.n (power_on c.args.image.now (length c.args.image.now)) (g.H.Hardware.machinery c.power_on.new.hw) new was first mid now c.in_ok-last.last
    c.put_end.result (ap (λ (m : Machinery). m.state) c.power_on.ensures.switched_on) c.in_ok-last.ensures.ran
    (subst (λ (bytes : List ℕ). BothTold was first (Adds bytes)) head c.in_ok-put.ensures.puts.whole) c.in_ok-last.ensures.put c.in_ok-last.ensures.last
    (subst (λ (ss : List Signal). OnOk c.put_end.result (BothTold mid now (Adds (sample_text c.args.n ss c.in_ok-last.last (sample_at_end new.state.psw))))) c.signals_of.ensures
    c.put_end.ensures.put)

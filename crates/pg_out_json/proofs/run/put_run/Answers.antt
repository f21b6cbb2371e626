use Rattle.std.proofs.Common.{length, sym, ◌∙◌, ap, subst, arith}
use Rattle.pg_hw.specs.Machinery.{Machinery}
use Rattle.pg_lang_meaning.specs.States.{IsState}
use Rattle.pg_lang_valid.proofs.StepSound.{power_on-state}
use Rattle.pg_out_steps.proofs.TraceLemmas.{blank-length}
use Rattle.pg_out_json.proofs.RunLemmas.{reached-anyway}
use Rattle.pg_out_json.proofs.run.put_run.Goals as goal

pub power_on-requires-clause-size : goal.power_on-requires-clause-size
power_on-requires-clause-size g c =
    sym (blank-length (length c.args.image.now)) ∙ ap (λ (m : Machinery). length m.state.cells) (sym c.in_ok-install.ensures.installed)

pub put_turns-requires-clause-state : goal.put_turns-requires-clause-state
put_turns-requires-clause-state g c =
    subst (λ s. IsState c.args.m.now.desc s) (sym (ap (λ (m : Machinery). m.state) c.power_on.ensures.switched_on))
    (power_on-state c.args.m.now.desc c.args.image.now (length c.args.image.now) c.args.m.now.valid c.requires.least c.requires.most (omega arith) c.requires.words)

pub returns-clause-reached : goal.returns-clause-reached
returns-clause-reached g c =
    reached-anyway c.args.m.now.desc c.args.image.now c.args.n _ _ c.put_end.result (ap (λ (m : Machinery). m.state) c.power_on.ensures.switched_on) c.in_ok-tally.ensures.ran

use Rattle.std.proofs.Common.{◌≡◌, ◌<◌, ◌^◌, All, length, slice_get, Some, sym, ◌∙◌, ap, subst, arith}
use Rattle.pg_lang_meaning.specs.States.{State, window}
use Rattle.pg_lang_meaning.specs.Steps.{ending}
use Rattle.pg_lang_valid.proofs.StepSound.{step-state, window-words}
use Rattle.pg_interp.specs.Outcomes.{number_of_fetched}
use Rattle.pg_out_steps.proofs.StepLemmas.{told-cause, told-done, told-trapped, told-stores, word-fits, ran-one}
use Rattle.pg_out_steps.proofs.tracer.Tracer.step.Goals as goal

pub peek-requires : goal.peek-requires
peek-requires g c =
    let d = c.args.m.now.desc in
    let s = (g.H.Hardware.machinery c.args.hw.now).state in
    let sound = step-state d s c.args.m.now.valid c.requires.state in
    omega (arith, sound.size_least, ap (λ (t : State). length t.cells) c.step.ensures.state)

pub returns-clause-tells : goal.returns-clause-tells
returns-clause-tells g c =
    let d = c.args.m.now.desc in
    let s = (g.H.Hardware.machinery c.args.hw.now).state in
    let f = c.executed-ended.new.frame in
    let e = c.executed-ended.result in
    let why = c.cause_of.ensures in
    record {
      psw = c.psw-psw.ensures;
      word = c.fetched-word.ensures;
      instr = c.decoded.ensures.number ∙ ap (number_of_fetched d) c.fetched-word.ensures;
      cause = why ∙ told-cause d.word (window s) (ending d (window s) s.psw) f e c.executed-ended.ensures;
      done = λ none. told-done d s f e c.executed-ended.ensures (sym why ∙ none);
      trapped = rw why (told-trapped d s f e c.executed-ended.ensures);
      next = c.psw.ensures ∙ ap (λ (t : State). t.psw) c.step.ensures.state;
      kept = subst (λ (t : State). slice_get t.cells 0 ≡ Some c.peek.result) c.step.ensures.state c.peek.ensures;
    }

pub returns-clause-ran : goal.returns-clause-ran
returns-clause-ran g c = ran-one c.args.m.now.desc _ _ c.step.ensures.state c.step.ensures.tally c.step.ensures.bottom

pub returns-clause-fits : goal.returns-clause-fits
returns-clause-fits g c =
    let d = c.args.m.now.desc in
    let s = (g.H.Hardware.machinery c.args.hw.now).state in
    let f = c.executed-ended.new.frame in
    let e = c.executed-ended.result in
    let sound = step-state d s c.args.m.now.valid c.requires.state in
    record {
      word = word-fits d.word (window s) s.psw.p _ c.fetched-word.ensures (window-words d s c.requires.state);
      instr = c.decoded.ensures.within;
      kept = word-fits d.word _ 0 (Some c.peek.result) (sym c.peek.ensures) (subst (λ (t : State). All (λ cell. cell < 2 ^ d.word) t.cells) (sym c.step.ensures.state) sound.words);
      stores = λ none. told-stores d.word (window s) (ending d (window s) s.psw) f e c.executed-ended.ensures (sym c.cause_of.ensures ∙ none);
    }

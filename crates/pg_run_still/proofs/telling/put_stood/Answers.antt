use Rattle.std.proofs.Common.{◌<◌, ◌^◌, All, sym, subst, arith}
use Rattle.pg_edge.specs.declared.shelf.Failed.{Failed}
use Rattle.pg_edge.specs.Sink.{Puts}
use Rattle.pg_lang_meaning.specs.States.{State}
use Rattle.pg_run_still.specs.Views.{AreViewsOf}
use Rattle.pg_run_still.proofs.StandLemmas.{whole-guest}
use Rattle.pg_run_still.proofs.TellLemmas.{stood-whole}
use Rattle.pg_run_still.proofs.telling.put_stood.Goals as goal

pub put_one-requires-clause-within : goal.put_one-requires-clause-within
put_one-requires-clause-within g c = omega (arith, c.size.ensures)

pub put_one-requires-clause-words : goal.put_one-requires-clause-words
put_one-requires-clause-words g c =
    let s = (g.H.Hardware.machinery c.args.hw.now).state in
    subst (λ (t : State). All (λ cell. cell < 2 ^ c.args.machine.now.desc.word) t.cells) (sym (whole-guest s _ _ c.size.ensures c.psw.ensures)) c.requires.state.words

pub put_one-requires-clause-views : goal.put_one-requires-clause-views
put_one-requires-clause-views g c = subst (λ n. AreViewsOf n c.args.views.now) (sym c.size.ensures) c.requires.views

pub returns : goal.returns
returns g c =
    let w = c.args.machine.now.desc.word in
    let vs = c.args.views.now in
    let s = (g.H.Hardware.machinery c.args.hw.now).state in
    subst (λ t. Puts {T = Unit {0}} {E = Failed} (g.S.Sink.written c.args.out.now) (g.S.Sink.written c.put_one.new.out) (g.S.Sink.faults c.args.out.now) (g.S.Sink.faults c.put_one.new.out) t c.put_one.result)
    (stood-whole w vs c.args.most c.args.still c.said_of.result.items _ s c.said_of.ensures (whole-guest s _ _ c.size.ensures c.psw.ensures)) c.put_one.ensures

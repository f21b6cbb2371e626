use Rattle.std.proofs.Common.{◌≡◌, ◌++◌, Option, IsSomeAnd, ap, sym, subst, ◌∙◌}
use Rattle.pg_mach_ready.specs.declared.machine.Machine.{Machine}
use Rattle.pg_lang_meaning.specs.States.{State, shape_of}
use Rattle.pg_image.specs.Lines.{state_text}
use Rattle.pg_mon_control.specs.Current.{Holds}
use Rattle.pg_mon_control.specs.Guests.{virtual}
use Rattle.pg_mon_control.proofs.GuestLemmas.{Holds-of, virtuals-at}
use Rattle.pg_monitor.specs.Monitors.{desc_of}
use Rattle.pg_move.specs.Texts.{saved_text}
use Rattle.pg_move.proofs.PutLemmas.{saved_put}
use Rattle.pg_move.proofs.putting.put_saved.Goals as goal

pub put_state-requires-clause-holds : goal.put_state-requires-clause-holds
put_state-requires-clause-holds g c =
    let m = c.args.monitor.now in
    let real = (g.H.Hardware.machinery c.args.hw.now).state in
    subst (λ (x : Machine). Holds x.desc real c.guest-guest.result) (sym c.machine.ensures)
    (Holds-of (desc_of m) real m.guests m.current c.args.k c.guest-guest.result c.requires.stands c.guest-guest.ensures)

pub returns : goal.returns
returns g c =
    let m = c.args.monitor.now in
    let held = (g.H.Hardware.machinery c.args.hw.now).state.cells in
    let guest = c.guest-guest.result in
    let old = c.args.into.now.items in
    let s : State = virtual held guest in
    let put = saved_put (shape_of (desc_of m)) c.args.steps s old c.first_line.result.now c.as_slice.result.now c.put.new.into.items
    c.put-2.new.into.items c.put_state.new.into.items c.put-3.new.into.items c.put.ensures.items c.first_line.ensures c.put-2.ensures.items
    (c.as_slice.ensures.value ∙ c.steps_line.ensures.text)
    (c.put_state.ensures.items ∙ ap (λ (x : Machine). c.put-2.new.into.items ++ state_text x.desc.word s.cells s.psw) c.machine.ensures)
    c.put-3.ensures.items in
    record {
      text = subst (λ (o : Option State). IsSomeAnd o (λ x. c.put-3.new.into.items ≡ old ++ saved_text (shape_of (desc_of m)) c.args.steps x))
          (sym (virtuals-at held m.guests c.args.k guest c.guest-guest.ensures)) put;
    }

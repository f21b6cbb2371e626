use Rattle.std.proofs.Common.{arith, ◌≡◌, ◌<◌, ◌∙◌, sym, subst, Some, slice_get}
use Rattle.std.proofs.lemmas.Option.{same_Some}
use Rattle.pg_mon_control.specs.declared.guest.Guest.{Guest}
use Rattle.pg_mon_control.specs.Guests.{virtual}
use Rattle.pg_monitor.proofs.ReachLemmas.{guest-known, reached-within, reached-fits, reached-cell}
use Rattle.pg_monitor.proofs.monitor.Monitor.peek.Goals as goal

pub overflow_add-guest : goal.overflow_add-guest
overflow_add-guest g c =
    let m = c.args.self.now.accepted.machine.now in
    let fits =
    reached-fits m.desc (g.H.Hardware.machinery c.args.hw.now).state c.args.self.now.guests c.args.self.now.current c.args.k c.guest.result c.args.at
    (record {
      valid = m.valid;
      stands = c.requires.stands;
      guest = c.guest.ensures;
      inside = guest-known c.args.self.now.guests c.args.k c.guest.result (λ (x : Guest). c.args.at < x.size) c.guest.ensures c.requires.within;
    }) in
    search (arith, fits)

pub peek-requires : goal.peek-requires
peek-requires g c =
    let m = c.args.self.now.accepted.machine.now in
    reached-within m.desc (g.H.Hardware.machinery c.args.hw.now).state c.args.self.now.guests c.args.self.now.current c.args.k c.guest.result c.args.at
    (record {
      valid = m.valid;
      stands = c.requires.stands;
      guest = c.guest.ensures;
      inside = guest-known c.args.self.now.guests c.args.k c.guest.result (λ (x : Guest). c.args.at < x.size) c.guest.ensures c.requires.within;
    })

pub returns : goal.returns
returns g c = λ h is.
    let m = c.args.self.now.accepted.machine.now in
    let cells = (g.H.Hardware.machinery c.args.hw.now).state.cells in
    subst (λ (x : Guest). slice_get (virtual cells x).cells c.args.at ≡ Some c.peek.result) (same_Some c.guest.result h (sym c.guest.ensures ∙ is))
    (reached-cell m.desc (g.H.Hardware.machinery c.args.hw.now).state c.args.self.now.guests c.args.self.now.current c.args.k c.guest.result c.args.at
    (record {
      valid = m.valid;
      stands = c.requires.stands;
      guest = c.guest.ensures;
      inside = guest-known c.args.self.now.guests c.args.k c.guest.result (λ (x : Guest). c.args.at < x.size) c.guest.ensures c.requires.within;
    })
    c.peek.result c.peek.ensures)

use Rattle.std.proofs.Common.{sym, subst, List}
use Rattle.pg_alloc.specs.Grants.{Granted}
use Rattle.pg_mon_control.specs.declared.guest.Guest.{Guest}
use Rattle.pg_mon_control.specs.Guests.{AreOwned, guest_in}
use Rattle.pg_mon_control.proofs.OwnLemmas.{owned-and, owned-new, returned}
use Rattle.pg_mon_control.proofs.placing.place.Goals as goal

pub returns-in-Ok-push-clause-owned : goal.returns-in-Ok-push-clause-owned
returns-in-Ok-push-clause-owned c =
    owned-new _ c.args.granted.now _ (guest_in c.in-Ok.base c.args.size c.args.psw) c.args.guests.now _ c.in-Ok.ensures.granted
    (owned-and _ c.args.granted.now _ (c.in-Ok.base, c.args.size) c.args.guests.now c.in-Ok.ensures.granted c.hold.ensures.lie c.requires.owned) c.in-Ok-push.ensures.ok

pub returns-in-Err-push-clause-refused : goal.returns-in-Err-push-clause-refused
returns-in-Err-push-clause-refused c =
    returned c.args.granted.now.q c.in-Ok.base c.args.size c.args.granted.now _ _ c.release.result c.requires.least c.requires.owned.lie c.in-Ok.ensures.first c.in-Ok.ensures.granted
    c.release.ensures.released c.release.ensures.not_granted

pub returns-in-Err-push-clause-owned : goal.returns-in-Err-push-clause-owned
returns-in-Err-push-clause-owned c =
    subst (λ (x : Granted). AreOwned c.args.granted.now.q x c.push.new.self) (sym (returns-in-Err-push-clause-refused c))
    (subst (λ (gs : List Guest). AreOwned c.args.granted.now.q c.args.granted.now gs) (sym c.in-Err-push.ensures.err) c.requires.owned)

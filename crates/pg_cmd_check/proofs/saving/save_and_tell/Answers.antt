use Rattle.std.proofs.Common.{inl, refl, subst}
use Rattle.pg_edge.specs.Told.{BothTold}
use Rattle.pg_cmd_certs.specs.Views.{judged}
use Rattle.pg_cmd_base.specs.World.{around, output}
use Rattle.pg_cmd_certs.specs.Saving.{HoldsNow, HoldsAtMost}
use Rattle.pg_cmd_certs.proofs.SavingLemmas.{saved-told}
use Rattle.pg_cmd_check.proofs.saving.save_and_tell.Goals as goal

pub returns-in-Ok-clause-saved : goal.returns-in-Ok-clause-saved
returns-in-Ok-clause-saved g c =
    let name = c.args.name.now in
    let cert = c.args.cert.now in
    let old = around g.F.Shelf g.S.Sink g.H.Hardware c.args.shelf.now c.args.out.now c.args.hw.now in
    let new = around g.F.Shelf g.S.Sink g.H.Hardware c.save_text.new.shelf c.tell_verdict.new.out c.args.hw.now in
    saved-told name cert.text.items (judged cert.judged) old new c.tell_verdict.result
    (record { saved = subst (λ bytes. BothTold old.files new.files (HoldsNow name bytes)) c.as_slice.ensures.value c.in-Ok.ensures.saved; whole = c.in-Ok.ensures.whole })
    c.tell_verdict.ensures.told

pub returns-in-Err-clause-saved : goal.returns-in-Err-clause-saved
returns-in-Err-clause-saved g c =
    let name = c.args.name.now in
    let was = g.F.Shelf.files c.args.shelf.now in
    let out = output g.S.Sink c.args.out.now in
    let hw = g.H.Hardware.machinery c.args.hw.now in
    let now = g.F.Shelf.files c.save_text.new.shelf in
    inl (record {
      cause = c.in-Err.ensures.cause;
      silent = refl {a = out};
      unsaved = record { left = subst (λ bytes. BothTold was now (HoldsAtMost name bytes)) c.as_slice.ensures.value c.in-Err.ensures.left; hw = refl {a = hw} };
    })

use Rattle.std.proofs.Common.{◌≡◌, Some, subst}
use Rattle.pg_edge.specs.Shelf.{Files, HasOldOrFront, SameBut}
use Rattle.pg_edge.specs.Told.{BothTold}
use Rattle.pg_cmd_certs.specs.Saving.{HoldsNow, HoldsAtMost}
use Rattle.pg_cmd_certs.proofs.SavingLemmas.{both_told}
use Rattle.pg_cmd_certs.proofs.saving.save_text.Goals as goal

pub returns-in-Ok-clause-saved : goal.returns-in-Ok-clause-saved
returns-in-Ok-clause-saved g c =
    let answer = c.in-Ok.ensures.answer in
    subst (λ n. BothTold (g.F.Shelf.files c.args.shelf.now) (g.F.Shelf.files c.save.new.self) (HoldsNow n c.args.text.now)) c.as_str.ensures
    (both_told _ _ (λ (was now : Files). now c.as_str.result.now ≡ Some c.args.text.now) (SameBut c.as_str.result.now) answer.whole answer.others)

pub returns-in-Err-clause-left : goal.returns-in-Err-clause-left
returns-in-Err-clause-left g c =
    let answer = c.in-Err.ensures.answer in
    subst (λ n. BothTold (g.F.Shelf.files c.args.shelf.now) (g.F.Shelf.files c.save.new.self) (HoldsAtMost n c.args.text.now)) c.as_str.ensures
    (both_told _ _ (HasOldOrFront c.as_str.result.now c.args.text.now) (SameBut c.as_str.result.now) answer.front answer.others)

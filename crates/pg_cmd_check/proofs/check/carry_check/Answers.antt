use Rattle.std.proofs.Common.{refl}
use Rattle.pg_cmd_certs.specs.Views.{judged}
use Rattle.pg_cmd_base.specs.World.{around}
use Rattle.pg_cmd_check.specs.Check.{check_command}
use Rattle.pg_cmd_check.proofs.CheckLemmas.{check_ends, check_unsaved}
use Rattle.pg_cmd_certs.proofs.SavingLemmas.{carries-saved}
use Rattle.pg_cmd_check.proofs.check.carry_check.Goals as goal

pub returns-in-Ok-clause-carries : goal.returns-in-Ok-clause-carries
returns-in-Ok-clause-carries g c =
    let w = c.args.words.now in
    let family = c.args.family in
    let found = c.in-Ok.found in
    let j = judged found.judged in
    let bytes = found.text.items in
    let valid = found.judged.machine.valid in
    let checked = c.in-Ok.ensures.checked in
    let old = around g.F.Shelf g.S.Sink g.H.Hardware c.args.shelf.now c.args.out.now c.args.hw.now in
    let mid = around g.F.Shelf g.S.Sink g.H.Hardware c.prepare_check.new.shelf c.args.out.now c.args.hw.now in
    let new = around g.F.Shelf g.S.Sink g.H.Hardware c.save_and_tell.new.shelf c.save_and_tell.new.out c.args.hw.now in
    carries-saved (check_command family w) w.cert bytes j old mid new j.desc c.save_and_tell.result c.in-Ok.ensures.comes refl
    (check_ends family w j old new bytes valid checked refl) (check_unsaved family w j old new bytes valid checked refl)
    c.prepare_check.ensures.reads.same_files c.prepare_check.ensures.reads.same_saves refl refl c.save_and_tell.ensures.saved

use Rattle.std.proofs.Common.{map, Err, refl, ap, subst}
use Rattle.std.specs.Prelude.{string_bytes}
use Rattle.pg_tool.specs.Asking.{command_for}
use Rattle.pg_cmd_base.specs.Answering.{Stops}
use Rattle.pg_cmd_base.specs.World.{around, output}
use Rattle.pg_cmd_base.proofs.CarryLemmas.{exactly-of}
use Rattle.pg_tool.proofs.AskedLemmas.{carries-asked, saves-asked, carries-words}
use Rattle.pg_tool.proofs.OnlyOne.{due_is_one}
use Rattle.pg_tool.proofs.tool_watched.Goals as goal

pub returns-in-Ok-clause-carries : goal.returns-in-Ok-clause-carries
returns-in-Ok-clause-carries g c =
    carries-asked (map string_bytes c.args.words.now) c.in-Ok.request
    (around g.F.Shelf g.S.Sink g.H.Hardware c.args.shelf.now c.args.out.now c.args.hw.now)
    (around g.F.Shelf g.S.Sink g.H.Hardware c.carry.new.shelf c.carry.new.out c.carry.new.hw)
    c.carry.result c.in-Ok.ensures.ok c.carry.ensures.carries

pub returns-in-Ok-clause-files : goal.returns-in-Ok-clause-files
returns-in-Ok-clause-files g c = saves-asked (map string_bytes c.args.words.now) c.in-Ok.request _ _ c.in-Ok.ensures.ok c.carry.ensures.keeps.files

pub returns-in-Ok-clause-exactly : goal.returns-in-Ok-clause-exactly
returns-in-Ok-clause-exactly g c = λ files told.
    exactly-of (command_for (map string_bytes c.args.words.now)) files
    (around g.F.Shelf g.S.Sink g.H.Hardware c.args.shelf.now c.args.out.now c.args.hw.now)
    (around g.F.Shelf g.S.Sink g.H.Hardware c.carry.new.shelf c.carry.new.out c.carry.new.hw)
    c.carry.result told (due_is_one files (map string_bytes c.args.words.now)) (returns-in-Ok-clause-carries g c)

pub returns-in-Err-clause-carries : goal.returns-in-Err-clause-carries
returns-in-Err-clause-carries g c =
    carries-words (map string_bytes c.args.words.now) c.in-Err.fault
    (around g.F.Shelf g.S.Sink g.H.Hardware c.args.shelf.now c.args.out.now c.args.hw.now)
    (around g.F.Shelf g.S.Sink g.H.Hardware c.args.shelf.now c.stopped.new.out c.args.hw.now)
    c.stopped.result (λ e. c.in-Err.ensures.refused (ap Err e))
    (subst (λ s. Stops s (output g.S.Sink c.args.out.now) (output g.S.Sink c.stopped.new.out) c.stopped.result) c.stop_of_words.ensures c.stopped.ensures.stops)
    (record { files = refl; saves = refl; hw = refl })

pub returns-in-Err-clause-exactly : goal.returns-in-Err-clause-exactly
returns-in-Err-clause-exactly g c = λ files told.
    exactly-of (command_for (map string_bytes c.args.words.now)) files
    (around g.F.Shelf g.S.Sink g.H.Hardware c.args.shelf.now c.args.out.now c.args.hw.now)
    (around g.F.Shelf g.S.Sink g.H.Hardware c.args.shelf.now c.stopped.new.out c.args.hw.now)
    c.stopped.result told (due_is_one files (map string_bytes c.args.words.now)) (returns-in-Err-clause-carries g c)

use Rattle.std.proofs.Common.{subst, sym}
use Rattle.pg_asm.specs.declared.line.Line.{Line}
use Rattle.pg_asm.specs.Lines.{said_as, IsFormed}
use Rattle.pg_asm.specs.Sources.{cells_behind}
use Rattle.pg_asm.specs.Passes.{Told}
use Rattle.pg_asm.proofs.place.place_line.Goals as goal

pub returns-in-Label-clause-told : goal.returns-in-Label-clause-told
returns-in-Label-clause-told c =
    let P : Line → Type 0 = λ l. Told (cells_behind c.args.machine.now.desc c.args.labels.now c.args.n c.args.place c.args.cells.now (said_as l)) c.args.cells.now c.label_fault.result in
    subst P (sym c.in-Label.is) (c.label_fault.ensures c.args.cells.now)

pub returns-in-Word-clause-fit : goal.returns-in-Word-clause-fit
returns-in-Word-clause-fit c = λ fit.
    c.put_word.ensures.fit c.args.machine.now.desc.word (subst (IsFormed c.args.machine.now.desc.word) c.in-Word.is c.requires.formed) fit

pub returns-in-Ok-clause-fit : goal.returns-in-Ok-clause-fit
returns-in-Ok-clause-fit c = λ fit. c.put_word-in-Ok.ensures.fit c.args.machine.now.desc.word c.in-Ok.ensures.fits fit

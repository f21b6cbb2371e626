use Rattle.std.proofs.Common.{◌<◌, ◌^◌, Some, unwrap_or}
use Rattle.std.proofs.lemmas.List.Elements.{All-set}
use Rattle.pg_asm.proofs.place.put_word.Goals as goal

pub returns-in-None-clause-fit : goal.returns-in-None-clause-fit
returns-in-None-clause-fit c = λ w fits all. All-set (λ cell. unwrap_or cell 0 < 2 ^ w) c.args.cells.now c.args.place (Some c.args.word) fits all

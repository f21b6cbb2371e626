use Rattle.std.proofs.Common.{ap, ◌∙◌, not}
use Rattle.pg_lang_valid.specs.Twice.{is_among}
use Rattle.pg_lang_valid.proofs.TableLemmas.{among-keys}
use Rattle.pg_lang_valid.proofs.table.NameTable.insert.Goals as goal
use Rattle.pg_lang_valid.proofs.table.NameTable.insert.Goals.{in-Err-insert, in-Ok-insert}

pub returns-clause-added : goal.returns-clause-added
returns-clause-added c =
    let e = among-keys (λ k. k.items) c.in-Ok.key.items c.self.inside.names.keys ∙ ap (λ ns. is_among ns c.in-Ok.key.items) c.self.view_is
    ∙ ap (is_among c.args.self.now) c.in-Ok.ensures.items in
    elim c.match-insert.branch [
      | in-Err-insert w ↦ rw w.result-is tt
      | in-Ok-insert w ↦ rw w.result-is (w.in-Ok-insert.ensures.added ∙ ap not e)
    ]

use Rattle.std.proofs.Common.{ap, ◌∙◌, bytes_eq, position}
use Rattle.pg_lang_valid.proofs.TableLemmas.{position-keys}
use Rattle.pg_lang_valid.proofs.table.NameTable.find.Goals as goal

pub returns : goal.returns
returns c =
    c.get_index_of.ensures.index ∙ position-keys (λ k. k.items) c.args.name.now c.self.inside.names.keys
    ∙ ap (position (λ n. bytes_eq n c.args.name.now)) c.self.view_is

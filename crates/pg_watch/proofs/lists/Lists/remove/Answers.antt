use Rattle.std.proofs.Common.{ap, ◌∙◌, sym}
use Rattle.std.specs.List.{swap_remove}
use Rattle.pg_watch.proofs.ListsLemmas.{read_list, write_list}
use Rattle.pg_watch.proofs.lists.Lists.remove.Goals as goal

pub returns : goal.returns
returns c =
    let e = read_list c.self.inside.lists.items c.args.self.now c.args.at c.index_mut-list.result.now c.self.view_is c.requires.at c.index_mut-list.ensures.value in
    write_list c.self.inside.lists.items c.args.self.now c.args.at c.swap_remove.new.self _ c.self.view_is
    (c.swap_remove.ensures.items ∙ ap (λ ws. swap_remove ws c.args.index c.swap_remove.result) (sym e))

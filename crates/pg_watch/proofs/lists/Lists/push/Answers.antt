use Rattle.std.proofs.Common.{ap, ◌∙◌, sym, ◌++◌, ◌∷◌, []}
use Rattle.pg_watch.proofs.ListsLemmas.{read_list, write_list, write_same}
use Rattle.pg_watch.proofs.lists.Lists.push.Goals as goal
use Rattle.pg_watch.proofs.lists.Lists.push.Goals.{in-Ok, in-Err}

pub returns-clause-ok : goal.returns-clause-ok
returns-clause-ok c =
    let e = read_list c.self.inside.lists.items c.args.self.now c.args.at c.index_mut-list.result.now c.self.view_is c.requires c.index_mut-list.ensures.value in
    elim c.match-push.branch [
      | in-Ok w ↦ rw w.result-is
          (write_list c.self.inside.lists.items c.args.self.now c.args.at c.push.new.self _ c.self.view_is
          (w.in-Ok.ensures.items ∙ ap (λ ws. ws ++ c.args.watch ∷ []) (sym e)))
      | in-Err w ↦ rw w.result-is tt
    ]

pub returns-clause-err : goal.returns-clause-err
returns-clause-err c =
    elim c.match-push.branch [
      | in-Ok w ↦ rw w.result-is tt
      | in-Err w ↦ rw w.result-is
          (write_same c.self.inside.lists.items c.args.self.now c.args.at c.index_mut-list.result.now c.push.new.self c.self.view_is c.requires
          c.index_mut-list.ensures.value w.in-Err.ensures.items)
    ]

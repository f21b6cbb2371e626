use Rattle.std.proofs.Common.{sym, ap, ◌∙◌, get_or, List, ℕ}
use Rattle.pg_word.proofs.SparseLemmas.{listed_holds, absent_holds}
use Rattle.pg_word.proofs.sparse.Sparse.cell.Goals as goal

pub returns-in-Ok : goal.returns-in-Ok
returns-in-Ok c =
    let s = c.args.self.now in
    let found = c.in-Ok.ensures.found in
    ap (λ (l : List (ℕ × ℕ)). (get_or l c.in-Ok.place (0, 0)).1) c.as_slice.ensures.cells
    ∙ sym (listed_holds s.size s.cells c.args.at c.in-Ok.place c.requires c.as_slice.ensures.listed found.in_range found.has_address)

pub returns-in-Err : goal.returns-in-Err
returns-in-Err c =
    let s = c.args.self.now in
    sym (absent_holds s.size s.cells c.args.at c.in-Err.field-0 c.requires c.in-Err.ensures.absent)

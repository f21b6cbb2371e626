use Rattle.std.proofs.Common.{◌<◌, ◌≤◌, ◌⊎◌, ◌∙◌, ap, arith}
use Rattle.std.proofs.lemmas.Bool.Decides.{nat_tests}
use Rattle.pg_word.specs.declared.sparse.Sparse.{Sparse}
use Rattle.pg_word.specs.Sparse.{address_at, storage_of}
use Rattle.pg_type.proofs.PlacingLemmas.{pushed-old, pushed-new, pushed-all}
use Rattle.pg_type.proofs.placing.in_order.Goals as goal
use Rattle.pg_type.proofs.placing.in_order.Goals.{then-contains+in_ok-push_word, else-contains}

pub loop-cell-preserved : goal.loop-cell-preserved
loop-cell-preserved c =
    let x = c.loop-cell in
    let a = c.args in
    let kept = x.invariant in
    elim c.if-contains.branch [
      | then-contains+in_ok-push_word w ↦
          let told = w.in_ok-push_word.ensures in
          let high : x.least ≤ address_at a.cells.now x.cell-index = grind (arith, nat_tests, w.if-contains.ensures.cases.0) in
          let in_window : address_at a.cells.now x.cell-index < a.usable = grind (arith, nat_tests, w.if-contains.ensures.cases.1) in
          record {
            pushed = rw w.state-is (pushed-new a.psw.l a.usable a.cells.now x.cell-index x.least _ c.if-contains.least x.state.cells w.push_word.new.state.cells
                c.loop-cell-test.true kept.pushed high in_window (omega arith) (omega (arith, w.least-is)) told.cells);
            size = ap (λ (s : Sparse). s.size) w.state-is ∙ told.size ∙ kept.size;
            psw = ap (λ (s : Sparse). s.psw) w.state-is ∙ told.psw ∙ kept.psw;
          }
      | else-contains w ↦
          let out : (address_at a.cells.now x.cell-index < x.least) ⊎ (a.usable ≤ address_at a.cells.now x.cell-index) = grind (arith, nat_tests, w.if-contains.ensures.cases) in
          record {
            pushed = rw (w.least-is, w.state-is) (pushed-old a.psw.l a.usable a.cells.now x.cell-index x.least x.state.cells c.loop-cell-test.true kept.pushed out);
            size = ap (λ (s : Sparse). s.size) w.state-is ∙ kept.size;
            psw = ap (λ (s : Sparse). s.psw) w.state-is ∙ kept.psw;
          }
    ]

pub returns-clause-storage : goal.returns-clause-storage
returns-clause-storage c =
    let a = c.args in
    let x = c.loop-cell in
    ap (λ n. storage_of n x.state.cells) x.invariant.size
    ∙ pushed-all a.size a.psw.l a.usable a.cells.now x.cell-index x.least x.state.cells (λ k l. omega (arith, c.requires.usable)) c.requires.ascending (omega arith) x.invariant.pushed

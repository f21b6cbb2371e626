use Rattle.pg_type.proofs.PlacingLemmas.{stable-slice, placed-state, placed-window, placed-words}
use Rattle.pg_type.proofs.placing.placed.Goals as goal

pub returns-clause-state : goal.returns-clause-state
returns-clause-state c =
    let a = c.args in
    let made = c.in_ok-state.ensures in
    let same = stable-slice a.cells.now c.in_ok-ordered.ordered.items c.as_slice.result.now c.as_slice.ensures.value c.in_ok-ordered.ensures.stable in
    placed-state a.cells.now c.as_slice.result.now a.usable a.size a.psw c.requires same c.in_ok-state.state made.storage made.psw

pub returns-clause-window : goal.returns-clause-window
returns-clause-window c =
    let a = c.args in
    let made = c.in_ok-state.ensures in
    let same = stable-slice a.cells.now c.in_ok-ordered.ordered.items c.as_slice.result.now c.as_slice.ensures.value c.in_ok-ordered.ensures.stable in
    placed-window a.cells.now c.as_slice.result.now a.usable a.size a.psw c.requires same c.in_ok-state.state made.storage made.psw

pub returns-clause-words : goal.returns-clause-words
returns-clause-words c w small =
    let a = c.args in
    let made = c.in_ok-state.ensures in
    let same = stable-slice a.cells.now c.in_ok-ordered.ordered.items c.as_slice.result.now c.as_slice.ensures.value c.in_ok-ordered.ensures.stable in
    placed-words a.cells.now c.as_slice.result.now a.usable a.size a.psw c.requires same w small c.in_ok-state.state made.storage made.psw

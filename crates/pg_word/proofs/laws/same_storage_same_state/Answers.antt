use Rattle.std.proofs.Common.{ap, sym, ◌∙◌, subst}
use Rattle.pg_word.specs.Sparse.{AreWithin, AreWithin-prop, storage_of}
use mathlib.Core.HLevel.{is_prop→PathP}
use Rattle.pg_word.proofs.SparseLemmas.{one_list}
use Rattle.pg_word.proofs.laws.same_storage_same_state.Goals as goal

pub returns-clause-cells : goal.returns-clause-cells
returns-clause-cells c =
    let x = c.args.x.now in
    let y = c.args.y.now in
    one_list x.size x.cells y.cells c.as_slice.ensures.listed c.as_slice-2.ensures.listed x.within
    (subst (λ n. AreWithin n y.cells) (sym c.requires.size) y.within)
    (c.requires.storage ∙ ap (λ n. storage_of n y.cells) (sym c.requires.size))

pub returns-clause-state : goal.returns-clause-state
returns-clause-state c =
    let x = c.args.x.now in
    let y = c.args.y.now in
    let e = returns-clause-cells c in
    let s = c.requires.size in
    let p = c.requires.psw in
    λ i. record { size = s i; psw = p i; cells = e i; within = is_prop→PathP (λ j. AreWithin (s j) (e j)) (λ j. AreWithin-prop (s j) (e j)) x.within y.within i }

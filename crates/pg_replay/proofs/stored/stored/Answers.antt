-- The list is made in order, and it is that of the storage with the cell changed.
use Rattle.std.proofs.Common.{◌≡◌, ◌∙◌, ◌≤◌, ◌^◌, arith}
use Rattle.pg_replay.proofs.StoredLemmas.{past_first, below_second, whole_list}
use Rattle.pg_replay.proofs.stored.stored.Goals as goal

pub push_if-requires-clause-past_last : goal.push_if-requires-clause-past_last
push_if-requires-clause-past_last c = λ kept.
    past_first c.args.s.now.cells c.as_slice.result.now c.new-state.result.cells c.push_between.new.state.cells c.args.at c.from.result
    c.as_slice.ensures.cells (c.new-state.ensures.cells ∙ c.new.ensures) c.from.ensures c.in_ok-push_between.ensures.ok

pub push_between-requires-2-clause-below : goal.push_between-requires-2-clause-below
push_between-requires-2-clause-below c =
    below_second c.args.s.now.cells c.as_slice.result.now c.new-state.result.cells c.push_between.new.state.cells c.push_if.new.state.cells c.args.at c.args.word c.from.result c.from-2.result
    c.as_slice.ensures.cells (c.new-state.ensures.cells ∙ c.new.ensures) c.from.ensures c.in_ok-push_between.ensures.ok c.in_ok-push_if.ensures.ok c.from-2.ensures

pub returns-clause-cells : goal.returns-clause-cells
returns-clause-cells c =
    let same : c.push_between-2.new.state.size ≡ c.args.s.now.size =
    omega (arith, c.in_ok-push_between-2.ensures.size, c.in_ok-push_if.ensures.size, c.in_ok-push_between.ensures.size, c.new-state.ensures.size) in
    let far : c.args.s.now.size ≤ 2 ^ 32 = omega arith in
    whole_list c.args.s.now.size c.push_between-2.new.state.size c.args.s.now.cells c.as_slice.result.now c.as_slice-2.result.now c.new-state.result.cells c.push_between.new.state.cells c.push_if.new.state.cells c.push_between-2.new.state.cells
    c.args.at c.args.word c.from.result c.from-2.result same c.requires far c.as_slice.ensures.cells c.as_slice-2.ensures.cells (c.new-state.ensures.cells ∙ c.new.ensures) c.from.ensures
    c.in_ok-push_between.ensures.ok c.in_ok-push_if.ensures.ok c.from-2.ensures c.in_ok-push_between-2.ensures.ok

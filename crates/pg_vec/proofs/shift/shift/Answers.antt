-- From its three parts.
use Rattle.std.proofs.Common.{◌≡◌, ◌*◌, ◌≤◌, length, take, drop, ap, sym, subst, ◌∙◌, List, arith}
use Rattle.std.proofs.Math.Nat.{min_comm}
use Rattle.std.proofs.lemmas.List.{take_min, drop_min, length-replicate}
use Rattle.std.proofs.lemmas.List.Elements.{All-drop}
use Rattle.pg_circuit.specs.declared.node.Gate.{Gate}
use Rattle.pg_circuit.specs.declared.node.Node.{Node}
use Rattle.std.specs.Prelude.{IfOk}
use Rattle.pg_vec.specs.Direction.{move_of}
use Rattle.pg_circuit.specs.Values.{IsThere}
use Rattle.pg_vec.specs.There.{AreThere}
use Rattle.pg_vec.proofs.Loops.{shift_parts}
use Rattle.pg_vec.proofs.Kept.{adds_six, adds_then, adds_more, all_there_later}
use Rattle.pg_vec.proofs.shift.shift.Goals as goal

pub returns-clause-made : goal.returns-clause-made
returns-clause-made c =
    let by = c.args.by.now in
    let six = c.min.ensures ∙ min_comm (length by) 6 in
    let low = c.split_at.ensures.front ∙ ap (λ n. take n by) six ∙ take_min 6 by in
    let high = c.split_at.ensures.back ∙ ap (λ n. drop n by) six ∙ drop_min 6 by in
    let e = shift_parts (move_of c.args.way) c.args.circuit.now.nodes c.args.x.now by _ _ c.in_ok-near.near.items c.as_slice-2.result.now c.as_slice.result.now c.in_ok-far.far _ _
    low high c.in_ok-near.ensures.made c.in_ok-far.ensures.made
    (c.as_slice.ensures.value ∙ c.in_ok-zeros.ensures.items_if_clones_equal (λ y h. h)) c.as_slice-2.ensures.value in
    let P : List Gate × List Node → Type 0 = λ k. IfOk c.pairwise.result (λ bits. (bits.items, c.pairwise.new.circuit.nodes) ≡ k) in
    subst P e c.pairwise.ensures.made

pub returns-in_err-near-clause-kept : goal.returns-in_err-near-clause-kept
returns-in_err-near-clause-kept c =
    let x = length c.args.x.now in
    let six : length c.split_at.result.0.now ≤ 6 = omega (arith, c.split_at.ensures.front_len, c.min.ensures) in
    let near = adds_six _ _ (length c.split_at.result.0.now) (x * 3) c.stages.ensures.kept six in
    adds_more _ _ (6 * (x * 3)) _ near (omega arith)

pub any-requires : goal.any-requires
any-requires c =
    let x = length c.args.x.now in
    let six : length c.split_at.result.0.now ≤ 6 = omega (arith, c.split_at.ensures.front_len, c.min.ensures) in
    let near = adds_six _ _ (length c.split_at.result.0.now) (x * 3) c.stages.ensures.kept six in
    let high : AreThere (length c.args.circuit.now.nodes) c.split_at.result.1.now =
    subst (AreThere (length c.args.circuit.now.nodes)) (sym c.split_at.ensures.back) (All-drop (IsThere (length c.args.circuit.now.nodes)) _ c.args.by.now c.requires.right) in
    all_there_later _ _ c.split_at.result.1.now near.front high

pub returns-in_err-far-clause-kept : goal.returns-in_err-far-clause-kept
returns-in_err-far-clause-kept c =
    let x = length c.args.x.now in
    let six : length c.split_at.result.0.now ≤ 6 = omega (arith, c.split_at.ensures.front_len, c.min.ensures) in
    let near = adds_six _ _ (length c.split_at.result.0.now) (x * 3) c.stages.ensures.kept six in
    let few : length c.split_at.result.1.now ≤ length c.args.by.now = omega (arith, c.split_at.ensures.back_len) in
    let far = adds_then _ _ _ (6 * (x * 3)) (length c.split_at.result.1.now) near c.any.ensures.kept in
    adds_more _ _ _ _ far (omega arith)

pub returns-in_err-zeros-clause-kept : goal.returns-in_err-zeros-clause-kept
returns-in_err-zeros-clause-kept c =
    let x = length c.args.x.now in
    let six : length c.split_at.result.0.now ≤ 6 = omega (arith, c.split_at.ensures.front_len, c.min.ensures) in
    let near = adds_six _ _ (length c.split_at.result.0.now) (x * 3) c.stages.ensures.kept six in
    let few : length c.split_at.result.1.now ≤ length c.args.by.now = omega (arith, c.split_at.ensures.back_len) in
    let far = adds_then _ _ _ (6 * (x * 3)) (length c.split_at.result.1.now) near c.any.ensures.kept in
    adds_more _ _ _ _ far (omega arith)

pub returns-clause-kept : goal.returns-clause-kept
returns-clause-kept c =
    let x = length c.args.x.now in
    let six : length c.split_at.result.0.now ≤ 6 = omega (arith, c.split_at.ensures.front_len, c.min.ensures) in
    let near = adds_six _ _ (length c.split_at.result.0.now) (x * 3) c.stages.ensures.kept six in
    let few : length c.split_at.result.1.now ≤ length c.args.by.now = omega (arith, c.split_at.ensures.back_len) in
    let far = adds_then _ _ _ (6 * (x * 3)) (length c.split_at.result.1.now) near c.any.ensures.kept in
    let wide : length c.as_slice.result.now ≡ x =
    ap length (c.as_slice.ensures.value ∙ c.in_ok-zeros.ensures.items_if_clones_equal (λ y h. h)) ∙ length-replicate x _ in
    adds_more _ _ _ _ (adds_then _ _ _ _ (length c.as_slice.result.now * 3) far c.pairwise.ensures.kept) (omega (arith, wide))

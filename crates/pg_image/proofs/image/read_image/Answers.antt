use Rattle.std.proofs.Common.{◌≡◌, ℕ, ◌^◌, ◌<◌, ◌++◌, List, Ok, length, take, All, false, sym, subst, ◌∙◌, ap, arith}
use Rattle.std.specs.Prelude.{replicate}
use Rattle.std.proofs.lemmas.List.Elements.{All-replicate}
use Rattle.std.proofs.lemmas.List.{length-replicate, take-append-le, take_all}
use Rattle.std.proofs.lemmas.Nat.{pow_pos}
use Rattle.pg_image.proofs.Meaning.{due_is, due_fault}
use Rattle.pg_image.proofs.image.read_image.Goals as goal
use Rattle.pg_image.proofs.image.read_image.Goals.{After-place_all}

-- what is lent is put back whole
refilled : (n : ℕ) (xs ys : List ℕ) → length xs ≡ n → take n (xs ++ ys) ≡ xs
refilled n xs ys len = take-append-le n xs ys (omega arith) ∙ take_all n xs (omega arith)

-- the cells are lent as zeros, and the flags as none
zeros_are : (c : After-place_all) → c.deref_mut.result.now ≡ replicate c.args.size 0
zeros_are c = c.deref_mut.ensures.value ∙ c.in_ok-cells.ensures.items

flags_are : (c : After-place_all) → c.deref_mut-2.result.now ≡ replicate c.args.size false
flags_are c = c.deref_mut-2.ensures.value ∙ c.in_ok-given.ensures.items

pub place_all-requires-clause-fit : goal.place_all-requires-clause-fit
place_all-requires-clause-fit c =
    let zeros : c.deref_mut.result.now ≡ replicate c.args.size 0 = c.deref_mut.ensures.value ∙ c.in_ok-cells.ensures.items in
    subst (All (λ cell. cell < 2 ^ c.args.shape.now.w)) (sym zeros) (All-replicate (λ cell. cell < 2 ^ c.args.shape.now.w) c.args.size 0 (pow_pos c.args.shape.now.w))

pub returns-in-Some-place_all-clause-due : goal.returns-in-Some-place_all-clause-due
returns-in-Some-place_all-clause-due c =
    let there = (goal.at.returns-in-Some-place_all-clause-due c).After-place_all in
    due_fault c.in-Some-place_all.fault _
    (due_is c.args.shape.now.w c.args.size c.args.bytes.now c.deref_mut.result.now c.deref_mut-2.result.now _ c.if-bytes-gt-IMAGE_BYTES.false (sym c.in_default.is ∙ c.foreign_place.ensures) (zeros_are there) (flags_are there) c.in-Some-place_all.ensures.placed)

pub returns-in-None-clause-due : goal.returns-in-None-clause-due
returns-in-None-clause-due c =
    let there = (goal.at.returns-in-None-clause-due c).After-place_all in
    due_is c.args.shape.now.w c.args.size c.args.bytes.now c.deref_mut.result.now c.deref_mut-2.result.now _ c.if-bytes-gt-IMAGE_BYTES.false (sym c.in_default.is ∙ c.foreign_place.ensures) (zeros_are there) (flags_are there) c.in-None.ensures.placed
    ∙ ap (λ cells. Ok cells) (sym (c.from_vec.ensures ∙ refilled c.in_ok-cells.cells.len c.place_all.new.cells _
    (omega (arith, c.place_all.auto.cells, ap length (zeros_are there), length-replicate {A = ℕ} c.args.size 0, c.in_ok-cells.ensures.len))))

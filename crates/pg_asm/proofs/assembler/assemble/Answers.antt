use Rattle.std.proofs.Common.{◌≡◌, ℕ, ◌^◌, ◌<◌, ◌++◌, List, Option, None, length, take, All, unwrap_or, sym, ap, subst, ◌∙◌, arith}
use Rattle.std.proofs.lemmas.List.Elements.{All-replicate, All-map}
use Rattle.std.proofs.lemmas.List.{length-replicate, take-append-le, take_all}
use Rattle.std.proofs.lemmas.Nat.{pow_pos}
use Rattle.pg_asm.specs.Sources.{none_given, filled}
use Rattle.pg_asm.specs.Passes.{AreFit}
use Rattle.pg_asm.proofs.assembler.assemble.Goals as goal

-- what is lent is put back whole
refilled : (n : ℕ) (xs ys : List (Option ℕ)) → length xs ≡ n → take n (xs ++ ys) ≡ xs
refilled n xs ys len = take-append-le n xs ys (omega arith) ∙ take_all n xs (omega arith)

pub returns-clause-fit : goal.returns-clause-fit
returns-clause-fit c =
    let w = c.args.machine.now.desc.word in
    let given : c.deref_mut.result.now ≡ none_given c.args.size = c.deref_mut.ensures.value ∙ c.in_ok-cells.ensures.items in
    let fits = c.place_all.ensures.fit (subst (AreFit w) (sym given) (All-replicate (λ cell. unwrap_or cell 0 < 2 ^ w) c.args.size None (pow_pos w))) in
    let back : c.deref.result.now ≡ c.place_all.new.cells = c.deref.ensures.value ∙ refilled c.in_ok-cells.cells.len c.place_all.new.cells _
    (omega (arith, c.place_all.auto.cells, ap length given, length-replicate {A = Option ℕ} c.args.size None, c.in_ok-cells.ensures.len)) in
    let same : c.in_ok-image-in-None.image ≡ filled c.place_all.new.cells = c.in_ok-image-in-None.ensures ∙ ap filled back in
    subst (All (λ cell. cell < 2 ^ w)) (sym same) (All-map (λ cell. cell < 2 ^ w) (λ cell. unwrap_or cell 0) c.place_all.new.cells fits)

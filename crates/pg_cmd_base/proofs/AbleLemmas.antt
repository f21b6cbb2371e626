-- A hardware on which any command can be carried out has room for every machine.
use Rattle.std.proofs.Common.{◌≤◌, ◌^◌, ℕ, pow_mono, arith}
use Rattle.pg_ast.specs.declared.tree.Desc.{Desc}
use Rattle.pg_lang_valid.specs.Valid.{IsValid}
use Rattle.pg_lang_valid.proofs.ValidFacts.{IsShape-of_valid}

-- no machine has more cells than it has room for
pub size-small : (d : Desc) → IsValid d → d.size ≤ 1048575
size-small d v =
    let shape = IsShape-of_valid d v in
    let most : 2 ^ d.address ≤ 2 ^ 20 = pow_mono shape.address_most in
    omega (arith, shape.size_most, most)

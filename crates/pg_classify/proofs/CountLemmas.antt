-- How many questions a machine has.
use Rattle.std.proofs.Common.{◌≡◌, ℕ, ◌+◌, ◌*◌, ◌<◌, ◌≤◌, ◌⊎◌, inl, inr, true, false, cond, List, [], ◌∷◌, length, Option, None, Some, refl, sym, ap, ◌∙◌, arith}
use Rattle.std.specs.Prelude.{◌==◌}
use Rattle.std.proofs.lemmas.Bool.{cases_Bool, eqb-false}
use Rattle.std.proofs.lemmas.Nat.{mul-add-lt}
use Rattle.pg_ast.specs.declared.tree.Instr.{Instr}
use Rattle.pg_ast.specs.declared.tree.Desc.{Desc}
use Rattle.pg_lang_valid.specs.declared.fault.Limit.{Limit}
use Rattle.pg_lang_valid.specs.declared.fault.Limit.TheVariants.{Instructions}
use Rattle.pg_lang_valid.specs.Limits.{most_instructions, limit_at, at_number, limit_broken, tally_limit, instr_tally}
use Rattle.pg_lang_valid.specs.Valid.{IsValid, as_limit}
use Rattle.pg_cert.specs.declared.cert.Family.{Family}
use Rattle.pg_cert.specs.declared.cert.Family.TheVariants.{Plain, Hybrid}
use Rattle.pg_cert.specs.Verdicts.{kind_count}

one_fault : (k : ℕ) (o : Option Limit) (later : Option (Limit × ℕ)) → at_number k o later ≡ None → (o ≡ None) × (later ≡ None)
one_fault k None later e = (refl, e)
one_fault k (Some l) later e = absurd (cc)

no_limit : (k : ℕ) (i : Instr) → limit_at k i ≡ None → (k == most_instructions) ≡ false
no_limit k i e = by (cases_Bool (k == most_instructions))
  where
    by : ((k == most_instructions) ≡ true) ⊎ ((k == most_instructions) ≡ false) → (k == most_instructions) ≡ false
    by (inl t) =
        let wrong : Some Instructions ≡ None = sym (ap (λ b. cond b (Some Instructions) (tally_limit (instr_tally i))) t) ∙ e in absurd (cc)
    by (inr f) = f

few_from : (instrs : List Instr) (k : ℕ) → k ≤ most_instructions → limit_broken k instrs ≡ None → k + length instrs ≤ most_instructions
unfolding limit_broken
few_from [] k l e = omega arith
few_from (i ∷ others) k l e =
    let both = one_fault k (limit_at k i) (limit_broken (k + 1) others) e in
    let apart : k ≡ most_instructions → ⊥ = eqb-false k most_instructions (no_limit k i both.0) in
    let rest : (k + 1) + length others ≤ most_instructions = few_from others (k + 1) (omega arith) both.1 in
    omega arith

no_fault : (o : Option (Limit × ℕ)) → as_limit o ≡ None → o ≡ None
no_fault None e = refl
no_fault (Some x) e = absurd (cc)

-- a valid description has 256 instructions at most
few_instrs : (d : Desc) → IsValid d → length d.instrs ≤ 256
few_instrs d valid = let h : 0 + length d.instrs ≤ most_instructions = few_from d.instrs 0 (omega arith) (no_fault (limit_broken 0 d.instrs) valid.limits) in omega arith

few_kinds : (family : Family) → kind_count family ≤ 5
few_kinds Plain = omega arith
few_kinds Hybrid = omega arith

some_kinds : (family : Family) → 0 < kind_count family
some_kinds Plain = omega arith
some_kinds Hybrid = omega arith

pub small_count : (d : Desc) (family : Family) → IsValid d → length d.instrs * kind_count family < 1285
small_count d family valid =
    omega (arith, few_kinds family, mul-add-lt (length d.instrs) (kind_count family) 0 257 (omega (arith, few_instrs d valid)) (some_kinds family))

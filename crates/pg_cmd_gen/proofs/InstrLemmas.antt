-- The instructions of a generated description, one by one.
use Rattle.std.proofs.Common.{◌≡◌, ℕ, suc, ◌+◌, ◌<◌, ◌≤◌, List, [], ◌∷◌, length, map, slice_get, None, Some, refl, sym, subst, arith}
use Rattle.pg_ast.specs.declared.tree.Instr.{Instr}
use Rattle.pg_lang_valid.specs.Limits.{instr_tally, tally_limit}
use Rattle.pg_lang_valid.specs.Twice.{let_twice, let_twice_in}
use Rattle.pg_lang_valid.specs.Scopes.{unknown_in}
use Rattle.pg_lang_valid.specs.Widths.{fare_of, fares_in_order, broken_place}
use Rattle.pg_cmd_gen.specs.Generated.{IsInstrAt, name_at, pattern_at}
use Rattle.pg_cmd_gen.proofs.Tables.{HasFields, pattern_at-fields}
use Rattle.pg_cmd_gen.proofs.BodyLemmas.{IsSound, setting_by, body_of-sound}

-- what an instruction with this number has, whatever its body
pub record IsFine (k : ℕ) (i : Instr) : Type 0 where
  pub name : i.name.bytes ≡ name_at k
  pub pattern : i.pattern.bytes ≡ pattern_at k
  pub limits : tally_limit (instr_tally i) ≡ None
  pub lets : let_twice_in i ≡ None
  pub names : unknown_in i ≡ None
  pub widths : broken_place (fares_in_order (map (fare_of (setting_by i.pattern.bytes)) i.body) 0 []) ≡ None

fine : (number k : ℕ) (i : Instr) → k < 60 → IsInstrAt number k i → IsFine k i
unfolding let_twice
fine number k i below at =
    let sound : IsSound i.body = subst IsSound (sym at.body) (body_of-sound _) in
    let fields : HasFields i.pattern.bytes = subst HasFields (sym at.pattern) (pattern_at-fields k below) in
    record {
      name = at.name;
      pattern = at.pattern;
      limits = sound.limits;
      lets = rw sound.lets;
      names = sound.names i.pattern.bytes fields;
      widths = sound.widths i.pattern.bytes fields;
    }

-- instructions with the numbers from this one on
abbrev pub AreAt : ℕ → ℕ → List Instr → Type 0
AreAt number k [] = Unit {0}
AreAt number k (i ∷ others) = IsInstrAt number k i × AreAt number (suc k) others

abbrev pub AreFine : ℕ → List Instr → Type 0
AreFine k [] = Unit {0}
AreFine k (i ∷ others) = IsFine k i × AreFine (suc k) others

pub are-at : (number k : ℕ) (is : List Instr) → ((j : ℕ) (i : Instr) → slice_get is j ≡ Some i → IsInstrAt number (k + j) i) → AreAt number k is
are-at number k [] each = tt
are-at number k (i ∷ others) each = (
  subst (λ (n : ℕ). IsInstrAt number n i) (omega arith) (each 0 i refl),
  are-at number (suc k) others (λ j x e. subst (λ (n : ℕ). IsInstrAt number n x) (omega arith) (each (suc j) x e)),
)

pub are-fine : (number k : ℕ) (is : List Instr) → AreAt number k is → k + length is ≤ 60 → AreFine k is
are-fine number k [] all fits = tt
are-fine number k (i ∷ others) all fits =
    (fine number k i (omega arith) all.0, are-fine number (suc k) others all.1 (omega arith))

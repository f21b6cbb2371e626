-- A generated description has no fault, class by class.
use Rattle.std.proofs.Common.{◌≡◌, ℕ, suc, ◌+◌, ◌<◌, ◌≤◌, ◌==◌, false, List, [], ◌∷◌, length, map, None, refl, sym, subst, arith}
use Rattle.std.proofs.lemmas.Bool.{ne_eqb}
use Rattle.pg_ast.specs.declared.tree.Instr.{Instr}
use Rattle.pg_ast.specs.declared.tree.Desc.{Desc}
use Rattle.pg_lang_valid.specs.Limits.{limit_broken}
use Rattle.pg_lang_valid.specs.Twice.{first_twice, let_twice_among, instr_names}
use Rattle.pg_lang_valid.specs.Overlaps.{pattern_broken, overlap_with, overlap}
use Rattle.pg_lang_valid.specs.Scopes.{name_unknown}
use Rattle.pg_lang_valid.specs.Widths.{Setting, setting_of, fare_of, fares_in_order, broken_place, width_broken_in, width_broken}
use Rattle.pg_lang_valid.specs.Valid.{IsValid}
use Rattle.pg_cmd_gen.specs.Generated.{IsGenerated, IsInstrAt, pattern_at, most_instructions}
use Rattle.pg_cmd_gen.proofs.Tables.{names_below, name_at-new, pattern_at-formed, patterns-clash}
use Rattle.pg_cmd_gen.proofs.BodyLemmas.{setting_by}
use Rattle.pg_cmd_gen.proofs.InstrLemmas.{IsFine, AreFine, are-at, are-fine}

no_limit : (n k : ℕ) (is : List Instr) → AreFine k is → n + length is ≤ 256 → limit_broken n is ≡ None
unfolding limit_broken
no_limit n k [] all fits = refl
no_limit n k (i ∷ others) all fits =
    let other : (n == 256) ≡ false = ne_eqb n 256 (λ e. omega arith) in
    rw (other, all.0.limits) (no_limit (n + 1) (suc k) others all.1 (omega arith))

no_name_twice : (k : ℕ) (is : List Instr) → AreFine k is → k + length is ≤ 60 → first_twice (names_below k) (instr_names is) ≡ None
unfolding first_twice
no_name_twice k [] all fits = refl
no_name_twice k (i ∷ others) all fits =
    let new = name_at-new k (omega arith) in
    rw (all.0.name, new) (no_name_twice (suc k) others all.1 (omega arith))

no_let_twice : (k : ℕ) (is : List Instr) → AreFine k is → let_twice_among is ≡ None
unfolding let_twice_among
no_let_twice k [] all = refl
no_let_twice k (i ∷ others) all = rw all.0.lets (no_let_twice (suc k) others all.1)

all_formed : (n k : ℕ) (is : List Instr) → AreFine k is → k + length is ≤ 60 → pattern_broken 32 n is ≡ None
unfolding pattern_broken
all_formed n k [] all fits = refl
all_formed n k (i ∷ others) all fits =
    let formed = pattern_at-formed k (omega arith) in
    rw (all.0.pattern, formed) (all_formed (n + 1) (suc k) others all.1 (omega arith))

none_overlaps : (j n k : ℕ) (is : List Instr) → j < k → AreFine k is → k + length is ≤ 60 → overlap_with (pattern_at j) n is ≡ None
unfolding overlap_with
none_overlaps j n k [] before all fits = refl
none_overlaps j n k (i ∷ others) before all fits =
    let clash = patterns-clash j k before (omega arith) in
    rw (all.0.pattern, clash) (none_overlaps j (n + 1) (suc k) others (omega arith) all.1 (omega arith))

all_apart : (n k : ℕ) (is : List Instr) → AreFine k is → k + length is ≤ 60 → overlap n is ≡ None
unfolding overlap
all_apart n k [] all fits = refl
all_apart n k (i ∷ others) all fits =
    let apart = none_overlaps k (n + 1) (suc k) others (omega arith) all.1 (omega arith) in
    rw (all.0.pattern, apart) (all_apart (n + 1) (suc k) others all.1 (omega arith))

all_known : (n k : ℕ) (is : List Instr) → AreFine k is → name_unknown n is ≡ None
unfolding name_unknown
all_known n k [] all = refl
all_known n k (i ∷ others) all = rw all.0.names (all_known (n + 1) (suc k) others all.1)

setting-is : (d : Desc) (i : Instr) → d.word ≡ 32 → d.address ≡ 8 → setting_of d i ≡ setting_by i.pattern.bytes
setting-is d i word address = cc

no_width_here : (d : Desc) (i : Instr) (k : ℕ) → d.word ≡ 32 → d.address ≡ 8 → IsFine k i → width_broken_in d i ≡ None
no_width_here d i k word address h =
    subst (λ (at : Setting). broken_place (fares_in_order (map (fare_of at) i.body) 0 []) ≡ None) (sym (setting-is d i word address)) h.widths

no_width : (d : Desc) (n k : ℕ) (is : List Instr) → d.word ≡ 32 → d.address ≡ 8 → AreFine k is → width_broken d n is ≡ None
unfolding width_broken
no_width d n k [] word address all = refl
no_width d n k (i ∷ others) word address all =
    let here = no_width_here d i k word address all.0 in
    rw here (no_width d (n + 1) (suc k) others word address all.1)

-- a generated description is valid
pub generated-valid : (number count : ℕ) (d : Desc) → 1 ≤ count → count ≤ most_instructions → IsGenerated number count d → IsValid d
generated-valid number count d least most h =
    let fits : length d.instrs ≤ 60 = omega (arith, h.many) in
    let at = are-at number 0 d.instrs (λ j i e. subst (λ (n : ℕ). IsInstrAt number n i) (omega arith) (h.each j i e)) in
    let all = are-fine number 0 d.instrs at (omega arith) in
    record {
      shape = rw (h.word, h.address, h.cells, h.causes);
      limits = rw (no_limit 0 0 d.instrs all (omega arith));
      names_once = rw (no_name_twice 0 d.instrs all (omega arith), no_let_twice 0 d.instrs all);
      patterns = rw (h.word, all_formed 0 0 d.instrs all (omega arith));
      apart = rw (all_apart 0 0 d.instrs all (omega arith));
      names_known = rw (all_known 0 0 d.instrs all);
      widths = rw (no_width d 0 0 d.instrs h.word h.address all);
    }

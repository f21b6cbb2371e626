-- What validity tells of patterns: their lengths, their fields, and that no word is matched twice.
use Rattle.std.proofs.Common.{◌≡◌, ℕ, ◌+◌, ◌<◌, ◌≤◌, ◌⊎◌, inl, inr, Bool, true, false, not, ◌&&◌, ◌||◌, ◌==◌, if◌then◌else◌, List, [], ◌∷◌, length, zero, suc, Option, None, Some, slice_get, get_or, All, refl, ap, sym, ◌∙◌, arith}
use Rattle.std.proofs.lemmas.Bool.{eqb-true}
use Rattle.std.proofs.lemmas.Option.{slice_get-get_or}
use Rattle.pg_ast.specs.declared.tree.Instr.{Instr}
use Rattle.pg_ast.specs.declared.tree.Desc.{Desc}
use Rattle.pg_lang_meaning.specs.Patterns.{byte_0, byte_1, bit_of_word, takes_bit, matches, Field, field_of}
use Rattle.pg_lang_meaning.proofs.PatternLemmas.{field_of-within}
use Rattle.pg_lang_valid.proofs.CheckLemmas.{and_both}
use Rattle.pg_lang_valid.specs.Overlaps.{has_split_letter, is_well_formed, pattern_broken, bytes_clash, clash, overlap_with, paired, overlap}
use Rattle.pg_lang_valid.specs.Valid.{as_overlap, IsValid}
use Rattle.pg_lang_valid.proofs.ValidFacts.{as_pattern_none, IsWidth-word}

either_true : (x y : Bool) → (x || y) ≡ true → (x ≡ true) ⊎ (y ≡ true)
either_true true y e = inl refl
either_true false y e = inr e

-- a place with 0 takes 0, and a place with 1 takes 1
takes_0 : (c bit : ℕ) → c ≡ 48 → takes_bit c bit ≡ true → bit ≡ 0
takes_0 c bit e t = eqb-true bit 0 (sym (ap (λ x. takes_bit x bit) e) ∙ t)

takes_1 : (c bit : ℕ) → c ≡ 49 → takes_bit c bit ≡ true → bit ≡ 1
takes_1 c bit e t = eqb-true bit 1 (sym (ap (λ x. takes_bit x bit) e) ∙ t)

-- no bit suits two bytes that clash
bytes_apart : (c d bit : ℕ) → bytes_clash c d ≡ true → takes_bit c bit ≡ true → takes_bit d bit ≡ true → ⊥
bytes_apart c d bit e s t = by (either_true ((c == byte_0) && (d == byte_1)) ((c == byte_1) && (d == byte_0)) e)
  where
    by : (((c == byte_0) && (d == byte_1)) ≡ true) ⊎ (((c == byte_1) && (d == byte_0)) ≡ true) → ⊥
    by (inl h) =
        let g = and_both (c == byte_0) (d == byte_1) h in
        let x : bit ≡ 0 = takes_0 c bit (eqb-true c 48 g.0) s in
        let y : bit ≡ 1 = takes_1 d bit (eqb-true d 49 g.1) t in
        omega arith
    by (inr h) =
        let g = and_both (c == byte_1) (d == byte_0) h in
        let x : bit ≡ 1 = takes_1 c bit (eqb-true c 49 g.0) s in
        let y : bit ≡ 0 = takes_0 d bit (eqb-true d 48 g.1) t in
        omega arith

-- patterns that clash, of one length, match no word both
pub clash-apart : (p q : List ℕ) (word : ℕ) → length p ≡ length q → clash p q ≡ true → matches p word ≡ true → matches q word ≡ true → ⊥
unfolding clash matches
clash-apart [] q word n e s t = cc
clash-apart (c ∷ cs) [] word n e s t = cc
clash-apart (c ∷ cs) (d ∷ ds) word n e s t =
    let same : length cs ≡ length ds = omega arith in
    let s2 = and_both (takes_bit c (bit_of_word word (length cs))) (matches cs word) s in
    let t2 = and_both (takes_bit d (bit_of_word word (length ds))) (matches ds word) t in
    let there : takes_bit d (bit_of_word word (length cs)) ≡ true = ap (λ k. takes_bit d (bit_of_word word k)) same ∙ t2.0 in
    elim (either_true (bytes_clash c d) (clash cs ds) e) [
      | inl h ↦ bytes_apart c d (bit_of_word word (length cs)) h s2.0 there
      | inr h ↦ clash-apart cs ds word same h s2.1 t2.1
    ]

where_some : {X : Type 0} (b : Bool) (later : Option X) (x : X) → (if b then later else Some x) ≡ None → (b ≡ true) × (later ≡ None)
where_some true later x e = (refl, e)
where_some false later x e = cc

-- in a list with no broken pattern each is well formed
pub each_formed : (w k : ℕ) (is : List Instr) (i : ℕ) (x : Instr) → pattern_broken w k is ≡ None → slice_get is i ≡ Some x → is_well_formed w x.pattern.bytes ≡ true
unfolding pattern_broken
each_formed w k [] i x none at = cc
each_formed w k (y ∷ is) zero x none at =
    let same : y ≡ x = cc in
    let h = where_some (is_well_formed w y.pattern.bytes) (pattern_broken w (k + 1) is) k none in
    ap (λ z. is_well_formed w z.pattern.bytes) (sym same) ∙ h.0
each_formed w k (y ∷ is) (suc i) x none at =
    each_formed w (k + 1) is i x (where_some (is_well_formed w y.pattern.bytes) (pattern_broken w (k + 1) is) k none).1 at

-- and each pattern has as many places as a word has bits
pub formed-length : (w : ℕ) (pattern : List ℕ) → is_well_formed w pattern ≡ true → length pattern ≡ w
formed-length w pattern e = eqb-true (length pattern) w (and_both (length pattern == w) (not (has_split_letter pattern)) e).0

each_clash : (p : List ℕ) (k : ℕ) (is : List Instr) (j : ℕ) (y : Instr) → overlap_with p k is ≡ None → slice_get is j ≡ Some y → clash p y.pattern.bytes ≡ true
unfolding overlap_with
each_clash p k [] j y none at = cc
each_clash p k (x ∷ is) zero y none at =
    let same : x ≡ y = cc in
    let h = where_some (clash p x.pattern.bytes) (overlap_with p (k + 1) is) k none in
    ap (λ z. clash p z.pattern.bytes) (sym same) ∙ h.0
each_clash p k (x ∷ is) (suc j) y none at =
    each_clash p (k + 1) is j y (where_some (clash p x.pattern.bytes) (overlap_with p (k + 1) is) k none).1 at

none_paired : (k : ℕ) (x : Option ℕ) (later : Option (ℕ × ℕ)) → paired k x later ≡ None → (x ≡ None) × (later ≡ None)
none_paired k None later e = (refl, e)
none_paired k (Some j) later e = cc

-- where no two patterns overlap, an earlier one clashes with a later one
pub two_clash : (k : ℕ) (is : List Instr) (i j : ℕ) (x y : Instr) → overlap k is ≡ None → i < j → slice_get is i ≡ Some x → slice_get is j ≡ Some y →
    clash x.pattern.bytes y.pattern.bytes ≡ true
unfolding overlap
two_clash k [] i j x y none less at_i at_j = cc
two_clash k (z ∷ is) zero zero x y none less at_i at_j = absurd (let no : ⊥ = omega arith in no)
two_clash k (z ∷ is) zero (suc j) x y none less at_i at_j =
    let same : z ≡ x = cc in
    let h = none_paired k (overlap_with z.pattern.bytes (k + 1) is) (overlap (k + 1) is) none in
    ap (λ v. clash v.pattern.bytes y.pattern.bytes) (sym same) ∙ each_clash z.pattern.bytes (k + 1) is j y h.0 at_j
two_clash k (z ∷ is) (suc i) zero x y none less at_i at_j = absurd (let no : ⊥ = omega arith in no)
two_clash k (z ∷ is) (suc i) (suc j) x y none less at_i at_j =
    two_clash (k + 1) is i j x y (none_paired k (overlap_with z.pattern.bytes (k + 1) is) (overlap (k + 1) is) none).1 (omega arith) at_i at_j

none_overlap : (x : Option (ℕ × ℕ)) → as_overlap x ≡ None → x ≡ None
none_overlap None e = refl
none_overlap (Some k) e = cc

-- a pattern of a valid description has as many places as a word has bits
pub valid-length : (d : Desc) (i : ℕ) (x : Instr) → IsValid d → slice_get d.instrs i ≡ Some x → length x.pattern.bytes ≡ d.word
valid-length d i x v at =
    formed-length d.word x.pattern.bytes (each_formed d.word 0 d.instrs i x (as_pattern_none (pattern_broken d.word 0 d.instrs) v.patterns) at)

-- of a valid description at most one pattern matches a word
pub valid-apart : (d : Desc) (i j : ℕ) (x y : Instr) (word : ℕ) → IsValid d → i < j → slice_get d.instrs i ≡ Some x → slice_get d.instrs j ≡ Some y →
    matches x.pattern.bytes word ≡ true → matches y.pattern.bytes word ≡ true → ⊥
valid-apart d i j x y word v less at_i at_j s t =
    clash-apart x.pattern.bytes y.pattern.bytes word (valid-length d i x v at_i ∙ sym (valid-length d j y v at_j))
    (two_clash 0 d.instrs i j x y (none_overlap (overlap 0 d.instrs) v.apart) less at_i at_j) s t

-- a field of a valid description lies within the word
pub valid-field : (d : Desc) (i : ℕ) (x : Instr) (name : List ℕ) (f : Field) → IsValid d → slice_get d.instrs i ≡ Some x →
    field_of x.pattern.bytes name ≡ Some f → f.low + f.width ≤ d.word
valid-field d i x name f v at e = omega (arith, (field_of-within x.pattern.bytes name f e).within, valid-length d i x v at)

-- the patterns of a valid description are no longer than 64 places
pub valid-short : (d : Desc) → IsValid d → All (λ i. length i.pattern.bytes ≤ 64) d.instrs
valid-short d v = λ k x within.
    omega (arith, valid-length d k (get_or d.instrs k x) v (slice_get-get_or d.instrs k x within), (IsWidth-word d v).most)

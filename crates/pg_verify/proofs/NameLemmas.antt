-- The first of some names that is a name; how many instructions there are; the element at a place.
use Rattle.std.proofs.Common.{◌≡◌, ℕ, suc, ◌+◌, ◌*◌, ◌<◌, ◌≤◌, ◌^◌, Bool, true, false, List, [], ◌∷◌, length, get_or, Option, None, Some, refl, sym, ap, subst, ◌∙◌, arith, cond, slice_get, position, bytes_eq, ◌⊎◌, inl, inr, Decides, zero, ℤ}
use Rattle.std.specs.Prelude.{nat_lt, ◌==◌, Result, Ok, Err, IfOk}
use Rattle.std.specs.List.{position_or_len}
use Rattle.std.proofs.lemmas.Bool.{cases_Bool, lt-ltb, le-ltb, eqb-false, eqb-true}
use Rattle.std.proofs.lemmas.Nat.{mul-add-lt}
use Rattle.std.proofs.lemmas.List.{length-map}
use Rattle.std.proofs.lemmas.Option.{get_or_from_slice_get}
use Rattle.std.proofs.lemmas.List.Sums.{position_or_len_is}
use Rattle.std.proofs.lemmas.Bool.Decides.{same_from_decides}
use Rattle.pg_ast.specs.declared.tree.Instr.{Instr}
use Rattle.pg_ast.specs.declared.tree.Desc.{Desc}
use Rattle.pg_lang_valid.specs.declared.fault.Limit.{Limit}
use Rattle.pg_lang_valid.specs.declared.fault.Limit.TheVariants.{Instructions}
use Rattle.pg_lang_valid.specs.Limits.{most_instructions, limit_at, at_number, limit_broken, tally_limit, instr_tally}
use Rattle.pg_lang_valid.specs.Valid.{IsValid, as_limit}
use Rattle.pg_proof.specs.State.{State as Log, begun}
use Rattle.pg_type.specs.declared.kind.Kind.{Kind}
use Rattle.pg_type.specs.Kinds.{Shows}
use Rattle.pg_ask.specs.Question.{question}
use Rattle.pg_cert.specs.declared.cert.Family.{Family}
use Rattle.pg_cert.specs.declared.cert.Family.TheVariants.{Plain, Hybrid}
use Rattle.pg_cert.specs.Verdicts.{kind_count}
use Rattle.pg_cert_drawn.specs.Drawn.{Drawn, state_of}
use Rattle.pg_verify.specs.Judging.{shows}
use Rattle.pg_verify.specs.Taking.{shows_at, clauses_at}
use Rattle.pg_verify.proofs.JudgingLemmas.{shows_decides}

-- ---- the first name that passes

module _ (names : List (List ℕ)) (name : List ℕ) where
  is_name : List ℕ → Bool
  is_name n = bytes_eq n name

  -- none of the names before a place is the name
  abbrev pub AreOthers : ℕ → Type 0
  AreOthers i = (k : ℕ) → k < i → bytes_eq (get_or names k []) name ≡ false

  at_place : (i : ℕ) → AreOthers i → position_or_len (λ n. bytes_eq n name) names ≡ i →
      position (λ n. bytes_eq n name) names ≡ cond (nat_lt i (length names)) (Some i) None
  at_place i others e = ap (λ (k : ℕ). cond (nat_lt k (length names)) (Some k) None) e

  pub named_here : (i : ℕ) (x : List ℕ) → i < length names → AreOthers i → slice_get names i ≡ Some x → bytes_eq x name ≡ true →
      Some i ≡ position (λ n. bytes_eq n name) names
  named_here i x l others is e =
      let here : bytes_eq (get_or names i []) name ≡ true = ap (λ n. bytes_eq n name) (get_or_from_slice_get names i x [] is) ∙ e in
      let place : position_or_len (λ n. bytes_eq n name) names ≡ i = position_or_len_is (λ n. bytes_eq n name) names i [] (omega arith) others (λ _. here) in
      sym (at_place i others place ∙ ap (λ b. cond b (Some i) None) (lt-ltb i (length names) l))

  pub named_elsewhere : (i : ℕ) (x : List ℕ) → AreOthers i → slice_get names i ≡ Some x → bytes_eq x name ≡ false → AreOthers (i + 1)
  named_elsewhere i x others is e k l = by (cases_Bool (k == i))
    where
      by : ((k == i) ≡ true) ⊎ ((k == i) ≡ false) → bytes_eq (get_or names k []) name ≡ false
      by (inl same) = subst (λ j. bytes_eq (get_or names j []) name ≡ false) (sym (eqb-true k i same)) (ap (λ n. bytes_eq n name) (get_or_from_slice_get names i x [] is) ∙ e)
      by (inr apart) = let other : k ≡ i → ⊥ = eqb-false k i apart in others k (omega arith)

  pub named_nowhere : (i : ℕ) → length names ≤ i → i ≤ length names → AreOthers i → None ≡ position (λ n. bytes_eq n name) names
  named_nowhere i l m others =
      let place : position_or_len (λ n. bytes_eq n name) names ≡ i = position_or_len_is (λ n. bytes_eq n name) names i [] m others (λ h. absurd (omega arith)) in
      sym (at_place i others place ∙ ap (λ b. cond b (Some i) None) (le-ltb i (length names) l))

-- ---- how many instructions there are

one_fault : (k : ℕ) (o : Option Limit) (later : Option (Limit × ℕ)) → at_number k o later ≡ None → (o ≡ None) × (later ≡ None)
one_fault k None later e = (refl, e)
one_fault k (Some l) later e = absurd (cc)

no_limit : (k : ℕ) (i : Instr) → limit_at k i ≡ None → (k == most_instructions) ≡ false
no_limit k i e = by (cases_Bool (k == most_instructions))
  where
    by : ((k == most_instructions) ≡ true) ⊎ ((k == most_instructions) ≡ false) → (k == most_instructions) ≡ false
    by (inl t) =
        let wrong : Some Instructions ≡ None = sym (ap (λ b. cond b (Some Instructions) (tally_limit (instr_tally i))) t) ∙ e in absurd (cc)
    by (inr f) = f

few_from : (instrs : List Instr) (k : ℕ) → k ≤ most_instructions → limit_broken k instrs ≡ None → k + length instrs ≤ most_instructions
unfolding limit_broken
few_from [] k l e = omega arith
few_from (i ∷ others) k l e =
    let both = one_fault k (limit_at k i) (limit_broken (k + 1) others) e in
    let apart : k ≡ most_instructions → ⊥ = eqb-false k most_instructions (no_limit k i both.0) in
    let rest : (k + 1) + length others ≤ most_instructions = few_from others (k + 1) (omega arith) both.1 in
    omega arith

no_fault : (o : Option (Limit × ℕ)) → as_limit o ≡ None → o ≡ None
no_fault None e = refl
no_fault (Some x) e = absurd (cc)

-- a valid description has 256 instructions at most
pub few_instrs : (d : Desc) → IsValid d → length d.instrs ≤ 256
few_instrs d valid = let h : 0 + length d.instrs ≤ most_instructions = few_from d.instrs 0 (omega arith) (no_fault (limit_broken 0 d.instrs) valid.limits) in omega arith

pub few_kinds : (family : Family) → kind_count family ≤ 5
few_kinds Plain = omega arith
few_kinds Hybrid = omega arith

-- ---- the element at a place

pub some_at : {X : Type 0} (xs : List X) (i : ℕ) → i < length xs → (x : X) × (slice_get xs i ≡ Some x)
some_at [] i l = absurd (omega arith)
some_at (x ∷ xs) zero l = (x, refl)
some_at (x ∷ xs) (suc i) l = some_at xs i (omega arith)

pub told_shown : (d : Desc) (k : Kind) (o : Option Instr) (i : Instr) (b : Bool) (s t : Drawn) → o ≡ Some i →
    Decides b (Shows d i k (state_of s) (state_of t)) → b ≡ shows_at d k o s t
told_shown d k o i b s t e h =
    same_from_decides b (shows d i k (state_of s) (state_of t)) h (shows_decides d i k (state_of s) (state_of t))
    ∙ ap (λ x. shows_at d k x s t) (sym e)

pub IfOk-weaker : {X E : Type 0} (P Q : X → Type 0) (r : Result X E) → ((x : X) → P x → Q x) → IfOk r P → IfOk r Q
IfOk-weaker P Q (Ok x) f h = f x h
IfOk-weaker P Q (Err e) f h = h

pub log_of_question : {E : Type 0} (d : Desc) (k : Kind) (instr : ℕ) (clauses : List (List ℤ)) (r : Result Log E) → instr < length d.instrs →
    ((i : Instr) → slice_get d.instrs instr ≡ Some i → clauses ≡ question d i k) → IfOk r (λ log. log ≡ begun clauses) →
    IfOk r (λ log. log ≡ begun (clauses_at d k (slice_get d.instrs instr)))
log_of_question d k instr clauses r l asked h =
    let at = some_at d.instrs instr l in
    let same : clauses ≡ clauses_at d k (slice_get d.instrs instr) = asked at.0 at.1 ∙ ap (clauses_at d k) (sym at.1) in
    IfOk-weaker (λ log. log ≡ begun clauses) (λ log. log ≡ begun (clauses_at d k (slice_get d.instrs instr))) r (λ log e. e ∙ ap begun same) h

pub few_numbered : {E : Type 0} (clauses : List (List ℤ)) (r : Result Log E) → length clauses < 2 ^ 31 → IfOk r (λ log. log ≡ begun clauses) → IfOk r (λ log. length log.held ≤ 2 ^ 31)
few_numbered clauses r l h =
    IfOk-weaker (λ log. log ≡ begun clauses) (λ log. length log.held ≤ 2 ^ 31) r (λ log e. omega (arith, ap (λ (x : Log). length x.held) e, length-map clauses (λ c. Some c))) h

-- few instructions times few kinds, and a place, is a small number
pub small_number : (d : Desc) (family : Family) (a b : ℕ) → IsValid d → a < length d.instrs → b < kind_count family → a * kind_count family + b < 1280
small_number d family a b valid l m =
    omega (arith, few_instrs d valid, few_kinds family, mul-add-lt a (kind_count family) b 256 (omega (arith, few_instrs d valid)) m)

some_kinds : (family : Family) → 0 < kind_count family
some_kinds Plain = omega arith
some_kinds Hybrid = omega arith

pub small_count : (d : Desc) (family : Family) → IsValid d → length d.instrs * kind_count family < 1285
small_count d family valid =
    omega (arith, few_kinds family, mul-add-lt (length d.instrs) (kind_count family) 0 257 (omega (arith, few_instrs d valid)) (some_kinds family))

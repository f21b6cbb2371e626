-- What an outcome tells of the course of an instruction.
use Rattle.std.proofs.Common.{◌≡◌, ℕ, zero, suc, ◌<◌, Bool, true, false, if◌then◌else◌, List, [], ◌∷◌, slice_get, Option, None, Some, refl, sym, ap, ◌∙◌, subst, arith}
use Rattle.std.specs.Prelude.{IsSomeAnd, IsTrue}
use Rattle.pg_ast.specs.declared.tree.Instr.{Instr}
use Rattle.pg_ast.specs.declared.tree.Desc.{Desc}
use Rattle.pg_lang_meaning.specs.Patterns.{matches, matching}
use Rattle.pg_lang_meaning.specs.Bodies.{body}
use Rattle.pg_lang_meaning.specs.States.{State, window}
use Rattle.pg_lang_meaning.specs.Steps.{ending_of, executed, fetched, ending}
use Rattle.pg_lang_valid.specs.Valid.{IsValid}
use Rattle.pg_lang_valid.proofs.PatternFacts.{valid-apart}
use Rattle.pg_type.specs.Kinds.{IsAt, fetched_word, course_at}
use Rattle.pg_replay.specs.Running.{IsOf}

-- ---- the instruction at P is the one that is found there

-- an instruction whose pattern matches, where none before it does
first_matching : (is : List Instr) (k word : ℕ) (i : Instr) → slice_get is k ≡ Some i → matches i.pattern.bytes word ≡ true →
    ((j : ℕ) (x : Instr) → j < k → slice_get is j ≡ Some x → matches x.pattern.bytes word ≡ true → ⊥) → matching is word ≡ Some i
unfolding matching
first_matching [] k word i at fits none = absurd (let wrong : ⊥ = cc in wrong)
first_matching (x ∷ xs) zero word i at fits none =
    let same : x ≡ i = cc in
    subst (λ b. (if b then Some x else matching xs word) ≡ Some i) (sym (ap (λ j. matches j.pattern.bytes word) same ∙ fits)) at
first_matching (x ∷ xs) (suc k) word i at fits none = by (matches x.pattern.bytes word) refl (first_matching xs k word i at fits (λ j y l is. none (suc j) y (omega arith) is))
  where
    by : (b : Bool) → matches x.pattern.bytes word ≡ b → matching xs word ≡ Some i → (if b then Some x else matching xs word) ≡ Some i
    by true e later = absurd (none 0 x (omega arith) refl e)
    by false e later = later

matched : (d : Desc) (i : Instr) (word : ℕ) → IsValid d → IsOf d i → IsTrue (matches i.pattern.bytes word) → matching d.instrs word ≡ Some i
matched d i word v is_of fits = first_matching d.instrs is_of.0 word i is_of.1 fits (λ j x l is here. valid-apart d j is_of.0 x i word v l is is_of.1 here fits)

ending_at : (d : Desc) (i : Instr) (s : State) (o : Option ℕ) → slice_get (window s) s.psw.p ≡ o → IsValid d → IsOf d i → IsSomeAnd o (λ word. IsTrue (matches i.pattern.bytes word)) →
    ending d (window s) s.psw ≡ ending_of (course_at d i s)
unfolding ending course_at
ending_at d i s None e v is_of at = absurd at
ending_at d i s (Some word) e v is_of at =
    ap (fetched d (window s) s.psw) e
    ∙ ap (executed d (window s) s.psw word) (matched d i word v is_of at)
    ∙ ap (λ o. ending_of (body d i (window s) s.psw (fetched_word o))) (sym e)

-- how a step ends at a state where the instruction stands
pub ending-course : (d : Desc) (i : Instr) (s : State) → IsValid d → IsOf d i → IsAt i s → ending d (window s) s.psw ≡ ending_of (course_at d i s)
ending-course d i s v is_of at = ending_at d i s (slice_get (window s) s.psw.p) refl v is_of at

-- What the answers of the solver are as findings.
use Rattle.std.specs.Prelude.{Result, Ok, Err, IfOk, slice_get, Some}
use Rattle.std.proofs.Common.{◌≡◌, ℕ, suc, ◌+◌, ◌^◌, ◌<◌, ◌≤◌, ℤ, List, [], ◌∷◌, ◌++◌, length, map, All, refl, sym, ap, subst, arith, length-append}
use Rattle.pg_word.specs.declared.sparse.Sparse.{Sparse}
use Rattle.pg_ast.specs.declared.tree.Instr.{Instr}
use Rattle.pg_ast.specs.declared.tree.Desc.{Desc}
use Rattle.pg_mach_ready.specs.declared.machine.Machine.{Machine}
use Rattle.pg_type.specs.declared.kind.Kind.{Kind}
use Rattle.pg_type.specs.Kinds.{Shows}
use Rattle.pg_type.specs.Listed.{state_of}
use Rattle.pg_cnf.specs.Literals.{AreLiterals, AreClauses}
use Rattle.pg_proof.specs.declared.step.Step.{Step}
use Rattle.pg_proof.specs.declared.step.Act.{Act}
use Rattle.pg_proof.specs.declared.step.Act.TheVariants.{Add}
use Rattle.pg_proof.specs.State.{variables_of_clause, variables_of, begun}
use Rattle.pg_proof.specs.Log.{IsClosedLog, IsSpentFrom, IsSpent}
use Rattle.pg_proof.specs.Trimmed.{step_count, IsTrimmed}
use Rattle.pg_sat.specs.Answers.{IsRefuted, IsExhausted}
use Rattle.pg_cert.specs.declared.cert.Finding.{Finding}
use Rattle.pg_cert.specs.declared.cert.Finding.TheVariants.{Refuted, Shown, Spent}
use Rattle.pg_cert.specs.declared.line.Heading.{Heading}
use Rattle.pg_cert.specs.declared.line.Heading.TheVariants.{PlainTwo}
use Rattle.pg_cert.specs.Lines.{most_budget}
use Rattle.pg_cert.specs.Texts.{AreListed}
use Rattle.pg_cert.specs.Validity.{IsActUnder, IsValidFinding}
use Rattle.pg_cert.specs.InRange.{IsNumbered}
use Rattle.pg_cert.proofs.InRange.{trimmed_may_stand}
use Rattle.pg_ask.specs.Question.{question}
use Rattle.pg_classify.specs.Classified.{IsFound, IsFoundAt}

pub IfOk-weaker : {X E : Type 0} (P Q : X → Type 0) (r : Result X E) → ((x : X) → P x → Q x) → IfOk r P → IfOk r Q
IfOk-weaker P Q (Ok x) f h = f x h
IfOk-weaker P Q (Err e) f h = h

-- ---- numbers

greatest_in : (n : ℕ) (c : List ℤ) → AreLiterals n c → variables_of_clause c ≤ n
greatest_in n [] h = omega arith
greatest_in n (z ∷ zs) h = omega (arith, h.0.1, greatest_in n zs h.1)

greatest : (n : ℕ) (cs : List (List ℤ)) → AreClauses n cs → variables_of cs ≤ n
greatest n [] h = omega arith
greatest n (c ∷ cs) h = omega (arith, greatest_in n c h.0.within, greatest n cs h.1)

counted : (steps : List Step) → step_count (map Add steps) ≡ length steps
counted [] = refl
counted (step ∷ steps) = ap suc (counted steps)

pub numbered : (clauses : List (List ℤ)) (variables : ℕ) (steps : List Step) → AreClauses variables clauses →
    variables < 2 ^ 31 → length clauses < 2 ^ 31 → length steps ≤ most_budget + 1 → IsNumbered clauses (map Add steps)
numbered clauses variables steps are few_variables few_clauses few = record {
  variables = (let v = greatest variables clauses are in omega (arith, v, few_variables));
  numbers = (let c = counted steps in omega (arith, c, few_clauses, few));
}

-- a log that closes has one step more than the budget at most
pub refuted_few : (clauses : List (List ℤ)) (budget : ℕ) (steps : List Step) → IsRefuted clauses budget steps →
    length steps ≤ budget + 1
refuted_few clauses budget steps h =
    let whole : length steps ≡ length (h.before ++ h.last ∷ []) = ap length h.whole in
    let count : length (h.before ++ h.last ∷ []) ≡ length h.before + 1 = length-append h.before (h.last ∷ []) in
    let few = h.few in
    omega (arith, whole, count, few)

-- ---- findings

module _ (clauses : List (List ℤ)) (heading : Heading) (d : Desc) (i : Instr) (kind : Kind) where
  closed_valid : (acts : List Act) → IsClosedLog clauses acts → All (IsActUnder heading) acts →
      IsValidFinding clauses heading d i kind (Refuted acts)
  unfolding IsValidFinding
  closed_valid acts closed under = (closed, under)

  shown_valid : (s t : Sparse) → Shows d i kind (state_of s) (state_of t) → IsValidFinding clauses heading d i kind (Shown s t)
  unfolding IsValidFinding
  shown_valid s t shows = shows

  spent_valid : (budget : ℕ) (steps : List Step) → 1 ≤ budget → budget ≤ most_budget → IsSpent clauses budget (map Add steps) →
      IsValidFinding clauses heading d i kind (Spent budget steps)
  unfolding IsValidFinding
  spent_valid budget steps least most spent = (least, most, spent)

module _ (clauses : List (List ℤ)) (variables budget : ℕ) (are : AreClauses variables clauses) (few_variables : variables < 2 ^ 31)
    (few_clauses : length clauses < 2 ^ 31) (most : budget ≤ most_budget) (d : Desc) (i : Instr) (kind : Kind) where
  pub refuted_found : (steps : List Step) (log acts : List Act) → IsRefuted clauses budget steps → log ≡ map Add steps →
      IsTrimmed clauses log acts → IsFound clauses budget d i kind (Refuted acts)
  refuted_found steps log acts h same trimmed =
      let given : IsNumbered clauses log =
      subst (λ l. IsNumbered clauses l) (sym same)
      (numbered clauses variables steps are few_variables few_clauses
      (let few = refuted_few clauses budget steps h in omega (arith, few, most))) in
      record {
        valid = λ heading may. closed_valid clauses heading d i kind acts trimmed.closed
            (trimmed_may_stand clauses heading log acts trimmed given may).1;
        listed = tt;
        numbered = (trimmed_may_stand clauses PlainTwo log acts trimmed given refl).0;
        searched = record { steps = steps; refuted = h; trimmed = subst (λ l. IsTrimmed clauses l acts) same trimmed };
      }

  pub spent_found : (steps : List Step) → IsExhausted clauses budget steps → 1 ≤ budget →
      IsFound clauses budget d i kind (Spent budget steps)
  spent_found steps h least = record {
    valid = λ heading may. spent_valid clauses heading d i kind budget steps least most
        (subst (λ n. IsSpentFrom (begun clauses) n (map Add steps)) h.exactly h.log.spent);
    listed = tt;
    numbered = numbered clauses variables steps are few_variables few_clauses (let e = h.exactly in omega (arith, e, most));
    searched = (refl, h.log.fresh);
  }

pub shown_found : (clauses : List (List ℤ)) (budget : ℕ) (d : Desc) (i : Instr) (kind : Kind) (s t : Sparse) (f : Finding) →
    f ≡ Shown s t → AreListed f → Shows d i kind (state_of s) (state_of t) → IsFound clauses budget d i kind f
shown_found clauses budget d i kind s t f same listed shows =
    subst (λ x. IsFound clauses budget d i kind x) (sym same)
    (record {
      valid = λ heading may. shown_valid clauses heading d i kind s t shows;
      listed = subst AreListed same listed;
      numbered = tt;
      searched = tt;
    })

-- two listed states show a kind of the instruction with a number
abbrev pub AreShown : Desc → ℕ → Kind → Sparse → Sparse → Type 0
AreShown d instr kind s t = (i : Instr) → slice_get d.instrs instr ≡ Some i → Shows d i kind (state_of s) (state_of t)

pub shown_again : (m n : Machine) (k j : ℕ) (x y : Kind) (s t : Sparse) → m ≡ n → k ≡ j → x ≡ y →
    AreShown m.desc k x s t → AreShown n.desc j y s t
shown_again m n k j x y s t same_machine same_number same_kind h =
    subst (λ z. AreShown n.desc j z s t) same_kind
    (subst (λ z. AreShown n.desc z x s t) same_number (subst (λ (z : Machine). AreShown z.desc k x s t) same_machine h))

-- what is found of a question that was asked is found of the question of its instruction and kind
pub found_at : {E : Type 0} (x y : Machine) (m n : ℕ) (k l : Kind) (clauses : List (List ℤ)) (budget : ℕ) (r : Result Finding E) → x ≡ y → m ≡ n → k ≡ l →
    ((i : Instr) → slice_get y.desc.instrs n ≡ Some i → clauses ≡ question y.desc i l) →
    IfOk r (λ f. (i : Instr) → slice_get x.desc.instrs m ≡ Some i → IsFound clauses budget x.desc i k f) → IfOk r (IsFoundAt y.desc n l budget)
found_at x y m n k l clauses budget (Err e) ex em ek as_question h = h
found_at x y m n k l clauses budget (Ok f) ex em ek as_question h = λ i at.
    subst (λ cs. IsFound cs budget y.desc i l f) (as_question i at)
    (subst (λ kind. IsFound clauses budget y.desc i kind f) ek
    (subst (λ (z : Machine). IsFound clauses budget z.desc i k f) ex
    (h i (subst (λ p. slice_get x.desc.instrs p ≡ Some i) (sym em) (subst (λ (z : Machine). slice_get z.desc.instrs n ≡ Some i) (sym ex) at)))))

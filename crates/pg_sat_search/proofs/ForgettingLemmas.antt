-- What is kept while a search forgets, from one call to the next.
use Rattle.std.proofs.Common.{◌≡◌, ℕ, ◌+◌, ◌-◌, ◌^◌, ◌<◌, List, [], ◌∷◌, ◌++◌, length, map, Option, Some, None, sym, ap, subst, ◌∙◌, arith, ℤ}
use Rattle.std.specs.Prelude.{Result, Ok, Err, OnOk}
use Rattle.std.specs.declared.alloc.AllocError.{AllocError}
use Rattle.std.proofs.lemmas.List.{map-append}
use Rattle.std.proofs.lemmas.Option.{slice_get_within}
use Rattle.pg_cnf.specs.Literals.{IsLiteral, AreClauses}
use Rattle.pg_watch.specs.declared.fix.Fix.{Fix}
use Rattle.pg_watch.specs.State.{State}
use Rattle.pg_watch.specs.Trail.{Trail, IsTrail, IsQuiet, Extends, pushed, cut}
use Rattle.pg_watch.proofs.Steps.{IsTrail-push}
use Rattle.pg_proof.specs.declared.step.Step.{Step}
use Rattle.pg_proof.specs.declared.step.Act.TheVariants.{Add}
use Rattle.pg_proof.specs.State.{variables_of}
use Rattle.pg_proof.specs.Refutation.{fault_of}
use Rattle.pg_proof.specs.Numbering.{AreValid}
use Rattle.pg_sat_guide.specs.Free.{IsFree}
use Rattle.pg_sat.specs.Solving.{clauses_of, AreQuietBefore}
use Rattle.pg_sat.proofs.SolvingLemmas.{quiet_extended, quiet_assigned, quiet_cut, greatest-variable}
use Rattle.pg_sat_search.specs.Held.{renumbered, IsHeld, IsForgetting}
use Rattle.pg_sat_search.specs.Lesson.{IsLesson}
use Rattle.pg_sat_search.proofs.LogLemmas.{valid_more, renumbered_valid}
use Rattle.pg_sat_search.proofs.HeldLemmas.{held_more}

none_assigned : (cs : List (List ℤ)) (t : Trail) → t.reasons ≡ [] → AreQuietBefore cs t
none_assigned cs t none d a = absurd (let lt = slice_get_within t.reasons d None a in omega (arith, lt, ap length none))

-- before the first conflict
pub begun : (question : List (List ℤ)) (variables : ℕ) (state : State) (ns : List ℕ) (steps : List Step) → variables < 2 ^ 31 →
    AreClauses variables question → IsHeld question variables steps state.clauses ns → state.trail.variables ≡ variables → state.trail.reasons ≡ [] →
    steps ≡ [] → IsForgetting question variables state ns steps
begun question variables state ns steps few are h v none e = record {
  over = record { few = few; right = h.right; same = v };
  greatest = greatest-variable variables question are;
  held = h;
  valid = subst (λ (ss : List Step). AreValid (variables_of question) (map Some question) (map Add ss)) (sym e) tt;
  levels = none_assigned state.clauses state.trail none;
}

-- clauses made anew
pub renewed : (question : List (List ℤ)) (variables : ℕ) (old new : State) (ns ms : List ℕ) (steps : List Step) →
    IsForgetting question variables old ns steps → IsHeld question variables steps new.clauses ms → new.trail.variables ≡ variables →
    new.trail.reasons ≡ [] → IsForgetting question variables new ms steps
renewed question variables old new ns ms steps h k v none = record {
  over = record { few = h.over.few; right = k.right; same = v };
  greatest = h.greatest;
  held = k;
  valid = h.valid;
  levels = none_assigned new.clauses new.trail none;
}

-- what follows is set
pub extended : (question : List (List ℤ)) (variables : ℕ) (old new : State) (ns : List ℕ) (steps : List Step) →
    IsForgetting question variables old ns steps → IsTrail old.clauses old.trail → new.clauses ≡ old.clauses → Extends old.trail new.trail →
    IsForgetting question variables new ns steps
extended question variables old new ns steps h right e extends = record {
  over = record {
    few = h.over.few;
    right = subst (λ (cs : List (List ℤ)). AreClauses variables cs) (sym e) h.over.right;
    same = extends.variables ∙ h.over.same;
  };
  greatest = h.greatest;
  held = subst (λ (cs : List (List ℤ)). IsHeld question variables steps cs ns) (sym e) h.held;
  valid = h.valid;
  levels = subst (λ (cs : List (List ℤ)). AreQuietBefore cs new.trail) (sym e)
      (quiet_extended old.trail new.trail extends old.clauses right h.levels);
}

-- a literal more is assigned, and what follows is set
pub advanced : (question : List (List ℤ)) (variables : ℕ) (old new : State) (ns : List ℕ) (steps : List Step) (z : ℤ) →
    IsForgetting question variables old ns steps → IsTrail old.clauses old.trail → IsQuiet old.clauses old.trail.literals →
    IsFree variables old.trail.literals z → new.clauses ≡ old.clauses → Extends (pushed old.trail z None) new.trail →
    IsForgetting question variables new ns steps
advanced question variables old new ns steps z h right quiet free e extends =
    let literal : IsLiteral old.trail.variables z = subst (λ (n : ℕ). IsLiteral n z) (sym h.over.same) free.literal in
    let before : State = record { clauses = old.clauses; trail = pushed old.trail z None; quiet = old.quiet } in
    let assigned : IsForgetting question variables before ns steps = record {
      over = record { few = h.over.few; right = h.over.right; same = h.over.same };
      greatest = h.greatest;
      held = h.held;
      valid = h.valid;
      levels = quiet_assigned old.clauses old.trail z right quiet h.levels;
    } in
    extended question variables before new ns steps assigned (IsTrail-push old.clauses old.trail z None right literal free.unset tt) e extends

-- a step is learned, the trail is cut, and the clause is held
pub taught : (question : List (List ℤ)) (variables : ℕ) (old new : State) (ns ms : List ℕ) (before steps : List Step) (clause : List ℤ) (jump number : ℕ) →
    IsForgetting question variables old ns before → IsTrail old.clauses old.trail → IsLesson question old ns before steps clause jump →
    new.clauses ≡ old.clauses ++ clause ∷ [] → new.trail ≡ cut old.trail jump → ms ≡ ns ++ number ∷ [] →
    number ≡ length question + length before + 1 → IsForgetting question variables new ms steps
taught question variables old new ns ms before steps clause jump number h right l ce te me at =
    let step = l.step in
    let clauses : new.clauses ≡ old.clauses ++ step.lits ∷ [] = ce ∙ ap (λ (zs : List ℤ). old.clauses ++ zs ∷ []) l.clause_is in
    let held : IsHeld question variables steps new.clauses ms =
    subst (λ x. x) (λ i. IsHeld question variables (sym l.logged i) (sym clauses i) (sym me i))
    (held_more question variables before old.clauses ns step number h.greatest h.held l.valid at) in
    let valid : fault_of (variables_of question) (map Some (question ++ clauses_of before)) (renumbered ns step) ≡ None =
    renumbered_valid (variables_of question) (question ++ clauses_of before) old.clauses ns step h.held.numbered l.valid in
    record {
      over = record { few = h.over.few; right = held.right; same = ap (λ (t : Trail). t.variables) te ∙ h.over.same };
      greatest = h.greatest;
      held = held;
      valid = subst (λ (ss : List Step). AreValid (variables_of question) (map Some question) (map Add ss)) (sym l.logged)
          (valid_more (variables_of question) (map Some question) before (renumbered ns step) h.valid
          (ap (λ (hs : List (Option (List ℤ))). fault_of (variables_of question) hs (renumbered ns step)) (sym (map-append Some question (clauses_of before))) ∙ valid));
      levels = subst (λ x. x) (λ i. AreQuietBefore (sym clauses i) (sym te i)) (quiet_cut old.clauses old.trail step.lits jump right h.levels l.cut);
    }

-- what holds anyhow
pub on_ok : (r : Result Fix AllocError) (P : Type 0) → P → OnOk r P
on_ok (Ok x) P p = p
on_ok (Err x) P p = tt

-- there is room for a clause more
pub room : (question : List (List ℤ)) (variables : ℕ) (state : State) (ns : List ℕ) (steps : List Step) → IsForgetting question variables state ns steps →
    length question < 2 ^ 31 → length steps + 1 < 2 ^ 31 → length state.clauses + 1 < 2 ^ 32 - 1
room question variables state ns steps h few short = omega (arith, h.held.few, few, short)

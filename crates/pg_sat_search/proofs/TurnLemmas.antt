-- What a turn of a search that forgets comes to.
use Rattle.std.proofs.Common.{◌≡◌, ℕ, ◌+◌, ◌<◌, ◌≤◌, Bool, true, List, [], ◌∷◌, ◌++◌, length, map, Some, None, refl, sym, ap, ◌∙◌, arith, ℤ}
use Rattle.pg_cnf.specs.Truth.{clauses_true}
use Rattle.pg_watch.specs.declared.fix.Fix.{Fix}
use Rattle.pg_watch.specs.Trail.{IsTrail}
use Rattle.pg_watch.specs.Fixes.{IsEnd, is_quiet}
use Rattle.pg_watch.specs.State.{State}
use Rattle.pg_watch.proofs.Short.{AreSet-short}
use Rattle.pg_proof.specs.declared.step.Step.{Step}
use Rattle.pg_proof.specs.State.{variables_of}
use Rattle.pg_proof.specs.Refutation.{fault_of}
use Rattle.pg_sat.specs.Learned.{IsLearned, IsLearnedWithin}
use Rattle.pg_sat.specs.Models.{IsRead}
use Rattle.pg_sat.specs.Solving.{clauses_of}
use Rattle.pg_sat.specs.Answers.{IsModel, IsRefuted}
use Rattle.pg_sat.specs.Turns.{work_left}
use Rattle.pg_sat.proofs.TurnLemmas.{front-true, less_after_step, less_after_literal}
use Rattle.pg_sat_search.specs.Held.{renumbered, IsForgetting}
use Rattle.pg_sat_search.specs.Turns.{IsNearer}
use Rattle.pg_sat_search.proofs.LogLemmas.{closed_by, renumbered_valid}

-- the search goes on
pub advanced_on : (question : List (List ℤ)) (variables budget : ℕ) (old new : State) (ns : List ℕ) (ss : List Step) (fix : Fix) →
    IsForgetting question variables new ns ss → IsEnd new.clauses new.trail.literals fix → new.quiet ≡ is_quiet fix → length ss ≤ budget →
    length old.trail.literals < length new.trail.literals → IsTrail new.clauses new.trail →
    IsNearer question variables budget (work_left variables budget old ss) new ns ss fix
advanced_on question variables budget old new ns ss fix h end still few more right =
    let short : length new.trail.literals ≤ variables = omega (arith, AreSet-short new.trail.variables new.trail.literals right.set, h.over.same) in
    record {
      searching = record { forgetting = h; ends = end; still = still; few = few };
      less = less_after_literal variables budget old new ss more short;
    }

pub learned_on : (question : List (List ℤ)) (variables budget : ℕ) (old new : State) (ns : List ℕ) (ss tt : List Step) (fix : Fix) →
    IsForgetting question variables new ns tt → IsEnd new.clauses new.trail.literals fix → new.quiet ≡ is_quiet fix →
    length tt ≡ length ss + 1 → length ss < budget → IsNearer question variables budget (work_left variables budget old ss) new ns tt fix
learned_on question variables budget old new ns ss tt fix h end still e lt = record {
  searching = record { forgetting = h; ends = end; still = still; few = omega (arith, e, lt) };
  less = less_after_step variables budget old new ss tt e lt;
}

-- the answers
pub model_of : (question : List (List ℤ)) (variables : ℕ) (state : State) (ns : List ℕ) (ss : List Step) (assignment : List Bool) →
    IsForgetting question variables state ns ss → IsRead variables state.trail.literals assignment →
    clauses_true assignment state.clauses ≡ true → IsModel question variables assignment
model_of question variables state ns ss assignment h read holds = record {
  long = read.long;
  holds = front-true assignment question h.held.learned (ap (clauses_true assignment) (sym h.held.same) ∙ holds);
}

pub refuted_by : (question : List (List ℤ)) (variables : ℕ) (state : State) (ns : List ℕ) (ss : List Step) (step : Step) →
    IsForgetting question variables state ns ss → IsLearnedWithin variables state.clauses [] step → step.lits ≡ [] →
    IsRefuted question (length ss) (ss ++ renumbered ns step ∷ [])
refuted_by question variables state ns ss step h all empty =
    let known : IsLearned (variables_of question) state.clauses [] step = all (variables_of question) h.greatest h.held.places in
    let valid : fault_of (variables_of question) (map Some (question ++ clauses_of ss)) (renumbered ns step) ≡ None =
    renumbered_valid (variables_of question) (question ++ clauses_of ss) state.clauses ns step h.held.numbered known.valid in
    record {
      before = ss;
      last = renumbered ns step;
      whole = refl;
      empty = empty;
      few = omega arith;
      closed = closed_by question ss (renumbered ns step) h.valid valid empty;
    }

-- What a turn of the search comes to.
use Rattle.std.proofs.Common.{◌≡◌, ℕ, suc, ◌+◌, ◌-◌, ◌*◌, ◌^◌, ◌<◌, ◌≤◌, Bool, true, ◌&&◌, List, [], ◌∷◌, ◌++◌, length, take, refl, sym, ap, subst, ◌∙◌, arith, ℤ}
use Rattle.std.proofs.lemmas.List.{length-append}
use Rattle.pg_cnf.specs.Truth.{clause_true, clauses_true}
use Rattle.pg_watch.specs.declared.fix.Fix.{Fix}
use Rattle.pg_watch.specs.Trail.{Trail, IsTrail, AreSet}
use Rattle.pg_watch.specs.Assigned.{IsAssigned}
use Rattle.pg_watch.proofs.WatchedLemmas.{assigned-within, IsTrail-cut}
use Rattle.pg_watch.specs.Fixes.{IsEnd, is_quiet}
use Rattle.pg_watch.specs.State.{State}
use Rattle.pg_watch.proofs.Short.{AreSet-short}
use Rattle.pg_proof.specs.declared.step.Step.{Step}
use Rattle.pg_proof.specs.State.{variables_of}
use Rattle.pg_proof.proofs.WithinLemmas.{both}
use Rattle.pg_sat.specs.Learned.{IsLearned, IsLearnedWithin}
use Rattle.pg_sat.specs.Models.{IsRead}
use Rattle.pg_sat.specs.Solving.{clauses_of, AreQuietBefore, IsSolving}
use Rattle.pg_sat.specs.Jump.{IsLast}
use Rattle.pg_sat.specs.Answers.{IsModel, IsRefuted, IsUnrefuted, IsExhausted}
use Rattle.pg_sat.specs.Turns.{IsNearer, work_left}
use Rattle.pg_sat.proofs.LogLemmas.{log_closed}
use Rattle.pg_sat.proofs.NewLemmas.{not_set_both, quiet-readings}

-- the work that is left
steps-count : (k v p q : ℕ) → p ≤ v → k * (v + 1) + p < (k + 1) * (v + 1) + q
steps-count k v p q le = omega (arith, le)

less-work : (v b m n x y : ℕ) → m ≡ n + 1 → n < b → (b - m) * (v + 1) + (v - x) < (b - n) * (v + 1) + (v - y)
less-work v b m n x y e lt =
    let once : b - n ≡ (b - m) + 1 = omega (arith, e, lt) in
    subst (λ (k : ℕ). (b - m) * (v + 1) + (v - x) < k * (v + 1) + (v - y)) (sym once) (steps-count (b - m) v (v - x) (v - y) (omega arith))

pub less_after_step : (variables budget : ℕ) (old new : State) (ss tt : List Step) → length tt ≡ length ss + 1 → length ss < budget →
    work_left variables budget new tt < work_left variables budget old ss
unfolding work_left
less_after_step variables budget old new ss tt e lt =
    less-work variables budget (length tt) (length ss) (length new.trail.literals) (length old.trail.literals) e lt

less-variables : (a v x y : ℕ) → x < y → y ≤ v → a + (v - y) < a + (v - x)
less-variables a v x y lt le = omega (arith, lt, le)

pub less_after_literal : (variables budget : ℕ) (old new : State) (ss : List Step) → length old.trail.literals < length new.trail.literals →
    length new.trail.literals ≤ variables → work_left variables budget new ss < work_left variables budget old ss
unfolding work_left
less_after_literal variables budget old new ss lt le =
    less-variables ((budget - length ss) * (variables + 1)) variables (length old.trail.literals) (length new.trail.literals) lt le

-- the search goes on
pub advanced_on : (question : List (List ℤ)) (variables budget : ℕ) (old new : State) (ss : List Step) (fix : Fix) →
    IsSolving question variables new.clauses new.trail ss → IsEnd new.clauses new.trail.literals fix → new.quiet ≡ is_quiet fix → length ss ≤ budget →
    length old.trail.literals < length new.trail.literals → IsTrail new.clauses new.trail →
    IsNearer question variables budget (work_left variables budget old ss) new ss fix
advanced_on question variables budget old new ss fix h end still few more right =
    let short : length new.trail.literals ≤ variables = omega (arith, AreSet-short new.trail.variables new.trail.literals right.set, h.over.same) in
    record {
      searching = record { solving = h; ends = end; still = still; few = few };
      less = less_after_literal variables budget old new ss more short;
    }

pub learned_on : (question : List (List ℤ)) (variables budget : ℕ) (old new : State) (ss tt : List Step) (fix : Fix) →
    IsSolving question variables new.clauses new.trail tt → IsEnd new.clauses new.trail.literals fix → new.quiet ≡ is_quiet fix →
    length tt ≡ length ss + 1 → length ss < budget → IsNearer question variables budget (work_left variables budget old ss) new tt fix
learned_on question variables budget old new ss tt fix h end still e lt =
    record {
      searching = record { solving = h; ends = end; still = still; few = omega (arith, e, lt) };
      less = less_after_step variables budget old new ss tt e lt;
    }

-- there are few clauses
pub count-clauses : (ss : List Step) → length (clauses_of ss) ≡ length ss
count-clauses [] = refl
count-clauses (s ∷ ss) = ap suc (count-clauses ss)

pub room_left : (question : List (List ℤ)) (variables budget : ℕ) (state : State) (ss : List Step) → IsSolving question variables state.clauses state.trail ss →
    length question < 2 ^ 31 → length ss < budget → budget < 2 ^ 31 → length state.clauses + 1 < 2 ^ 32 - 1
room_left question variables budget state ss h few lt small =
    omega (arith, ap length h.same, length-append question (clauses_of ss), count-clauses ss, few, lt, small)

-- the answers
pub front-true : (assignment : List Bool) (cs ds : List (List ℤ)) → clauses_true assignment (cs ++ ds) ≡ true → clauses_true assignment cs ≡ true
front-true assignment [] ds h = refl
front-true assignment (c ∷ cs) ds h =
    let p = both (clause_true assignment c) (clauses_true assignment (cs ++ ds)) h in
    ap (λ (b : Bool). b && clauses_true assignment cs) p.0 ∙ front-true assignment cs ds p.1

pub model_of : (question : List (List ℤ)) (variables : ℕ) (state : State) (ss : List Step) (assignment : List Bool) →
    IsSolving question variables state.clauses state.trail ss → IsRead variables state.trail.literals assignment →
    clauses_true assignment state.clauses ≡ true → IsModel question variables assignment
model_of question variables state ss assignment h read holds = record {
  long = read.long;
  holds = front-true assignment question (clauses_of ss) (ap (clauses_true assignment) (sym h.same) ∙ holds);
}

pub refuted_by : (question : List (List ℤ)) (variables : ℕ) (state : State) (ss : List Step) (step : Step) →
    IsSolving question variables state.clauses state.trail ss → IsLearnedWithin variables state.clauses [] step → step.lits ≡ [] →
    IsRefuted question (length ss) (ss ++ step ∷ [])
refuted_by question variables state ss step h all empty =
    let known : IsLearned (variables_of question) state.clauses [] step = all (variables_of question) h.greatest h.places in
    record {
      before = ss;
      last = step;
      whole = refl;
      empty = empty;
      few = omega arith;
      closed = log_closed question ss state.clauses h.same h.log step known.valid empty;
    }

pub refuted_within : (question : List (List ℤ)) (few budget : ℕ) (ss : List Step) → IsRefuted question few ss → few ≤ budget → IsRefuted question budget ss
refuted_within question few budget ss h le = record {
  before = h.before;
  last = h.last;
  whole = h.whole;
  empty = h.empty;
  few = omega (arith, h.few, le);
  closed = h.closed;
}

unrefuted_before : (cs : List (List ℤ)) (t : Trail) (place : ℕ) → IsTrail cs t → AreQuietBefore cs t → IsAssigned t place → IsUnrefuted cs
unrefuted_before cs t place right quiet assigned =
    let lt : place < length t.literals = assigned-within cs t place right assigned in
    let are_set : AreSet t.variables [] (take place t.literals) = (IsTrail-cut cs t place right).set in
    record {
      trail = take place t.literals;
      consistent = not_set_both t.variables (take place t.literals) are_set;
      quiet = quiet-readings t.variables (take place t.literals) are_set cs (quiet place assigned);
    }

pub exhausted_by : (question : List (List ℤ)) (variables budget : ℕ) (state : State) (ss : List Step) (place : ℕ) →
    IsSolving question variables state.clauses state.trail ss → IsTrail state.clauses state.trail → IsLast state.trail place → length ss ≡ budget →
    IsExhausted question budget ss
exhausted_by question variables budget state ss place h right last e = record {
  exactly = e;
  log = h.log;
  unrefuted = subst (λ (cs : List (List ℤ)). IsUnrefuted cs) h.same (unrefuted_before state.clauses state.trail place right h.levels last.assigned);
}

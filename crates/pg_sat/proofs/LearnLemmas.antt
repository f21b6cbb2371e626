-- What is learned, and what it is worth.
use Rattle.std.proofs.Common.{◌≡◌, ℕ, zero, suc, ◌+◌, ◌*◌, Bool, true, false, List, [], ◌∷◌, map, reverse, Option, Some, None, slice_get, refl, sym, ap, ◌∙◌, arith, ℤ}
use Rattle.std.specs.Prelude.{Result, Ok, Err, IfOk}
use Rattle.std.specs.declared.alloc.AllocError.{AllocError}
use Rattle.std.specs.Option.{option_and_then}
use Rattle.pg_cnf.specs.Literals.{AreClauses}
use Rattle.pg_watch.specs.Trail.{value_of, IsQuiet, AreSet}
use Rattle.pg_proof.specs.declared.propagation.Reading.TheVariants.{Neither}
use Rattle.pg_proof.specs.declared.step.Step.{Step}
use Rattle.pg_proof.specs.Places.{has}
use Rattle.pg_proof.specs.Reading.{reading}
use Rattle.pg_proof.specs.State.{clause_at, AreHeldWithin}
use Rattle.pg_proof.specs.Refutation.{walk}
use Rattle.pg_proof.specs.New.{AreQuiet}
use Rattle.pg_sat.specs.Cut.{IsCut}
use Rattle.pg_sat.specs.Trace.{IsTraced}
use Rattle.pg_sat.specs.Listed.{listed}
use Rattle.pg_sat.specs.Learned.{IsLearnedWithin}
use Rattle.pg_sat.proofs.StepLemmas.{step_learned}
use Rattle.pg_sat.proofs.NewLemmas.{true_if_set, set_if_false, quiet-readings}
use Rattle.pg_sat.proofs.TrailLemmas.{AreWithin-literals}
use Rattle.pg_sat.proofs.ReadingLemmas.{has-first}

pub learned : (variables : ℕ) (clauses : List (List ℤ)) (set : List ℤ) (flags : List Bool) (hints : List ℕ) (step : Step) → IsTraced variables clauses set flags hints →
    step.lits ≡ listed flags 1 variables → step.hints ≡ reverse hints → IsLearnedWithin variables clauses set step
learned variables clauses set flags hints step traced e f n le w =
    step_learned variables n (map Some clauses) set flags (reverse hints) step w le traced.cut e f clauses refl

-- where nothing is left to propagate, hints lead nowhere
quiet-at : (set : List ℤ) (cs : List (List ℤ)) (k : ℕ) (c : List ℤ) → AreQuiet set cs → option_and_then (λ d. d) (slice_get (map Some cs) k) ≡ Some c →
    reading (has set) c ≡ Neither
quiet-at set [] k c q e = cc
quiet-at set (d ∷ cs) zero c q e = let s : d ≡ c = cc in ap (reading (has set)) (sym s) ∙ q.0
quiet-at set (d ∷ cs) (suc k) c q e = quiet-at set cs k c q.1 e

quiet-clause : (set : List ℤ) (cs : List (List ℤ)) (h : ℕ) (c : List ℤ) → AreQuiet set cs → clause_at (map Some cs) h ≡ Some c → reading (has set) c ≡ Neither
quiet-clause set cs zero c q e = cc
quiet-clause set cs (suc k) c q e = quiet-at set cs k c q e

walk-stuck : (set : List ℤ) (cs : List (List ℤ)) (h : ℕ) (hs : List ℕ) (o : Option (List ℤ)) → AreQuiet set cs → clause_at (map Some cs) h ≡ o →
    walk (map Some cs) set (h ∷ hs) ≡ None → ⊥
unfolding walk
walk-stuck set cs h hs None q e w = let f = rw e at w in cc
walk-stuck set cs h hs (Some c) q e w = let f = rw e at w in let g = rw (quiet-clause set cs h c q e) at f in cc

walk-quiet : (set : List ℤ) (cs : List (List ℤ)) (hs : List ℕ) → AreQuiet set cs → walk (map Some cs) set hs ≡ None → ⊥
unfolding walk
walk-quiet set cs [] q w = cc
walk-quiet set cs (h ∷ hs) q w = walk-stuck set cs h hs (clause_at (map Some cs) h) q refl w

pub never_false : (n : ℕ) (cs : List (List ℤ)) (set : List ℤ) (wanted : ℤ → Bool) (hints : List ℕ) → AreSet n [] set → IsQuiet cs set →
    IsCut (map Some cs) set wanted hints → ⊥
never_false n cs set wanted hints are_set quiet c =
    walk-quiet set cs hints (quiet-readings n set are_set cs quiet)
    (c.leads set (true_if_set n set are_set) (λ y h. set_if_false set y (c.are_false y h))).walks

-- clauses over variables have places
pub held_within : (n : ℕ) (cs : List (List ℤ)) → AreClauses n cs → AreHeldWithin (2 * n + 2) (map Some cs)
held_within n [] h = tt
held_within n (c ∷ cs) h = (AreWithin-literals n c h.0.within, held_within n cs h.1)

-- with none
none_false : (lits : List ℤ) → ((y : ℤ) → has lits y ≡ true → value_of [] y ≡ Some false) → lits ≡ []
none_false [] h = refl
none_false (x ∷ xs) h = absurd (let e = h x (has-first x xs) in cc)

pub empty_learned : (variables : ℕ) (cs : List (List ℤ)) (step : Step) → AreClauses variables cs → IsLearnedWithin variables cs [] step → step.lits ≡ []
empty_learned variables cs step are h = none_false step.lits (h variables (omega arith) (held_within variables cs are)).cut.are_false

-- answers that may be out of memory
pub if_ok : (r : Result Step AllocError) (P Q : Step → Type 0) → IfOk r P → ((step : Step) → P step → Q step) → IfOk r Q
if_ok (Ok step) P Q h f = f step h
if_ok (Err e) P Q h f = h

pub if_both : (r : Result Step AllocError) (P Q R : Step → Type 0) → IfOk r P → IfOk r Q → ((step : Step) → P step → Q step → R step) → IfOk r R
if_both (Ok step) P Q R h k f = f step h k
if_both (Err e) P Q R h k f = h

-- What a checker keeps, from the start on and from step to step.
use Rattle.std.proofs.Common.{◌≡◌, ℕ, ◌+◌, ◌*◌, ◌^◌, ◌<◌, ◌≤◌, Bool, List, [], ◌∷◌, ◌++◌, length, map, Option, Some, None, sym, ap, subst, ◌∙◌, arith, ℤ}
use Rattle.pg_proof.specs.declared.step.Step.{Step}
use Rattle.pg_cnf.specs.Literals.{AreLiterals, AreClauses}
use Rattle.pg_proof.specs.Places.{AreWithin}
use Rattle.pg_proof.specs.State.{AreHeldWithin, variables_of_clause, variables_of}
use Rattle.pg_proof.specs.Refutation.{fault_of}
use Rattle.pg_proof.specs.Kept.{IsKept}
use Rattle.pg_proof.proofs.WithinLemmas.{AreHeldWithin-push}
use Rattle.std.proofs.lemmas.List.{length-append}
use Rattle.pg_proof.specs.Covered.{home, IsHung}
use Rattle.pg_proof.proofs.CoverLemmas.{home-below, IsHung-without}
use Rattle.pg_proof.specs.Removal.{without}
use Rattle.pg_proof.proofs.RemovalLemmas.{AreHeldWithin-without, length-without}
use Rattle.pg_proof.proofs.SoundLemmas.{valid_within}

AreWithin-most : (m n : ℕ) (c : List ℤ) → AreLiterals m c → variables_of_clause c ≤ n → AreWithin (2 * n + 2) c
AreWithin-most m n [] h le = tt
AreWithin-most m n (z ∷ zs) h le =
    (record { nonzero = h.0.0; within = omega arith }, AreWithin-most m n zs h.1 (omega arith))

AreHeldWithin-most : (m n : ℕ) (cs : List (List ℤ)) → AreClauses m cs → variables_of cs ≤ n → AreHeldWithin (2 * n + 2) (map Some cs)
AreHeldWithin-most m n [] h le = tt
AreHeldWithin-most m n (c ∷ cs) h le = (AreWithin-most m n c h.0.within (omega arith), AreHeldWithin-most m n cs h.1 (omega arith))

pub AreHeldWithin-begun : (m : ℕ) (cs : List (List ℤ)) → AreClauses m cs → AreHeldWithin (2 * variables_of cs + 2) (map Some cs)
AreHeldWithin-begun m cs h = AreHeldWithin-most m (variables_of cs) cs h (omega arith)

-- a valid step's clause has a list to hang in
pub home_of_valid : (variables : ℕ) (held : List (Option (List ℤ))) (flags standing numbers : List Bool) (heads links : List ℕ) (made : Bool) (step : Step) →
    fault_of variables held step ≡ None → IsKept variables held flags standing numbers heads links made → home step.lits < length heads
home_of_valid variables held flags standing numbers heads links made step valid k =
    subst (λ n. home step.lits < n) (sym k.lists) (home-below (2 * variables + 2) step.lits (omega arith) (valid_within variables held step valid))

pub IsKept-added : (variables : ℕ) (held after : List (Option (List ℤ))) (flags marked standing numbers more : List Bool) (heads links heads' links' : List ℕ) (made made' : Bool)
    (step : Step) → fault_of variables held step ≡ None → length marked ≡ length flags → length held < length more → length held + 1 < 2 ^ 32 →
    after ≡ held ++ Some step.lits ∷ [] → length heads' ≡ length heads → IsHung heads' links' made' after → IsKept variables held flags standing numbers heads links made →
    IsKept variables after marked standing more heads' links' made'
IsKept-added variables held after flags marked standing numbers more heads links heads' links' made made' step valid same room few e places hung k =
    let long : length after ≡ length held + 1 = ap length e ∙ length-append held (Some step.lits ∷ []) in
    record {
      places = same ∙ k.places;
      standing_places = k.standing_places;
      lists = places ∙ k.lists;
      hangs = hung;
      few = omega (arith, few, long);
      numbered = omega (arith, room, long);
      within = subst (AreHeldWithin (2 * variables + 2)) (sym e)
          (AreHeldWithin-push (2 * variables + 2) held step.lits k.within (valid_within variables held step valid));
    }

pub IsKept-without : (variables : ℕ) (held after : List (Option (List ℤ))) (flags standing numbers seen : List Bool) (heads links : List ℕ) (made : Bool) (ns : List ℕ) →
    without held ns ≡ Some after → length seen ≡ length numbers → IsKept variables held flags standing numbers heads links made →
    IsKept variables after flags standing seen heads links made
IsKept-without variables held after flags standing numbers seen heads links made ns e same k =
    record {
      places = k.places;
      standing_places = k.standing_places;
      lists = k.lists;
      hangs = IsHung-without heads links made ns held after e k.hangs;
      few = omega (arith, k.few, length-without ns held after e);
      numbered = omega (arith, same, k.numbered, length-without ns held after e);
      within = AreHeldWithin-without (2 * variables + 2) ns held after e k.within;
    }

-- A trace goes back along the trail.
use Rattle.std.proofs.Common.{◌≡◌, ℕ, zero, suc, ◌+◌, ◌-◌, ◌*◌, ◌<◌, ◌≤◌, Bool, true, false, List, [], ◌∷◌, ◌++◌, length, get_or, take, drop, map, reverse, replicate, Option, Some, None, sym, ap, subst, ◌∙◌, arith, ℤ, pos, neg_ℤ}
use Rattle.std.proofs.lemmas.List.{take_more, reverse-append, length-replicate, get_or-drop, length-drop}
use Rattle.pg_cnf.specs.Literals.{IsClause, AreClauses}
use Rattle.pg_watch.specs.Trail.{Trail, IsTrail, IsReason, HasReason, IsConflict, IsNumber, IsSomeNumber, AreDerived}
use Rattle.pg_watch.specs.Trail as trails
use Rattle.pg_proof.specs.Places.{has, is_marked, IsWithin, AreWithin}
use Rattle.pg_proof.specs.Marked.{marked}
use Rattle.pg_proof.proofs.MarkedLemmas.{shows-marked, length-marked}
use Rattle.pg_sat.specs.Cut.{IsCut, IsResolved}
use Rattle.pg_sat_guide.specs.Over.{IsOver}
use Rattle.pg_sat.specs.Trace.{IsTraced}
use Rattle.pg_sat.proofs.CutLemmas.{IsCut-begun, IsCut-passed, IsCut-resolved}
use Rattle.pg_sat.proofs.TrailLemmas.{IsAt, AreSet-at, HaveReasons-at, has-contains, AreFalse-has, AreFalseBut-has, held-at, IsClause-at, AreWithin-literals}

-- the clause that is false
pub begun : (variables : ℕ) (cs : List (List ℤ)) (set : List ℤ) (number : ℕ) (flags : List Bool) (hints : List ℕ) → AreClauses variables cs →
    IsConflict cs set number → flags ≡ marked (replicate (2 * variables + 2) false) (trails.clause_at cs number) → hints ≡ number ∷ [] →
    IsTraced variables cs set flags hints
begun variables cs set number flags hints are conflict e f =
    let n = 2 * variables + 2 in
    let c = trails.clause_at cs number in
    let within = AreWithin-literals variables c (IsClause-at variables cs number are conflict.numbered).within in
    let shown : is_marked flags ≡ has c = ap is_marked e ∙ shows-marked n c within in
    record {
      places = ap length e ∙ length-marked c (replicate n false) ∙ length-replicate n false;
      cut = subst (λ (w : ℤ → Bool). IsCut (map Some cs) set w (reverse hints)) (sym shown)
          (subst (λ (hs : List ℕ). IsCut (map Some cs) set (has c) (reverse hs)) (sym f)
          (IsCut-begun (map Some cs) set number c (held-at cs number conflict.numbered) (λ y h. AreFalse-has set c y conflict.falsified h)));
    }

-- one place back
module _ (variables : ℕ) (cs : List (List ℤ)) (t : Trail) (q : ℕ) (z : ℤ) (over : IsOver variables cs t) (right : IsTrail cs t) (lt : q < length t.literals)
    (is : z ≡ get_or t.literals q (pos 0)) where
  abbrev pub before : List ℤ
  before = take q t.literals

  pub at_place : IsAt variables before z
  at_place =
      subst (λ (n : ℕ). IsAt n (take q t.literals) z) over.same
      (subst (λ (x : ℤ). IsAt t.variables (take q t.literals) x) (sym is) (AreSet-at t.variables t.literals q (pos 0) right.set lt))

  front : take (q + 1) t.literals ≡ before ++ z ∷ []
  front = take_more t.literals q (pos 0) lt ∙ ap (λ (x : ℤ). take q t.literals ++ x ∷ []) (sym is)

  pub within_places : (flags : List Bool) → length flags ≡ 2 * variables + 2 → IsWithin (length flags) z
  within_places flags e =
      record { nonzero = at_place.literal.0; within = omega (arith, e, at_place.literal.1) }

  pub passed : (flags : List Bool) (hints : List ℕ) → IsTraced variables cs (take (q + 1) t.literals) flags hints → is_marked flags (neg_ℤ z) ≡ false →
      IsTraced variables cs (take q t.literals) flags hints
  passed flags hints h down = record {
    places = h.places;
    cut = IsCut-passed (map Some cs) (take q t.literals) z at_place.literal.0 at_place.unset (is_marked flags) (reverse hints)
        (subst (λ (xs : List ℤ). IsCut (map Some cs) xs (is_marked flags) (reverse hints)) front h.cut) down;
  }

  module _ (number : ℕ) (reason : get_or t.reasons q None ≡ Some number) where
    has_reason : IsReason cs before z number
    has_reason =
        subst (λ (x : ℤ). IsReason cs (take q t.literals) x number) (sym is)
        (subst (λ (r : Option ℕ). HasReason cs (take q t.literals) (get_or t.literals q (pos 0)) r) reason (HaveReasons-at cs t.literals t.reasons q (pos 0) right.reasoned lt))

    pub reason_numbered : IsNumber cs number
    reason_numbered = has_reason.numbered

    pub reason_clause : IsClause variables (trails.clause_at cs number)
    reason_clause = IsClause-at variables cs number over.right reason_numbered

    pub resolved : (flags after : List Bool) (hints more : List ℕ) → IsTraced variables cs (take (q + 1) t.literals) flags hints →
        is_marked flags (neg_ℤ z) ≡ true → IsResolved (is_marked flags) (is_marked after) (trails.clause_at cs number) z → length after ≡ length flags →
        more ≡ hints ++ number ∷ [] → IsTraced variables cs (take q t.literals) after more
    resolved flags after hints more h up r same e = record {
      places = same ∙ h.places;
      cut = subst (λ (hs : List ℕ). IsCut (map Some cs) (take q t.literals) (is_marked after) hs) (sym (ap reverse e ∙ reverse-append hints (number ∷ [])))
          (IsCut-resolved (map Some cs) (take q t.literals) z at_place.literal.0 at_place.unset number (trails.clause_at cs number)
          (held-at cs number reason_numbered) reason_clause.distinct (has-contains (trails.clause_at cs number) z has_reason.unit.there)
          (λ y m d. AreFalseBut-has (take q t.literals) z (trails.clause_at cs number) y has_reason.unit.others m d)
          (is_marked flags) (is_marked after) (reverse hints)
          (subst (λ (xs : List ℤ). IsCut (map Some cs) xs (is_marked flags) (reverse hints)) front h.cut) up r);
    }

-- from a place on all were propagated
pub derived-at : (rs : List (Option ℕ)) (k : ℕ) → AreDerived rs → k < length rs → IsSomeNumber (get_or rs k None)
derived-at [] k h lt = absurd (omega arith)
derived-at (r ∷ rs) zero h lt = h.0
derived-at (r ∷ rs) (suc k) h lt = derived-at rs k h.1 (omega arith)

pub derived-from : (rs : List (Option ℕ)) (from q : ℕ) → AreDerived (drop from rs) → from ≤ q → q < length rs → IsSomeNumber (get_or rs q None)
derived-from rs from q h le lt =
    let e : from + (q - from) ≡ q = omega arith in
    subst (λ (k : ℕ). IsSomeNumber (get_or rs k None)) e
    (subst IsSomeNumber (get_or-drop from rs (q - from) None) (derived-at (drop from rs) (q - from) h (omega (arith, length-drop from rs))))

-- the clause of a conflict has places for its flags
pub conflict_within : (variables number : ℕ) (cs : List (List ℤ)) (flags : List Bool) → AreClauses variables cs → IsNumber cs number →
    flags ≡ replicate (2 * variables + 2) false → AreWithin (length flags) (trails.clause_at cs number)
conflict_within variables number cs flags are n e =
    subst (λ (k : ℕ). AreWithin k (trails.clause_at cs number)) (sym (ap length e ∙ length-replicate (2 * variables + 2) false))
    (AreWithin-literals variables (trails.clause_at cs number) (IsClause-at variables cs number are n).within)

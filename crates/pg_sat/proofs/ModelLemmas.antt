-- Where each variable is set and nothing is left to propagate, all clauses are true.
use Rattle.std.proofs.Common.{◌≡◌, ◌≢◌, ◌⊎◌, inl, inr, ℕ, zero, suc, ◌+◌, ◌<◌, ◌≤◌, Bool, true, false, not, ◌||◌, List, [], ◌∷◌, ◌++◌, length, get_or, Option, Some, None, refl, sym, ap, subst, ◌∙◌, arith, ℤ, pos, negsuc, neg_ℤ}
use Rattle.std.specs.Option.{option_map}
use Rattle.std.proofs.Math.ListN.{get_or-append}
use Rattle.std.proofs.Math.Seq.{get_or-append_seam}
use Rattle.std.proofs.lemmas.List.{length-append}
use Rattle.std.proofs.lemmas.Bool.{cases_lt}
use Rattle.pg_cnf.specs.Literals.{IsLiteral, AreLiterals, AreClauses}
use Rattle.pg_cnf.specs.Truth.{literal_true, clause_true, clauses_true}
use Rattle.pg_watch.specs.Trail.{value_of, AreFalse, IsOpen, IsQuiet}
use Rattle.pg_watch.proofs.Values.{value_of-neg, value_of-unset_neg}
use Rattle.pg_proof.proofs.MarkedLemmas.{nat_abs-neg}
use Rattle.pg_sat_guide.specs.Free.{IsFree}
use Rattle.pg_sat.specs.Models.{AreAllSet, is_true, IsRead}
use Rattle.pg_sat.proofs.CutLemmas.{both_true}

must_be : (o : Option Bool) (b : Bool) → o ≢ None → is_true o ≡ b → o ≡ Some b
must_be None b n e = absurd (n refl)
must_be (Some c) b n e = ap Some e

not_swap : (b : Bool) → not b ≡ false → b ≡ true
not_swap true e = refl
not_swap false e = cc

module _ (variables : ℕ) (set : List ℤ) (assignment : List Bool) (all : AreAllSet variables set) (reads : IsRead variables set assignment) where
  false_literal : (z : ℤ) → IsLiteral variables z → literal_true assignment z ≡ false → value_of set z ≡ Some false
  false_literal (pos zero) l e = absurd (omega (arith, l.0))
  false_literal (pos (suc n)) l e =
      let one : n + 1 ≡ suc n = omega arith in
      let value : is_true (value_of set (pos (suc n))) ≡ false =
      ap (λ (k : ℕ). is_true (value_of set (pos k))) (sym one) ∙ sym (reads.reads n (omega (arith, l.1))) ∙ e in
      must_be (value_of set (pos (suc n))) false (all (suc n) (omega arith) (omega (arith, l.1))) value
  false_literal (negsuc n) l e =
      let one : n + 1 ≡ suc n = omega arith in
      let value : is_true (value_of set (pos (suc n))) ≡ true =
      ap (λ (k : ℕ). is_true (value_of set (pos k))) (sym one) ∙ sym (reads.reads n (omega (arith, l.1))) ∙ not_swap (get_or assignment n false) e in
      value_of-neg set (pos (suc n)) (omega arith)
      ∙ ap (λ (o : Option Bool). option_map not o) (must_be (value_of set (pos (suc n))) true (all (suc n) (omega arith) (omega (arith, l.1))) value)

  neither : (a b : Bool) → a || b ≡ false → (a ≡ false) × (b ≡ false)
  neither true b e = cc
  neither false b e = (refl, e)

  all_false : (c : List ℤ) → AreLiterals variables c → clause_true assignment c ≡ false → AreFalse set c
  all_false [] l e = tt
  all_false (z ∷ zs) l e =
      let p = neither (literal_true assignment z) (clause_true assignment zs) e in
      (false_literal z l.0 p.0, all_false zs l.1 p.1)

  clause_holds : (c : List ℤ) (b : Bool) → AreLiterals variables c → IsOpen set c → clause_true assignment c ≡ b → b ≡ true
  clause_holds c true l h e = refl
  clause_holds c false l h e = absurd (h.not_falsified (all_false c l e))

  pub all_hold : (cs : List (List ℤ)) → AreClauses variables cs → IsQuiet cs set → clauses_true assignment cs ≡ true
  all_hold [] are q = refl
  all_hold (c ∷ cs) are q =
      both_true (clause_true assignment c) (clauses_true assignment cs) (clause_holds c (clause_true assignment c) are.0.within q.0 refl) (all_hold cs are.1 q.1)

-- one variable more
pub all_set_more : (set : List ℤ) (i : ℕ) (b : Bool) → AreAllSet i set → value_of set (pos (i + 1)) ≡ Some b → AreAllSet (i + 1) set
all_set_more set i b h e v lt le n = by (cases_lt v (i + 1))
  where
    by : (v < i + 1) ⊎ (i + 1 ≤ v) → ⊥
    by (inl l) = h v lt (omega arith) n
    by (inr l) =
        let s : v ≡ i + 1 = omega arith in
        let f : None ≡ Some b = sym n ∙ ap (λ (k : ℕ). value_of set (pos k)) s ∙ e in cc

pub reads_more : (set : List ℤ) (i : ℕ) (before : List Bool) (b : Bool) → IsRead i set before → b ≡ is_true (value_of set (pos (i + 1))) → IsRead (i + 1) set (before ++ b ∷ [])
reads_more set i before b h e = record {
  long = omega (arith, length-append before (b ∷ []), h.long);
  reads = λ k lt. by k (cases_lt k i) lt;
}
  where
    by : (k : ℕ) → (k < i) ⊎ (i ≤ k) → k < i + 1 → get_or (before ++ b ∷ []) k false ≡ is_true (value_of set (pos (k + 1)))
    by k (inl l) lt = get_or-append before (b ∷ []) false k (omega (arith, h.long)) ∙ h.reads k l
    by k (inr l) lt =
        let s : length before ≡ k = omega (arith, h.long) in
        let t : i ≡ k = omega arith in
        subst (λ (n : ℕ). get_or (before ++ b ∷ []) n false ≡ b) s (get_or-append_seam before b [] false) ∙ e ∙ ap (λ (n : ℕ). is_true (value_of set (pos (n + 1)))) t

pub reads_none : (set : List ℤ) → IsRead 0 set []
reads_none set = record { long = refl; reads = λ k lt. absurd (omega arith) }

-- One look at each of some clauses.
use Rattle.std.proofs.Common.{◌≡◌, ℕ, ◌+◌, ◌<◌, ℤ, List, ◌∷◌, length, drop, get_or, sym, ap, subst, ◌∙◌, arith}
use Rattle.std.proofs.lemmas.List.{drop_more}
use Rattle.pg_watch.specs.Trail.{Trail, IsTrail}
use Rattle.pg_watch.specs.Fixes.{Steps, ArePlaces, AreOpen, IsLeft, IsLooked}
use Rattle.pg_watch.specs.declared.fix.Fix.{Fix}
use Rattle.pg_watch.specs.declared.fix.Fix.TheVariants.{Quiet}
use Rattle.pg_watch.proofs.Steps.{Steps-same, Steps-more, Extends-longer}

-- so many of them were looked at
pub record Passed (clauses : List (List ℤ)) (old new : Trail) (places : List ℕ) (i : ℕ) : Type 0 where
  pub steps : Steps clauses old new
  pub left : ArePlaces (length clauses) (drop i places)
  pub opened : length new.literals ≡ length old.literals → AreOpen clauses new.literals (drop i places) → AreOpen clauses new.literals places

pub Passed-none : (clauses : List (List ℤ)) (t : Trail) (places : List ℕ) → IsTrail clauses t → ArePlaces (length clauses) places → Passed clauses t t places 0
Passed-none clauses t places h k = record { steps = Steps-same clauses t h; left = k; opened = λ e o. o }

pub Passed-place : (clauses : List (List ℤ)) (old new : Trail) (places : List ℕ) (i : ℕ) → Passed clauses old new places i → i < length places →
    get_or places i 0 < length clauses
Passed-place clauses old new places i h lt = (subst (ArePlaces (length clauses)) (drop_more places i 0 lt) h.left).0

pub Passed-next : (clauses : List (List ℤ)) (old new now : Trail) (places : List ℕ) (i : ℕ) (f : Fix) → Passed clauses old new places i →
    i < length places → Steps clauses new now → IsLooked clauses new now (get_or places i 0) f → f ≡ Quiet → Passed clauses old now places (i + 1)
Passed-next clauses old new now places i f h lt s met quiet = record {
  steps = Steps-more clauses old new now h.steps s;
  left = (subst (ArePlaces (length clauses)) (drop_more places i 0 lt) h.left).1;
  opened = λ e kept. (
      let looked : length now.literals ≡ length new.literals → IsLeft clauses new now (get_or places i 0) =
      subst (IsLooked clauses new now (get_or places i 0)) quiet met in
      let seen = looked (omega (arith, e, Extends-longer old new h.steps.extends, Extends-longer new now s.extends)) in
      let same = seen.same in
      subst (λ (t : Trail). AreOpen clauses t.literals places) (sym same)
      (h.opened (ap (λ (t : Trail). length t.literals) (sym same) ∙ e)
      (subst (AreOpen clauses new.literals) (sym (drop_more places i 0 lt))
      (subst (λ (t : Trail). AreOpen clauses t.literals (get_or places i 0 ∷ drop (i + 1) places)) same (seen.opened, kept)))));
}

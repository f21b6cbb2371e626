-- A trace gets thinner: literals that the others imply are resolved away, wherever they stand.
use Rattle.std.proofs.Common.{◌≡◌, ◌≢◌, ◌⊎◌, inl, inr, ℕ, ◌+◌, ◌<◌, Bool, true, false, List, [], ◌∷◌, ◌++◌, length, get_or, map, reverse, take, Option, Some, None, refl, sym, ap, subst, ◌∙◌, arith, ℤ, pos, neg_ℤ, append_assoc}
use Rattle.std.proofs.lemmas.List.{take_more, append-nil, reverse-append}
use Rattle.std.proofs.Math.IntN.{neg_ℤ-neg_ℤ}
use Rattle.pg_watch.specs.Trail.{Trail, value_of, IsTrail, IsReason, HasReason}
use Rattle.pg_watch.specs.Trail as trails
use Rattle.pg_watch.proofs.Values.{value_of-after_none, value_of-after_some, value_of-one_other, value_of-push_same, value_of-push_other, value_of-push_neg}
use Rattle.pg_proof.specs.Places.{has, is_marked}
use Rattle.pg_sat.specs.Cut.{IsCut, IsResolved}
use Rattle.pg_sat_guide.specs.Over.{IsOver}
use Rattle.pg_sat.specs.Trace.{IsTraced, IsLone, IsThin, AreFewer}
use Rattle.pg_sat.proofs.CutLemmas.{IsCut-replaced, none-differs}
use Rattle.pg_sat.proofs.TrailLemmas.{IsAt, AreSet-at, HaveReasons-at, has-contains, AreFalseBut-has, held-at, IsClause-at}
use Rattle.pg_sat.proofs.JumpLemmas.{set_back}

-- a literal in the midst of others that are set
value-within : (xs ys : List ℤ) (z y : ℤ) (o : Option Bool) → z ≢ y → z ≢ neg_ℤ y → value_of xs y ≡ o → value_of ((xs ++ z ∷ []) ++ ys) y ≡ value_of (xs ++ ys) y
value-within xs ys z y None d e h =
    value_of-after_none (xs ++ z ∷ []) ys y (value_of-push_other xs z y d e ∙ h) ∙ sym (value_of-after_none xs ys y h)
value-within xs ys z y (Some b) d e h =
    value_of-after_some (xs ++ z ∷ []) ys y b (value_of-push_other xs z y d e ∙ h) ∙ sym (value_of-after_some xs ys y b h)

module _ (variables : ℕ) (cs : List (List ℤ)) (t : Trail) (over : IsOver variables cs t) (right : IsTrail cs t) where
  abbrev literal : ℕ → ℤ
  literal k = get_or t.literals k (pos 0)

  at_place : (k : ℕ) → k < length t.literals → IsAt t.variables (take k t.literals) (literal k)
  at_place k lt = AreSet-at t.variables t.literals k (pos 0) right.set lt

  -- the literals of earlier places are set
  earlier_true : (k at : ℕ) → k < at → at < length t.literals → value_of (take at t.literals) (literal k) ≡ Some true
  earlier_true k at lt l =
      set_back t.literals (k + 1) at (literal k) true (omega arith)
      (ap (λ (xs : List ℤ). value_of xs (literal k)) (take_more t.literals k (pos 0) (omega arith)) ∙ value_of-push_same (take k t.literals) (literal k) (at_place k (omega arith)).unset)

  earlier_neg : (k at : ℕ) → k < at → at < length t.literals → value_of (take at t.literals) (neg_ℤ (literal k)) ≡ Some false
  earlier_neg k at lt l =
      set_back t.literals (k + 1) at (neg_ℤ (literal k)) false (omega arith)
      (ap (λ (xs : List ℤ). value_of xs (neg_ℤ (literal k))) (take_more t.literals k (pos 0) (omega arith))
      ∙ value_of-push_neg (take k t.literals) (literal k) (at_place k (omega arith)).literal.0 (at_place k (omega arith)).unset)

  pub differs : (k at : ℕ) → k < at → at < length t.literals → literal at ≢ literal k
  differs k at lt l e =
      none-differs (value_of (take at t.literals) (literal at)) true (at_place at l).unset (ap (value_of (take at t.literals)) e ∙ earlier_true k at lt l)

  pub differs_neg : (k at : ℕ) → k < at → at < length t.literals → literal at ≢ neg_ℤ (literal k)
  differs_neg k at lt l e =
      none-differs (value_of (take at t.literals) (literal at)) false (at_place at l).unset (ap (value_of (take at t.literals)) e ∙ earlier_neg k at lt l)

  pub apart_neg : (k at : ℕ) → k < at → at < length t.literals → neg_ℤ (literal at) ≢ literal k
  apart_neg k at lt l e = differs_neg k at lt l (sym (neg_ℤ-neg_ℤ (literal at)) ∙ ap neg_ℤ e)

  pub apart_both : (k at : ℕ) → k < at → at < length t.literals → neg_ℤ (literal at) ≢ neg_ℤ (literal k)
  apart_both k at lt l e = differs k at lt l (sym (neg_ℤ-neg_ℤ (literal at)) ∙ ap neg_ℤ e ∙ neg_ℤ-neg_ℤ (literal k))

  -- a literal stays
  pub thin_kept : (at : ℕ) (flags : List Bool) (hints : List ℕ) → at < length t.literals → IsThin variables cs t.literals (at + 1) flags hints → IsThin variables cs t.literals at flags hints
  thin_kept at flags hints lt h = record {
    rest = literal at ∷ h.rest;
    apart = λ k l. value_of-after_none (literal at ∷ []) h.rest (literal k) (value_of-one_other (literal at) (literal k) (differs k at l lt) (differs_neg k at l lt))
        ∙ h.apart k (omega arith);
    traced = subst (λ (set : List ℤ). IsTraced variables cs set flags hints)
        (ap (λ (xs : List ℤ). xs ++ h.rest) (take_more t.literals at (pos 0) lt) ∙ append_assoc (take at t.literals) (literal at ∷ []) h.rest) h.traced;
  }

  -- and the one that is left does
  pub thin_begun : (last place : ℕ) (flags : List Bool) (hints : List ℕ) → IsLone variables cs t.literals last place flags hints → IsThin variables cs t.literals place flags hints
  thin_begun last place flags hints h =
      thin_kept place flags hints h.there (record {
        rest = [];
        apart = λ k l. refl;
        traced = subst (λ (set : List ℤ). IsTraced variables cs set flags hints) (sym (append-nil (take (place + 1) t.literals))) h.traced;
      })

  -- a literal gives way to the others of its reason
  module _ (at number : ℕ) (flags after : List Bool) (hints more : List ℕ) (lt : at < length t.literals) (h : IsThin variables cs t.literals (at + 1) flags hints)
      (reason : get_or t.reasons at None ≡ Some number) (up : is_marked flags (neg_ℤ (literal at)) ≡ true)
      (r : IsResolved (is_marked flags) (is_marked after) (trails.clause_at cs number) (literal at)) (same : length after ≡ length flags) (e : more ≡ hints ++ number ∷ []) where
    has_reason : IsReason cs (take at t.literals) (literal at) number
    has_reason =
        subst (λ (o : Option ℕ). HasReason cs (take at t.literals) (literal at) o) reason (HaveReasons-at cs t.literals t.reasons at (pos 0) right.reasoned lt)

    whole : take (at + 1) t.literals ++ h.rest ≡ (take at t.literals ++ literal at ∷ []) ++ h.rest
    whole = ap (λ (xs : List ℤ). xs ++ h.rest) (take_more t.literals at (pos 0) lt)

    unset : value_of (take at t.literals ++ h.rest) (literal at) ≡ None
    unset = value_of-after_none (take at t.literals) h.rest (literal at) (at_place at lt).unset ∙ h.apart at (omega arith)

    is_set : value_of ((take at t.literals ++ literal at ∷ []) ++ h.rest) (literal at) ≡ Some true
    is_set =
        value_of-after_some (take at t.literals ++ literal at ∷ []) h.rest (literal at) true (value_of-push_same (take at t.literals) (literal at) (at_place at lt).unset)

    cut : IsCut (map Some cs) (take at t.literals ++ h.rest) (is_marked after) (number ∷ reverse hints)
    cut =
        IsCut-replaced (map Some cs) (take at t.literals ++ h.rest) ((take at t.literals ++ literal at ∷ []) ++ h.rest) (literal at) (at_place at lt).literal.0 unset is_set
        (λ y d f. value-within (take at t.literals) h.rest (literal at) y (value_of (take at t.literals) y) d f refl) number (trails.clause_at cs number)
        (held-at cs number has_reason.numbered) (IsClause-at variables cs number over.right has_reason.numbered).distinct
        (has-contains (trails.clause_at cs number) (literal at) has_reason.unit.there)
        (λ y m d. value_of-after_some (take at t.literals) h.rest y false (AreFalseBut-has (take at t.literals) (literal at) (trails.clause_at cs number) y has_reason.unit.others m d))
        (is_marked flags) (is_marked after) (reverse hints)
        (subst (λ (xs : List ℤ). IsCut (map Some cs) xs (is_marked flags) (reverse hints)) whole h.traced.cut) up r

    pub thin_resolved : IsThin variables cs t.literals at after more
    thin_resolved = record {
      rest = h.rest;
      apart = λ k l. h.apart k (omega arith);
      traced = record {
        places = same ∙ h.traced.places;
        cut = subst (λ (hs : List ℕ). IsCut (map Some cs) (take at t.literals ++ h.rest) (is_marked after) hs)
            (sym (ap reverse e ∙ reverse-append hints (number ∷ []))) cut;
      };
    }

-- fewer literals are wanted
pub fewer_same : (flags : List Bool) (w : ℤ) → AreFewer flags flags w
fewer_same flags w = record { fewer = λ y h. h; kept = λ h. h }

pub fewer_then : (a b c : List Bool) (w : ℤ) → AreFewer a b w → AreFewer b c w → AreFewer a c w
fewer_then a b c w h k = record { fewer = λ y m. h.fewer y (k.fewer y m); kept = λ m. k.kept (h.kept m) }

either-marked : (before after : ℤ → Bool) (c : List ℤ) (z y : ℤ) → IsResolved before after c z → ((x : ℤ) → has c x ≡ true → x ≢ z → before x ≡ true) →
    after y ≡ true → (has c y ≡ true) ⊎ (before y ≡ true) → before y ≡ true
either-marked before after c z y r implied m (inl h) = implied y h (λ e. (let f : true ≡ false = sym m ∙ ap after e ∙ r.neither in cc))
either-marked before after c z y r implied m (inr h) = h

pub fewer_resolved : (flags after : List Bool) (c : List ℤ) (z w : ℤ) → IsResolved (is_marked flags) (is_marked after) c z →
    ((x : ℤ) → has c x ≡ true → x ≢ z → is_marked flags x ≡ true) → w ≢ z → w ≢ neg_ℤ z → AreFewer flags after w
fewer_resolved flags after c z w r implied d e = record {
  fewer = λ y m. either-marked (is_marked flags) (is_marked after) c z y r implied m (r.either y m);
  kept = λ m. r.kept w m d e;
}

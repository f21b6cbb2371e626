-- What a look at a clause sees is so.
use Rattle.std.proofs.Common.{◌≡◌, ◌≢◌, ℕ, zero, suc, ◌<◌, ◌⊎◌, inl, inr, Bool, true, false, ℤ, List, [], ◌∷◌, length, get_or, Option, None, Some, refl, sym, ap, subst, ◌∙◌, arith}
use Rattle.std.specs.Prelude.{Contains}
use Rattle.pg_cnf.specs.Literals.{IsAbsent, AreDistinct}
use Rattle.pg_watch.specs.declared.look.Look.{Look}
use Rattle.pg_watch.specs.declared.look.Look.TheVariants.{Open, Unit, Falsified}
use Rattle.pg_watch.specs.Trail.{value_of, AreFalse, AreFalseBut, IsUnit}
use Rattle.pg_watch.specs.Looks.{IsSeen, looked, look_step, look_from}
use Rattle.pg_watch.proofs.Tables.{same_or_not}

pub Contains-first : (y : ℤ) (ys : List ℤ) → Contains (y ∷ ys) y
Contains-first y ys = (0, omega arith, refl)

pub Contains-later : (y z : ℤ) (ys : List ℤ) → Contains ys z → Contains (y ∷ ys) z
Contains-later y z ys h = (suc h.0, omega (arith, h.1), h.2)

further : (y z : ℤ) (ys : List ℤ) (k : ℕ) → k < length (y ∷ ys) → get_or (y ∷ ys) k z ≡ z → (y ≡ z → ⊥) → Contains ys z
further y z ys zero lt e h = absurd (h e)
further y z ys (suc k) lt e h = (k, omega arith, e)

not_in_none : (z : ℤ) (k : ℕ) → k < 0 → ⊥
not_in_none z k lt = omega arith

module _ (set : List ℤ) where
  pub AreFalse-but : (z : ℤ) (ys : List ℤ) → AreFalse set ys → AreFalseBut set z ys
  AreFalse-but z [] h = tt
  AreFalse-but z (y ∷ ys) h = ((λ d. h.0), AreFalse-but z ys h.1)

  AreFalse-absent : (z : ℤ) (ys : List ℤ) → IsAbsent z ys → AreFalseBut set z ys → AreFalse set ys
  AreFalse-absent z [] a h = tt
  AreFalse-absent z (y ∷ ys) a h = (h.0 (λ e. a.0 (sym e)), AreFalse-absent z ys a.1 h.1)

  -- where all are false, what was met before is what is left
  look_from-false : (f : Option ℤ) (ys : List ℤ) → AreFalse set ys → look_from set f ys ≡ looked f
  look_from-false f [] h = refl
  look_from-false f (y ∷ ys) h =
      ap (λ o. look_step o y f (λ g. look_from set g ys)) h.0 ∙ look_from-false f ys h.1

  unit-step : (z y : ℤ) (ys : List ℤ) → AreDistinct (y ∷ ys) → value_of set z ≡ None → AreFalseBut set z (y ∷ ys) → Contains (y ∷ ys) z →
      (y ≡ z) ⊎ (y ≢ z) → (AreFalseBut set z ys → Contains ys z → look_from set None ys ≡ Unit z) → look_from set None (y ∷ ys) ≡ Unit z
  unit-step z y ys d u h there (inl e) go =
      ap (λ o. look_step o y None (λ g. look_from set g ys)) (ap (value_of set) e ∙ u)
      ∙ look_from-false (Some y) ys (AreFalse-absent y ys d.0 (subst (λ (x : ℤ). AreFalseBut set x ys) (sym e) h.1))
      ∙ ap (λ (x : ℤ). Unit x) e
  unit-step z y ys d u h there (inr e) go =
      ap (λ o. look_step o y None (λ g. look_from set g ys)) (h.0 e)
      ∙ go h.1 (further y z ys there.0 there.1 there.2 e)

  look_from-unit : (z : ℤ) (ys : List ℤ) → AreDistinct ys → value_of set z ≡ None → AreFalseBut set z ys → Contains ys z →
      look_from set None ys ≡ Unit z
  look_from-unit z [] d u h there = absurd (not_in_none z there.0 there.1)
  look_from-unit z (y ∷ ys) d u h there = unit-step z y ys d u h there (same_or_not y z) (look_from-unit z ys d.1 u)

  -- and back
  never-step : (z y : ℤ) (ys : List ℤ) (o : Option Bool) → look_step o y (Some z) (λ g. look_from set g ys) ≡ Falsified →
      (look_from set (Some z) ys ≡ Falsified → ⊥) → ⊥
  never-step z y ys (Some true) h go = cc
  never-step z y ys (Some false) h go = go h
  never-step z y ys None h go = cc

  never : (z : ℤ) (ys : List ℤ) → look_from set (Some z) ys ≡ Falsified → ⊥
  never z [] h = cc
  never z (y ∷ ys) h = never-step z y ys (value_of set y) h (never z ys)

  falsified-step : (y : ℤ) (ys : List ℤ) (o : Option Bool) → value_of set y ≡ o → look_step o y None (λ g. look_from set g ys) ≡ Falsified →
      (look_from set None ys ≡ Falsified → AreFalse set ys) → AreFalse set (y ∷ ys)
  falsified-step y ys (Some true) e h go = absurd (let f : Open ≡ Falsified = h in cc)
  falsified-step y ys (Some false) e h go = (e, go h)
  falsified-step y ys None e h go = absurd (never y ys h)

  seen_falsified : (ys : List ℤ) → look_from set None ys ≡ Falsified → AreFalse set ys
  seen_falsified [] h = tt
  seen_falsified (y ∷ ys) h = falsified-step y ys (value_of set y) refl h (seen_falsified ys)

  record RestFalse (z w : ℤ) (ys : List ℤ) : Type 0 where
    same : w ≡ z
    rest : AreFalse set ys

  met-step : (z w y : ℤ) (ys : List ℤ) (o : Option Bool) → value_of set y ≡ o → look_step o y (Some z) (λ g. look_from set g ys) ≡ Unit w →
      (look_from set (Some z) ys ≡ Unit w → RestFalse z w ys) → RestFalse z w (y ∷ ys)
  met-step z w y ys (Some true) e h go = absurd (let f : Open ≡ Unit w = h in cc)
  met-step z w y ys (Some false) e h go = let r = go h in record { same = r.same; rest = (e, r.rest) }
  met-step z w y ys None e h go = absurd (let f : Open ≡ Unit w = h in cc)

  met : (z w : ℤ) (ys : List ℤ) → look_from set (Some z) ys ≡ Unit w → RestFalse z w ys
  met z w [] h = record { same = (let f : Unit z ≡ Unit w = h in cc); rest = tt }
  met z w (y ∷ ys) h = met-step z w y ys (value_of set y) refl h (met z w ys)

  differing : (y w : ℤ) (v : Bool) → value_of set y ≡ Some v → value_of set w ≡ None → y ≡ w → ⊥
  differing y w v e u same = let f : Some v ≡ None = sym e ∙ ap (value_of set) same ∙ u in cc

  seen_unit-step : (w y : ℤ) (ys : List ℤ) (o : Option Bool) → value_of set y ≡ o → look_step o y None (λ g. look_from set g ys) ≡ Unit w →
      (look_from set None ys ≡ Unit w → IsUnit set ys w) → IsUnit set (y ∷ ys) w
  seen_unit-step w y ys (Some true) e h go = absurd (let f : Open ≡ Unit w = h in cc)
  seen_unit-step w y ys (Some false) e h go =
      let r = go h in
      record { there = Contains-later y w ys r.there; unset = r.unset; others = ((λ d. e), r.others) }
  seen_unit-step w y ys None e h go =
      let r = met y w ys h in
      record {
        there = subst (Contains (y ∷ ys)) (sym r.same) (Contains-first y ys);
        unset = ap (value_of set) r.same ∙ e;
        others = ((λ d. absurd (d (sym r.same))), AreFalse-but w ys r.rest);
      }

  seen_unit : (w : ℤ) (ys : List ℤ) → look_from set None ys ≡ Unit w → IsUnit set ys w
  seen_unit w [] h = absurd (let f : Falsified ≡ Unit w = h in cc)
  seen_unit w (y ∷ ys) h = seen_unit-step w y ys (value_of set y) refl h (seen_unit w ys)

  pub IsSeen-look_from : (ys : List ℤ) (r : Look) → AreDistinct ys → look_from set None ys ≡ r → IsSeen set ys r
  IsSeen-look_from ys Open d h = record {
    not_falsified = λ k. (let f : Open ≡ Falsified = sym h ∙ look_from-false None ys k in cc);
    not_unit = λ z k. (let f : Open ≡ Unit z = sym h ∙ look_from-unit z ys d k.unset k.others k.there in cc);
  }
  IsSeen-look_from ys (Unit w) d h = seen_unit w ys h
  IsSeen-look_from ys Falsified d h = seen_falsified ys h

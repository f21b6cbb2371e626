-- Cuts grow from a clause that is false: by reasons of literals, one after another, the last that was set first.
use Rattle.std.proofs.Common.{◌≡◌, ◌≢◌, ◌⊎◌, inl, inr, ℕ, ◌<◌, Bool, true, false, ◌&&◌, List, [], ◌∷◌, ◌++◌, Option, None, Some, unwrap_or, refl, sym, ap, subst, ◌∙◌, ℤ, neg_ℤ, nat_abs}
use Rattle.std.specs.Ordering.{int_eq}
use Rattle.std.proofs.Math.IntN.{neg_ℤ-neg_ℤ}
use Rattle.std.proofs.lemmas.Bool.Decides.{Decides-int_eq}
use Rattle.pg_cnf.specs.Literals.{AreDistinct}
use Rattle.pg_watch.specs.Trail.{value_of}
use Rattle.pg_watch.proofs.Values.{value_of-push_same, value_of-push_other, value_of-unset_neg}
use Rattle.pg_proof.specs.declared.propagation.Reading.{Reading}
use Rattle.pg_proof.specs.declared.propagation.Reading.TheVariants.{Falsified, Unit}
use Rattle.pg_proof.specs.Places.{has}
use Rattle.pg_proof.specs.Reading.{reading}
use Rattle.pg_proof.specs.State.{clause_at}
use Rattle.pg_proof.specs.Refutation.{walk}
use Rattle.pg_proof.specs.Tight.{literals_at, hint_clauses, stands_in, at_set, sets_used}
use Rattle.pg_sat.specs.Cut.{AreTrue, AreDenied, Leads, IsCut, IsResolved}
use Rattle.pg_sat.proofs.ReadingLemmas.{false_if, first_of_two, second_of_two, has-first, has-later, has-cases, reading-falsified, reading-unit}

literals-at : (held : List (Option (List ℤ))) (n : ℕ) (c : List ℤ) → clause_at held n ≡ Some c → literals_at held n ≡ c
literals-at held n c e = ap (λ (o : Option (List ℤ)). unwrap_or o []) e

-- a clause that is false
walk-last : (held : List (Option (List ℤ))) (trail : List ℤ) (n : ℕ) (c : List ℤ) → clause_at held n ≡ Some c → reading (has trail) c ≡ Falsified →
    walk held trail (n ∷ []) ≡ None
unfolding walk
walk-last held trail n c e r = rw e (rw r refl)

used-last : (held : List (Option (List ℤ))) (trail : List ℤ) (n : ℕ) (c : List ℤ) → clause_at held n ≡ Some c → reading (has trail) c ≡ Falsified →
    sets_used trail (hint_clauses held (n ∷ [])) ≡ true
used-last held trail n c e r =
    ap (λ (d : List ℤ). at_set (reading (has trail) d) (λ z. false && sets_used (z ∷ trail) [])) (literals-at held n c e)
    ∙ ap (λ (q : Reading). at_set q (λ z. false && sets_used (z ∷ trail) [])) r

pub IsCut-begun : (held : List (Option (List ℤ))) (set : List ℤ) (n : ℕ) (c : List ℤ) → clause_at held n ≡ Some c →
    ((y : ℤ) → has c y ≡ true → value_of set y ≡ Some false) → IsCut held set (has c) (n ∷ [])
IsCut-begun held set n c e f = record {
  are_false = f;
  standing = λ y h. first_of_two (has (literals_at held n) y) false (ap (λ (d : List ℤ). has d y) (literals-at held n c e) ∙ h);
  leads = λ trail t denied. (
      let r : reading (has trail) c ≡ Falsified = reading-falsified (has trail) c denied in
      record { walks = walk-last held trail n c e r; used = used-last held trail n c e r });
}

-- a reason, at a literal that it sets
walk-unit : (held : List (Option (List ℤ))) (trail : List ℤ) (n : ℕ) (hs : List ℕ) (c : List ℤ) (z : ℤ) → clause_at held n ≡ Some c →
    reading (has trail) c ≡ Unit z → walk held (z ∷ trail) hs ≡ None → walk held trail (n ∷ hs) ≡ None
unfolding walk
walk-unit held trail n hs c z e r h = rw e (rw r h)

pub both_true : (a b : Bool) → a ≡ true → b ≡ true → a && b ≡ true
both_true a b e f = rw e f

used-unit : (held : List (Option (List ℤ))) (trail : List ℤ) (n : ℕ) (hs : List ℕ) (c : List ℤ) (z : ℤ) → clause_at held n ≡ Some c →
    reading (has trail) c ≡ Unit z → stands_in (hint_clauses held hs) (neg_ℤ z) ≡ true → sets_used (z ∷ trail) (hint_clauses held hs) ≡ true →
    sets_used trail (hint_clauses held (n ∷ hs)) ≡ true
used-unit held trail n hs c z e r s h =
    let go : ℤ → Bool = λ y. stands_in (hint_clauses held hs) (neg_ℤ y) && sets_used (y ∷ trail) (hint_clauses held hs) in
    ap (λ (d : List ℤ). at_set (reading (has trail) d) go) (literals-at held n c e)
    ∙ ap (λ (q : Reading). at_set q go) r
    ∙ both_true (stands_in (hint_clauses held hs) (neg_ℤ z)) (sets_used (z ∷ trail) (hint_clauses held hs)) s h

-- equal or not
pub same_or_not : (x y : ℤ) → (x ≡ y) ⊎ (x ≢ y)
same_or_not x y = by (int_eq x y) refl
  where
    by : (b : Bool) → int_eq x y ≡ b → (x ≡ y) ⊎ (x ≢ y)
    by true e = inl ((Decides-int_eq x y).0 e)
    by false e = inr (λ s. cc (e, (Decides-int_eq x y).1 s))

pub some-differs : (o : Option Bool) → o ≡ Some true → o ≡ Some false → ⊥
some-differs o e f = let g : Some true ≡ Some false = sym e ∙ f in cc

pub none-differs : (o : Option Bool) (b : Bool) → o ≡ None → o ≡ Some b → ⊥
none-differs o b e f = let g : None ≡ Some b = sym e ∙ f in cc

swap_neg : (z y : ℤ) → z ≡ neg_ℤ y → y ≡ neg_ℤ z
swap_neg z y e = sym (ap neg_ℤ e ∙ neg_ℤ-neg_ℤ y)

-- a literal is set, and else all is as it was
module _ (held : List (Option (List ℤ))) (set full : List ℤ) (z : ℤ) (nonzero : 0 < nat_abs z) (unset : value_of set z ≡ None) (is_set : value_of full z ≡ Some true)
    (same : (y : ℤ) → z ≢ y → z ≢ neg_ℤ y → value_of full y ≡ value_of set y) where
  -- what was false before a literal was set
  pub before_set : (y : ℤ) → y ≢ neg_ℤ z → value_of full y ≡ Some false → value_of set y ≡ Some false
  before_set y d f =
      sym (same y
      (λ e. some-differs (value_of full y) (ap (value_of full) (sym e) ∙ is_set) f)
      (λ e. d (swap_neg z y e)))
      ∙ f

  neg_unset : value_of set (neg_ℤ z) ≡ None
  neg_unset = value_of-unset_neg set z nonzero unset

  stays : (y : ℤ) (b : Bool) → value_of set y ≡ Some b → value_of full y ≡ Some b
  stays y b e =
      same y (λ s. none-differs (value_of set z) b unset (ap (value_of set) s ∙ e))
      (λ s. none-differs (value_of set (neg_ℤ z)) b neg_unset (ap (value_of set) (sym (swap_neg z y s)) ∙ e))
      ∙ e

  not_set : (trail : List ℤ) → AreTrue set trail → has trail z ≡ false
  not_set trail t = false_if (has trail z) (λ e. none-differs (value_of set z) true unset (t z e))

  neg_not_set : (trail : List ℤ) → AreTrue set trail → has trail (neg_ℤ z) ≡ false
  neg_not_set trail t = false_if (has trail (neg_ℤ z)) (λ e. none-differs (value_of set (neg_ℤ z)) true neg_unset (t (neg_ℤ z) e))

  more_true : (trail : List ℤ) → AreTrue set trail → AreTrue full (z ∷ trail)
  more_true trail t y h = by (has-cases z trail y h)
    where
      by : (z ≡ y) ⊎ (has trail y ≡ true) → value_of full y ≡ Some true
      by (inl e) = ap (value_of full) (sym e) ∙ is_set
      by (inr e) = stays y true (t y e)

  -- a literal that no wanted one denies may be set or not
  pub IsCut-unset : (wanted : ℤ → Bool) (hints : List ℕ) → IsCut held full wanted hints → wanted (neg_ℤ z) ≡ false → IsCut held set wanted hints
  IsCut-unset wanted hints cut n = record {
    are_false = λ y w. before_set y (λ e. (let f : true ≡ false = sym w ∙ ap wanted e ∙ n in cc)) (cut.are_false y w);
    standing = cut.standing;
    leads = λ trail t denied. cut.leads trail (λ y h. stays y true (t y h)) denied;
  }

  module _ (n : ℕ) (c : List ℤ) (at : clause_at held n ≡ Some c) (distinct : AreDistinct c) (there : has c z ≡ true)
      (others : (y : ℤ) → has c y ≡ true → y ≢ z → value_of set y ≡ Some false)
      (before after : ℤ → Bool) (hints : List ℕ) (cut : IsCut held full before hints) (denied : before (neg_ℤ z) ≡ true)
      (r : IsResolved before after c z) where
    not_z : (y : ℤ) → after y ≡ true → y ≢ z
    not_z y a e = let f : true ≡ false = sym a ∙ ap after e ∙ r.neither in cc

    old_false : (y : ℤ) → after y ≡ true → before y ≡ true → (y ≡ neg_ℤ z) ⊎ (y ≢ neg_ℤ z) → value_of set y ≡ Some false
    old_false y a b (inl e) =
        others y (ap (has c) e ∙ r.resolved (ap after (sym e) ∙ a)) (not_z y a)
    old_false y a b (inr e) = before_set y e (cut.are_false y b)

    false_after : (y : ℤ) → after y ≡ true → (has c y ≡ true) ⊎ (before y ≡ true) → value_of set y ≡ Some false
    false_after y a (inl h) = others y h (not_z y a)
    false_after y a (inr b) = old_false y a b (same_or_not y (neg_ℤ z))

    standing_after : (y : ℤ) → (has c y ≡ true) ⊎ (before y ≡ true) → stands_in (hint_clauses held (n ∷ hints)) y ≡ true
    standing_after y (inl h) =
        first_of_two (has (literals_at held n) y) (stands_in (hint_clauses held hints) y) (ap (λ (d : List ℤ). has d y) (literals-at held n c at) ∙ h)
    standing_after y (inr b) = second_of_two (has (literals_at held n) y) (stands_in (hint_clauses held hints) y) (cut.standing y b)

    denied-cases : (trail : List ℤ) → AreDenied after trail → (y : ℤ) → before y ≡ true → (y ≡ neg_ℤ z) ⊎ (y ≢ neg_ℤ z) → has (z ∷ trail) (neg_ℤ y) ≡ true
    denied-cases trail d y b (inl e) = subst (λ (x : ℤ). has (z ∷ trail) x ≡ true) (sym (ap neg_ℤ e ∙ neg_ℤ-neg_ℤ z)) (has-first z trail)
    denied-cases trail d y b (inr e) =
        has-later z trail (neg_ℤ y) (d y (r.kept y b
        (λ s. some-differs (value_of full y) (ap (value_of full) s ∙ is_set) (cut.are_false y b)) e))

    -- the negation of a literal that is wanted gives way to the others of its reason
    pub IsCut-replaced : IsCut held set after (n ∷ hints)
    IsCut-replaced = record {
      are_false = λ y a. false_after y a (r.either y a);
      standing = λ y a. standing_after y (r.either y a);
      leads = λ trail t d. (
          let read : reading (has trail) c ≡ Unit z =
          reading-unit (has trail) c z distinct there (not_set trail t) (neg_not_set trail t) (λ y h e. d y (r.others y h e)) in
          let rest : Leads held (z ∷ trail) hints =
          cut.leads (z ∷ trail) (more_true trail t) (λ y b. denied-cases trail d y b (same_or_not y (neg_ℤ z))) in
          record {
            walks = walk-unit held trail n hints c z at read rest.walks;
            used = used-unit held trail n hints c z at read (cut.standing (neg_ℤ z) denied) rest.used;
          });
    }

-- and it is set last
module _ (held : List (Option (List ℤ))) (set : List ℤ) (z : ℤ) (nonzero : 0 < nat_abs z) (unset : value_of set z ≡ None) where
  pub before_push : (y : ℤ) → y ≢ neg_ℤ z → value_of (set ++ z ∷ []) y ≡ Some false → value_of set y ≡ Some false
  before_push = before_set held set (set ++ z ∷ []) z nonzero unset (value_of-push_same set z unset) (λ y d e. value_of-push_other set z y d e)

  pub IsCut-passed : (wanted : ℤ → Bool) (hints : List ℕ) → IsCut held (set ++ z ∷ []) wanted hints → wanted (neg_ℤ z) ≡ false → IsCut held set wanted hints
  IsCut-passed = IsCut-unset held set (set ++ z ∷ []) z nonzero unset (value_of-push_same set z unset) (λ y d e. value_of-push_other set z y d e)

  pub IsCut-resolved : (n : ℕ) (c : List ℤ) → clause_at held n ≡ Some c → AreDistinct c → has c z ≡ true →
      ((y : ℤ) → has c y ≡ true → y ≢ z → value_of set y ≡ Some false) → (before after : ℤ → Bool) (hints : List ℕ) →
      IsCut held (set ++ z ∷ []) before hints → before (neg_ℤ z) ≡ true → IsResolved before after c z → IsCut held set after (n ∷ hints)
  IsCut-resolved n c at distinct there others before after hints cut denied r =
      IsCut-replaced held set (set ++ z ∷ []) z nonzero unset (value_of-push_same set z unset) (λ y d e. value_of-push_other set z y d e) n c at distinct there others
      before after hints cut denied r

-- Clauses leave the fresh ones.
use Rattle.std.proofs.Common.{◌≡◌, ◌≢◌, ℕ, zero, suc, ◌-◌, ◌<◌, ◌≤◌, ◌⊎◌, inl, inr, Bool, true, false, ℤ, pos, List, [], ◌∷◌, ◌++◌, length, take, get_or, set, None, Some, refl, sym, ap, subst, ◌∙◌, arith}
use Rattle.std.specs.Prelude.{Contains}
use Rattle.std.specs.List.{swap_remove}
use Rattle.std.proofs.lemmas.Bool.{cases_lt}
use Rattle.std.proofs.lemmas.List.{get_or-set_same, get_or-set_other, get_or-take, length-take-le}
use Rattle.std.proofs.Math.ListN.{length-set}
use Rattle.pg_watch.specs.declared.lists.Watch.{Watch}
use Rattle.pg_watch.specs.declared.index.Pair.{Pair}
use Rattle.pg_watch.specs.Trail.{Trail, value_of}
use Rattle.pg_watch.specs.Fixes.{ArePlaces}
use Rattle.pg_watch.specs.Places.{place_of}
use Rattle.pg_watch.specs.Watching.{no_pair, literals_at, pair_at, list_at, IsPair, Has, IsEntry, IsListed, IsAttached, Guards, IsGuarded, IsIndex, HasTrue}
use Rattle.pg_watch.specs.Joins.{MayWatch, IsChoice, KeepsOthers, IsJoined}
use Rattle.pg_watch.specs.Assigned.{IsAssigned}
use Rattle.pg_watch.specs.Watched.{IsKept, IsHeld, IsWatched}
use Rattle.pg_watch.proofs.Keeps.{value_of-whole}
use Rattle.pg_watch.proofs.RunLemmas.{true_all}
use Rattle.pg_watch.proofs.Tables.{place_of-lt}
use Rattle.pg_watch.proofs.VisitLemmas.{literal_there}
use Rattle.pg_watch.proofs.Moves.{same_number, IsListed-push, IsListed-own, AreEntries-push}

-- literals that may be watched
pub may_open : (zs c : List ℤ) (low : ℕ) (w : ℤ) → value_of zs w ≢ Some false → MayWatch zs c low w
may_open zs c low w d = record { now = λ e. absurd (d e); below = λ n le e. d (value_of-whole n zs w false e) }

pub may_late : (zs c : List ℤ) (low : ℕ) (z w : ℤ) → Contains c z → value_of zs z ≡ Some true → ((n : ℕ) → n ≤ low → value_of (take n zs) w ≡ None) →
    MayWatch zs c low w
may_late zs c low z w there holds unset = record {
  now = λ e. record { which = z; there = there; holds = holds };
  below = λ n le e. (let f : None ≡ Some false = sym (unset n le) ∙ e in cc);
}

pub choice_open : (zs c : List ℤ) (low : ℕ) (y z : ℤ) → Contains c y → Contains c z → z ≢ y → value_of zs y ≢ Some false → value_of zs z ≢ Some false →
    IsChoice zs c low (record { first = y; second = z })
choice_open zs c low y z f g d a b = record {
  pair = record { first = f; second = g; apart = λ e. d (sym e) };
  first = may_open zs c low y a;
  second = may_open zs c low z b;
}

pub choice_late : (zs c : List ℤ) (low : ℕ) (y z : ℤ) → Contains c y → Contains c z → z ≢ y → value_of zs y ≢ Some false → value_of zs y ≡ Some true →
    ((n : ℕ) → n ≤ low → value_of (take n zs) z ≡ None) → IsChoice zs c low (record { first = y; second = z })
choice_late zs c low y z f g d a holds unset = record {
  pair = record { first = f; second = g; apart = λ e. d (sym e) };
  first = may_open zs c low y a;
  second = may_late zs c low y z f holds unset;
}

-- an entry more
module _ (cs : List (List ℤ)) (t : Trail) (ls ms : List (List Watch)) (ps : List Pair) (at : ℕ) (w : Watch) (h : IsIndex cs t ls ps)
    (lt : at < length ls) (own : IsEntry cs w) (e : ms ≡ set ls at (list_at ls at ++ w ∷ [])) where
  pub index_entry : IsIndex cs t ms ps
  index_entry = record {
    right = h.right;
    few = h.few;
    trail = h.trail;
    lists_long = ap length e ∙ length-set ls at (list_at ls at ++ w ∷ []) ∙ h.lists_long;
    pairs_long = h.pairs_long;
    entries = subst (λ (xs : List (List Watch)). (b j : ℕ) → j < length (list_at xs b) → IsEntry cs (get_or (list_at xs b) j (record { clause = 0; blocker = pos 0 }))) (sym e)
        (AreEntries-push ls at w lt cs own h.entries);
    pairs = h.pairs;
  }

  pub listed_entry : (b k : ℕ) → IsListed ls b k → IsListed ms b k
  listed_entry b k l = subst (λ (xs : List (List Watch)). IsListed xs b k) (sym e) (IsListed-push ls at w lt b k l)

  pub own_entry : IsListed ms at w.clause
  own_entry = subst (λ (xs : List (List Watch)). IsListed xs at w.clause) (sym e) (IsListed-own ls at w lt)

-- another pair
module _ (cs : List (List ℤ)) (t : Trail) (ls : List (List Watch)) (ps qs : List Pair) (k : ℕ) (p : Pair) (h : IsIndex cs t ls ps)
    (lt : k < length cs) (pair : IsPair (literals_at cs k) p) (e : qs ≡ set ps k p) where
  pub pair_own : pair_at qs k ≡ p
  pair_own = ap (λ (xs : List Pair). pair_at xs k) e ∙ get_or-set_same ps k p no_pair (omega (arith, lt, h.pairs_long))

  pub pair_other : (j : ℕ) → j ≢ k → pair_at qs j ≡ pair_at ps j
  pair_other j d = ap (λ (xs : List Pair). pair_at xs j) e ∙ get_or-set_other ps k j p no_pair d

  pairs-cases : (j : ℕ) → (j ≡ k) ⊎ (j ≢ k) → j < length cs → (w : ℤ) → w ≢ pos 0 → Has (pair_at qs j) w → IsPair (literals_at cs j) (pair_at qs j)
  pairs-cases j (inl same) less w d has =
      subst (λ (i : ℕ). IsPair (literals_at cs i) (pair_at qs i)) (sym same) (subst (IsPair (literals_at cs k)) (sym pair_own) pair)
  pairs-cases j (inr other) less w d has =
      subst (IsPair (literals_at cs j)) (sym (pair_other j other)) (h.pairs j less w d (subst (λ (q : Pair). Has q w) (pair_other j other) has))

  pub index_pair : IsIndex cs t ls qs
  index_pair = record {
    right = h.right;
    few = h.few;
    trail = h.trail;
    lists_long = h.lists_long;
    pairs_long = ap length e ∙ length-set ps k p ∙ h.pairs_long;
    entries = h.entries;
    pairs = λ j. pairs-cases j (same_number j k);
  }

-- what the others watch stays
pub keeps_others : (cs : List (List ℤ)) (ls ms : List (List Watch)) (ps qs : List Pair) (k : ℕ) → ((b j : ℕ) → IsListed ls b j → IsListed ms b j) →
    ((j : ℕ) → j ≢ k → pair_at qs j ≡ pair_at ps j) → KeepsOthers cs ls ms ps qs k
keeps_others cs ls ms ps qs k listed pairs = record {
  attached = λ j d lt a. record {
    pair = subst (IsPair (literals_at cs j)) (sym (pairs j d)) a.pair;
    first = subst (λ (p : Pair). IsListed ms (place_of p.first) j) (sym (pairs j d)) (listed (place_of (pair_at ps j).first) j a.first);
    second = subst (λ (p : Pair). IsListed ms (place_of p.second) j) (sym (pairs j d)) (listed (place_of (pair_at ps j).second) j a.second);
  };
  pairs = pairs;
}

pub attached_pair : (cs : List (List ℤ)) (ms : List (List Watch)) (qs : List Pair) (k : ℕ) (p : Pair) → pair_at qs k ≡ p → IsPair (literals_at cs k) p →
    IsListed ms (place_of p.first) k → IsListed ms (place_of p.second) k → IsAttached cs ms qs k
attached_pair cs ms qs k p e pair first second = record {
  pair = subst (IsPair (literals_at cs k)) (sym e) pair;
  first = subst (λ (q : Pair). IsListed ms (place_of q.first) k) (sym e) first;
  second = subst (λ (q : Pair). IsListed ms (place_of q.second) k) (sym e) second;
}

-- one of the fresh ones less
get_or_any : (xs : List ℕ) (i d e : ℕ) → i < length xs → get_or xs i d ≡ get_or xs i e
get_or_any [] i d e lt = absurd (omega arith)
get_or_any (x ∷ xs) zero d e lt = refl
get_or_any (x ∷ xs) (suc i) d e lt = get_or_any xs i d e (omega arith)

pub places_at : (n : ℕ) (ks : List ℕ) (i d : ℕ) → ArePlaces n ks → i < length ks → get_or ks i d < n
places_at n [] i d h lt = absurd (omega arith)
places_at n (k ∷ ks) zero d h lt = h.0
places_at n (k ∷ ks) (suc i) d h lt = places_at n ks i d h.1 (omega arith)

places_set : (n : ℕ) (ks : List ℕ) (i k : ℕ) → ArePlaces n ks → k < n → ArePlaces n (set ks i k)
places_set n [] i k h lt = tt
places_set n (j ∷ ks) zero k h lt = (lt, h.1)
places_set n (j ∷ ks) (suc i) k h lt = (h.0, places_set n ks i k h.1 lt)

places_take : (n : ℕ) (ks : List ℕ) (i : ℕ) → ArePlaces n ks → ArePlaces n (take i ks)
places_take n [] zero h = tt
places_take n [] (suc i) h = tt
places_take n (k ∷ ks) zero h = tt
places_take n (k ∷ ks) (suc i) h = (h.0, places_take n ks i h.1)

pub places_less : (n : ℕ) (ks : List ℕ) (i x : ℕ) → ArePlaces n ks → i < length ks → ArePlaces n (swap_remove ks i x)
places_less n ks i x h lt =
    places_take n (set ks i (get_or ks (length ks - 1) x)) (length ks - 1)
    (places_set n ks i (get_or ks (length ks - 1) x) h (places_at n ks (length ks - 1) x h (omega arith)))

module _ (xs : List ℕ) (i x : ℕ) (lt : i < length xs) where
  abbrev last : ℕ
  last = get_or xs (length xs - 1) x

  less_long : length (swap_remove xs i x) ≡ length xs - 1
  less_long = length-take-le (length xs - 1) (set xs i last) (omega (arith, length-set xs i last))

  less_other : (j d : ℕ) → j < length xs - 1 → j ≢ i → get_or (swap_remove xs i x) j d ≡ get_or xs j d
  less_other j d in_less e = get_or-take (length xs - 1) (set xs i last) j d in_less ∙ get_or-set_other xs i j last d e

  less_same : (d : ℕ) → i < length xs - 1 → get_or (swap_remove xs i x) i d ≡ last
  less_same d in_less = get_or-take (length xs - 1) (set xs i last) i d in_less ∙ get_or-set_same xs i last d lt

  still-cases : (k p : ℕ) → p < length xs → p ≢ i → get_or xs p k ≡ k → (p < length xs - 1) ⊎ (length xs - 1 ≤ p) → Contains (swap_remove xs i x) k
  still-cases k p within d same (inl before) = (p, omega (arith, less_long), less_other p k before d ∙ same)
  still-cases k p within d same (inr after) =
      let here : length xs - 1 ≡ p = omega arith in
      let in_less : i < length xs - 1 = omega arith in
      (i, omega (arith, less_long), less_same k in_less ∙ get_or_any xs (length xs - 1) x k (omega arith) ∙ ap (λ (j : ℕ). get_or xs j k) here ∙ same)

  pub contains_still : (k : ℕ) → (k ≡ get_or xs i k → ⊥) → Contains xs k → Contains (swap_remove xs i x) k
  contains_still k d h =
      still-cases k h.0 h.1 (λ e. d (sym h.2 ∙ ap (λ (j : ℕ). get_or xs j k) e)) h.2 (cases_lt h.0 (length xs - 1))

-- guards of a clause that watches two literals that may be
joined_guards : (zs c : List ℤ) (low a : ℕ) (w : ℤ) → MayWatch zs c low w → Guards zs a (length zs) c w
joined_guards zs c low a w may e = true_all zs c (may.now (value_of-whole a zs w false e))

joined_below : (zs c : List ℤ) (low d : ℕ) (w : ℤ) → MayWatch zs c low w → d ≤ low → Guards zs d d c w
joined_below zs c low d w may le e = absurd (may.below d le e)

module _ (cs : List (List ℤ)) (t : Trail) (q : Bool) (fresh : List ℕ) (ls ms : List (List Watch)) (ps qs : List Pair) (h k : ℕ)
    (w : IsWatched cs t q fresh ls ps h) (index : IsIndex cs t ms qs) (others : KeepsOthers cs ls ms ps qs k) where
  guarded_other : (j a n : ℕ) → j ≢ k → IsGuarded cs t.literals ps a n j → IsGuarded cs t.literals qs a n j
  guarded_other j a n d g =
      subst (λ (p : Pair). Guards t.literals a n (literals_at cs j) p.first × Guards t.literals a n (literals_at cs j) p.second) (sym (others.pairs j d)) g

  kept_other : (j : ℕ) → j ≢ k → j < length cs → IsKept cs t ls ps h j → IsKept cs t ms qs h j
  kept_other j d lt e = record {
    attached = others.attached j d lt e.attached;
    now = guarded_other j h (length t.literals) d e.now;
    below = λ n a. guarded_other j n n d (e.below n a);
  }

  -- the clause stays fresh
  stays-cases : (j : ℕ) → (j ≡ k) ⊎ (j ≢ k) → Contains fresh k → j < length cs → Contains fresh j ⊎ IsHeld cs t ls ps h j →
      Contains fresh j ⊎ IsHeld cs t ms qs h j
  stays-cases j (inl same) there lt e = inl (subst (Contains fresh) (sym same) there)
  stays-cases j (inr d) there lt (inl e) = inl e
  stays-cases j (inr d) there lt (inr (inl e)) = inr (inl (kept_other j d lt e))
  stays-cases j (inr d) there lt (inr (inr e)) = inr (inr e)

  pub watched_stays : Contains fresh k → IsWatched cs t q fresh ms qs h
  watched_stays there = record {
    index = index;
    quiet_right = w.quiet_right;
    quiet_head = w.quiet_head;
    places = w.places;
    within = w.within;
    assigned = w.assigned;
    kept = λ j lt. stays-cases j (same_number j k) there lt (w.kept j lt);
  }

  -- it leaves
  module _ (low : ℕ) (joined : IsJoined cs t.literals ms qs k low) (lows : (d : ℕ) → IsAssigned t d → d ≤ low) where
    pub own_kept : IsKept cs t ms qs h k
    own_kept =
        let c = literals_at cs k in let p = pair_at qs k in
        let first : Guards t.literals h (length t.literals) c p.first = joined_guards t.literals c low h p.first joined.choice.first in
        let second : Guards t.literals h (length t.literals) c p.second = joined_guards t.literals c low h p.second joined.choice.second in
        record {
          attached = joined.attached;
          now = (first, second);
          below = λ d a. (joined_below t.literals c low d p.first joined.choice.first (lows d a), joined_below t.literals c low d p.second joined.choice.second (lows d a));
        }

  module _ (i x : ℕ) (lt : i < length fresh) (own : IsHeld cs t ms qs h k) where
    leaves-cases : (j : ℕ) → (j ≡ k) ⊎ (j ≢ k) → (j ≢ k → j ≡ get_or fresh i j → ⊥) → j < length cs → Contains fresh j ⊎ IsHeld cs t ls ps h j →
        Contains (swap_remove fresh i x) j ⊎ IsHeld cs t ms qs h j
    leaves-cases j (inl same) away less e = inr (subst (IsHeld cs t ms qs h) (sym same) own)
    leaves-cases j (inr d) away less (inl e) = inl (contains_still fresh i x lt j (away d) e)
    leaves-cases j (inr d) away less (inr (inl e)) = inr (inl (kept_other j d less e))
    leaves-cases j (inr d) away less (inr (inr e)) = inr (inr e)

    pub watched_leaves : ((j : ℕ) → k ≡ get_or fresh i j) → IsWatched cs t q (swap_remove fresh i x) ms qs h
    watched_leaves here = record {
      index = index;
      quiet_right = w.quiet_right;
      quiet_head = w.quiet_head;
      places = places_less (length cs) fresh i x w.places lt;
      within = w.within;
      assigned = w.assigned;
      kept = λ j less. leaves-cases j (same_number j k) (λ d e. d (e ∙ sym (here j))) less (w.kept j less);
    }

-- the place that is read
pub fresh_read : (fresh : List ℕ) (i k j : ℕ) → i < length fresh → k ≡ get_or fresh i k → k ≡ get_or fresh i j
fresh_read fresh i k j lt e = e ∙ get_or_any fresh i k j lt

pub fresh_there : (fresh : List ℕ) (i k : ℕ) → i < length fresh → k ≡ get_or fresh i k → Contains fresh k
fresh_there fresh i k lt e = (i, lt, sym e)

-- both lists and the pair are written
pub record Half (cs : List (List ℤ)) (t : Trail) (ls ms : List (List Watch)) (ps : List Pair) (k : ℕ) (p : Pair) : Type 0 where
  pub index : IsIndex cs t ms ps
  pub others : KeepsOthers cs ls ms ps ps k
  pub listed : (b j : ℕ) → IsListed ls b j → IsListed ms b j
  pub first : IsListed ms (place_of p.first) k

pub first_lt : (cs : List (List ℤ)) (t : Trail) (ls : List (List Watch)) (ps : List Pair) (k : ℕ) (z : ℤ) → IsIndex cs t ls ps → k < length cs →
    Contains (literals_at cs k) z → place_of z < length ls
first_lt cs t ls ps k z h lt there = omega (arith, place_of-lt t.variables z (literal_there t.variables cs k z h.right lt there), h.lists_long)

pub half_joined : (cs : List (List ℤ)) (t : Trail) (ls ms : List (List Watch)) (ps : List Pair) (k at : ℕ) (p : Pair) → IsIndex cs t ls ps → k < length cs →
    IsPair (literals_at cs k) p → at ≡ place_of p.first → ms ≡ set ls at (list_at ls at ++ record { clause = k; blocker = p.second } ∷ []) → Half cs t ls ms ps k p
half_joined cs t ls ms ps k at p h lt pair here e =
    let w : Watch = record { clause = k; blocker = p.second } in
    let own : IsEntry cs w = record { clause = lt; blocker = pair.second } in
    let within : at < length ls = omega (arith, here, first_lt cs t ls ps k p.first h lt pair.first) in
    record {
      index = index_entry cs t ls ms ps at w h within own e;
      others = keeps_others cs ls ms ps ps k (listed_entry cs t ls ms ps at w h within own e) (λ j d. refl);
      listed = listed_entry cs t ls ms ps at w h within own e;
      first = subst (λ (b : ℕ). IsListed ms b k) here (own_entry cs t ls ms ps at w h within own e);
    }

pub record Whole (cs : List (List ℤ)) (t : Trail) (ls ns : List (List Watch)) (ps qs : List Pair) (k : ℕ) : Type 0 where
  pub index : IsIndex cs t ns qs
  pub others : KeepsOthers cs ls ns ps qs k
  pub attached : IsAttached cs ns qs k

pub whole_joined : (cs : List (List ℤ)) (t : Trail) (ls ms ns : List (List Watch)) (ps qs : List Pair) (k at : ℕ) (p : Pair) → IsIndex cs t ls ps → k < length cs →
    IsPair (literals_at cs k) p → at ≡ place_of p.first → ms ≡ set ls at (list_at ls at ++ record { clause = k; blocker = p.second } ∷ []) →
    ns ≡ set ms (place_of p.second) (list_at ms (place_of p.second) ++ record { clause = k; blocker = p.first } ∷ []) → qs ≡ set ps k p → Whole cs t ls ns ps qs k
whole_joined cs t ls ms ns ps qs k at p h lt pair here e f g =
    let half = half_joined cs t ls ms ps k at p h lt pair here e in
    let w : Watch = record { clause = k; blocker = p.first } in
    let own : IsEntry cs w = record { clause = lt; blocker = pair.first } in
    let within = first_lt cs t ms ps k p.second half.index lt pair.second in
    let index = index_entry cs t ms ns ps (place_of p.second) w half.index within own f in
    let listed = listed_entry cs t ms ns ps (place_of p.second) w half.index within own f in
    record {
      index = index_pair cs t ns ps qs k p index lt pair g;
      others = keeps_others cs ls ns ps qs k (λ b j l. listed b j (half.listed b j l)) (pair_other cs t ns ps qs k p index lt pair g);
      attached = attached_pair cs ns qs k p (pair_own cs t ns ps qs k p index lt pair g) pair (listed (place_of p.first) k half.first)
          (own_entry cs t ms ns ps (place_of p.second) w half.index within own f);
    }

-- a clause that is true before any literal was assigned
pub watched_sure : (cs : List (List ℤ)) (t : Trail) (q : Bool) (fresh : List ℕ) (ls : List (List Watch)) (ps : List Pair) (h k i x : ℕ) →
    IsWatched cs t q fresh ls ps h → i < length fresh → HasTrue t.literals (literals_at cs k) → ((d : ℕ) → IsAssigned t d → ⊥) →
    ((j : ℕ) → k ≡ get_or fresh i j) → IsWatched cs t q (swap_remove fresh i x) ls ps h
watched_sure cs t q fresh ls ps h k i x w lt holds none here =
    watched_leaves cs t q fresh ls ls ps ps h k w w.index (keeps_others cs ls ls ps ps k (λ b j l. l) (λ j d. refl)) i x lt
    (inr (record { now = holds; below = λ d a. absurd (none d a) })) here

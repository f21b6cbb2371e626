-- Clauses, trail and watches go on together.
use Rattle.std.proofs.Common.{◌≡◌, ◌≢◌, ℕ, zero, suc, ◌+◌, ◌-◌, ◌<◌, ◌≤◌, ◌^◌, ◌⊎◌, inl, inr, Bool, false, ℤ, pos, List, [], ◌∷◌, ◌++◌, length, take, drop, get_or, set, Option, None, Some, slice_get, refl, sym, ap, subst, ◌∙◌, arith, length-append}
use Rattle.std.specs.Prelude.{Contains}
use Rattle.std.proofs.lemmas.Bool.{cases_lt}
use Rattle.std.proofs.lemmas.List.{get_or_append_left, get_or_push, take_at}
use Rattle.std.proofs.lemmas.List.Elements.{Contains-append_left, Contains-push}
use Rattle.std.proofs.lemmas.Option.{slice_get_within}
use Rattle.pg_cnf.specs.Literals.{IsClause, AreClauses}
use Rattle.pg_cnf.proofs.LiteralLemmas.{AreClauses-push}
use Rattle.pg_watch.specs.declared.lists.Watch.{Watch}
use Rattle.pg_watch.specs.declared.index.Pair.{Pair}
use Rattle.pg_watch.specs.Trail.{cut, pushed, value_of, AreSet, Extends, AreDerived, IsOpen, IsUnit, Trail, HasReason, HaveReasons, IsNumber, clause_at, IsTrail, IsQuiet}
use Rattle.pg_watch.specs.Fixes.{ArePlaces, AreOpen}
use Rattle.pg_watch.specs.Places.{place_of}
use Rattle.pg_watch.specs.Watching.{no_pair, literals_at, pair_at, entry_at, HasTrue, IsPair, Has, IsEntry, IsListed, Guards, IsGuarded, IsIndex}
use Rattle.pg_watch.specs.Runs.{Runs}
use Rattle.pg_watch.specs.Assigned.{IsAssigned}
use Rattle.pg_watch.specs.Watched.{IsKept, IsSure, IsHeld, IsWatched}
use Rattle.pg_watch.proofs.Steps.{length-reasons}
use Rattle.pg_watch.proofs.Keeps.{take-front, HasTrue-later}
use Rattle.pg_watch.proofs.Removes.{IsIndex-keeps}

clause_at-more : (cs : List (List ℤ)) (c : List ℤ) (k : ℕ) → IsNumber cs k → clause_at (cs ++ c ∷ []) k ≡ clause_at cs k
clause_at-more cs c k h = get_or_append_left cs (c ∷ []) [] (k - 1) (omega (arith, h.from_one, h.there))

IsNumber-more : (cs : List (List ℤ)) (c : List ℤ) (k : ℕ) → IsNumber cs k → IsNumber (cs ++ c ∷ []) k
IsNumber-more cs c k h = record { from_one = h.from_one; there = omega (arith, h.there, length-append cs (c ∷ [])) }

HasReason-more : (cs : List (List ℤ)) (c set : List ℤ) (z : ℤ) (r : Option ℕ) → HasReason cs set z r → HasReason (cs ++ c ∷ []) set z r
HasReason-more cs c set z None h = tt
HasReason-more cs c set z (Some k) h = record {
  numbered = IsNumber-more cs c k h.numbered;
  unit = subst (λ (xs : List ℤ). IsUnit set xs z) (sym (clause_at-more cs c k h.numbered)) h.unit;
}

HaveReasons-more : (cs : List (List ℤ)) (c before zs : List ℤ) (rs : List (Option ℕ)) → HaveReasons cs before zs rs → HaveReasons (cs ++ c ∷ []) before zs rs
HaveReasons-more cs c before [] rs h = h
HaveReasons-more cs c before (z ∷ zs) [] h = h
HaveReasons-more cs c before (z ∷ zs) (r ∷ rs) h = (HasReason-more cs c before z r h.0, HaveReasons-more cs c (before ++ z ∷ []) zs rs h.1)

IsTrail-more : (cs : List (List ℤ)) (c : List ℤ) (t : Trail) → IsTrail cs t → IsTrail (cs ++ c ∷ []) t
IsTrail-more cs c t h = record { set = h.set; reasoned = HaveReasons-more cs c [] t.literals t.reasons h.reasoned }

ArePlaces-more : (m n : ℕ) (ks : List ℕ) → m ≤ n → ArePlaces m ks → ArePlaces n ks
ArePlaces-more m n [] le h = tt
ArePlaces-more m n (k ∷ ks) le h = (omega (arith, h.0), ArePlaces-more m n ks le h.1)

ArePlaces-push : (n : ℕ) (ks : List ℕ) (k : ℕ) → ArePlaces n ks → k < n → ArePlaces n (ks ++ k ∷ [])
ArePlaces-push n [] k h lt = (lt, tt)
ArePlaces-push n (j ∷ ks) k h lt = (h.0, ArePlaces-push n ks k h.1 lt)

AreOpen-at : (cs : List (List ℤ)) (set : List ℤ) (ks : List ℕ) (i d : ℕ) → AreOpen cs set ks → i < length ks → IsOpen set (clause_at cs (get_or ks i d + 1))
AreOpen-at cs set [] i d h lt = absurd (omega arith)
AreOpen-at cs set (k ∷ ks) zero d h lt = h.0
AreOpen-at cs set (k ∷ ks) (suc i) d h lt = AreOpen-at cs set ks i d h.1 (omega arith)

pub AreOpen-contains : (cs : List (List ℤ)) (set : List ℤ) (ks : List ℕ) (k : ℕ) → AreOpen cs set ks → Contains ks k → IsOpen set (get_or cs k [])
AreOpen-contains cs set ks k h there =
    let e : get_or ks there.0 k + 1 - 1 ≡ k = omega (arith, there.2) in
    subst (λ (i : ℕ). IsOpen set (get_or cs i [])) e (AreOpen-at cs set ks there.0 k h there.1)

pub IsQuiet-each : (cs : List (List ℤ)) (set : List ℤ) → ((k : ℕ) → k < length cs → IsOpen set (get_or cs k [])) → IsQuiet cs set
IsQuiet-each [] set h = tt
IsQuiet-each (c ∷ cs) set h = (h 0 (omega arith), IsQuiet-each cs set (λ k lt. h (suc k) (omega arith)))

-- a clause more
literals_at-more : (cs : List (List ℤ)) (c : List ℤ) (k : ℕ) → k < length cs → literals_at (cs ++ c ∷ []) k ≡ literals_at cs k
literals_at-more cs c k lt = get_or_append_left cs (c ∷ []) [] k lt

pair_at-more : (ps : List Pair) (p : Pair) (k : ℕ) → k < length ps → pair_at (ps ++ p ∷ []) k ≡ pair_at ps k
pair_at-more ps p k lt = get_or_append_left ps (p ∷ []) no_pair k lt

module _ (cs : List (List ℤ)) (t : Trail) (ls : List (List Watch)) (ps : List Pair) (c : List ℤ) (h : IsIndex cs t ls ps) where
  entry-more : (w : Watch) → IsEntry cs w → IsEntry (cs ++ c ∷ []) w
  entry-more w e = record {
    clause = omega (arith, e.clause, length-append cs (c ∷ []));
    blocker = subst (λ (xs : List ℤ). Contains xs w.blocker) (sym (literals_at-more cs c w.clause e.clause)) e.blocker;
  }

  pair_same : (k : ℕ) → k < length cs → pair_at (ps ++ no_pair ∷ []) k ≡ pair_at ps k
  pair_same k lt = pair_at-more ps no_pair k (omega (arith, h.pairs_long))

  none_has : (w : ℤ) → w ≢ pos 0 → Has no_pair w → ⊥
  none_has w d (inl e) = d (sym e)
  none_has w d (inr e) = d (sym e)

  pairs-cases : (k : ℕ) → k < length cs + 1 → (k < length cs) ⊎ (length cs ≤ k) → (w : ℤ) → w ≢ pos 0 → Has (pair_at (ps ++ no_pair ∷ []) k) w →
      IsPair (literals_at (cs ++ c ∷ []) k) (pair_at (ps ++ no_pair ∷ []) k)
  pairs-cases k all (inl lt) w d has =
      let old = h.pairs k lt w d (subst (λ (p : Pair). Has p w) (pair_same k lt) has) in
      subst (λ (p : Pair). IsPair (literals_at (cs ++ c ∷ []) k) p) (sym (pair_same k lt))
      (subst (λ (xs : List ℤ). IsPair xs (pair_at ps k)) (sym (literals_at-more cs c k lt)) old)
  pairs-cases k all (inr le) w d has =
      let e : length ps ≡ k = omega (arith, h.pairs_long) in
      absurd (none_has w d (subst (λ (p : Pair). Has p w) (get_or_push ps no_pair no_pair k e) has))

  index-more : IsClause t.variables c → length cs + 1 < 2 ^ 32 - 1 → IsIndex (cs ++ c ∷ []) t ls (ps ++ no_pair ∷ [])
  index-more clause room = record {
    right = AreClauses-push t.variables cs c h.right clause;
    few = omega (arith, length-append cs (c ∷ []), room);
    trail = IsTrail-more cs c t h.trail;
    lists_long = h.lists_long;
    pairs_long = omega (arith, length-append cs (c ∷ []), length-append ps (no_pair ∷ []), h.pairs_long);
    entries = λ at j lt. entry-more (entry_at ls at j) (h.entries at j lt);
    pairs = λ k lt. pairs-cases k (omega (arith, lt, length-append cs (c ∷ []))) (cases_lt k (length cs));
  }

  guarded-more : (a n k : ℕ) → k < length cs → IsGuarded cs t.literals ps a n k → IsGuarded (cs ++ c ∷ []) t.literals (ps ++ no_pair ∷ []) a n k
  guarded-more a n k lt g =
      subst (λ (p : Pair). Guards t.literals a n (literals_at (cs ++ c ∷ []) k) p.first × Guards t.literals a n (literals_at (cs ++ c ∷ []) k) p.second) (sym (pair_same k lt))
      (subst (λ (xs : List ℤ). Guards t.literals a n xs (pair_at ps k).first × Guards t.literals a n xs (pair_at ps k).second) (sym (literals_at-more cs c k lt)) g)

  kept-more : (head k : ℕ) → k < length cs → IsKept cs t ls ps head k → IsKept (cs ++ c ∷ []) t ls (ps ++ no_pair ∷ []) head k
  kept-more head k lt e = record {
    attached = record {
      pair = subst (λ (p : Pair). IsPair (literals_at (cs ++ c ∷ []) k) p) (sym (pair_same k lt))
          (subst (λ (xs : List ℤ). IsPair xs (pair_at ps k)) (sym (literals_at-more cs c k lt)) e.attached.pair);
      first = subst (λ (p : Pair). IsListed ls (place_of p.first) k) (sym (pair_same k lt)) e.attached.first;
      second = subst (λ (p : Pair). IsListed ls (place_of p.second) k) (sym (pair_same k lt)) e.attached.second;
    };
    now = guarded-more head (length t.literals) k lt e.now;
    below = λ d is. guarded-more d d k lt (e.below d is);
  }

  sure-more : (k : ℕ) → k < length cs → IsSure cs t k → IsSure (cs ++ c ∷ []) t k
  sure-more k lt e = record {
    now = subst (HasTrue t.literals) (sym (literals_at-more cs c k lt)) e.now;
    below = λ d a. subst (HasTrue (take d t.literals)) (sym (literals_at-more cs c k lt)) (e.below d a);
  }

pub one_more : (cs : List (List ℤ)) (t : Trail) (q : Bool) (fresh : List ℕ) (ls : List (List Watch)) (ps : List Pair) (head : ℕ) (c : List ℤ) →
    IsWatched cs t q fresh ls ps head → IsClause t.variables c → length cs + 1 < 2 ^ 32 - 1 →
    IsWatched (cs ++ c ∷ []) t false (fresh ++ length cs ∷ []) ls (ps ++ no_pair ∷ []) head
one_more cs t q fresh ls ps head c h clause room = record {
  index = index-more cs t ls ps c h.index clause room;
  quiet_right = λ e. cc;
  quiet_head = λ e. cc;
  places = ArePlaces-push (length (cs ++ c ∷ [])) fresh (length cs)
      (ArePlaces-more (length cs) (length (cs ++ c ∷ [])) fresh (omega (arith, length-append cs (c ∷ []))) h.places)
      (omega (arith, length-append cs (c ∷ [])));
  within = h.within;
  assigned = h.assigned;
  kept = λ k lt. kept_all k (omega (arith, lt, length-append cs (c ∷ []))) (cases_lt k (length cs));
}
  where
    kept_old : (k : ℕ) → k < length cs → Contains fresh k ⊎ IsHeld cs t ls ps head k →
        Contains (fresh ++ length cs ∷ []) k ⊎ IsHeld (cs ++ c ∷ []) t ls (ps ++ no_pair ∷ []) head k
    kept_old k lt (inl e) = inl (Contains-append_left fresh (length cs ∷ []) k e)
    kept_old k lt (inr (inl e)) = inr (inl (kept-more cs t ls ps c h.index head k lt e))
    kept_old k lt (inr (inr e)) = inr (inr (sure-more cs t ls ps c h.index k lt e))

    kept_all : (k : ℕ) → k < length cs + 1 → (k < length cs) ⊎ (length cs ≤ k) →
        Contains (fresh ++ length cs ∷ []) k ⊎ IsHeld (cs ++ c ∷ []) t ls (ps ++ no_pair ∷ []) head k
    kept_all k all (inl lt) = kept_old k lt (h.kept k lt)
    kept_all k all (inr le) =
        let e : length cs ≡ k = omega arith in
        inl (subst (Contains (fresh ++ length cs ∷ [])) e (Contains-push fresh (length cs)))

pub not_quiet : (cs : List (List ℤ)) (t : Trail) (q : Bool) (fresh : List ℕ) (ls : List (List Watch)) (ps : List Pair) (head : ℕ) →
    IsWatched cs t q fresh ls ps head → IsWatched cs t false fresh ls ps head
not_quiet cs t q fresh ls ps head h = record {
  index = h.index;
  quiet_right = λ e. cc;
  quiet_head = λ e. cc;
  places = h.places;
  within = h.within;
  assigned = h.assigned;
  kept = h.kept;
}

-- back to where it was
pub cut-extends : (cs : List (List ℤ)) (t u : Trail) (n : ℕ) → IsTrail cs t → Extends t u → n ≡ length t.literals → cut u n ≡ t
cut-extends cs t u n h e long =
    let many : n ≡ length t.reasons = long ∙ sym (length-reasons cs [] t.literals t.reasons h.reasoned) in
    let zs : take n u.literals ≡ t.literals = ap (λ (i : ℕ). take i u.literals) long ∙ e.literals in
    let rs : take n u.reasons ≡ t.reasons = ap (λ (i : ℕ). take i u.reasons) many ∙ e.reasons in
    λ i. record { variables = e.variables i; literals = zs i; reasons = rs i }

pub cut-pushed : (cs : List (List ℤ)) (t : Trail) (z : ℤ) (r : Option ℕ) (n : ℕ) → IsTrail cs t → n ≡ length t.literals → cut (pushed t z r) n ≡ t
cut-pushed cs t z r n h long =
    let many : length t.reasons ≡ n = length-reasons cs [] t.literals t.reasons h.reasoned ∙ sym long in
    let zs : take n (t.literals ++ z ∷ []) ≡ t.literals = take_at t.literals (z ∷ []) n (sym long) in
    let rs : take n (t.reasons ++ r ∷ []) ≡ t.reasons = take_at t.reasons (r ∷ []) n many in
    λ i. record { variables = t.variables; literals = zs i; reasons = rs i }

AreSet-take : (n : ℕ) (before zs : List ℤ) (k : ℕ) → AreSet n before zs → AreSet n before (take k zs)
AreSet-take n before [] zero h = tt
AreSet-take n before [] (suc k) h = tt
AreSet-take n before (z ∷ zs) zero h = tt
AreSet-take n before (z ∷ zs) (suc k) h = (h.0, h.1, AreSet-take n (before ++ z ∷ []) zs k h.2)

HaveReasons-take : (cs : List (List ℤ)) (before zs : List ℤ) (rs : List (Option ℕ)) (k : ℕ) → HaveReasons cs before zs rs →
    HaveReasons cs before (take k zs) (take k rs)
HaveReasons-take cs before [] [] zero h = refl
HaveReasons-take cs before [] [] (suc k) h = refl
HaveReasons-take cs before [] (r ∷ rs) k h = cc
HaveReasons-take cs before (z ∷ zs) [] k h = absurd h
HaveReasons-take cs before (z ∷ zs) (r ∷ rs) zero h = refl
HaveReasons-take cs before (z ∷ zs) (r ∷ rs) (suc k) h = (h.0, HaveReasons-take cs (before ++ z ∷ []) zs rs k h.1)

pub IsTrail-cut : (cs : List (List ℤ)) (t : Trail) (n : ℕ) → IsTrail cs t → IsTrail cs (cut t n)
IsTrail-cut cs t n h = record {
  set = AreSet-take t.variables [] t.literals n h.set;
  reasoned = HaveReasons-take cs [] t.literals t.reasons n h.reasoned;
}

-- which places were assigned
AreDerived-at : (rs : List (Option ℕ)) (d : ℕ) → AreDerived rs → slice_get rs d ≡ Some None → ⊥
AreDerived-at [] d h e = cc
AreDerived-at (None ∷ rs) d h e = h.0
AreDerived-at (Some n ∷ rs) zero h e = cc
AreDerived-at (Some n ∷ rs) (suc d) h e = AreDerived-at rs d h.1 e

assigned-front : (rs us : List (Option ℕ)) (d : ℕ) → take (length rs) us ≡ rs → AreDerived (drop (length rs) us) → slice_get us d ≡ Some None →
    slice_get rs d ≡ Some None
assigned-front [] us d e h is = absurd (AreDerived-at us d h is)
assigned-front (r ∷ rs) [] d e h is = cc
assigned-front (r ∷ rs) (u ∷ us) zero e h is = let f : u ∷ take (length rs) us ≡ r ∷ rs = e in cc
assigned-front (r ∷ rs) (u ∷ us) (suc d) e h is =
    assigned-front rs us d (let f : u ∷ take (length rs) us ≡ r ∷ rs = e in cc) h is

pub assigned-before : (t u : Trail) (d : ℕ) → Extends t u → IsAssigned u d → IsAssigned t d
assigned-before t u d h is = assigned-front t.reasons u.reasons d h.reasons h.derived is

pub record Cut (rs : List (Option ℕ)) (n d : ℕ) : Type 0 where
  pub before : slice_get rs d ≡ Some None
  pub below : d < n

pub assigned-take : (rs : List (Option ℕ)) (n d : ℕ) → slice_get (take n rs) d ≡ Some None → Cut rs n d
assigned-take [] zero d is = cc
assigned-take [] (suc n) d is = cc
assigned-take (r ∷ rs) zero d is = cc
assigned-take (r ∷ rs) (suc n) zero is = record { before = is; below = omega arith }
assigned-take (r ∷ rs) (suc n) (suc d) is =
    let h = assigned-take rs n d is in record { before = h.before; below = omega (arith, h.below) }

pub assigned-push : (rs : List (Option ℕ)) (r : Option ℕ) (d : ℕ) → slice_get (rs ++ r ∷ []) d ≡ Some None → (slice_get rs d ≡ Some None) ⊎ (d ≡ length rs)
assigned-push [] r zero is = inr refl
assigned-push [] r (suc d) is = cc
assigned-push (q ∷ rs) r zero is = inl is
assigned-push (q ∷ rs) r (suc d) is = by (assigned-push rs r d is)
  where
    by : (slice_get rs d ≡ Some None) ⊎ (d ≡ length rs) → (slice_get (q ∷ rs) (suc d) ≡ Some None) ⊎ (suc d ≡ length (q ∷ rs))
    by (inl h) = inl h
    by (inr h) = inr (ap suc h)

pub assigned-within : (cs : List (List ℤ)) (t : Trail) (d : ℕ) → IsTrail cs t → IsAssigned t d → d < length t.literals
assigned-within cs t d h is =
    omega (arith, slice_get_within t.reasons d None is, length-reasons cs [] t.literals t.reasons h.reasoned)

-- the same literals before a place
pub guarded-same : (cs : List (List ℤ)) (xs ys : List ℤ) (ps : List Pair) (a n k : ℕ) → take a xs ≡ take a ys → take n xs ≡ take n ys →
    IsGuarded cs xs ps a n k → IsGuarded cs ys ps a n k
guarded-same cs xs ys ps a n k e f g =
    let first : Guards ys a n (literals_at cs k) (pair_at ps k).first =
    λ v. subst (λ (zs : List ℤ). HasTrue zs (literals_at cs k)) f (g.0 (ap (λ (zs : List ℤ). value_of zs (pair_at ps k).first) e ∙ v)) in
    let second : Guards ys a n (literals_at cs k) (pair_at ps k).second =
    λ v. subst (λ (zs : List ℤ). HasTrue zs (literals_at cs k)) f (g.1 (ap (λ (zs : List ℤ). value_of zs (pair_at ps k).second) e ∙ v)) in
    (first, second)

-- propagation went on
module _ (cs : List (List ℤ)) (t u : Trail) (q : Bool) (fresh : List ℕ) (ls ms : List (List Watch)) (ps qs : List Pair) (h i : ℕ)
    (w : IsWatched cs t q fresh ls ps h) (r : Runs cs t u ls ms ps qs h i) where
  kept-run : (k : ℕ) → k < length cs → Contains fresh k ⊎ IsHeld cs t ls ps h k → Contains fresh k ⊎ IsHeld cs u ms qs i k
  kept-run k lt (inl e) = inl e
  kept-run k lt (inr (inl e)) = inr (inl (record {
    attached = r.keeps.attached k lt e.attached;
    now = r.now k lt e.attached e.now;
    below = λ d is. (
        let old = assigned-before t u d r.keeps.steps.extends is in
        let less = assigned-within cs t d w.index.trail old in
        r.keeps.guarded k d d lt (omega arith) (omega arith) (e.below d old));
  }))
  kept-run k lt (inr (inr e)) = inr (inr (record {
    now = HasTrue-later t.literals u.literals (literals_at cs k) r.keeps.steps.extends.literals e.now;
    below = λ d a. (
        let before = assigned-before t u d r.keeps.steps.extends a in
        let less = assigned-within cs t d w.index.trail before in
        subst (λ (xs : List ℤ). HasTrue xs (literals_at cs k)) (sym (take-front d t.literals u.literals r.keeps.steps.extends.literals (omega arith))) (e.below d before));
  }))

  pub after_run : IsWatched cs u false fresh ms qs i
  after_run = record {
    index = IsIndex-keeps cs t u ls ms ps qs w.index r.keeps;
    quiet_right = λ e. cc;
    quiet_head = λ e. cc;
    places = w.places;
    within = r.within;
    assigned = λ d is. omega (arith, w.assigned d (assigned-before t u d r.keeps.steps.extends is), r.rises);
    kept = λ k lt. kept-run k lt (w.kept k lt);
  }

  -- and the trail goes back to where it was
  guarded-back : (a n k : ℕ) → k < length cs → a ≤ length t.literals → n ≤ length t.literals → IsGuarded cs t.literals ps a n k → IsGuarded cs t.literals qs a n k
  guarded-back a n k lt low high g =
      let e = r.keeps.steps.extends.literals in
      guarded-same cs u.literals t.literals qs a n k (take-front a t.literals u.literals e low) (take-front n t.literals u.literals e high)
      (r.keeps.guarded k a n lt low high g)

  kept-back : (k : ℕ) → k < length cs → Contains fresh k ⊎ IsHeld cs t ls ps h k → Contains fresh k ⊎ IsHeld cs t ms qs h k
  kept-back k lt (inl e) = inl e
  kept-back k lt (inr (inl e)) = inr (inl (record {
    attached = r.keeps.attached k lt e.attached;
    now = guarded-back h (length t.literals) k lt w.within (omega arith) e.now;
    below = λ d is. (
        let less = assigned-within cs t d w.index.trail is in
        guarded-back d d k lt (omega arith) (omega arith) (e.below d is));
  }))
  kept-back k lt (inr (inr e)) = inr (inr e)

  pub after_back : IsWatched cs t false fresh ms qs h
  after_back = record {
    index = record {
      right = w.index.right;
      few = w.index.few;
      trail = w.index.trail;
      lists_long = r.keeps.lists_long ∙ w.index.lists_long;
      pairs_long = r.keeps.pairs_long ∙ w.index.pairs_long;
      entries = r.keeps.entries w.index.entries;
      pairs = r.keeps.pairs w.index.pairs;
    };
    quiet_right = λ e. cc;
    quiet_head = λ e. cc;
    places = w.places;
    within = w.within;
    assigned = w.assigned;
    kept = λ k lt. kept-back k lt (w.kept k lt);
  }

-- another trail over the same variables
pub index-trail : (cs : List (List ℤ)) (t u : Trail) (ls : List (List Watch)) (ps : List Pair) → IsIndex cs t ls ps → u.variables ≡ t.variables → IsTrail cs u →
    IsIndex cs u ls ps
index-trail cs t u ls ps h e trail = record {
  right = subst (λ (n : ℕ). AreClauses n cs) (sym e) h.right;
  few = h.few;
  trail = trail;
  lists_long = omega (arith, h.lists_long, e);
  pairs_long = h.pairs_long;
  entries = h.entries;
  pairs = h.pairs;
}

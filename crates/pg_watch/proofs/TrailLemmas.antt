-- A literal is assigned, and an assigned one is undone.
use Rattle.std.proofs.Common.{◌≡◌, ℕ, zero, suc, ◌+◌, ◌-◌, ◌*◌, ◌<◌, ◌≤◌, ◌⊎◌, inl, inr, Bool, true, false, ℤ, List, [], ◌∷◌, ◌++◌, length, take, get_or, Option, None, Some, slice_get, length-append, refl, sym, ap, subst, ◌∙◌, arith}
use Rattle.std.specs.Prelude.{⊤, Contains, replicate, ◌^◌, Result, Ok, Err, OnOk, OnErr}
use Rattle.std.specs.declared.alloc.AllocError.{AllocError}
use Rattle.std.proofs.lemmas.Option.{slice_get-get_or}
use Rattle.pg_watch.specs.State.{State}
use Rattle.std.proofs.lemmas.List.{take_all, take-take, length-take-le, take-append-le}
use Rattle.pg_cnf.specs.Literals.{IsLiteral, IsClause}
use Rattle.pg_watch.specs.declared.lists.Watch.{Watch}
use Rattle.pg_watch.specs.declared.index.Pair.{Pair}
use Rattle.pg_watch.specs.Trail.{Trail, value_of, cut, pushed, IsTrail, AreSet, HaveReasons}
use Rattle.pg_watch.specs.Watching.{no_pair, literals_at, pair_at, list_at, HasTrue, Guards, IsGuarded}
use Rattle.pg_watch.specs.Runs.{IsNow}
use Rattle.pg_watch.specs.Assigned.{IsAssigned}
use Rattle.pg_watch.specs.Watched.{IsKept, IsSure, IsHeld, IsWatched}
use Rattle.pg_watch.proofs.Steps.{length-reasons, IsTrail-push}
use Rattle.pg_watch.proofs.Keeps.{HasTrue-whole}
use Rattle.pg_watch.proofs.RunLemmas.{true_all}
use Rattle.pg_watch.proofs.WatchedLemmas.{IsTrail-cut, Cut, assigned-take, assigned-push, assigned-within, guarded-same, index-trail, not_quiet, one_more}

-- guards under a longer trail
module _ (cs : List (List ℤ)) (xs ys : List ℤ) (ps : List Pair) (a k : ℕ) (front : take a xs ≡ take a ys)
    (more : HasTrue xs (literals_at cs k) → HasTrue ys (literals_at cs k)) where
  now-more : IsNow cs xs ps a k → IsNow cs ys ps a k
  now-more g =
      let c = literals_at cs k in
      let first : Guards ys a (length ys) c (pair_at ps k).first =
      λ v. true_all ys c (more (HasTrue-whole (length xs) xs c (g.0 (ap (λ (zs : List ℤ). value_of zs (pair_at ps k).first) front ∙ v)))) in
      let second : Guards ys a (length ys) c (pair_at ps k).second =
      λ v. true_all ys c (more (HasTrue-whole (length xs) xs c (g.1 (ap (λ (zs : List ℤ). value_of zs (pair_at ps k).second) front ∙ v)))) in
      (first, second)

module _ (cs : List (List ℤ)) (t u : Trail) (fresh : List ℕ) (ls : List (List Watch)) (ps : List Pair) (h : ℕ) (z : ℤ)
    (w : IsWatched cs t true fresh ls ps h) (is : u ≡ pushed t z None) where
  same_front : (a : ℕ) → a ≤ length t.literals → take a t.literals ≡ take a u.literals
  same_front a le = sym (ap (λ (s : Trail). take a s.literals) is ∙ take-append-le a t.literals (z ∷ []) le)

  later : (c : List ℤ) → HasTrue t.literals c → HasTrue u.literals c
  later c has = HasTrue-whole (length t.literals) u.literals c
      (subst (λ (xs : List ℤ). HasTrue xs c) (sym (take_all (length t.literals) t.literals (omega arith)) ∙ same_front (length t.literals) (omega arith)) has)

  below-cases : (k d : ℕ) → IsKept cs t ls ps h k → (IsAssigned t d) ⊎ (d ≡ length t.reasons) → IsGuarded cs u.literals ps d d k
  below-cases k d kept (inl old) =
      let lt = assigned-within cs t d w.index.trail old in
      guarded-same cs t.literals u.literals ps d d k (same_front d (omega arith)) (same_front d (omega arith)) (kept.below d old)
  below-cases k d kept (inr last) =
      let e : h ≡ d = omega (arith, last, w.quiet_head refl, length-reasons cs [] t.literals t.reasons w.index.trail.reasoned) in
      let whole : length t.literals ≡ d = omega (arith, e, w.quiet_head refl) in
      let here : IsGuarded cs t.literals ps d d k =
      subst (λ (n : ℕ). IsGuarded cs t.literals ps d n k) whole (subst (λ (a : ℕ). IsGuarded cs t.literals ps a (length t.literals) k) e kept.now) in
      guarded-same cs t.literals u.literals ps d d k (same_front d (omega arith)) (same_front d (omega arith)) here

  split : (d : ℕ) → IsAssigned u d → (IsAssigned t d) ⊎ (d ≡ length t.reasons)
  split d a = assigned-push t.reasons None d (subst (λ (s : Trail). IsAssigned s d) is a)

  sure-cases : (k d : ℕ) → IsSure cs t k → (IsAssigned t d) ⊎ (d ≡ length t.reasons) → HasTrue (take d u.literals) (literals_at cs k)
  sure-cases k d e (inl old) =
      let lt = assigned-within cs t d w.index.trail old in
      subst (λ (xs : List ℤ). HasTrue xs (literals_at cs k)) (same_front d (omega arith)) (e.below d old)
  sure-cases k d e (inr last) =
      let whole : length t.literals ≡ d = omega (arith, last, length-reasons cs [] t.literals t.reasons w.index.trail.reasoned) in
      let front : t.literals ≡ take d u.literals =
      sym (take_all d t.literals (omega arith)) ∙ same_front d (omega arith) in
      subst (λ (xs : List ℤ). HasTrue xs (literals_at cs k)) front e.now

  kept-assigned : (k : ℕ) → Contains fresh k ⊎ IsHeld cs t ls ps h k → Contains fresh k ⊎ IsHeld cs u ls ps h k
  kept-assigned k (inl e) = inl e
  kept-assigned k (inr (inl e)) = inr (inl (record {
    attached = e.attached;
    now = now-more cs t.literals u.literals ps h k (same_front h w.within) (later (literals_at cs k)) e.now;
    below = λ d a. below-cases k d e (split d a);
  }))
  kept-assigned k (inr (inr e)) = inr (inr (record { now = later (literals_at cs k) e.now; below = λ d a. sure-cases k d e (split d a) }))

  assigned-cases : (d : ℕ) → (IsAssigned t d) ⊎ (d ≡ length t.reasons) → d ≤ h
  assigned-cases d (inl old) = w.assigned d old
  assigned-cases d (inr last) =
      omega (arith, last, w.quiet_head refl, length-reasons cs [] t.literals t.reasons w.index.trail.reasoned)

  pub after_assign : IsLiteral t.variables z → value_of t.literals z ≡ None → IsWatched cs u false fresh ls ps h
  after_assign l unset = record {
    index = index-trail cs t u ls ps w.index (ap (λ (s : Trail). s.variables) is)
        (subst (IsTrail cs) (sym is) (IsTrail-push cs t z None w.index.trail l unset tt));
    quiet_right = λ e. cc;
    quiet_head = λ e. cc;
    places = w.places;
    within = omega (arith, w.within, ap (λ (s : Trail). length s.literals) is, length-append t.literals (z ∷ []));
    assigned = λ d a. assigned-cases d (split d a);
    kept = λ k lt. kept-assigned k (w.kept k lt);
  }

-- an assigned literal, and all after it, are undone
module _ (cs : List (List ℤ)) (t u : Trail) (q : Bool) (fresh : List ℕ) (ls : List (List Watch)) (ps : List Pair) (h n : ℕ)
    (w : IsWatched cs t q fresh ls ps h) (at : IsAssigned t n) (is : u ≡ cut t n) where
  under : n < length t.literals
  under = assigned-within cs t n w.index.trail at

  long : length u.literals ≡ n
  long = ap (λ (s : Trail). length s.literals) is ∙ length-take-le n t.literals (omega (arith, under))

  cut_front : (a : ℕ) → a ≤ n → take a t.literals ≡ take a u.literals
  cut_front a le = sym (ap (λ (s : Trail). take a s.literals) is ∙ take-take a n t.literals le)

  old : (d : ℕ) → IsAssigned u d → Cut t.reasons n d
  old d a = assigned-take t.reasons n d (subst (λ (s : Trail). IsAssigned s d) is a)

  kept-undone : (k : ℕ) → Contains fresh k ⊎ IsHeld cs t ls ps h k → Contains fresh k ⊎ IsHeld cs u ls ps n k
  kept-undone k (inl e) = inl e
  kept-undone k (inr (inl e)) = inr (inl (record {
    attached = e.attached;
    now = subst (λ (m : ℕ). IsGuarded cs u.literals ps n m k) (sym long)
        (guarded-same cs t.literals u.literals ps n n k (cut_front n (omega arith)) (cut_front n (omega arith)) (e.below n at));
    below = λ d a. (
        let before = old d a in
        guarded-same cs t.literals u.literals ps d d k (cut_front d (omega (arith, before.below))) (cut_front d (omega (arith, before.below))) (e.below d before.before));
  }))
  kept-undone k (inr (inr e)) = inr (inr (record {
    now = subst (λ (xs : List ℤ). HasTrue xs (literals_at cs k)) (sym (ap (λ (s : Trail). s.literals) is)) (e.below n at);
    below = λ d a. (
        let before = old d a in
        subst (λ (xs : List ℤ). HasTrue xs (literals_at cs k)) (cut_front d (omega (arith, before.below))) (e.below d before.before));
  }))

  pub after_undo : IsWatched cs u false fresh ls ps n
  after_undo = record {
    index = index-trail cs t u ls ps w.index (ap (λ (s : Trail). s.variables) is) (subst (IsTrail cs) (sym is) (IsTrail-cut cs t n w.index.trail));
    quiet_right = λ e. cc;
    quiet_head = λ e. cc;
    places = w.places;
    within = omega (arith, long);
    assigned = λ d a. omega (arith, (old d a).below);
    kept = λ k lt. kept-undone k (w.kept k lt);
  }

-- nothing yet
no_list : (n at : ℕ) → list_at (replicate n []) at ≡ []
no_list zero at = refl
no_list (suc n) zero = refl
no_list (suc n) (suc at) = no_list n at

length-replicate : (n : ℕ) → length (let xs : List (List Watch) = replicate n [] in xs) ≡ n
length-replicate zero = refl
length-replicate (suc n) = ap suc (length-replicate n)

pub empty : (t : Trail) (ls : List (List Watch)) (n : ℕ) → t.variables ≡ n → t.literals ≡ [] → t.reasons ≡ [] → ls ≡ replicate (2 * n + 2) [] →
    IsWatched [] t false [] ls [] 0
empty t ls n v e f g = record {
  index = record {
    right = tt;
    few = omega arith;
    trail = record {
      set = subst (λ (xs : List ℤ). AreSet t.variables [] xs) (sym e) tt;
      reasoned = subst (λ (xs : List ℤ). HaveReasons [] [] xs t.reasons) (sym e) f;
    };
    lists_long = omega (arith, ap length g, length-replicate (2 * n + 2), v);
    pairs_long = refl;
    entries = λ at j lt. absurd (omega (arith, lt, ap length (ap (λ (xs : List (List Watch)). list_at xs at) g ∙ no_list (2 * n + 2) at)));
    pairs = λ k lt. absurd (omega arith);
  };
  quiet_right = λ h. cc;
  quiet_head = λ h. cc;
  places = tt;
  within = omega arith;
  assigned = λ d a. absurd (let h : None ≡ Some None = ap (λ (rs : List (Option ℕ)). slice_get rs d) (sym f) ∙ a in cc);
  kept = λ k lt. absurd (omega arith);
}

pub assign_or_not : (r : Result ⊤ AllocError) (cs : List (List ℤ)) (t u : Trail) (q : Bool) (fresh : List ℕ) (ls : List (List Watch)) (ps : List Pair) (h : ℕ)
    (z : ℤ) (s : State) → IsWatched cs t q fresh ls ps h → (let inside : State = record { clauses = cs; trail = t; quiet = q } in inside ≡ s) →
    s.quiet ≡ true → IsLiteral s.trail.variables z → value_of s.trail.literals z ≡ None → OnOk r (u ≡ pushed t z None) → OnErr r (u ≡ t) →
    IsWatched cs u false fresh ls ps h
assign_or_not (Ok x) cs t u q fresh ls ps h z s w is quiet l unset ok err =
    after_assign cs t u fresh ls ps h z (subst (λ (b : Bool). IsWatched cs t b fresh ls ps h) (ap (λ (r : State). r.quiet) is ∙ quiet) w) ok
    (subst (λ (r : State). IsLiteral r.trail.variables z) (sym is) l) (subst (λ (r : State). value_of r.trail.literals z ≡ None) (sym is) unset)
assign_or_not (Err x) cs t u q fresh ls ps h z s w is quiet l unset ok err =
    subst (λ (v : Trail). IsWatched cs v false fresh ls ps h) (sym err) (not_quiet cs t q fresh ls ps h w)

pub one_more_alone : (cs ds : List (List ℤ)) (t : Trail) (q : Bool) (fresh more : List ℕ) (ls : List (List Watch)) (ps qs : List Pair) (h : ℕ) (c : List ℤ) (k : ℕ)
    (s : State) → IsWatched cs t q fresh ls ps h → (let inside : State = record { clauses = cs; trail = t; quiet = q } in inside ≡ s) →
    IsClause s.trail.variables c → length s.clauses + 1 < 2 ^ 32 - 1 → ds ≡ cs ++ c ∷ [] → more ≡ fresh ++ k ∷ [] → k ≡ length cs → qs ≡ ps ++ no_pair ∷ [] →
    IsWatched ds t false more ls qs h
one_more_alone cs ds t q fresh more ls ps qs h c k s w is clause_of_s room_in_s e f long g =
    let clause : IsClause t.variables c = subst (λ (r : State). IsClause r.trail.variables c) (sym is) clause_of_s in
    let room : length cs + 1 < 2 ^ 32 - 1 = subst (λ (r : State). length r.clauses + 1 < 2 ^ 32 - 1) (sym is) room_in_s in
    let all : more ≡ fresh ++ length cs ∷ [] = f ∙ ap (λ (i : ℕ). fresh ++ i ∷ []) long in
    subst (λ (xs : List (List ℤ)). IsWatched xs t false more ls qs h) (sym e)
    (subst (λ (ks : List ℕ). IsWatched (cs ++ c ∷ []) t false ks ls qs h) (sym all)
    (subst (λ (rs : List Pair). IsWatched (cs ++ c ∷ []) t false (fresh ++ length cs ∷ []) ls rs h) (sym g) (one_more cs t q fresh ls ps h c w clause room)))

-- what a caller knows of a place
pub is_assigned : (cs : List (List ℤ)) (t : Trail) (q : Bool) (s : State) (n : ℕ) → IsTrail cs t →
    (let inside : State = record { clauses = cs; trail = t; quiet = q } in inside ≡ s) → n < length s.trail.literals →
    get_or s.trail.reasons n None ≡ None → IsAssigned t n
is_assigned cs t q s n h is lt none =
    let within : n < length t.reasons =
    omega (arith, subst (λ (r : State). n < length r.trail.literals) (sym is) lt, length-reasons cs [] t.literals t.reasons h.reasoned) in
    slice_get-get_or t.reasons n None within ∙ ap (λ (r : Option ℕ). Some r) (subst (λ (r : State). get_or r.trail.reasons n None ≡ None) (sym is) none)

-- Steps of propagation keep the watches.
use Rattle.std.proofs.Common.{◌≡◌, ℕ, ◌≤◌, Bool, true, false, ℤ, List, ◌++◌, length, take, drop, Some, refl, sym, ap, subst, ◌∙◌, arith}
use Rattle.std.proofs.lemmas.List.{take-append-drop, take-take}
use Rattle.pg_watch.specs.declared.lists.Watch.{Watch}
use Rattle.pg_watch.specs.declared.index.Pair.{Pair}
use Rattle.pg_watch.specs.Trail.{Trail, value_of, IsTrail}
use Rattle.pg_watch.specs.Fixes.{Steps}
use Rattle.pg_watch.specs.Watching.{literals_at, pair_at, HasTrue, Guards, Keeps}
use Rattle.pg_watch.proofs.Values.{value_of-after_some}
use Rattle.pg_watch.proofs.Steps.{Steps-same, Steps-more, Extends-longer}

-- what is set stays set
pub value_of-later : (xs ys : List ℤ) (z : ℤ) (v : Bool) → take (length xs) ys ≡ xs → value_of xs z ≡ Some v → value_of ys z ≡ Some v
value_of-later xs ys z v e h =
    subst (λ (zs : List ℤ). value_of zs z ≡ Some v) (ap (λ zs. zs ++ drop (length xs) ys) (sym e) ∙ take-append-drop (length xs) ys)
    (value_of-after_some xs (drop (length xs) ys) z v h)

pub value_of-whole : (n : ℕ) (ys : List ℤ) (z : ℤ) (v : Bool) → value_of (take n ys) z ≡ Some v → value_of ys z ≡ Some v
value_of-whole n ys z v h =
    subst (λ (zs : List ℤ). value_of zs z ≡ Some v) (take-append-drop n ys) (value_of-after_some (take n ys) (drop n ys) z v h)

pub HasTrue-later : (xs ys c : List ℤ) → take (length xs) ys ≡ xs → HasTrue xs c → HasTrue ys c
HasTrue-later xs ys c e h = record { which = h.which; there = h.there; holds = value_of-later xs ys h.which true e h.holds }

pub HasTrue-whole : (n : ℕ) (ys c : List ℤ) → HasTrue (take n ys) c → HasTrue ys c
HasTrue-whole n ys c h = record { which = h.which; there = h.there; holds = value_of-whole n ys h.which true h.holds }

-- the first literals are those that they were
pub take-front : (n : ℕ) (xs ys : List ℤ) → take (length xs) ys ≡ xs → n ≤ length xs → take n ys ≡ take n xs
take-front n xs ys e le = sym (take-take n (length xs) ys le) ∙ ap (take n) e

module _ (cs : List (List ℤ)) where
  pub Keeps-trail : (s t : Trail) (ls : List (List Watch)) (ps : List Pair) → Steps cs s t → Keeps cs s t ls ls ps ps
  Keeps-trail s t ls ps steps = record {
    steps = steps;
    lists_long = refl;
    pairs_long = refl;
    entries = λ h. h;
    pairs = λ h. h;
    attached = λ k lt h. h;
    guarded = λ k h n lt low high guard. (
        let e = sym (take-front h s.literals t.literals steps.extends.literals low) in
        let f = sym (take-front n s.literals t.literals steps.extends.literals high) in
        let first : Guards t.literals h n (literals_at cs k) (pair_at ps k).first = λ v. subst (λ (xs : List ℤ). HasTrue xs (literals_at cs k)) f (guard.0 (ap (λ (xs : List ℤ). value_of xs (pair_at ps k).first) e ∙ v)) in
        let second : Guards t.literals h n (literals_at cs k) (pair_at ps k).second = λ v. subst (λ (xs : List ℤ). HasTrue xs (literals_at cs k)) f (guard.1 (ap (λ (xs : List ℤ). value_of xs (pair_at ps k).second) e ∙ v)) in
        (first, second));
    settled = λ k w lt false_before h has. HasTrue-later s.literals t.literals (literals_at cs k) steps.extends.literals (h has);
  }

  pub Keeps-same : (s : Trail) (ls : List (List Watch)) (ps : List Pair) → IsTrail cs s → Keeps cs s s ls ls ps ps
  Keeps-same s ls ps h = Keeps-trail s s ls ps (Steps-same cs s h)

  pub Keeps-more : (r s t : Trail) (ks ls ms : List (List Watch)) (os ps qs : List Pair) → Keeps cs r s ks ls os ps → Keeps cs s t ls ms ps qs →
      Keeps cs r t ks ms os qs
  Keeps-more r s t ks ls ms os ps qs h k = record {
    steps = Steps-more cs r s t h.steps k.steps;
    lists_long = k.lists_long ∙ h.lists_long;
    pairs_long = k.pairs_long ∙ h.pairs_long;
    entries = λ e. k.entries (h.entries e);
    pairs = λ e. k.pairs (h.pairs e);
    attached = λ i lt e. k.attached i lt (h.attached i lt e);
    guarded = λ i a n lt low high e. (
        let longer = Extends-longer r s h.steps.extends in
        k.guarded i a n lt (omega arith) (omega arith) (h.guarded i a n lt low high e));
    settled = λ i w lt e f. k.settled i w lt (value_of-later r.literals s.literals w false h.steps.extends.literals e) (h.settled i w lt e f);
  }

-- Where the head is at the end of the trail, a clause that is watched is open.
use Rattle.std.proofs.Common.{◌≡◌, ◌≢◌, ℕ, zero, suc, ◌<◌, ◌⊎◌, inl, inr, Bool, true, false, ℤ, List, [], ◌∷◌, length, take, get_or, None, Some, sym, ap, subst, ◌∙◌, arith}
use Rattle.std.specs.Prelude.{Contains}
use Rattle.std.proofs.lemmas.List.{take_all}
use Rattle.pg_watch.specs.declared.lists.Watch.{Watch}
use Rattle.pg_watch.specs.declared.index.Pair.{Pair}
use Rattle.pg_watch.specs.Trail.{Trail, value_of, AreFalse, AreFalseBut, IsFalsified, IsUnit, IsOpen, IsQuiet}
use Rattle.pg_watch.specs.Fixes.{AreOpen}
use Rattle.pg_watch.specs.Watching.{literals_at, pair_at, HasTrue, IsPair, Guards}
use Rattle.pg_watch.specs.Watched.{IsKept, IsHeld, IsWatched}
use Rattle.pg_watch.proofs.Tables.{same_or_not}
use Rattle.pg_watch.proofs.WatchedLemmas.{IsQuiet-each, AreOpen-contains}

false_at : (zs ys : List ℤ) (i : ℕ) (d : ℤ) → AreFalse zs ys → i < length ys → value_of zs (get_or ys i d) ≡ Some false
false_at zs [] i d h lt = absurd (omega arith)
false_at zs (y ∷ ys) zero d h lt = h.0
false_at zs (y ∷ ys) (suc i) d h lt = false_at zs ys i d h.1 (omega arith)

false_there : (zs ys : List ℤ) (y : ℤ) → AreFalse zs ys → Contains ys y → value_of zs y ≡ Some false
false_there zs ys y h there = subst (λ (x : ℤ). value_of zs x ≡ Some false) there.2 (false_at zs ys there.0 y h there.1)

but_at : (zs ys : List ℤ) (z : ℤ) (i : ℕ) (d : ℤ) → AreFalseBut zs z ys → i < length ys → get_or ys i d ≢ z → value_of zs (get_or ys i d) ≡ Some false
but_at zs [] z i d h lt e = absurd (omega arith)
but_at zs (y ∷ ys) z zero d h lt e = h.0 e
but_at zs (y ∷ ys) z (suc i) d h lt e = but_at zs ys z i d h.1 (omega arith) e

but_there : (zs ys : List ℤ) (z y : ℤ) → AreFalseBut zs z ys → Contains ys y → y ≢ z → value_of zs y ≡ Some false
but_there zs ys z y h there d =
    subst (λ (x : ℤ). value_of zs x ≡ Some false) there.2 (but_at zs ys z there.0 y h there.1 (λ e. d (sym there.2 ∙ e)))

-- a clause with a literal that is true
not_all_false : (zs c : List ℤ) → HasTrue zs c → AreFalse zs c → ⊥
not_all_false zs c h all = let f : Some true ≡ Some false = sym h.holds ∙ false_there zs c h.which all h.there in cc

not_but_one : (zs c : List ℤ) (z : ℤ) → HasTrue zs c → value_of zs z ≡ None → AreFalseBut zs z c → ⊥
not_but_one zs c z h unset others =
    let d : h.which ≢ z = λ e. (let f : Some true ≡ None = sym h.holds ∙ ap (value_of zs) e ∙ unset in cc) in
    let f : Some true ≡ Some false = sym h.holds ∙ but_there zs c z h.which others h.there d in cc

-- one that watches two literals, and has a true one where one of these is false
module _ (zs c : List ℤ) (p : Pair) (pair : IsPair c p) (first : value_of zs p.first ≡ Some false → HasTrue zs c)
    (second : value_of zs p.second ≡ Some false → HasTrue zs c) where
  never_falsified : IsFalsified zs c → ⊥
  never_falsified all = not_all_false zs c (first (false_there zs c p.first all pair.first)) all

  unit-cases : (z : ℤ) → IsUnit zs c z → (p.first ≡ z) ⊎ (p.first ≢ z) → (p.second ≡ z) ⊎ (p.second ≢ z) → ⊥
  unit-cases z u (inl e) (inl f) = pair.apart (e ∙ sym f)
  unit-cases z u (inl e) (inr d) = not_but_one zs c z (second (but_there zs c z p.second u.others pair.second d)) u.unset u.others
  unit-cases z u (inr d) other = not_but_one zs c z (first (but_there zs c z p.first u.others pair.first d)) u.unset u.others

  open_pair : IsOpen zs c
  open_pair = record {
    not_falsified = never_falsified;
    not_unit = λ z u. unit-cases z u (same_or_not p.first z) (same_or_not p.second z);
  }

whole_guard : (zs c : List ℤ) (h : ℕ) (w : ℤ) → h ≡ length zs → Guards zs h (length zs) c w → value_of zs w ≡ Some false → HasTrue zs c
whole_guard zs c h w e guard f =
    let all : take (length zs) zs ≡ zs = take_all (length zs) zs (omega arith) in
    let front : take h zs ≡ zs = ap (λ (i : ℕ). take i zs) e ∙ all in
    subst (λ (xs : List ℤ). HasTrue xs c) all (guard (ap (λ (xs : List ℤ). value_of xs w) front ∙ f))

kept_open : (cs : List (List ℤ)) (t : Trail) (ls : List (List Watch)) (ps : List Pair) (h k : ℕ) → IsKept cs t ls ps h k → h ≡ length t.literals →
    IsOpen t.literals (literals_at cs k)
kept_open cs t ls ps h k kept e =
    open_pair t.literals (literals_at cs k) (pair_at ps k) kept.attached.pair
    (whole_guard t.literals (literals_at cs k) h (pair_at ps k).first e kept.now.0)
    (whole_guard t.literals (literals_at cs k) h (pair_at ps k).second e kept.now.1)

open-cases : (cs : List (List ℤ)) (t : Trail) (fresh : List ℕ) (ls : List (List Watch)) (ps : List Pair) (h k : ℕ) → h ≡ length t.literals →
    AreOpen cs t.literals fresh → Contains fresh k ⊎ IsHeld cs t ls ps h k → IsOpen t.literals (literals_at cs k)
open-cases cs t fresh ls ps h k e all (inl there) = AreOpen-contains cs t.literals fresh k all there
open-cases cs t fresh ls ps h k e all (inr (inl kept)) = kept_open cs t ls ps h k kept e
open-cases cs t fresh ls ps h k e all (inr (inr sure)) = record {
  not_falsified = not_all_false t.literals (literals_at cs k) sure.now;
  not_unit = λ z u. not_but_one t.literals (literals_at cs k) z sure.now u.unset u.others;
}

pub nothing_left : (cs : List (List ℤ)) (t : Trail) (q : Bool) (fresh : List ℕ) (ls : List (List Watch)) (ps : List Pair) (h : ℕ) →
    IsWatched cs t q fresh ls ps h → h ≡ length t.literals → AreOpen cs t.literals fresh → IsQuiet cs t.literals
nothing_left cs t q fresh ls ps h w e all = IsQuiet-each cs t.literals (λ k lt. open-cases cs t fresh ls ps h k e all (w.kept k lt))

pub when_quiet : (cs : List (List ℤ)) (t : Trail) (q : Bool) (fresh : List ℕ) (ls : List (List Watch)) (ps : List Pair) (h : ℕ) →
    IsWatched cs t q fresh ls ps h → h ≡ length t.literals → AreOpen cs t.literals fresh → IsWatched cs t true fresh ls ps h
when_quiet cs t q fresh ls ps h w e all = record {
  index = w.index;
  quiet_right = λ f. nothing_left cs t q fresh ls ps h w e all;
  quiet_head = λ f. e;
  places = w.places;
  within = w.within;
  assigned = w.assigned;
  kept = w.kept;
}

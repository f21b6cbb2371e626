-- A clause leaves a list.
use Rattle.std.proofs.Common.{◌≡◌, ◌≢◌, ℕ, zero, suc, ◌-◌, ◌<◌, ◌≤◌, ◌⊎◌, inl, inr, ℤ, List, [], ◌∷◌, length, get_or, set, refl, sym, ap, subst, ◌∙◌, arith}
use Rattle.std.specs.List.{swap_remove}
use Rattle.std.proofs.lemmas.Bool.{cases_lt}
use Rattle.std.proofs.lemmas.List.{get_or-set_same, get_or-set_other, get_or-take, length-take-le, get_or_read}
use Rattle.std.proofs.Math.ListN.{length-set}
use Rattle.pg_cnf.specs.Literals.{IsLiteral, AreClauses}
use Rattle.pg_watch.specs.declared.lists.Watch.{Watch}
use Rattle.pg_watch.specs.declared.index.Pair.{Pair}
use Rattle.pg_watch.specs.Trail.{Trail}
use Rattle.pg_watch.specs.Places.{place_of}
use Rattle.pg_watch.specs.Watching.{no_watch, pair_at, list_at, entry_at, Has, IsEntry, AreEntries, IsListed, IsIndex, Keeps}
use Rattle.pg_watch.specs.Walks.{HasLeft}
use Rattle.pg_watch.specs.Visits.{HasMoved, HasStayed}
use Rattle.pg_watch.proofs.Tables.{place_of-same, place_of-lt}
use Rattle.pg_watch.proofs.Moves.{same_number}

-- one less, the last in its place
module _ (xs : List Watch) (i : ℕ) (w : Watch) (lt : i < length xs) where
  abbrev last : Watch
  last = get_or xs (length xs - 1) w

  length-less : length (swap_remove xs i w) ≡ length xs - 1
  length-less = length-take-le (length xs - 1) (set xs i last) (omega (arith, length-set xs i last))

  less-other : (j : ℕ) → j < length xs - 1 → j ≢ i → get_or (swap_remove xs i w) j no_watch ≡ get_or xs j no_watch
  less-other j in_less d = get_or-take (length xs - 1) (set xs i last) j no_watch in_less ∙ get_or-set_other xs i j last no_watch d

  less-same : i < length xs - 1 → get_or (swap_remove xs i w) i no_watch ≡ last
  less-same in_less = get_or-take (length xs - 1) (set xs i last) i no_watch in_less ∙ get_or-set_same xs i last no_watch lt

get_or-default : (xs : List Watch) (i : ℕ) (d e : Watch) → i < length xs → get_or xs i d ≡ get_or xs i e
get_or-default [] i d e lt = absurd (omega arith)
get_or-default (x ∷ xs) zero d e lt = refl
get_or-default (x ∷ xs) (suc i) d e lt = get_or-default xs i d e (omega arith)

module _ (ls ms : List (List Watch)) (at i : ℕ) (w : Watch) (within : at < length ls) (lt : i < length (list_at ls at))
    (e : ms ≡ set ls at (swap_remove (list_at ls at) i w)) where
  abbrev xs : List Watch
  xs = list_at ls at

  own : list_at ms at ≡ swap_remove xs i w
  own = ap (λ (ks : List (List Watch)). list_at ks at) e ∙ get_or-set_same ls at (swap_remove xs i w) [] within

  others : (b : ℕ) → b ≢ at → list_at ms b ≡ list_at ls b
  others b d = ap (λ (ks : List (List Watch)). list_at ks b) e ∙ get_or-set_other ls at b (swap_remove xs i w) [] d

  long : length (list_at ms at) ≡ length xs - 1
  long = ap length own ∙ length-less xs i w lt

  at_other : (j : ℕ) → j < length xs - 1 → j ≢ i → entry_at ms at j ≡ entry_at ls at j
  at_other j less d = ap (λ (ys : List Watch). get_or ys j no_watch) own ∙ less-other xs i w lt j less d

  at_same : i < length xs - 1 → entry_at ms at i ≡ entry_at ls at (length xs - 1)
  at_same less =
      ap (λ (ys : List Watch). get_or ys i no_watch) own ∙ less-same xs i w lt less ∙ get_or-default xs (length xs - 1) w no_watch (omega arith)

  -- another clause is still there
  still-cases : (k p : ℕ) → p < length xs → p ≢ i → (entry_at ls at p).clause ≡ k → (p < length xs - 1) ⊎ (length xs - 1 ≤ p) → IsListed ms at k
  still-cases k p less d same (inl before) =
      record { place = p; within = omega (arith, long); same = ap (λ (x : Watch). x.clause) (at_other p before d) ∙ same }
  still-cases k p less d same (inr after) =
      let here : length xs - 1 ≡ p = omega arith in
      let in_less : i < length xs - 1 = omega arith in
      record {
        place = i;
        within = omega (arith, long);
        same = ap (λ (x : Watch). x.clause) (at_same in_less ∙ ap (entry_at ls at) here) ∙ same;
      }

  not_there : (k : ℕ) → (k ≡ (entry_at ls at i).clause → ⊥) → (p : ℕ) → (entry_at ls at p).clause ≡ k → p ≡ i → ⊥
  not_there k d p same f = d (sym same ∙ ap (λ (j : ℕ). (entry_at ls at j).clause) f)

  listed_still : (k : ℕ) → (k ≡ (entry_at ls at i).clause → ⊥) → IsListed ls at k → IsListed ms at k
  listed_still k d h = still-cases k h.place h.within (not_there k d h.place h.same) h.same (cases_lt h.place (length xs - 1))

  listed-cases : (b k : ℕ) → (b ≡ at) ⊎ (b ≢ at) → (b ≡ at → k ≡ (entry_at ls at i).clause → ⊥) → IsListed ls b k → IsListed ms b k
  listed-cases b k (inl same) d h = subst (λ (c : ℕ). IsListed ms c k) (sym same) (listed_still k (d same) (subst (λ (c : ℕ). IsListed ls c k) same h))
  listed-cases b k (inr other) d h = record {
    place = h.place;
    within = subst (λ (ys : List Watch). h.place < length ys) (sym (others b other)) h.within;
    same = ap (λ (ys : List Watch). (get_or ys h.place no_watch).clause) (others b other) ∙ h.same;
  }

  pub listed-remove : (b k : ℕ) → (b ≡ at → k ≡ (entry_at ls at i).clause → ⊥) → IsListed ls b k → IsListed ms b k
  listed-remove b k = listed-cases b k (same_number b at)

  module _ (cs : List (List ℤ)) (all : AreEntries cs ls) where
    entry-cases : (j : ℕ) → j < length xs - 1 → (j ≡ i) ⊎ (j ≢ i) → IsEntry cs (entry_at ms at j)
    entry-cases j less (inl same) =
        subst (IsEntry cs) (sym (ap (entry_at ms at) same ∙ at_same (omega arith))) (all at (length xs - 1) (omega arith))
    entry-cases j less (inr d) = subst (IsEntry cs) (sym (at_other j less d)) (all at j (omega arith))

    list-cases : (b j : ℕ) → (b ≡ at) ⊎ (b ≢ at) → j < length (list_at ms b) → IsEntry cs (entry_at ms b j)
    list-cases b j (inl same) less =
        subst (λ (c : ℕ). IsEntry cs (entry_at ms c j)) (sym same)
        (entry-cases j (omega (arith, long, ap (λ (c : ℕ). length (list_at ms c)) same, less)) (same_number j i))
    list-cases b j (inr other) less =
        subst (λ (ys : List Watch). IsEntry cs (get_or ys j no_watch)) (sym (others b other))
        (all b j (subst (λ (ys : List Watch). j < length ys) (others b other) less))

    pub entries-remove : AreEntries cs ms
    entries-remove b j less = list-cases b j (same_number b at) less

  pub has_left : HasLeft ls ms at i
  has_left = record {
    shorter = omega (arith, long);
    before = λ j less. at_other j (omega arith) (λ f. omega (arith, f, less));
  }

-- and what the step before it kept is kept
pub Keeps-remove : (cs : List (List ℤ)) (s t : Trail) (ls ms ns : List (List Watch)) (ps qs : List Pair) (gone : ℤ) (i : ℕ) (w : Watch) →
    Keeps cs s t ls ms ps qs → place_of gone < length ms → i < length (list_at ms (place_of gone)) →
    (Has (pair_at qs (entry_at ms (place_of gone) i).clause) gone → ⊥) →
    ns ≡ set ms (place_of gone) (swap_remove (list_at ms (place_of gone)) i w) → Keeps cs s t ls ns ps qs
Keeps-remove cs s t ls ms ns ps qs gone i w h within lt away e = record {
  steps = h.steps;
  lists_long = ap length e ∙ length-set ms (place_of gone) (swap_remove (list_at ms (place_of gone)) i w) ∙ h.lists_long;
  pairs_long = h.pairs_long;
  entries = λ all. entries-remove ms ns (place_of gone) i w within lt e cs (h.entries all);
  pairs = h.pairs;
  attached = λ k less old. (
      let a = h.attached k less old in
      let leaves : (z : ℤ) → Has (pair_at qs k) z → place_of z ≡ place_of gone → k ≡ (entry_at ms (place_of gone) i).clause → ⊥ =
      λ z has f g. away (subst (λ (j : ℕ). Has (pair_at qs j) gone) g (subst (Has (pair_at qs k)) (place_of-same z gone f) has)) in
      record {
        pair = a.pair;
        first = listed-remove ms ns (place_of gone) i w within lt e (place_of (pair_at qs k).first) k (leaves (pair_at qs k).first (inl refl)) a.first;
        second = listed-remove ms ns (place_of gone) i w within lt e (place_of (pair_at qs k).second) k (leaves (pair_at qs k).second (inr refl)) a.second;
      });
  guarded = h.guarded;
  settled = h.settled;
}

-- what holds all the while
pub IsIndex-keeps : (cs : List (List ℤ)) (s t : Trail) (ls ms : List (List Watch)) (ps qs : List Pair) → IsIndex cs s ls ps → Keeps cs s t ls ms ps qs →
    IsIndex cs t ms qs
IsIndex-keeps cs s t ls ms ps qs h k = record {
  right = subst (λ (n : ℕ). AreClauses n cs) (sym k.steps.extends.variables) h.right;
  few = h.few;
  trail = k.steps.trail;
  lists_long = omega (arith, k.lists_long, h.lists_long, k.steps.extends.variables);
  pairs_long = k.pairs_long ∙ h.pairs_long;
  entries = k.entries h.entries;
  pairs = k.pairs h.pairs;
}

-- a step of a walk that takes a clause from the list
pub record StepMoved (cs : List (List ℤ)) (s t : Trail) (ls ns : List (List Watch)) (ps qs : List Pair) (gone : ℤ) (at : ℕ) : Type 0 where
  pub keeps : Keeps cs s t ls ns ps qs
  pub left : HasLeft ls ns (place_of gone) at

pub watch_read : (ls : List (List Watch)) (place at : ℕ) (gone : ℤ) (watch : Watch) → at < length (list_at ls (place_of gone)) → place ≡ place_of gone →
    watch ≡ get_or (list_at ls place) at watch → watch ≡ entry_at ls (place_of gone) at
watch_read ls place at gone watch lt e f =
    get_or_read (list_at ls (place_of gone)) at watch lt (f ∙ ap (λ (p : ℕ). get_or (list_at ls p) at watch) e) no_watch

pub step_moved : (cs : List (List ℤ)) (s t : Trail) (ls ms ns : List (List Watch)) (ps qs : List Pair) (gone : ℤ) (place at : ℕ) (watch w : Watch) →
    IsIndex cs s ls ps → IsLiteral s.variables gone → Keeps cs s t ls ms ps qs → at < length (list_at ls (place_of gone)) → place ≡ place_of gone →
    watch ≡ get_or (list_at ls place) at watch → HasMoved ls ms qs gone watch.clause → ns ≡ set ms place (swap_remove (list_at ms place) at w) →
    StepMoved cs s t ls ns ps qs gone at
step_moved cs s t ls ms ns ps qs gone place at watch w h l k lt e f moved g =
    let within : place_of gone < length ms = omega (arith, k.lists_long, h.lists_long, place_of-lt s.variables gone l) in
    let less : at < length (list_at ms (place_of gone)) = omega (arith, ap length moved.list, lt) in
    let here : ns ≡ set ms (place_of gone) (swap_remove (list_at ms (place_of gone)) at w) = g ∙ ap (λ (p : ℕ). set ms p (swap_remove (list_at ms p) at w)) e in
    let read : entry_at ms (place_of gone) at ≡ watch =
    ap (λ (xs : List Watch). get_or xs at no_watch) moved.list ∙ sym (watch_read ls place at gone watch lt e f) in
    let left = has_left ms ns (place_of gone) at w within less here in
    record {
      keeps = Keeps-remove cs s t ls ms ns ps qs gone at w k within less
          (λ has. moved.away (subst (λ (x : Watch). Has (pair_at qs x.clause) gone) read has)) here;
      left = record {
        shorter = omega (arith, left.shorter, ap length moved.list);
        before = λ i lower. left.before i lower ∙ ap (λ (xs : List Watch). get_or xs i no_watch) moved.list;
      };
    }

pub step_stayed : (cs : List (List ℤ)) (zs : List ℤ) (ls ms : List (List Watch)) (qs : List Pair) (gone : ℤ) (place at : ℕ) (watch : Watch) →
    at < length (list_at ls (place_of gone)) → place ≡ place_of gone → watch ≡ get_or (list_at ls place) at watch →
    HasStayed cs zs ls ms qs gone watch.clause → HasStayed cs zs ls ms qs gone (entry_at ls (place_of gone) at).clause
step_stayed cs zs ls ms qs gone place at watch lt e f h =
    subst (λ (x : Watch). HasStayed cs zs ls ms qs gone x.clause) (watch_read ls place at gone watch lt e f) h

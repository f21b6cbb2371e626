-- A clause watches another literal.
use Rattle.std.proofs.Common.{◌≡◌, ◌≢◌, ℕ, ◌+◌, ◌<◌, ◌≤◌, ◌⊎◌, inl, inr, true, false, ℤ, pos, List, [], ◌∷◌, ◌++◌, length, get_or, set, eqb, Some, refl, sym, ap, subst, ◌∙◌, arith, length-append}
use Rattle.std.specs.Prelude.{Contains}
use Rattle.std.proofs.lemmas.Bool.{cases_lt}
use Rattle.std.proofs.lemmas.Bool.Decides.{eqb_tells}
use Rattle.std.proofs.lemmas.List.{get_or-set_same, get_or-set_other, get_or_append_left, get_or_push}
use Rattle.std.proofs.Math.ListN.{length-set}
use Rattle.pg_watch.specs.declared.lists.Watch.{Watch}
use Rattle.pg_watch.specs.declared.index.Pair.{Pair}
use Rattle.pg_watch.specs.Trail.{Trail, value_of, IsTrail}
use Rattle.pg_watch.specs.Places.{place_of}
use Rattle.pg_watch.specs.Watching.{no_pair, no_watch, literals_at, pair_at, list_at, entry_at, HasTrue, IsPair, Has, ArePairs, IsEntry, AreEntries, IsListed, IsAttached, Guards, IsGuarded, IsSettled, Keeps}
use Rattle.pg_watch.proofs.Keeps.{value_of-whole}
use Rattle.pg_watch.proofs.Steps.{Steps-same}

pub same_number : (m n : ℕ) → (m ≡ n) ⊎ (m ≢ n)
same_number m n = by (eqb_tells m n)
  where
    by : ((eqb m n ≡ true) × (m ≡ n)) ⊎ ((eqb m n ≡ false) × (m ≢ n)) → (m ≡ n) ⊎ (m ≢ n)
    by (inl h) = inl h.1
    by (inr h) = inr h.1

-- one more in a list
module _ (ls : List (List Watch)) (at : ℕ) (w : Watch) (lt : at < length ls) where
  abbrev pub pushed_to : List (List Watch)
  pushed_to = set ls at (list_at ls at ++ w ∷ [])

  list-own : list_at pushed_to at ≡ list_at ls at ++ w ∷ []
  list-own = get_or-set_same ls at (list_at ls at ++ w ∷ []) [] lt

  pub list-other : (b : ℕ) → b ≢ at → list_at pushed_to b ≡ list_at ls b
  list-other b d = get_or-set_other ls at b (list_at ls at ++ w ∷ []) [] d

  listed-cases : (b k : ℕ) → (b ≡ at) ⊎ (b ≢ at) → IsListed ls b k → IsListed pushed_to b k
  listed-cases b k (inl e) h =
      let e-list : list_at ls b ≡ list_at ls at = ap (list_at ls) e in
      let own : list_at pushed_to b ≡ list_at ls b ++ w ∷ [] = ap (list_at pushed_to) e ∙ list-own ∙ ap (λ xs. xs ++ w ∷ []) (sym e-list) in
      record {
        place = h.place;
        within = omega (arith, ap length own, length-append (list_at ls b) (w ∷ []), h.within);
        same = ap (λ (xs : List Watch). (get_or xs h.place no_watch).clause) own
            ∙ ap (λ (x : Watch). x.clause) (get_or_append_left (list_at ls b) (w ∷ []) no_watch h.place h.within) ∙ h.same;
      }
  listed-cases b k (inr d) h = record {
    place = h.place;
    within = subst (λ (xs : List Watch). h.place < length xs) (sym (list-other b d)) h.within;
    same = ap (λ (xs : List Watch). (get_or xs h.place no_watch).clause) (list-other b d) ∙ h.same;
  }

  pub IsListed-push : (b k : ℕ) → IsListed ls b k → IsListed pushed_to b k
  IsListed-push b k h = listed-cases b k (same_number b at) h

  pub IsListed-own : IsListed pushed_to at w.clause
  IsListed-own = record {
    place = length (list_at ls at);
    within = omega (arith, ap length list-own, length-append (list_at ls at) (w ∷ []));
    same = ap (λ (xs : List Watch). (get_or xs (length (list_at ls at)) no_watch).clause) list-own
        ∙ ap (λ (x : Watch). x.clause) (get_or_push (list_at ls at) w no_watch (length (list_at ls at)) refl);
  }

  module _ (cs : List (List ℤ)) (own : IsEntry cs w) (all : AreEntries cs ls) where
    entry-place : (j : ℕ) → j < length (list_at ls at) + 1 → (j < length (list_at ls at)) ⊎ (length (list_at ls at) ≤ j) →
        IsEntry cs (get_or (list_at ls at ++ w ∷ []) j no_watch)
    entry-place j le (inl less) =
        subst (IsEntry cs) (sym (get_or_append_left (list_at ls at) (w ∷ []) no_watch j less)) (all at j less)
    entry-place j le (inr more) =
        let e : length (list_at ls at) ≡ j = omega arith in
        subst (IsEntry cs) (sym (get_or_push (list_at ls at) w no_watch j e)) own

    entry-cases : (b j : ℕ) → (b ≡ at) ⊎ (b ≢ at) → j < length (list_at pushed_to b) → IsEntry cs (entry_at pushed_to b j)
    entry-cases b j (inl e) less =
        let here : list_at pushed_to b ≡ list_at ls at ++ w ∷ [] = ap (list_at pushed_to) e ∙ list-own in
        subst (λ (xs : List Watch). IsEntry cs (get_or xs j no_watch)) (sym here)
        (entry-place j (omega (arith, ap length here, length-append (list_at ls at) (w ∷ []), less)) (cases_lt j (length (list_at ls at))))
    entry-cases b j (inr d) less =
        subst (λ (xs : List Watch). IsEntry cs (get_or xs j no_watch)) (sym (list-other b d))
        (all b j (subst (λ (xs : List Watch). j < length xs) (list-other b d) less))

    pub AreEntries-push : AreEntries cs pushed_to
    AreEntries-push b j less = entry-cases b j (same_number b at) less

-- a clause watches the literal that it watched beside one that is false, and another that is not false
pub record IsMove (cs : List (List ℤ)) (zs : List ℤ) (ls ms : List (List Watch)) (ps qs : List Pair) (k : ℕ) (gone other next : ℤ) : Type 0 where
  pub clause : k < length cs
  pub paired : k < length ps
  pub place : place_of next < length ls
  pub lists : ms ≡ set ls (place_of next) (list_at ls (place_of next) ++ record { clause = k; blocker = other } ∷ [])
  pub pairs : qs ≡ set ps k (record { first = other; second = next })
  pub old : Has (pair_at ps k) other
  pub old_pair : IsPair (literals_at cs k) (pair_at ps k)
  pub next_there : Contains (literals_at cs k) next
  pub next_other : next ≢ other
  pub next_open : value_of zs next ≢ Some false

pub has_there : (c : List ℤ) (p : Pair) (w : ℤ) → IsPair c p → Has p w → Contains c w
has_there c p w h (inl e) = subst (Contains c) e h.first
has_there c p w h (inr e) = subst (Contains c) e h.second

pub has_listed : (cs : List (List ℤ)) (ls : List (List Watch)) (ps : List Pair) (k : ℕ) (w : ℤ) → IsAttached cs ls ps k → Has (pair_at ps k) w →
    IsListed ls (place_of w) k
has_listed cs ls ps k w h (inl e) = subst (λ (x : ℤ). IsListed ls (place_of x) k) e h.first
has_listed cs ls ps k w h (inr e) = subst (λ (x : ℤ). IsListed ls (place_of x) k) e h.second

pub has_guards : (cs : List (List ℤ)) (zs : List ℤ) (ps : List Pair) (h n k : ℕ) (w : ℤ) → IsGuarded cs zs ps h n k → Has (pair_at ps k) w →
    Guards zs h n (literals_at cs k) w
has_guards cs zs ps h n k w g (inl e) = subst (λ (x : ℤ). Guards zs h n (literals_at cs k) x) e g.0
has_guards cs zs ps h n k w g (inr e) = subst (λ (x : ℤ). Guards zs h n (literals_at cs k) x) e g.1

has_same : (p : Pair) (v w : ℤ) → Has p v → v ≡ w → Has p w
has_same p v w (inl e) f = inl (e ∙ f)
has_same p v w (inr e) f = inr (e ∙ f)

module _ (cs : List (List ℤ)) (zs : List ℤ) (ls ms : List (List Watch)) (ps qs : List Pair) (k : ℕ) (gone other next : ℤ)
    (m : IsMove cs zs ls ms ps qs k gone other next) where
  abbrev entry : Watch
  entry = record { clause = k; blocker = other }

  abbrev both : Pair
  both = record { first = other; second = next }

  abbrev moved : List (List Watch)
  moved = pushed_to ls (place_of next) entry m.place

  pair-own : pair_at qs k ≡ both
  pair-own = ap (λ (xs : List Pair). pair_at xs k) m.pairs ∙ get_or-set_same ps k both no_pair m.paired

  pair-other : (i : ℕ) → i ≢ k → pair_at qs i ≡ pair_at ps i
  pair-other i d = ap (λ (xs : List Pair). pair_at xs i) m.pairs ∙ get_or-set_other ps k i both no_pair d

  both_pair : IsPair (literals_at cs k) both
  both_pair = record {
    first = has_there (literals_at cs k) (pair_at ps k) other m.old_pair m.old;
    second = m.next_there;
    apart = λ e. m.next_other (sym e);
  }

  pairs-cases : ArePairs cs ps → (i : ℕ) → (i ≡ k) ⊎ (i ≢ k) → i < length cs → (w : ℤ) → w ≢ pos 0 → Has (pair_at qs i) w →
      IsPair (literals_at cs i) (pair_at qs i)
  pairs-cases h i (inl e) lt w d has =
      subst (λ (j : ℕ). IsPair (literals_at cs j) (pair_at qs j)) (sym e) (subst (IsPair (literals_at cs k)) (sym pair-own) both_pair)
  pairs-cases h i (inr d) lt w e has =
      subst (IsPair (literals_at cs i)) (sym (pair-other i d)) (h i lt w e (subst (λ (p : Pair). Has p w) (pair-other i d) has))

  listed : (b i : ℕ) → IsListed ls b i → IsListed ms b i
  listed b i h = subst (λ (xs : List (List Watch)). IsListed xs b i) (sym m.lists) (IsListed-push ls (place_of next) entry m.place b i h)

  listed_own : IsListed ms (place_of next) k
  listed_own = subst (λ (xs : List (List Watch)). IsListed xs (place_of next) k) (sym m.lists) (IsListed-own ls (place_of next) entry m.place)

  attached-cases : (i : ℕ) → (i ≡ k) ⊎ (i ≢ k) → IsAttached cs ls ps i → IsAttached cs ms qs i
  attached-cases i (inl e) h =
      let old : IsAttached cs ls ps k = subst (IsAttached cs ls ps) e h in
      subst (IsAttached cs ms qs) (sym e) (record {
        pair = subst (IsPair (literals_at cs k)) (sym pair-own) both_pair;
        first = subst (λ (p : Pair). IsListed ms (place_of p.first) k) (sym pair-own) (listed (place_of other) k (has_listed cs ls ps k other old m.old));
        second = subst (λ (p : Pair). IsListed ms (place_of p.second) k) (sym pair-own) listed_own;
      })
  attached-cases i (inr d) h = record {
    pair = subst (IsPair (literals_at cs i)) (sym (pair-other i d)) h.pair;
    first = subst (λ (p : Pair). IsListed ms (place_of p.first) i) (sym (pair-other i d)) (listed (place_of (pair_at ps i).first) i h.first);
    second = subst (λ (p : Pair). IsListed ms (place_of p.second) i) (sym (pair-other i d)) (listed (place_of (pair_at ps i).second) i h.second);
  }

  guards_next : (h n : ℕ) → Guards zs h n (literals_at cs k) next
  guards_next h n e = absurd (m.next_open (value_of-whole h zs next false e))

  guarded-cases : (i h n : ℕ) → (i ≡ k) ⊎ (i ≢ k) → IsGuarded cs zs ps h n i → IsGuarded cs zs qs h n i
  guarded-cases i h n (inl e) g =
      let old : IsGuarded cs zs ps h n k = subst (IsGuarded cs zs ps h n) e g in
      let first : Guards zs h n (literals_at cs k) other = has_guards cs zs ps h n k other old m.old in
      subst (IsGuarded cs zs qs h n) (sym e)
      (subst (λ (p : Pair). Guards zs h n (literals_at cs k) p.first × Guards zs h n (literals_at cs k) p.second) (sym pair-own) (first, guards_next h n))
  guarded-cases i h n (inr d) g =
      subst (λ (p : Pair). Guards zs h n (literals_at cs i) p.first × Guards zs h n (literals_at cs i) p.second) (sym (pair-other i d)) g

  settled-both : (w : ℤ) → value_of zs w ≡ Some false → IsSettled cs zs ps w k → Has both w → HasTrue zs (literals_at cs k)
  settled-both w f s (inl e) = s (has_same (pair_at ps k) other w m.old e)
  settled-both w f s (inr e) = absurd (m.next_open (ap (value_of zs) e ∙ f))

  settled-cases : (i : ℕ) (w : ℤ) → (i ≡ k) ⊎ (i ≢ k) → value_of zs w ≡ Some false → IsSettled cs zs ps w i → IsSettled cs zs qs w i
  settled-cases i w (inl e) f s has =
      subst (λ (j : ℕ). HasTrue zs (literals_at cs j)) (sym e)
      (settled-both w f (subst (IsSettled cs zs ps w) e s) (subst (λ (p : Pair). Has p w) (ap (pair_at qs) e ∙ pair-own) has))
  settled-cases i w (inr d) f s has = s (subst (λ (p : Pair). Has p w) (pair-other i d) has)

  -- what it leaves as it was
  pub Keeps-move : (t : Trail) → t.literals ≡ zs → IsTrail cs t → Keeps cs t t ls ms ps qs
  Keeps-move t same h = record {
    steps = Steps-same cs t h;
    lists_long = ap length m.lists ∙ length-set ls (place_of next) (list_at ls (place_of next) ++ entry ∷ []);
    pairs_long = ap length m.pairs ∙ length-set ps k both;
    entries = λ all. subst (AreEntries cs) (sym m.lists)
        (AreEntries-push ls (place_of next) entry m.place cs (record { clause = m.clause; blocker = both_pair.first }) all);
    pairs = λ all i. pairs-cases all i (same_number i k);
    attached = λ i lt. attached-cases i (same_number i k);
    guarded = λ i a n lt low high.
        subst (λ (xs : List ℤ). IsGuarded cs xs ps a n i → IsGuarded cs xs qs a n i) (sym same) (guarded-cases i a n (same_number i k));
    settled = λ i w lt.
        subst (λ (xs : List ℤ). value_of xs w ≡ Some false → IsSettled cs xs ps w i → IsSettled cs xs qs w i) (sym same)
        (settled-cases i w (same_number i k));
  }

  -- it does not watch the literal that is false
  pub settled-moved : value_of zs gone ≡ Some false → other ≢ gone → Has (pair_at qs k) gone → ⊥
  settled-moved f d has = by (subst (λ (p : Pair). Has p gone) pair-own has)
    where
      by : Has both gone → ⊥
      by (inl e) = d e
      by (inr e) = m.next_open (ap (value_of zs) e ∙ f)

  -- nor is the list of that literal written
  pub list-moved : value_of zs gone ≡ Some false → (place_of gone ≡ place_of next → gone ≡ next) → list_at ms (place_of gone) ≡ list_at ls (place_of gone)
  list-moved f same =
      ap (λ (xs : List (List Watch)). list_at xs (place_of gone)) m.lists
      ∙ list-other ls (place_of next) entry m.place (place_of gone) (λ e. m.next_open (ap (value_of zs) (sym (same e)) ∙ f))

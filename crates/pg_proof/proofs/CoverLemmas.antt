-- A clause that is covered hangs in the list of one of the literals.
use Rattle.std.proofs.Common.{◌≡◌, ◌≢◌, ℕ, zero, suc, ◌+◌, ◌-◌, ◌<◌, ◌≤◌, Bool, true, false, ◌||◌, ◌&&◌, eqb, List, [], ◌∷◌, ◌++◌, length, get_or, take, set, replicate, Option, Some, None, slice_get, refl, sym, ap, subst, ◌∙◌, arith, ℤ}
use Rattle.std.specs.Option.{option_and_then}
use Rattle.std.specs.List.{list_any, list_all}
use Rattle.std.specs.Ordering.{int_eq}
use Rattle.std.specs.Prelude.{nat_eq}
use Rattle.std.proofs.lemmas.List.{length-append, length-set, length-replicate, length-take-le, take_all, take_more, get_or-set_same, get_or-set_other}
use Rattle.std.proofs.lemmas.Option.{same_Some, slice_get-get_or}
use Rattle.std.proofs.lemmas.Bool.Decides.{Decides-int_eq, nat_tests}
use Rattle.pg_proof.specs.Places.{has, place, is_marked, AreWithin}
use Rattle.pg_proof.specs.State.{clause_at, AreHeldWithin}
use Rattle.pg_proof.specs.Covered.{passes, is_covered, home, is_listed, AreHung, list_passes, place_passes, chain, hung_of, with_hung, AreLinksBelow, AreLinked, IsHung}
use Rattle.pg_proof.specs.Removal.{without}
use Rattle.pg_proof.specs.Marked.{marked}
use Rattle.pg_proof.proofs.WithinLemmas.{both}
use Rattle.pg_proof.proofs.MarkedLemmas.{place-same, place-below, none_up, or_false, swapped, AreHeldWithin-clause}
use Rattle.pg_proof.proofs.RemovalLemmas.{one_of, length-without}
use Rattle.pg_proof.proofs.LinkLemmas.{chain-next, hung_of-at, hung_of-out, length-hung_of, linked-hang, hung_of-hang, linked-more, linked-same, hung_of-same, linked-zeros, linked-cleared}

-- whether a clause passes that is listed at place 0 or at the place of one of these literals
abbrev pub homes_pass : (ℤ → Bool) → List (Option (List ℤ)) → List (List ℕ) → List ℤ → Bool
homes_pass test held hung lits = place_passes test held hung 0 || list_any (λ z. place_passes test held hung (place z)) lits

-- flags of literals, some of which may have no place
marked_known : (flags : List Bool) (z y : ℤ) (b : Bool) → place y < length flags → int_eq z y ≡ b →
    get_or (set flags (place z) true) (place y) false ≡ b || get_or flags (place y) false
marked_known flags z y true lt e =
    let s : z ≡ y = (Decides-int_eq z y).0 e in
    ap (λ x. get_or (set flags (place x) true) (place y) false) s ∙ get_or-set_same flags (place y) true false lt
marked_known flags z y false lt e =
    get_or-set_other flags (place z) (place y) true false (λ p. cc (e, (Decides-int_eq z y).1 (sym (place-same y z p))))

is_marked-known : (zs : List ℤ) (flags : List Bool) (y : ℤ) → place y < length flags → is_marked (marked flags zs) y ≡ has zs y || is_marked flags y
is_marked-known [] flags y lt = refl
is_marked-known (z ∷ zs) flags y lt =
    is_marked-known zs (set flags (place z) true) y (subst (λ n. place y < n) (sym (length-set flags (place z) true)) lt)
    ∙ ap (λ b. has zs y || b) (marked_known flags z y (int_eq z y) lt refl)
    ∙ swapped (int_eq z y) (has zs y) (is_marked flags y)

shows-known : (n : ℕ) (zs : List ℤ) (y : ℤ) → place y < n → is_marked (marked (replicate n false) zs) y ≡ has zs y
shows-known n zs y lt =
    is_marked-known zs (replicate n false) y (subst (λ m. place y < m) (sym (length-replicate n false)) lt)
    ∙ ap (λ b. has zs y || b) (none_up n (place y)) ∙ or_false (has zs y)

all_same : (n : ℕ) (f g : ℤ → Bool) (c : List ℤ) → ((y : ℤ) → place y < n → f y ≡ g y) → AreWithin n c → list_all f c ≡ list_all g c
all_same n f g [] e w = refl
all_same n f g (z ∷ zs) e w =
    let a = e z (place-below n z w.0) in let b = all_same n f g zs e w.1 in
    λ i. a i && b i

passes_same : (n : ℕ) (f g : ℤ → Bool) (o : Option (List ℤ)) → ((y : ℤ) → place y < n → f y ≡ g y) → ((c : List ℤ) → o ≡ Some c → AreWithin n c) →
    passes f o ≡ passes g o
passes_same n f g None e w = refl
passes_same n f g (Some c) e w = all_same n f g c e (w c refl)

pub homes_same : (n : ℕ) (held : List (Option (List ℤ))) (hung : List (List ℕ)) (lits : List ℤ) → AreHeldWithin n held →
    homes_pass (is_marked (marked (replicate n false) lits)) held hung lits ≡ homes_pass (has lits) held hung lits
homes_same n held hung lits w =
    let one : (m : ℕ) → passes (is_marked (marked (replicate n false) lits)) (clause_at held m) ≡ passes (has lits) (clause_at held m) =
    (λ m. passes_same n (is_marked (marked (replicate n false) lits)) (has lits) (clause_at held m) (shows-known n lits) (λ c e. AreHeldWithin-clause n held m c e w)) in
    λ i. list_any (λ m. one m i) (get_or hung 0 []) || list_any (λ z. list_any (λ m. one m i) (get_or hung (place z) [])) lits

-- what some element does
any_one : (b c : Bool) (q : Bool) → (b ≡ true → q ≡ true) → (c ≡ true → q ≡ true) → b || c ≡ true → q ≡ true
any_one true c q f g h = f refl
any_one false c q f g h = g h

any_gives : {A : Type 0} (p : A → Bool) (xs : List A) (q : Bool) → ((x : A) → p x ≡ true → q ≡ true) → list_any p xs ≡ true → q ≡ true
any_gives p [] q f h = cc
any_gives p (x ∷ xs) q f h = any_one (p x) (list_any p xs) q (f x) (any_gives p xs q f) h

or_first : (b c : Bool) → b ≡ true → b || c ≡ true
or_first true c e = refl
or_first false c e = cc

or_second : (b c : Bool) → c ≡ true → b || c ≡ true
or_second true c e = refl
or_second false c e = e

-- a clause that passes is among those held
held_passes : (t : ℤ → Bool) (held : List (Option (List ℤ))) (k : ℕ) → passes t (option_and_then (λ c. c) (slice_get held k)) ≡ true → list_any (passes t) held ≡ true
held_passes t [] k h = cc
held_passes t (c ∷ held) zero h = or_first (passes t c) (list_any (passes t) held) h
held_passes t (c ∷ held) (suc k) h = or_second (passes t c) (list_any (passes t) held) (held_passes t held k h)

number_passes : (t : ℤ → Bool) (held : List (Option (List ℤ))) (n : ℕ) → passes t (clause_at held n) ≡ true → list_any (passes t) held ≡ true
number_passes t held zero h = cc
number_passes t held (suc k) h = held_passes t held k h

found : (t : ℤ → Bool) (held : List (Option (List ℤ))) (hung : List (List ℕ)) (p : ℕ) → place_passes t held hung p ≡ true → list_any (passes t) held ≡ true
found t held hung p h = any_gives (λ n. passes t (clause_at held n)) (get_or hung p []) (list_any (passes t) held) (number_passes t held) h

homes_sound : (t : ℤ → Bool) (held : List (Option (List ℤ))) (hung : List (List ℕ)) (lits : List ℤ) → homes_pass t held hung lits ≡ true → list_any (passes t) held ≡ true
homes_sound t held hung lits h =
    any_one (place_passes t held hung 0) (list_any (λ z. place_passes t held hung (place z)) lits) (list_any (passes t) held) (found t held hung 0)
    (any_gives (λ z. place_passes t held hung (place z)) lits (list_any (passes t) held) (λ z. found t held hung (place z))) h

-- a clause held that passes hangs where it is looked for
listed_passes : (t : ℤ → Bool) (held : List (Option (List ℤ))) (ns : List ℕ) (n : ℕ) → is_listed ns n ≡ true → passes t (clause_at held n) ≡ true → list_passes t held ns ≡ true
listed_passes t held [] n l h = l
listed_passes t held (m ∷ ns) n l h =
    any_one (eqb m n) (is_listed ns n) (list_passes t held (m ∷ ns))
    (λ e. let s : m ≡ n = grind (arith, nat_tests) in or_first (passes t (clause_at held m)) (list_passes t held ns) (ap (λ k. passes t (clause_at held k)) s ∙ h))
    (λ e. or_second (passes t (clause_at held m)) (list_passes t held ns) (listed_passes t held ns n e h)) l

some_literal : (f : ℤ → Bool) (lits : List ℤ) (z : ℤ) → has lits z ≡ true → f z ≡ true → list_any f lits ≡ true
some_literal f [] z h e = h
some_literal f (y ∷ lits) z h e =
    any_one (int_eq y z) (has lits z) (f y || list_any f lits)
    (λ s. or_first (f y) (list_any f lits) (ap f ((Decides-int_eq y z).0 s) ∙ e))
    (λ l. or_second (f y) (list_any f lits) (some_literal f lits z l e)) h

at_home : (held : List (Option (List ℤ))) (hung : List (List ℕ)) (lits c : List ℤ) → list_all (has lits) c ≡ true → place_passes (has lits) held hung (home c) ≡ true →
    homes_pass (has lits) held hung lits ≡ true
at_home held hung lits [] h e = or_first _ _ e
at_home held hung lits (z ∷ zs) h e = or_second _ _ (some_literal (λ y. place_passes (has lits) held hung (place y)) lits z (both _ _ h).0 e)

module _ (held : List (Option (List ℤ))) (hung : List (List ℕ)) (lits : List ℤ) (hangs : AreHung hung held) where
  hung_passes : (k : ℕ) (c : List ℤ) → slice_get held k ≡ Some (Some c) → list_all (has lits) c ≡ true → homes_pass (has lits) held hung lits ≡ true
  hung_passes k c e h =
      let there : is_listed (get_or hung (home c) []) (suc k) ≡ true = subst (λ n. is_listed (get_or hung (home c) []) n ≡ true) (omega arith) (hangs k c e) in
      at_home held hung lits c h
      (listed_passes (has lits) held (get_or hung (home c) []) (suc k) there (ap (λ o. passes (has lits) (option_and_then (λ x. x) o)) e ∙ h))

  -- from a place of what is held on
  rest_passes : (rest : List (Option (List ℤ))) (q : Bool) → ((k : ℕ) (c : List ℤ) → slice_get rest k ≡ Some (Some c) → list_all (has lits) c ≡ true → q ≡ true) →
      list_any (passes (has lits)) rest ≡ true → q ≡ true
  rest_passes [] q f h = cc
  rest_passes (None ∷ rest) q f h = rest_passes rest q (λ k. f (suc k)) h
  rest_passes (Some c ∷ rest) q f h =
      any_one (list_all (has lits) c) (list_any (passes (has lits)) rest) q (f 0 c refl) (rest_passes rest q (λ k. f (suc k))) h

  same_tests : (a b : Bool) → (a ≡ true → b ≡ true) → (b ≡ true → a ≡ true) → a ≡ b
  same_tests true b f g = sym (f refl)
  same_tests false true f g = g refl
  same_tests false false f g = refl

  pub homes_covered : homes_pass (has lits) held hung lits ≡ is_covered held lits
  homes_covered =
      same_tests (homes_pass (has lits) held hung lits) (is_covered held lits) (homes_sound (has lits) held hung lits)
      (rest_passes held (homes_pass (has lits) held hung lits) hung_passes)

-- the lists as clauses come and go
pub AreHung-set : (hung : List (List ℕ)) (held : List (Option (List ℤ))) (j : ℕ) → AreHung hung held → AreHung hung (set held j None)
AreHung-set hung held j h k c e = h k c (kept held j k e)
  where
    kept : (held : List (Option (List ℤ))) (j k : ℕ) → slice_get (set held j None) k ≡ Some (Some c) → slice_get held k ≡ Some (Some c)
    kept [] j k e = e
    kept (d ∷ held) zero zero e = cc
    kept (d ∷ held) zero (suc k) e = e
    kept (d ∷ held) (suc j) zero e = e
    kept (d ∷ held) (suc j) (suc k) e = kept held j k e

pub AreHung-without : (hung : List (List ℕ)) (ns : List ℕ) (held after : List (Option (List ℤ))) → without held ns ≡ Some after → AreHung hung held → AreHung hung after
AreHung-without hung [] held after e h = let s : held ≡ after = cc in subst (AreHung hung) s h
AreHung-without hung (m ∷ ns) held after e h = AreHung-without hung ns (set held (m - 1) None) after (one_of _ _ after e) (AreHung-set hung held (m - 1) h)

same_number : (n : ℕ) → nat_eq n n ≡ true
same_number n = grind (arith, nat_tests)

listed_first : (ns : List ℕ) (n : ℕ) → is_listed (n ∷ ns) n ≡ true
listed_first ns n = or_first (nat_eq n n) (is_listed ns n) (same_number n)

pub home-below : (n : ℕ) (c : List ℤ) → 0 < n → AreWithin n c → home c < n
home-below n [] lt w = lt
home-below n (z ∷ zs) lt w = place-below n z w.0

-- the last of some clauses, or one before it
data Found (held : List (Option (List ℤ))) (last : Option (List ℤ)) (k : ℕ) (d : List ℤ) : Type 0 where
  before : slice_get held k ≡ Some (Some d) → Found held last k d
  behind : k ≡ length held → last ≡ Some d → Found held last k d

found_next : {held : List (Option (List ℤ))} {last o : Option (List ℤ)} {k : ℕ} {d : List ℤ} → Found held last k d → Found (o ∷ held) last (suc k) d
found_next (before e) = before e
found_next (behind l e) = behind (ap suc l) e

found_in : (held : List (Option (List ℤ))) (last : Option (List ℤ)) (k : ℕ) (d : List ℤ) → slice_get (held ++ last ∷ []) k ≡ Some (Some d) → Found held last k d
found_in [] last zero d e = behind refl cc
found_in [] last (suc k) d e = cc
found_in (o ∷ held) last zero d e = before e
found_in (o ∷ held) last (suc k) d e = found_next (found_in held last k d e)

pub AreHung-gone : (hung : List (List ℕ)) (held : List (Option (List ℤ))) → AreHung hung held → AreHung hung (held ++ None ∷ [])
AreHung-gone hung held h k d e = by (found_in held None k d e)
  where
    by : Found held None k d → is_listed (get_or hung (home d) []) (k + 1) ≡ true
    by (before f) = h k d f
    by (behind l f) = cc

same_home : (hung : List (List ℕ)) (p q n m : ℕ) (b : Bool) → eqb q p ≡ b → p < length hung → is_listed (get_or hung q []) n ≡ true →
    is_listed (get_or (set hung p (m ∷ get_or hung p [])) q []) n ≡ true
same_home hung p q n m true e lt h =
    let s : q ≡ p = grind (arith, nat_tests) in
    subst (λ r. is_listed (get_or hung r []) n ≡ true → is_listed (get_or (set hung p (m ∷ get_or hung p [])) r []) n ≡ true) (sym s)
    (λ l. ap (λ ns. is_listed ns n) (get_or-set_same hung p (m ∷ get_or hung p []) [] lt) ∙ or_second (nat_eq m n) (is_listed (get_or hung p []) n) l) h
same_home hung p q n m false e lt h =
    let s : q ≢ p = grind (arith, nat_tests) in
    ap (λ ns. is_listed ns n) (get_or-set_other hung p q (m ∷ get_or hung p []) [] s) ∙ h

pub AreHung-added : (hung : List (List ℕ)) (held : List (Option (List ℤ))) (c : List ℤ) → home c < length hung → AreHung hung held →
    AreHung (with_hung hung (home c) (length held + 1)) (held ++ Some c ∷ [])
AreHung-added hung held c lt h k d e = by (found_in held (Some c) k d e)
  where
    by : Found held (Some c) k d → is_listed (get_or (with_hung hung (home c) (length held + 1)) (home d) []) (k + 1) ≡ true
    by (before f) = same_home hung (home c) (home d) (k + 1) (length held + 1) (eqb (home d) (home c)) refl lt (h k d f)
    by (behind l f) =
        let s : c ≡ d = cc in
        subst (λ x. is_listed (get_or (with_hung hung (home c) (length held + 1)) (home x) []) (k + 1) ≡ true) s
        (ap (λ ns. is_listed ns (k + 1)) (get_or-set_same hung (home c) ((length held + 1) ∷ get_or hung (home c) []) [] lt)
        ∙ ap (λ m. is_listed ((m + 1) ∷ get_or hung (home c) []) (k + 1)) (sym l) ∙ listed_first (get_or hung (home c) []) (k + 1))

pub AreHung-none : (hung : List (List ℕ)) → AreHung hung []
AreHung-none hung k c e = cc

-- the answer, as the code finds it
module _ (n : ℕ) (flags : List Bool) (held : List (Option (List ℤ))) (hung : List (List ℕ)) (lits : List ℤ)
    (made : flags ≡ marked (replicate n false) lits) (within : AreHeldWithin n held) (hangs : AreHung hung held) where
  covered_by : homes_pass (is_marked flags) held hung lits ≡ is_covered held lits
  covered_by = ap (λ fs. homes_pass (is_marked fs) held hung lits) made ∙ homes_same n held hung lits within ∙ homes_covered held hung lits hangs

  pub covered_first : place_passes (is_marked flags) held hung 0 ≡ true → true ≡ is_covered held lits
  covered_first e = ap (λ b. b || list_any (λ z. place_passes (is_marked flags) held hung (place z)) lits) (sym e) ∙ covered_by

  pub covered_rest : place_passes (is_marked flags) held hung 0 ≡ false → list_any (λ z. place_passes (is_marked flags) held hung (place z)) lits ≡ is_covered held lits
  covered_rest e = ap (λ b. b || list_any (λ z. place_passes (is_marked flags) held hung (place z)) lits) (sym e) ∙ covered_by

-- the lists of the first clauses
pub record AreListed (places : ℕ) (heads links : List ℕ) (held : List (Option (List ℤ))) (i : ℕ) : Type 0 where
  pub hangs : AreHung (hung_of heads links) (take i held)
  pub linked : AreLinked heads links i
  pub room : length held ≤ length links
  pub as_many : length heads ≡ places

take_next : (held : List (Option (List ℤ))) (i : ℕ) (o : Option (List ℤ)) → i < length held → get_or held i None ≡ o → take (i + 1) held ≡ take i held ++ o ∷ []
take_next held i o lt e = take_more held i None lt ∙ ap (λ x. take i held ++ x ∷ []) e

flat : (o : Option (Option (List ℤ))) (d : Option (List ℤ)) → o ≡ Some d → option_and_then (λ c. c) o ≡ d
flat None d e = cc
flat (Some x) d e = same_Some x d e

clause_at-next : (held : List (Option (List ℤ))) (i : ℕ) → i < length held → clause_at held (i + 1) ≡ get_or held i None
clause_at-next held i lt =
    let s : i + 1 ≡ suc i = omega arith in
    ap (clause_at held) s ∙ flat (slice_get held i) (get_or held i None) (slice_get-get_or held i None lt)

pub AreListed-begun : (places : ℕ) (heads links : List ℕ) (made : Bool) (cleared : List ℕ) (held : List (Option (List ℤ))) → length heads ≡ places →
    IsHung heads links made held → cleared ≡ replicate (length heads) 0 → AreListed places cleared links held 0
AreListed-begun places heads links made cleared held many h e = record {
  hangs = AreHung-none (hung_of cleared links);
  linked = linked-cleared cleared links (length heads) e h.linked.below;
  room = h.linked.room;
  as_many = ap length e ∙ length-replicate (length heads) 0 ∙ many;
}

module _ (places : ℕ) (heads links : List ℕ) (held : List (Option (List ℤ))) (i : ℕ) (lt : i < length held) (h : AreListed places heads links held i) where
  pub AreListed-gone : clause_at held (i + 1) ≡ None → AreListed places heads links held (i + 1)
  AreListed-gone e =
      record {
        hangs = subst (AreHung (hung_of heads links)) (sym (take_next held i None lt (sym (clause_at-next held i lt) ∙ e))) (AreHung-gone (hung_of heads links) (take i held) h.hangs);
        linked = linked-more heads links i (i + 1) (omega arith) (omega (arith, lt, h.room)) h.linked;
        room = h.room;
        as_many = h.as_many;
      }

  pub AreListed-before : AreLinked heads links (i + 1 - 1)
  AreListed-before = let s : i ≡ i + 1 - 1 = omega arith in subst (AreLinked heads links) s h.linked

  pub AreListed-next : (c : List ℤ) (heads' links' : List ℕ) → clause_at held (i + 1) ≡ Some c → home c < length heads →
      heads' ≡ set heads (home c) (i + 1) → links' ≡ set links (i + 1 - 1) (get_or heads (home c) 0) → AreListed places heads' links' held (i + 1)
  AreListed-next c heads' links' e room put link =
      let len : length (take i held) ≡ i = length-take-le i held (omega arith) in
      let least : 0 < i + 1 = omega arith in
      let most : i + 1 ≤ length links = omega (arith, lt, h.room) in
      let made : hung_of heads' links' ≡ with_hung (hung_of heads links) (home c) (i + 1) =
      hung_of-hang heads links heads' links' (home c) (i + 1) room least most AreListed-before put link in
      let more : hung_of heads' links' ≡ with_hung (hung_of heads links) (home c) (length (take i held) + 1) =
      made ∙ ap (λ m. with_hung (hung_of heads links) (home c) (m + 1)) (sym len) in
      let within : home c < length (hung_of heads links) = subst (λ n. home c < n) (sym (length-hung_of heads links)) room in
      record {
        hangs = subst (λ x. x) (λ j. AreHung (sym more j) (sym (take_next held i (Some c) lt (sym (clause_at-next held i lt) ∙ e)) j))
            (AreHung-added (hung_of heads links) (take i held) c within h.hangs);
        linked = linked-hang heads links heads' links' (home c) (i + 1) room least most AreListed-before put link;
        room = omega (arith, h.room, ap length link, length-set links (i + 1 - 1) (get_or heads (home c) 0));
        as_many = ap length put ∙ length-set heads (home c) (i + 1) ∙ h.as_many;
      }

pub AreListed-all : (places : ℕ) (heads links : List ℕ) (held : List (Option (List ℤ))) (i : ℕ) → length held ≤ i → i ≤ length held → AreListed places heads links held i →
    IsHung heads links true held
AreListed-all places heads links held i le most h =
    let n : i ≡ length held = omega arith in
    record {
      linked = subst (AreLinked heads links) n h.linked;
      hangs = (λ e. subst (AreHung (hung_of heads links)) (take_all i held le) h.hangs);
    }

-- the lists of a checker, from the start on and as clauses come and go
pub IsHung-begun : (heads links : List ℕ) (n m : ℕ) (made : Bool) (held : List (Option (List ℤ))) → heads ≡ replicate n 0 → links ≡ replicate m 0 → made ≡ false →
    length held ≡ m → IsHung heads links made held
IsHung-begun heads links n m made held e f g many = record {
  linked = linked-zeros heads links n m (length held) e f (omega (arith, many, ap length f, length-replicate {A = ℕ} m 0));
  hangs = (λ y. cc (y, g));
}

pub IsHung-without : (heads links : List ℕ) (made : Bool) (ns : List ℕ) (held after : List (Option (List ℤ))) → without held ns ≡ Some after →
    IsHung heads links made held → IsHung heads links made after
IsHung-without heads links made ns held after e h = record {
  linked = subst (AreLinked heads links) (sym (length-without ns held after e)) h.linked;
  hangs = (λ y. AreHung-without (hung_of heads links) ns held after e (h.hangs y));
}

-- a link comes, and the lists are as they were
pub IsHung-linked : (heads heads' links links' : List ℕ) (made made' : Bool) (held after : List (Option (List ℤ))) → heads' ≡ heads →
    ((k : ℕ) → get_or links' k 0 ≡ get_or links k 0) → length links ≤ length links' → made' ≡ made → after ≡ held → IsHung heads links made held →
    IsHung heads' links' made' after
IsHung-linked heads heads' links links' made made' held after e same le f g h = record {
  linked = linked-same heads heads' links links' (length after) e same le (subst (λ hs. AreLinked heads links (length hs)) (sym g) h.linked);
  hangs = (λ y. subst (λ x. x) (λ i. AreHung (sym (hung_of-same heads heads' links links' (length held) e same h.linked) i) (sym g i)) (h.hangs (sym f ∙ y)));
}

-- a clause more, where the lists are not made
pub IsHung-unmade : (heads links : List ℕ) (made : Bool) (held after : List (Option (List ℤ))) (c : List ℤ) → made ≡ false → length held < length links →
    after ≡ held ++ Some c ∷ [] → IsHung heads links made held → IsHung heads links made after
IsHung-unmade heads links made held after c unmade room e h =
    let more : length after ≡ length held + 1 = ap length e ∙ length-append held (Some c ∷ []) in
    record {
      linked = linked-more heads links (length held) (length after) (omega (arith, more)) (omega (arith, more, room)) h.linked;
      hangs = (λ y. cc (y, unmade));
    }

-- and where they are
pub IsHung-added : (heads links heads' links' : List ℕ) (made made' : Bool) (held after : List (Option (List ℤ))) (c : List ℤ) (number : ℕ) → made ≡ true →
    number ≡ length held + 1 → length held < length links → home c < length heads → after ≡ held ++ Some c ∷ [] → heads' ≡ set heads (home c) number →
    links' ≡ set links (number - 1) (get_or heads (home c) 0) → IsHung heads links made held → IsHung heads' links' made' after
IsHung-added heads links heads' links' made made' held after c number ready n room within e put link h =
    let more : length after ≡ number = ap length e ∙ length-append held (Some c ∷ []) ∙ sym n in
    let before : AreLinked heads links (number - 1) = let s : length held ≡ number - 1 = omega (arith, n) in subst (AreLinked heads links) s h.linked in
    let least : 0 < number = omega (arith, n) in
    let most : number ≤ length links = omega (arith, n, room) in
    let made_of = hung_of-hang heads links heads' links' (home c) number within least most before put link in
    let lists : hung_of heads' links' ≡ with_hung (hung_of heads links) (home c) (length held + 1) =
    made_of ∙ ap (with_hung (hung_of heads links) (home c)) n in
    let places : home c < length (hung_of heads links) = subst (λ m. home c < m) (sym (length-hung_of heads links)) within in
    record {
      linked = subst (AreLinked heads' links') (sym more) (linked-hang heads links heads' links' (home c) number within least most before put link);
      hangs = (λ y. subst (λ x. x) (λ i. AreHung (sym lists i) (sym e i)) (AreHung-added (hung_of heads links) held c places (h.hangs ready)));
    }

-- a walk along a list: what is left gives what the whole gives
pub record AreLeft (test : ℤ → Bool) (held : List (Option (List ℤ))) (links : List ℕ) (first number : ℕ) : Type 0 where
  pub rest : list_passes test held (chain number links number) ≡ list_passes test held (chain first links first)
  pub most : number ≤ length links

module _ (test : ℤ → Bool) (held : List (Option (List ℤ))) (links : List ℕ) (first number : ℕ) (below : AreLinksBelow links) (lt : 0 < number)
    (h : AreLeft test held links first number) where
  one : list_passes test held (chain number links number)
      ≡ passes test (clause_at held number) || list_passes test held (chain (get_or links (number - 1) 0) links (get_or links (number - 1) 0))
  one = ap (list_passes test held) (chain-next links number lt below)

  pub AreLeft-found : passes test (clause_at held number) ≡ true → true ≡ list_passes test held (chain first links first)
  AreLeft-found e = sym (one ∙ or_first _ _ e) ∙ h.rest

  pub AreLeft-next : passes test (clause_at held number) ≡ false → AreLeft test held links first (get_or links (number - 1) 0)
  AreLeft-next e = record {
    rest = sym (one ∙ ap (λ b. b || list_passes test held (chain (get_or links (number - 1) 0) links (get_or links (number - 1) 0))) e) ∙ h.rest;
    most = (let le = below (number - 1) in omega (arith, le, h.most));
  }

pub AreLeft-end : (test : ℤ → Bool) (held : List (Option (List ℤ))) (links : List ℕ) (first number : ℕ) → number ≡ 0 → AreLeft test held links first number →
    false ≡ list_passes test held (chain first links first)
AreLeft-end test held links first number e h = sym (ap (λ n. list_passes test held (chain n links n)) e) ∙ h.rest

-- what a place gives
pub place_passes-at : (test : ℤ → Bool) (held : List (Option (List ℤ))) (heads links : List ℕ) (p : ℕ) → p < length heads →
    list_passes test held (chain (get_or heads p 0) links (get_or heads p 0)) ≡ place_passes test held (hung_of heads links) p
place_passes-at test held heads links p lt = ap (list_passes test held) (sym (hung_of-at heads links p lt))

pub place_passes-out : (test : ℤ → Bool) (held : List (Option (List ℤ))) (heads links : List ℕ) (p : ℕ) → length heads ≤ p →
    false ≡ place_passes test held (hung_of heads links) p
place_passes-out test held heads links p le = ap (list_passes test held) (sym (hung_of-out heads links p le))

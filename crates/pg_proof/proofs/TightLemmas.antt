-- Tight steps by flags: a literal that is set can stand negated in no earlier clause.
use Rattle.std.proofs.Common.{◌≡◌, ℕ, zero, suc, ◌+◌, ◌*◌, ◌<◌, Bool, true, false, not, cond, ◌||◌, ◌&&◌, List, [], ◌∷◌, ◌++◌, length, set, replicate, Option, Some, None, is_none, unwrap_or, refl, sym, ap, subst, ◌∙◌, arith, ℤ, pos, negsuc, neg_ℤ, nat_abs, if◌then◌else◌, append_assoc}
use Rattle.std.specs.Prelude.{⊤}
use Rattle.std.specs.List.{list_all}
use Rattle.std.specs.Ordering.{int_eq}
use Rattle.std.proofs.lemmas.List.{length-set, length-replicate}
use Rattle.std.proofs.lemmas.List.Folds.{list_any-append}
use Rattle.std.proofs.lemmas.Bool.Decides.{Decides-int_eq}
use Rattle.pg_proof.specs.declared.propagation.Reading.{Reading}
use Rattle.pg_proof.specs.declared.propagation.Reading.TheVariants.{Falsified, Unit, Neither}
use Rattle.pg_proof.specs.declared.step.Step.{Step}
use Rattle.pg_proof.specs.Places.{has, negations, place, is_marked, IsWithin, AreWithin}
use Rattle.pg_proof.specs.Reading.{open_of, reading_of, reading}
use Rattle.pg_proof.specs.State.{clause_at, AreHeldWithin}
use Rattle.pg_proof.specs.Refutation.{fault_of}
use Rattle.pg_proof.specs.Tight.{literals_at, hint_clauses, stands_in, at_set, sets_used, is_tight}
use Rattle.pg_proof.specs.Marked.{marked, marked_all, sets_marked, IsReadWithin}
use Rattle.pg_proof.proofs.MarkedLemmas.{is_marked-marked, length-marked, none_up, or_false, swapped, shown, shows-marked, place-below, AreWithin-negations, AreHeldWithin-clause, IsReadWithin-reading}
use Rattle.pg_proof.proofs.SoundLemmas.{reading_of-unit, valid_within}

-- the literals of hints' clauses have their places
within_at : (n : ℕ) (o : Option (List ℤ)) → ((c : List ℤ) → o ≡ Some c → AreWithin n c) → AreWithin n (unwrap_or o [])
within_at n None h = tt
within_at n (Some c) h = h c refl

pub AreWithin-literals : (n : ℕ) (held : List (Option (List ℤ))) (h : ℕ) → AreHeldWithin n held → AreWithin n (literals_at held h)
AreWithin-literals n held h w = within_at n (clause_at held h) (λ c e. AreHeldWithin-clause n held h c e w)

abbrev pub AreAllWithin : ℕ → List (List ℤ) → Type 0
AreAllWithin places [] = ⊤
AreAllWithin places (c ∷ cs) = AreWithin places c × AreAllWithin places cs

pub AreAllWithin-hints : (n : ℕ) (held : List (Option (List ℤ))) (hs : List ℕ) → AreHeldWithin n held → AreAllWithin n (hint_clauses held hs)
AreAllWithin-hints n held [] w = tt
AreAllWithin-hints n held (h ∷ hs) w = (AreWithin-literals n held h w, AreAllWithin-hints n held hs w)

-- the flags of all literals of some clauses
pub length-marked_all : (cs : List (List ℤ)) (flags : List Bool) → length (marked_all flags cs) ≡ length flags
length-marked_all [] flags = refl
length-marked_all (c ∷ cs) flags = length-marked_all cs (marked flags c) ∙ length-marked c flags

is_marked-all : (cs : List (List ℤ)) (flags : List Bool) (f : ℤ → Bool) → AreAllWithin (length flags) cs → is_marked flags ≡ f →
    is_marked (marked_all flags cs) ≡ (λ y. stands_in cs y || f y)
is_marked-all [] flags f h e = e
is_marked-all (c ∷ cs) flags f h e =
    is_marked-all cs (marked flags c) (λ y. has c y || f y) (subst (λ n. AreAllWithin n cs) (sym (length-marked c flags)) h.1) (is_marked-marked c flags f h.0 e)
    ∙ (λ i y. swapped (has c y) (stands_in cs y) (f y) i)

pub shows-marked_all : (n : ℕ) (cs : List (List ℤ)) → AreAllWithin n cs → is_marked (marked_all (replicate n false) cs) ≡ stands_in cs
shows-marked_all n cs h =
    is_marked-all cs (replicate n false) (λ _. false) (subst (λ m. AreAllWithin m cs) (sym (length-replicate n false)) h) (λ i y. none_up n (place y) i)
    ∙ (λ i y. or_false (stands_in cs y) i)

neg_neg : (z : ℤ) → neg_ℤ (neg_ℤ z) ≡ z
neg_neg (pos zero) = refl
neg_neg (pos (suc n)) = refl
neg_neg (negsuc n) = refl

neg_other : (z : ℤ) → 0 < nat_abs z → neg_ℤ z ≡ z → ⊥
neg_other (pos zero) lt e = omega arith
neg_other (pos (suc n)) lt e = cc
neg_other (negsuc n) lt e = cc

same_int : (z y : ℤ) → z ≡ y → int_eq z y ≡ true
same_int z y e = (Decides-int_eq z y).1 e

-- a literal of a clause is false, or it is left open
kept_open : (t : ℤ → Bool) (f b : Bool) (z y : ℤ) (zs : List ℤ) → t (neg_ℤ z) ≡ f → int_eq z y ≡ b → b || has zs y ≡ true → t (neg_ℤ y) ≡ false →
    (has zs y ≡ true → has (open_of t zs) y ≡ true) → has (cond (not f) (z ∷ open_of t zs) (open_of t zs)) y ≡ true
kept_open t true true z y zs ef eb h n down = let s : z ≡ y = (Decides-int_eq z y).0 eb in let u = ap (λ x. t (neg_ℤ x)) s in cc
kept_open t true false z y zs ef eb h n down = down h
kept_open t false true z y zs ef eb h n down = ap (λ b. b || has (open_of t zs) y) eb
kept_open t false false z y zs ef eb h n down = ap (λ b. b || has (open_of t zs) y) eb ∙ down h

left_open : (t : ℤ → Bool) (c : List ℤ) (y : ℤ) → has c y ≡ true → t (neg_ℤ y) ≡ false → has (open_of t c) y ≡ true
left_open t [] y h n = h
left_open t (z ∷ zs) y h n =
    kept_open t (t (neg_ℤ z)) (int_eq z y) z y zs refl refl h n (λ k. left_open t zs y k n)

-- and what is left open is not false
never_false : (t : ℤ → Bool) (f b : Bool) (z y : ℤ) (zs : List ℤ) → t (neg_ℤ z) ≡ f → int_eq z y ≡ b → has (cond (not f) (z ∷ open_of t zs) (open_of t zs)) y ≡ true →
    (has (open_of t zs) y ≡ true → t (neg_ℤ y) ≡ false) → t (neg_ℤ y) ≡ false
never_false t true b z y zs ef eb h down = down h
never_false t false true z y zs ef eb h down = let s : z ≡ y = (Decides-int_eq z y).0 eb in ap (λ x. t (neg_ℤ x)) (sym s) ∙ ef
never_false t false false z y zs ef eb h down = down (ap (λ b. b || has (open_of t zs) y) (sym eb) ∙ h)

open_not_false : (t : ℤ → Bool) (c : List ℤ) (y : ℤ) → has (open_of t c) y ≡ true → t (neg_ℤ y) ≡ false
open_not_false t [] y h = cc
open_not_false t (z ∷ zs) y h = never_false t (t (neg_ℤ z)) (int_eq z y) z y zs refl refl h (open_not_false t zs y)

only_one : (b : Bool) → b || false ≡ true → b ≡ true
only_one true e = refl
only_one false e = e

set_only_unset : (b : Bool) (z : ℤ) → (if b then Neither else Unit z) ≡ Unit z → b ≡ false
set_only_unset true z e = cc
set_only_unset false z e = refl

-- a clause that sets a literal
module _ (t : ℤ → Bool) (c : List ℤ) (z : ℤ) (sets : reading t c ≡ Unit z) where
  one_open : open_of t c ≡ z ∷ []
  one_open = reading_of-unit t (open_of t c) z sets

  set_unset : t z ≡ false
  set_unset = set_only_unset (t z) z (ap (reading_of t) (sym one_open) ∙ sets)

  negation_unset : t (neg_ℤ z) ≡ false
  negation_unset = open_not_false t c z (ap (λ zs. has zs z) one_open ∙ ap (λ b. b || false) (same_int z z refl))

  other_false : (y : ℤ) → has c y ≡ true → t (neg_ℤ y) ≡ false → z ≡ y
  other_false y h n = (Decides-int_eq z y).0 (only_one (int_eq z y) (ap (λ zs. has zs y) (sym one_open) ∙ left_open t c y h n))

  not_own : 0 < nat_abs z → (b : Bool) → has c (neg_ℤ z) ≡ b → b ≡ false
  not_own lt false e = refl
  not_own lt true e = absurd (neg_other z lt (sym (other_false (neg_ℤ z) e (ap t (neg_neg z) ∙ set_unset))))

-- every literal of some clauses has a value
abbrev pub AreSet : List ℤ → List (List ℤ) → Type 0
AreSet trail cs = (y : ℤ) → stands_in cs y ≡ true → has trail y || has trail (neg_ℤ y) ≡ true

neither_value : (a b : Bool) → a ≡ false → b ≡ false → a || b ≡ true → ⊥
neither_value true b e f h = cc
neither_value false b e f h = cc

not_before : (trail : List ℤ) (pre : List (List ℤ)) (c : List ℤ) (z : ℤ) (b : Bool) → AreSet trail pre → reading (has trail) c ≡ Unit z → stands_in pre (neg_ℤ z) ≡ b → b ≡ false
not_before trail pre c z false s e h = refl
not_before trail pre c z true s e h =
    absurd (neither_value (has trail (neg_ℤ z)) (has trail (neg_ℤ (neg_ℤ z))) (negation_unset (has trail) c z e)
    (ap (has trail) (neg_neg z) ∙ set_unset (has trail) c z e) (s (neg_ℤ z) h))

pub only_later : (trail : List ℤ) (pre cs : List (List ℤ)) (c : List ℤ) (z : ℤ) → 0 < nat_abs z → AreSet trail pre → reading (has trail) c ≡ Unit z →
    stands_in (pre ++ c ∷ cs) (neg_ℤ z) ≡ stands_in cs (neg_ℤ z)
only_later trail pre cs c z lt s e =
    list_any-append (λ d. has d (neg_ℤ z)) pre (c ∷ cs)
    ∙ (λ i. not_before trail pre c z (stands_in pre (neg_ℤ z)) s e refl i || (not_own (has trail) c z e lt (has c (neg_ℤ z)) refl i || stands_in cs (neg_ℤ z)))

more_values : (a b p q : Bool) → p || q ≡ true → (a || p) || (b || q) ≡ true
more_values true b p q h = refl
more_values false b true q h = refl
more_values false true false q h = refl
more_values false false false q h = h

first_value : (a p q : Bool) → a ≡ true → (a || p) || q ≡ true
first_value true p q e = refl
first_value false p q e = cc

second_value : (a p b q : Bool) → q ≡ true → (a || p) || (b || q) ≡ true
second_value true p b q e = refl
second_value false true b q e = refl
second_value false false true q e = refl
second_value false false false q e = e

set_in_clause : (trail c : List ℤ) (z y : ℤ) (b : Bool) → reading (has trail) c ≡ Unit z → has c y ≡ true → has trail (neg_ℤ y) ≡ b →
    has (z ∷ trail) y || has (z ∷ trail) (neg_ℤ y) ≡ true
set_in_clause trail c z y true e h n = second_value (int_eq z y) (has trail y) (int_eq z (neg_ℤ y)) (has trail (neg_ℤ y)) n
set_in_clause trail c z y false e h n =
    first_value (int_eq z y) (has trail y) (has (z ∷ trail) (neg_ℤ y)) (same_int z y (other_false (has trail) c z e y h n))

set_in_either : (trail : List ℤ) (pre : List (List ℤ)) (c : List ℤ) (z y : ℤ) (b : Bool) → AreSet trail pre → reading (has trail) c ≡ Unit z →
    stands_in pre y ≡ b → b || (has c y || false) ≡ true → has (z ∷ trail) y || has (z ∷ trail) (neg_ℤ y) ≡ true
set_in_either trail pre c z y true s e p h = more_values (int_eq z y) (int_eq z (neg_ℤ y)) (has trail y) (has trail (neg_ℤ y)) (s y p)
set_in_either trail pre c z y false s e p h = set_in_clause trail c z y (has trail (neg_ℤ y)) e (only_one (has c y) h) refl

AreSet-more : (trail : List ℤ) (pre : List (List ℤ)) (c : List ℤ) (z : ℤ) → AreSet trail pre → reading (has trail) c ≡ Unit z → AreSet (z ∷ trail) (pre ++ c ∷ [])
AreSet-more trail pre c z s e y h =
    set_in_either trail pre c z y (stands_in pre y) s e refl (sym (list_any-append (λ d. has d y) pre (c ∷ [])) ∙ h)

at_set_same : (r s : Reading) (f g : ℤ → Bool) → r ≡ s → ((z : ℤ) → s ≡ Unit z → f z ≡ g z) → at_set r f ≡ at_set s g
at_set_same r s f g e h = ap (λ q. at_set q f) e ∙ by s h
  where
    by : (q : Reading) → ((z : ℤ) → q ≡ Unit z → f z ≡ g z) → at_set q f ≡ at_set q g
    by Falsified h = refl
    by (Unit z) h = h z refl
    by Neither h = refl

pub sets_same : (cs pre : List (List ℤ)) (standing flags : List Bool) (trail : List ℤ) → AreAllWithin (length flags) cs → is_marked standing ≡ stands_in (pre ++ cs) →
    is_marked flags ≡ has trail → AreSet trail pre → sets_marked standing flags cs ≡ sets_used trail cs
sets_same [] pre standing flags trail w m s a = refl
sets_same (c ∷ cs) pre standing flags trail w m s a =
    at_set_same (reading (is_marked flags) c) (reading (has trail) c) _ _ (ap (λ (t : ℤ → Bool). reading t c) s)
    (λ z e.
    let here : IsWithin (length flags) z = subst (IsReadWithin (length flags)) e (IsReadWithin-reading (has trail) (length flags) c w.0) in
    let later : is_marked standing (neg_ℤ z) ≡ stands_in cs (neg_ℤ z) =
    ap (λ (t : ℤ → Bool). t (neg_ℤ z)) m ∙ only_later trail pre cs c z here.nonzero a e in
    let rest : sets_marked standing (set flags (place z) true) cs ≡ sets_used (z ∷ trail) cs =
    sets_same cs (pre ++ c ∷ []) standing (set flags (place z) true) (z ∷ trail)
    (subst (λ n. AreAllWithin n cs) (sym (length-set flags (place z) true)) w.1)
    (m ∙ ap stands_in (sym (append_assoc pre (c ∷ []) cs)))
    (shown flags trail z (place-below (length flags) z here) s)
    (AreSet-more trail pre c z a e) in
    λ i. later i && rest i)

-- the answer, as the code finds it
pub is_tight-invalid : (variables : ℕ) (held : List (Option (List ℤ))) (step : Step) → is_none (fault_of variables held step) ≡ false →
    is_tight variables held step ≡ false
unfolding is_tight
is_tight-invalid variables held step e =
    ap (λ b. b && (list_all (stands_in (hint_clauses held step.hints)) step.lits && sets_used (negations step.lits) (hint_clauses held step.hints))) e

when_valid : (variables : ℕ) (held : List (Option (List ℤ))) (step : Step) → is_none (fault_of variables held step) ≡ true →
    is_tight variables held step ≡ list_all (stands_in (hint_clauses held step.hints)) step.lits && sets_used (negations step.lits) (hint_clauses held step.hints)
unfolding is_tight
when_valid variables held step e =
    ap (λ b. b && (list_all (stands_in (hint_clauses held step.hints)) step.lits && sets_used (negations step.lits) (hint_clauses held step.hints))) e

none_is : {A : Type 0} (o : Option A) → is_none o ≡ true → o ≡ None
none_is None e = refl
none_is (Some a) e = cc

pub valid_literals : (variables : ℕ) (held : List (Option (List ℤ))) (step : Step) → is_none (fault_of variables held step) ≡ true → AreWithin (2 * variables + 2) step.lits
valid_literals variables held step e = valid_within variables held step (none_is (fault_of variables held step) e)

module _ (variables n : ℕ) (held : List (Option (List ℤ))) (step : Step) (within : AreHeldWithin n held) (valid : is_none (fault_of variables held step) ≡ true) where
  pub is_tight-loose : list_all (is_marked (marked_all (replicate n false) (hint_clauses held step.hints))) step.lits ≡ false → is_tight variables held step ≡ false
  is_tight-loose e =
      let cs = hint_clauses held step.hints in
      when_valid variables held step valid
      ∙ ap (λ b. b && sets_used (negations step.lits) cs)
      (ap (λ (t : ℤ → Bool). list_all t step.lits) (sym (shows-marked_all n cs (AreAllWithin-hints n held step.hints within))) ∙ e)

  pub is_tight-sets : list_all (is_marked (marked_all (replicate n false) (hint_clauses held step.hints))) step.lits ≡ true → AreWithin n step.lits →
      is_tight variables held step
      ≡ sets_marked (marked_all (replicate n false) (hint_clauses held step.hints)) (marked (replicate n false) (negations step.lits)) (hint_clauses held step.hints)
  is_tight-sets e w =
      let cs = hint_clauses held step.hints in
      let all = AreAllWithin-hints n held step.hints within in
      let flags = marked (replicate n false) (negations step.lits) in
      let places : length flags ≡ n = length-marked (negations step.lits) (replicate n false) ∙ length-replicate n false in
      when_valid variables held step valid
      ∙ ap (λ b. b && sets_used (negations step.lits) cs) (ap (λ (t : ℤ → Bool). list_all t step.lits) (sym (shows-marked_all n cs all)) ∙ e)
      ∙ sym (sets_same cs [] (marked_all (replicate n false) cs) flags (negations step.lits) (subst (λ m. AreAllWithin m cs) (sym places) all)
      (shows-marked_all n cs all) (shows-marked n (negations step.lits) (AreWithin-negations n step.lits w)) (λ y h. cc))

-- Flags that show a list of literals, and the walk by flags as by the list.
use Rattle.std.proofs.Common.{◌≡◌, ℕ, zero, suc, ◌+◌, ◌*◌, ◌<◌, Bool, true, false, ◌||◌, List, [], ◌∷◌, length, get_or, set, replicate, Option, Some, None, slice_get, refl, sym, ap, subst, ◌∙◌, arith, ℤ, pos, negsuc, neg_ℤ, nat_abs}
use Rattle.std.specs.Option.{option_and_then}
use Rattle.std.specs.Ordering.{int_eq}
use Rattle.std.proofs.lemmas.List.{length-set, length-replicate, get_or-set_same, get_or-set_other}
use Rattle.std.proofs.lemmas.Bool.Decides.{Decides-int_eq}
use Rattle.pg_proof.specs.declared.propagation.Reading.{Reading}
use Rattle.pg_proof.specs.declared.propagation.Reading.TheVariants.{Falsified, Unit, Neither}
use Rattle.pg_proof.specs.declared.step.ProofFault.{ProofFault}
use Rattle.pg_proof.specs.declared.step.ProofFault.TheVariants.{UnknownLit}
use Rattle.pg_proof.specs.declared.step.Step.{Step}
use Rattle.pg_proof.specs.Places.{has, negations, place, is_marked, IsWithin, AreWithin}
use Rattle.pg_proof.specs.Reading.{reading}
use Rattle.pg_proof.specs.State.{clause_at, AreHeldWithin}
use Rattle.pg_proof.specs.Refutation.{are_ascending, is_last, at_reading, at_clause, walk, fault_of}
use Rattle.pg_proof.specs.Marked.{marked, walk_marked, IsReadWithin}
use Rattle.pg_proof.proofs.WithinLemmas.{AreHeldWithin-at}
use Rattle.pg_proof.proofs.ReadingLemmas.{read_on, read_on-reading, IsReadWithin-literal}

pub place-same : (a b : ℤ) → place a ≡ place b → a ≡ b
place-same (pos a) (pos b) e = ap pos (omega arith)
place-same (pos a) (negsuc b) e = absurd (omega arith)
place-same (negsuc a) (pos b) e = absurd (omega arith)
place-same (negsuc a) (negsuc b) e = ap negsuc (omega arith)

pub place-below : (n : ℕ) (z : ℤ) → IsWithin n z → place z < n
place-below n (pos a) h = omega (arith, h.within)
place-below n (negsuc a) h = omega (arith, h.within)

pub nat_abs-neg : (z : ℤ) → nat_abs (neg_ℤ z) ≡ nat_abs z
nat_abs-neg (pos zero) = refl
nat_abs-neg (pos (suc n)) = refl
nat_abs-neg (negsuc n) = refl

pub AreWithin-negations : (n : ℕ) (zs : List ℤ) → AreWithin n zs → AreWithin n (negations zs)
AreWithin-negations n [] h = tt
AreWithin-negations n (z ∷ zs) h =
    (record { nonzero = subst (λ k. 0 < k) (sym (nat_abs-neg z)) h.0.nonzero; within = subst (λ k. 2 * k + 1 < n) (sym (nat_abs-neg z)) h.0.within }, AreWithin-negations n zs h.1)

-- one flag more
marked_at : (flags : List Bool) (z y : ℤ) (b : Bool) → place z < length flags → int_eq z y ≡ b →
    get_or (set flags (place z) true) (place y) false ≡ b || get_or flags (place y) false
marked_at flags z y true lt e =
    let s : z ≡ y = (Decides-int_eq z y).0 e in
    ap (λ x. get_or (set flags (place z) true) (place x) false) (sym s) ∙ get_or-set_same flags (place z) true false lt
marked_at flags z y false lt e =
    get_or-set_other flags (place z) (place y) true false (λ p. cc (e, (Decides-int_eq z y).1 (sym (place-same y z p))))

pub is_marked-set : (flags : List Bool) (z : ℤ) → place z < length flags → is_marked (set flags (place z) true) ≡ (λ y. int_eq z y || is_marked flags y)
is_marked-set flags z lt = λ i y. marked_at flags z y (int_eq z y) lt refl i

pub shown : (flags : List Bool) (trail : List ℤ) (z : ℤ) → place z < length flags → is_marked flags ≡ has trail → is_marked (set flags (place z) true) ≡ has (z ∷ trail)
shown flags trail z lt e = is_marked-set flags z lt ∙ ap (λ (f : ℤ → Bool). λ y. int_eq z y || f y) e

pub swapped : (a b c : Bool) → b || (a || c) ≡ (a || b) || c
swapped true true c = refl
swapped true false c = refl
swapped false true c = refl
swapped false false c = refl

pub length-marked : (zs : List ℤ) (flags : List Bool) → length (marked flags zs) ≡ length flags
length-marked [] flags = refl
length-marked (z ∷ zs) flags = length-marked zs (set flags (place z) true) ∙ length-set flags (place z) true

pub is_marked-marked : (zs : List ℤ) (flags : List Bool) (f : ℤ → Bool) → AreWithin (length flags) zs → is_marked flags ≡ f →
    is_marked (marked flags zs) ≡ (λ y. has zs y || f y)
is_marked-marked [] flags f h e = e
is_marked-marked (z ∷ zs) flags f h e =
    is_marked-marked zs (set flags (place z) true) (λ y. int_eq z y || f y)
    (subst (λ n. AreWithin n zs) (sym (length-set flags (place z) true)) h.1)
    (is_marked-set flags z (place-below (length flags) z h.0) ∙ ap (λ (g : ℤ → Bool). λ y. int_eq z y || g y) e)
    ∙ (λ i y. swapped (int_eq z y) (has zs y) (f y) i)

pub none_up : (n k : ℕ) → get_or (replicate n false) k false ≡ false
none_up zero k = refl
none_up (suc n) zero = refl
none_up (suc n) (suc k) = none_up n k

pub or_false : (b : Bool) → b || false ≡ b
or_false true = refl
or_false false = refl

-- the flags that show some literals, and no other
pub shows-marked : (n : ℕ) (zs : List ℤ) → AreWithin n zs → is_marked (marked (replicate n false) zs) ≡ has zs
shows-marked n zs h =
    is_marked-marked zs (replicate n false) (λ _. false) (subst (λ m. AreWithin m zs) (sym (length-replicate n false)) h) (λ i y. none_up n (place y) i)
    ∙ (λ i y. or_false (has zs y) i)

pub same_clause : (o : Option (Option (List ℤ))) (c : List ℤ) → option_and_then (λ x. x) o ≡ Some c → o ≡ Some (Some c)
same_clause None c e = cc
same_clause (Some None) c e = cc
same_clause (Some (Some b)) c e = ap Some e

pub AreHeldWithin-clause : (n : ℕ) (held : List (Option (List ℤ))) (h : ℕ) (c : List ℤ) → clause_at held h ≡ Some c → AreHeldWithin n held → AreWithin n c
AreHeldWithin-clause n held zero c e w = cc
AreHeldWithin-clause n held (suc k) c e w = AreHeldWithin-at n held k c (same_clause (slice_get held k) c e) w

IsReadWithin-on : (t : ℤ → Bool) (n : ℕ) (zs : List ℤ) (r : Reading) → IsReadWithin n r → AreWithin n zs → IsReadWithin n (read_on t r zs)
IsReadWithin-on t n [] r h w = h
IsReadWithin-on t n (z ∷ zs) r h w = IsReadWithin-on t n zs _ (IsReadWithin-literal t n r z h w.0) w.1

pub IsReadWithin-reading : (t : ℤ → Bool) (n : ℕ) (c : List ℤ) → AreWithin n c → IsReadWithin n (reading t c)
IsReadWithin-reading t n c w = subst (IsReadWithin n) (read_on-reading t c) (IsReadWithin-on t n c Falsified tt w)

-- one hint, by flags and by the list
at_same_reading : (r : Reading) (last : Bool) (n : ℕ) (f g : ℤ → Option ProofFault) → IsReadWithin n r → ((z : ℤ) → place z < n → f z ≡ g z) →
    at_reading r last f ≡ at_reading r last g
at_same_reading Falsified true n f g w e = refl
at_same_reading Falsified false n f g w e = refl
at_same_reading (Unit z) last n f g w e = e z (place-below n z w)
at_same_reading Neither last n f g w e = refl

at_same_clause : (o : Option (List ℤ)) (flags : List Bool) (trail : List ℤ) (last : Bool) (f g : ℤ → Option ProofFault) →
    ((c : List ℤ) → o ≡ Some c → AreWithin (length flags) c) → is_marked flags ≡ has trail → ((z : ℤ) → place z < length flags → f z ≡ g z) →
    at_clause o (λ c. at_reading (reading (is_marked flags) c) last f) ≡ at_clause o (λ c. at_reading (reading (has trail) c) last g)
at_same_clause None flags trail last f g w s e = refl
at_same_clause (Some c) flags trail last f g w s e =
    at_same_reading (reading (is_marked flags) c) last (length flags) f g (IsReadWithin-reading (is_marked flags) (length flags) c (w c refl)) e
    ∙ ap (λ (t : ℤ → Bool). at_reading (reading t c) last g) s

pub walk-same : (held : List (Option (List ℤ))) (hs : List ℕ) (flags : List Bool) (trail : List ℤ) → AreHeldWithin (length flags) held →
    is_marked flags ≡ has trail → walk_marked held flags hs ≡ walk held trail hs
unfolding walk_marked walk
walk-same held [] flags trail w s = refl
walk-same held (h ∷ hs) flags trail w s =
    at_same_clause (clause_at held h) flags trail (is_last hs) (λ z. walk_marked held (set flags (place z) true) hs) (λ z. walk held (z ∷ trail) hs)
    (λ c e. AreHeldWithin-clause (length flags) held h c e w) s
    (λ z lt. walk-same held hs (set flags (place z) true) (z ∷ trail)
    (subst (λ n. AreHeldWithin n held) (sym (length-set flags (place z) true)) w) (shown flags trail z lt s))

pub fault_of-unknown : (variables : ℕ) (held : List (Option (List ℤ))) (step : Step) → are_ascending variables 0 step.lits ≡ false →
    fault_of variables held step ≡ Some UnknownLit
unfolding fault_of
fault_of-unknown variables held step e = rw e

pub fault_of-walked : (variables n : ℕ) (held : List (Option (List ℤ))) (step : Step) → AreHeldWithin n held → AreWithin n step.lits →
    are_ascending variables 0 step.lits ≡ true →
    walk_marked held (marked (replicate n false) (negations step.lits)) step.hints ≡ fault_of variables held step
unfolding fault_of
fault_of-walked variables n held step h w e =
    rw e
    (walk-same held step.hints (marked (replicate n false) (negations step.lits)) (negations step.lits)
    (subst (λ m. AreHeldWithin m held) (sym (length-marked (negations step.lits) (replicate n false) ∙ length-replicate n false)) h)
    (shows-marked n (negations step.lits) (AreWithin-negations n step.lits w)))

-- A log that is accepted: its steps are valid where nothing is taken away.
use Rattle.std.proofs.Common.{◌≡◌, ℕ, zero, suc, ◌+◌, ◌-◌, ◌<◌, ◌≤◌, ◌⊎◌, Bool, true, false, ◌||◌, if◌then◌else◌, List, [], ◌∷◌, ◌++◌, length, map, set, Option, Some, None, is_none, slice_get, refl, sym, ap, subst, ◌∙◌, arith, ℤ, inl, inr, IsTrue}
use Rattle.std.specs.Prelude.{⊤, IsSomeAnd}
use Rattle.std.specs.Option.{option_and_then, option_map}
use Rattle.std.specs.List.{list_any}
use Rattle.std.proofs.lemmas.List.{length-append, length-map, map-id}
use Rattle.std.proofs.lemmas.Option.{same_Some}
use Rattle.pg_proof.specs.declared.propagation.Reading.{Reading}
use Rattle.pg_proof.specs.declared.propagation.Reading.TheVariants.{Falsified, Unit, Neither}
use Rattle.pg_proof.specs.declared.step.ProofFault.{ProofFault}
use Rattle.pg_proof.specs.declared.step.ProofFault.TheVariants.{UnknownLit}
use Rattle.pg_proof.specs.declared.step.Step.{Step}
use Rattle.pg_proof.specs.declared.step.Act.{Act}
use Rattle.pg_proof.specs.declared.step.Act.TheVariants.{Add, Remove}
use Rattle.pg_proof.specs.Places.{has, negations}
use Rattle.pg_proof.specs.Reading.{reading}
use Rattle.pg_proof.specs.State.{State, clause_at, variables_of, begun, with_clause}
use Rattle.pg_proof.specs.Refutation.{are_ascending, is_last, at_reading, at_clause, walk, fault_of}
use Rattle.pg_proof.specs.Removal.{without}
use Rattle.pg_proof.specs.Log.{after_act, after_acts_from, after_acts, IsClosedLog}
use Rattle.pg_proof.specs.Numbering.{adds_empty, AreAtMost, AreEarlier, AreValid}
use Rattle.pg_proof.proofs.SoundLemmas.{checked}
use Rattle.pg_proof.proofs.MarkedLemmas.{same_clause}
use Rattle.pg_proof.proofs.RemovalLemmas.{length-without, one_of}

-- hints under other numbers, among other clauses
abbrev pub AreMapped : List (Option (List ℤ)) → List (Option (List ℤ)) → (ℕ → ℕ) → List ℕ → Type 0
AreMapped held after at [] = ⊤
AreMapped held after at (h ∷ hs) = ((c : List ℤ) → clause_at held h ≡ Some c → clause_at after (at h) ≡ Some c) × AreMapped held after at hs

is_last-map : (at : ℕ → ℕ) (hs : List ℕ) → is_last (map at hs) ≡ is_last hs
is_last-map at [] = refl
is_last-map at (h ∷ hs) = refl

mapped_reading : (r : Reading) (last : Bool) (f g : ℤ → Option ProofFault) → ((z : ℤ) → f z ≡ None → g z ≡ None) → at_reading r last f ≡ None → at_reading r last g ≡ None
mapped_reading Falsified true f g down e = refl
mapped_reading Falsified false f g down e = cc
mapped_reading (Unit z) last f g down e = down z e
mapped_reading Neither last f g down e = cc

mapped_clause : (o p : Option (List ℤ)) (t : ℤ → Bool) (last : Bool) (f g : ℤ → Option ProofFault) → ((c : List ℤ) → o ≡ Some c → p ≡ Some c) →
    ((z : ℤ) → f z ≡ None → g z ≡ None) → at_clause o (λ c. at_reading (reading t c) last f) ≡ None → at_clause p (λ c. at_reading (reading t c) last g) ≡ None
mapped_clause None p t last f g same down e = cc
mapped_clause (Some c) p t last f g same down e =
    ap (λ x. at_clause x (λ d. at_reading (reading t d) last g)) (same c refl) ∙ mapped_reading (reading t c) last f g down e

walk-mapped : (held after : List (Option (List ℤ))) (at : ℕ → ℕ) (hs : List ℕ) (trail : List ℤ) → AreMapped held after at hs → walk held trail hs ≡ None →
    walk after trail (map at hs) ≡ None
unfolding walk
walk-mapped held after at [] trail m e = cc
walk-mapped held after at (h ∷ hs) trail m e =
    ap (λ b. at_clause (clause_at after (at h)) (λ c. at_reading (reading (has trail) c) b (λ z. walk after (z ∷ trail) (map at hs)))) (is_last-map at hs)
    ∙ mapped_clause (clause_at held h) (clause_at after (at h)) (has trail) (is_last hs) (λ z. walk held (z ∷ trail) hs) (λ z. walk after (z ∷ trail) (map at hs)) m.0
    (λ z n. walk-mapped held after at hs (z ∷ trail) m.1 n) e

rechecked : (b : Bool) (v w : Option ProofFault) → (v ≡ None → w ≡ None) → (if b then v else Some UnknownLit) ≡ None → (if b then w else Some UnknownLit) ≡ None
rechecked true v w f e = f e
rechecked false v w f e = cc

pub fault_of-mapped : (variables : ℕ) (held after : List (Option (List ℤ))) (at : ℕ → ℕ) (lits : List ℤ) (hs : List ℕ) → AreMapped held after at hs →
    fault_of variables held (record { lits = lits; hints = hs }) ≡ None → fault_of variables after (record { lits = lits; hints = map at hs }) ≡ None
unfolding fault_of
fault_of-mapped variables held after at lits hs m e =
    rechecked (are_ascending variables 0 lits) (walk held (negations lits) hs) (walk after (negations lits) (map at hs)) (walk-mapped held after at hs (negations lits) m) e

-- hints that are known
abbrev pub AreKnown : List (Option (List ℤ)) → List ℕ → Type 0
AreKnown held [] = ⊤
AreKnown held (h ∷ hs) = ((c : List ℤ) × (clause_at held h ≡ Some c)) × AreKnown held hs

known_reading : (r : Reading) (last : Bool) (f : ℤ → Option ProofFault) (Q : Type 0) → (last ≡ true → Q) → ((z : ℤ) → f z ≡ None → Q) → at_reading r last f ≡ None → Q
known_reading Falsified true f Q end down e = end refl
known_reading Falsified false f Q end down e = cc
known_reading (Unit z) last f Q end down e = down z e
known_reading Neither last f Q end down e = cc

known_clause : (o : Option (List ℤ)) (t : ℤ → Bool) (last : Bool) (f : ℤ → Option ProofFault) (Q : Type 0) → (last ≡ true → Q) → ((z : ℤ) → f z ≡ None → Q) →
    at_clause o (λ c. at_reading (reading t c) last f) ≡ None → ((c : List ℤ) × (o ≡ Some c)) × Q
known_clause None t last f Q end down e = cc
known_clause (Some c) t last f Q end down e = ((c, refl), known_reading (reading t c) last f Q end down e)

known_end : (held : List (Option (List ℤ))) (hs : List ℕ) → is_last hs ≡ true → AreKnown held hs
known_end held [] e = tt
known_end held (h ∷ hs) e = cc

known_walk : (held : List (Option (List ℤ))) (hs : List ℕ) (trail : List ℤ) → walk held trail hs ≡ None → AreKnown held hs
unfolding walk
known_walk held [] trail e = tt
known_walk held (h ∷ hs) trail e =
    known_clause (clause_at held h) (has trail) (is_last hs) (λ z. walk held (z ∷ trail) hs) (AreKnown held hs) (known_end held hs)
    (λ z n. known_walk held hs (z ∷ trail) n) e

pub known_hints : (variables : ℕ) (held : List (Option (List ℤ))) (step : Step) → fault_of variables held step ≡ None → AreKnown held step.hints
unfolding fault_of
known_hints variables held step e =
    known_walk held step.hints (negations step.lits) (checked (are_ascending variables 0 step.lits) (walk held (negations step.lits) step.hints) e).1

get_below : (held : List (Option (List ℤ))) (k : ℕ) (c : List ℤ) → slice_get held k ≡ Some (Some c) → k < length held
get_below [] k c e = cc
get_below (o ∷ held) zero c e = omega arith
get_below (o ∷ held) (suc k) c e = let r : k < length held = get_below held k c e in omega arith

pub number_below : (held : List (Option (List ℤ))) (h : ℕ) (c : List ℤ) → clause_at held h ≡ Some c → h ≤ length held
number_below held zero c e = cc
number_below held (suc k) c e = let r = get_below held k c (same_clause (slice_get held k) c e) in omega (arith, r)

known_at_most : (held : List (Option (List ℤ))) (hs : List ℕ) → AreKnown held hs → AreAtMost (length held) hs
known_at_most held [] k = tt
known_at_most held (h ∷ hs) k = (number_below held h k.0.0 k.0.1, known_at_most held hs k.1)

-- what is pushed changes nothing of what was there
get-push : (held : List (Option (List ℤ))) (x : Option (List ℤ)) (k : ℕ) (c : List ℤ) → slice_get held k ≡ Some (Some c) → slice_get (held ++ x ∷ []) k ≡ Some (Some c)
get-push [] x k c e = cc
get-push (o ∷ held) x zero c e = e
get-push (o ∷ held) x (suc k) c e = get-push held x k c e

some_flat : (o : Option (Option (List ℤ))) (c : List ℤ) → o ≡ Some (Some c) → option_and_then (λ x. x) o ≡ Some c
some_flat o c e = ap (option_and_then (λ x. x)) e

pub clause_at-push : (held : List (Option (List ℤ))) (x : Option (List ℤ)) (n : ℕ) (c : List ℤ) → clause_at held n ≡ Some c → clause_at (held ++ x ∷ []) n ≡ Some c
clause_at-push held x zero c e = e
clause_at-push held x (suc k) c e = some_flat (slice_get (held ++ x ∷ []) k) c (get-push held x k c (same_clause (slice_get held k) c e))

get-last : (held : List (Option (List ℤ))) (c : List ℤ) → slice_get (held ++ Some c ∷ []) (length held) ≡ Some (Some c)
get-last [] c = refl
get-last (o ∷ held) c = get-last held c

pub clause_at-last : (held : List (Option (List ℤ))) (c : List ℤ) (n : ℕ) → n ≡ length held + 1 → clause_at (held ++ Some c ∷ []) n ≡ Some c
clause_at-last held c n e =
    let s : n ≡ suc (length held) = omega arith in
    ap (clause_at (held ++ Some c ∷ [])) s ∙ some_flat (slice_get (held ++ Some c ∷ []) (length held)) c (get-last held c)

-- a number of a longer list is one of what was there, or the last
pub data Numbered (held : List (Option (List ℤ))) (last : List ℤ) (h : ℕ) (c : List ℤ) : Type 0 where
  old : clause_at held h ≡ Some c → Numbered held last h c
  new : h ≡ length held + 1 → last ≡ c → Numbered held last h c

get_cases : (held : List (Option (List ℤ))) (last c : List ℤ) (k : ℕ) → slice_get (held ++ Some last ∷ []) k ≡ Some (Some c) →
    (slice_get held k ≡ Some (Some c)) ⊎ ((k ≡ length held) × (last ≡ c))
get_cases [] last c zero e = inr (refl, cc)
get_cases [] last c (suc k) e = cc
get_cases (o ∷ held) last c zero e = inl e
get_cases (o ∷ held) last c (suc k) e = onward (get_cases held last c k e)
  where
    onward : (slice_get held k ≡ Some (Some c)) ⊎ ((k ≡ length held) × (last ≡ c)) → (slice_get held k ≡ Some (Some c)) ⊎ ((suc k ≡ suc (length held)) × (last ≡ c))
    onward (inl f) = inl f
    onward (inr f) = inr (ap suc f.0, f.1)

pub numbered : (held : List (Option (List ℤ))) (last c : List ℤ) (h : ℕ) → clause_at (held ++ Some last ∷ []) h ≡ Some c → Numbered held last h c
numbered held last c zero e = cc
numbered held last c (suc k) e = by (get_cases held last c k (same_clause (slice_get (held ++ Some last ∷ []) k) c e))
  where
    by : (slice_get held k ≡ Some (Some c)) ⊎ ((k ≡ length held) × (last ≡ c)) → Numbered held last (suc k) c
    by (inl f) = old (some_flat (slice_get held k) c f)
    by (inr f) = new (ap suc f.0 ∙ omega arith) f.1

-- what a closed log says of its steps, where nothing is taken away
abbrev pub IsSub : List (Option (List ℤ)) → List (Option (List ℤ)) → Type 0
IsSub held all = (h : ℕ) (c : List ℤ) → clause_at held h ≡ Some c → clause_at all h ≡ Some c

mapped_sub : (held all : List (Option (List ℤ))) (hs : List ℕ) → IsSub held all → AreMapped held all (λ h. h) hs
mapped_sub held all [] s = tt
mapped_sub held all (h ∷ hs) s = (s h, mapped_sub held all hs s)

IsSub-push : (held all : List (Option (List ℤ))) (c : List ℤ) → length held ≡ length all → IsSub held all → IsSub (held ++ Some c ∷ []) (all ++ Some c ∷ [])
IsSub-push held all c l s h d e = by (numbered held c d h e)
  where
    by : Numbered held c h d → clause_at (all ++ Some c ∷ []) h ≡ Some d
    by (old f) = clause_at-push all (Some c) h d (s h d f)
    by (new n f) = clause_at-last all c h (n ∙ ap (λ m. m + 1) l) ∙ ap Some f

get-gone : (held : List (Option (List ℤ))) (j k : ℕ) (c : List ℤ) → slice_get (set held j None) k ≡ Some (Some c) → slice_get held k ≡ Some (Some c)
get-gone [] j k c e = e
get-gone (d ∷ held) zero zero c e = cc
get-gone (d ∷ held) zero (suc k) c e = e
get-gone (d ∷ held) (suc j) zero c e = e
get-gone (d ∷ held) (suc j) (suc k) c e = get-gone held j k c e

sub_gone : (held : List (Option (List ℤ))) (j : ℕ) → IsSub (set held j None) held
sub_gone held j zero c e = e
sub_gone held j (suc k) c e = some_flat (slice_get held k) c (get-gone held j k c (same_clause (slice_get (set held j None) k) c e))

pub IsSub-without : (ns : List ℕ) (held after all : List (Option (List ℤ))) → without held ns ≡ Some after → IsSub held all → IsSub after all
IsSub-without [] held after all e s = let same : held ≡ after = cc in subst (λ x. IsSub x all) same s
IsSub-without (m ∷ ns) held after all e s =
    IsSub-without ns (set held (m - 1) None) after all (one_of _ _ after e) (λ h c f. s h c (sub_gone held (m - 1) h c f))

or_none : (b : Bool) → b || false ≡ b
or_none true = refl
or_none false = refl

or_assoc : (a b c : Bool) → (a || b) || c ≡ a || (b || c)
or_assoc true b c = refl
or_assoc false b c = refl

-- one act of a log that is accepted
data Accepted (state after : State) : Act → Type 0 where
  added : (step : Step) → fault_of state.variables state.held step ≡ None → after ≡ with_clause state step.lits → Accepted state after (Add step)
  gone : (ns : List ℕ) (held : List (Option (List ℤ))) → without state.held ns ≡ Some held → after ≡ record state { held = held } → Accepted state after (Remove ns)

accepted_step : (state after : State) (step : Step) (o : Option ProofFault) → fault_of state.variables state.held step ≡ o →
    (if is_none o then Some (with_clause state step.lits) else None) ≡ Some after → Accepted state after (Add step)
accepted_step state after step None f e = added step f (let s : with_clause state step.lits ≡ after = cc in sym s)
accepted_step state after step (Some x) f e = cc

accepted_removal : (state after : State) (ns : List ℕ) (o : Option (List (Option (List ℤ)))) → without state.held ns ≡ o →
    option_map (λ held. record state { held = held }) o ≡ Some after → Accepted state after (Remove ns)
accepted_removal state after ns None f e = cc
accepted_removal state after ns (Some held) f e = gone ns held f (sym (same_Some (record state { held = held }) after e))

accepted : (state after : State) (act : Act) → after_act state act ≡ Some after → Accepted state after act
accepted state after (Add step) e = accepted_step state after step (fault_of state.variables state.held step) refl e
accepted state after (Remove ns) e = accepted_removal state after ns (without state.held ns) refl e

first_act : (o : Option State) (acts : List Act) (final : State) → option_and_then (λ after. after_acts_from after acts) o ≡ Some final →
    (after : State) × (o ≡ Some after) × (after_acts_from after acts ≡ Some final)
first_act None acts final e = cc
first_act (Some after) acts final e = (after, refl, e)

valid_act : {act : Act} (acts : List Act) (state after : State) (all : List (Option (List ℤ))) → Accepted state after act → IsSub state.held all → length state.held ≡ length all →
    ((next : List (Option (List ℤ))) → IsSub after.held next → length after.held ≡ length next → AreValid after.variables next acts) → AreValid state.variables all (act ∷ acts)
valid_act acts state after all (added step f m) s l rest =
    let moved : (next : List (Option (List ℤ))) → IsSub (state.held ++ Some step.lits ∷ []) next → length (state.held ++ Some step.lits ∷ []) ≡ length next → AreValid state.variables next acts =
    subst (λ x. (next : List (Option (List ℤ))) → IsSub x.held next → length x.held ≡ length next → AreValid x.variables next acts) m rest in
    let here = fault_of-mapped state.variables state.held all (λ h. h) step.lits step.hints (mapped_sub state.held all step.hints s) f in (
      ap (λ hs. fault_of state.variables all (record { lits = step.lits; hints = hs })) (sym (map-id step.hints)) ∙ here,
      moved (all ++ Some step.lits ∷ []) (IsSub-push state.held all step.lits l s)
          (length-append state.held (Some step.lits ∷ []) ∙ ap (λ n. n + 1) l ∙ sym (length-append all (Some step.lits ∷ []))),
    )
valid_act acts state after all (gone ns held w m) s l rest =
    let moved : (next : List (Option (List ℤ))) → IsSub held next → length held ≡ length next → AreValid state.variables next acts =
    subst (λ x. (next : List (Option (List ℤ))) → IsSub x.held next → length x.held ≡ length next → AreValid x.variables next acts) m rest in
    moved all (IsSub-without ns state.held held all w s) (length-without ns state.held held w ∙ l)

pub valid_from : (acts : List Act) (state final : State) (all : List (Option (List ℤ))) → after_acts_from state acts ≡ Some final → IsSub state.held all →
    length state.held ≡ length all → AreValid state.variables all acts
valid_from [] state final all e s l = tt
valid_from (act ∷ acts) state final all e s l =
    let p = first_act (after_act state act) acts final e in
    valid_act acts state p.0 all (accepted state p.0 act p.1) s l (λ next t m. valid_from acts p.0 final next p.2 t m)

act_closed : {act : Act} (state after : State) → Accepted state after act → after.closed ≡ state.closed || adds_empty act
act_closed state after (added step f m) = ap (λ (x : State). x.closed) m
act_closed state after (gone ns held w m) = ap (λ (x : State). x.closed) m ∙ sym (or_none state.closed)

pub closed_after : (acts : List Act) (state final : State) → after_acts_from state acts ≡ Some final → final.closed ≡ state.closed || list_any adds_empty acts
closed_after [] state final e = let s : state ≡ final = same_Some state final e in ap (λ (x : State). x.closed) (sym s) ∙ sym (or_none state.closed)
closed_after (act ∷ acts) state final e =
    let p = first_act (after_act state act) acts final e in
    closed_after acts p.0 final p.2 ∙ ap (λ b. b || list_any adds_empty acts) (act_closed state p.0 (accepted state p.0 act p.1))
    ∙ or_assoc state.closed (adds_empty act) (list_any adds_empty acts)

-- each hint of a valid step is an earlier number
pub earlier_from : (acts : List Act) (variables n : ℕ) (all : List (Option (List ℤ))) → length all ≡ n → AreValid variables all acts → AreEarlier n acts
earlier_from [] variables n all l v = tt
earlier_from (Add step ∷ acts) variables n all l v = (
  subst (λ m. AreAtMost m step.hints) l (known_at_most all step.hints (known_hints variables all step v.0)),
  earlier_from acts variables (n + 1) (all ++ Some step.lits ∷ []) (length-append all (Some step.lits ∷ []) ∙ ap (λ m. m + 1) l) v.1,
)
earlier_from (Remove ns ∷ acts) variables n all l v = earlier_from acts variables n all l v

-- what a closed log gives
pub record IsGiven (question : List (List ℤ)) (acts : List Act) : Type 0 where
  pub valid : AreValid (variables_of question) (map Some question) acts
  pub earlier : AreEarlier (length question) acts
  pub ends : list_any adds_empty acts ≡ true

given_after : (question : List (List ℤ)) (acts : List Act) (o : Option State) → after_acts question acts ≡ o → IsSomeAnd o (λ after. IsTrue after.closed) → IsGiven question acts
given_after question acts None e h = absurd h
given_after question acts (Some final) e h =
    let v = valid_from acts (begun question) final (map Some question) e (λ k c f. f) refl in
    record {
      valid = v;
      earlier = earlier_from acts (variables_of question) (length question) (map Some question) (length-map question Some) v;
      ends = sym (closed_after acts (begun question) final e) ∙ h;
    }

pub given_log : (question : List (List ℤ)) (acts : List Act) → IsClosedLog question acts → IsGiven question acts
given_log question acts h = given_after question acts (after_acts question acts) refl h

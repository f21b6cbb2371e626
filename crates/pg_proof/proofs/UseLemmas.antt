-- Which clauses are used, found backward.
use Rattle.std.proofs.Common.{◌≡◌, ◌≢◌, ℕ, zero, suc, ◌+◌, ◌-◌, ◌<◌, ◌≤◌, Bool, true, false, ◌&&◌, eqb, List, [], ◌∷◌, ◌++◌, length, get_or, take, drop, set, replicate, refl, sym, ap, subst, ◌∙◌, arith, ◌⊎◌, ◌||◌, inl, inr, ⊎_elim}
use Rattle.std.proofs.lemmas.List.{length-set, length-replicate, take-append-drop, get_or-set_same, get_or-set_other, drop_more, take_more, take_all, drop_all}
use Rattle.std.proofs.lemmas.Bool.{false≢true}
use Rattle.std.proofs.lemmas.Bool.Decides.{nat_tests}
use Rattle.pg_proof.proofs.MarkedLemmas.{none_up}
use Rattle.pg_proof.proofs.WithinLemmas.{both}
use Rattle.pg_proof.specs.declared.step.Step.{Step}
use Rattle.pg_proof.specs.declared.step.Act.{Act}
use Rattle.pg_proof.specs.declared.step.Act.TheVariants.{Add, Remove}
use Rattle.pg_proof.specs.Numbering.{raised, raised_if, are_up, AreUsed, AreAtMost, AreEarlier, AreNeeded, is_used_hint}
use Rattle.pg_proof.specs.Trimmed.{step_count, has_hint}

both_up : (a b : Bool) → a ≡ true → b ≡ true → a && b ≡ true
both_up true b e f = f
both_up false b e f = cc

-- flags that are raised
pub set_up : (flags : List Bool) (p q : ℕ) (b : Bool) → eqb q p ≡ b → get_or flags q false ≡ true → get_or (set flags p true) q false ≡ true
set_up [] p q b e h = h
set_up (f ∷ flags) zero zero b e h = refl
set_up (f ∷ flags) zero (suc q) b e h = h
set_up (f ∷ flags) (suc p) zero b e h = h
set_up (f ∷ flags) (suc p) (suc q) b e h = set_up flags p q (eqb q p) refl h

pub raised_keeps : (ps : List ℕ) (flags : List Bool) (q : ℕ) → get_or flags q false ≡ true → get_or (raised flags ps) q false ≡ true
raised_keeps [] flags q h = h
raised_keeps (p ∷ ps) flags q h = raised_keeps ps (set flags p true) q (set_up flags p q (eqb q p) refl h)

are_up_keeps : (hs ps : List ℕ) (flags : List Bool) → are_up flags hs ≡ true → are_up (raised flags ps) hs ≡ true
are_up_keeps [] ps flags h = refl
are_up_keeps (q ∷ hs) ps flags h =
    let p = both (get_or flags q false) (are_up flags hs) h in
    both_up (get_or (raised flags ps) q false) (are_up (raised flags ps) hs) (raised_keeps ps flags q p.0) (are_up_keeps hs ps flags p.1)

pub length-raised : (ps : List ℕ) (flags : List Bool) → length (raised flags ps) ≡ length flags
length-raised [] flags = refl
length-raised (p ∷ ps) flags = length-raised ps (set flags p true) ∙ length-set flags p true

pub raised_itself : (ps : List ℕ) (flags : List Bool) (n : ℕ) → AreAtMost n ps → n < length flags → are_up (raised flags ps) ps ≡ true
raised_itself [] flags n a lt = refl
raised_itself (p ∷ ps) flags n a lt =
    let room : p < length flags = omega (arith, a.0) in
    both_up (get_or (raised (set flags p true) ps) p false) (are_up (raised (set flags p true) ps) ps)
    (raised_keeps ps (set flags p true) p (get_or-set_same flags p true false room))
    (raised_itself ps (set flags p true) n a.1 (subst (λ m. n < m) (sym (length-set flags p true)) lt))

-- a flag past those that are raised stays
raised_past : (ps : List ℕ) (flags : List Bool) (n q : ℕ) → AreAtMost n ps → n < q → get_or (raised flags ps) q false ≡ get_or flags q false
raised_past [] flags n q a lt = refl
raised_past (p ∷ ps) flags n q a lt =
    let other : q ≢ p = omega (arith, a.0) in
    raised_past ps (set flags p true) n q a.1 lt ∙ get_or-set_other flags p q true false other

AreUsed-raised : (acts : List Act) (flags : List Bool) (ps : List ℕ) (m n : ℕ) → AreAtMost m ps → m ≤ n → AreUsed flags n acts → AreUsed (raised flags ps) n acts
AreUsed-raised [] flags ps m n a le u = tt
AreUsed-raised (Add step ∷ acts) flags ps m n a le u = (
  (λ h. are_up_keeps step.hints ps flags (u.0 (sym (raised_past ps flags m (n + 1) a (omega arith)) ∙ h))),
  AreUsed-raised acts flags ps m (n + 1) a (omega arith) u.1,
)
AreUsed-raised (Remove numbers ∷ acts) flags ps m n a le u = AreUsed-raised acts flags ps m n a le u

-- one step, from its own flag on
step_used : (b : Bool) (flags : List Bool) (hints : List ℕ) (acts : List Act) (n : ℕ) → get_or flags (n + 1) false ≡ b → AreAtMost n hints → n + 1 < length flags →
    AreUsed flags (n + 1) acts →
    (get_or (raised_if b flags hints) (n + 1) false ≡ true → are_up (raised_if b flags hints) hints ≡ true) × AreUsed (raised_if b flags hints) (n + 1) acts
step_used true flags hints acts n e a lt u =
    ((λ h. raised_itself hints flags n a (omega arith)), AreUsed-raised acts flags hints n (n + 1) a (omega arith) u)
step_used false flags hints acts n e a lt u = ((λ h. cc), u)

kept : (b : Bool) (flags : List Bool) (hints : List ℕ) (q : ℕ) → get_or flags q false ≡ true → get_or (raised_if b flags hints) q false ≡ true
kept true flags hints q h = raised_keeps hints flags q h
kept false flags hints q h = h

same_places : (b : Bool) (flags : List Bool) (hints : List ℕ) → length (raised_if b flags hints) ≡ length flags
same_places true flags hints = length-raised hints flags
same_places false flags hints = refl

pub or_first : (b c : Bool) → b ≡ true → b || c ≡ true
or_first true c e = refl
or_first false c e = cc

pub or_later : (b c : Bool) → c ≡ true → b || c ≡ true
or_later true c e = refl
or_later false c e = e

-- a flag that is up was up, or is one of those that were put up
pub set_from : (flags : List Bool) (p q : ℕ) → get_or (set flags p true) q false ≡ true → (get_or flags q false ≡ true) ⊎ (p ≡ q)
set_from [] p q h = inl h
set_from (f ∷ flags) zero zero h = inr refl
set_from (f ∷ flags) zero (suc q) h = inl h
set_from (f ∷ flags) (suc p) zero h = inl h
set_from (f ∷ flags) (suc p) (suc q) h = ⊎_elim (λ k. inl k) (λ e. inr (ap suc e)) (set_from flags p q h)

same_eq : (a b : ℕ) → a ≡ b → eqb a b ≡ true
same_eq a b e = grind (arith, nat_tests)

pub raised_from : (ps : List ℕ) (flags : List Bool) (q : ℕ) → get_or (raised flags ps) q false ≡ true → (get_or flags q false ≡ true) ⊎ (has_hint ps q ≡ true)
raised_from [] flags q h = inl h
raised_from (p ∷ ps) flags q h =
    ⊎_elim
    (λ k. ⊎_elim (λ m. inl m) (λ e. inr (or_first (eqb p q) (has_hint ps q) (same_eq p q e))) (set_from flags p q k))
    (λ k. inr (or_later (eqb p q) (has_hint ps q) k))
    (raised_from ps (set flags p true) q h)

raised_if_from : (b : Bool) (flags : List Bool) (hints : List ℕ) (q : ℕ) → get_or (raised_if b flags hints) q false ≡ true →
    (get_or flags q false ≡ true) ⊎ ((b ≡ true) × (has_hint hints q ≡ true))
raised_if_from true flags hints q h = ⊎_elim (λ k. inl k) (λ k. inr (refl, k)) (raised_from hints flags q h)
raised_if_from false flags hints q h = inl h

and_up : (a b : Bool) → a ≡ true → b ≡ true → a && b ≡ true
and_up true b e f = f
and_up false b e f = cc

more_hints : (a b c d e : Bool) → (a ≡ true → b ≡ true) → (d ≡ true → e ≡ true) → (a && c) || d ≡ true → (b && c) || e ≡ true
more_hints true b true d e f g h = or_first (b && true) e (and_up b true (f refl) refl)
more_hints true b false d e f g h = or_later (b && false) e (g h)
more_hints false b c d e f g h = or_later (b && c) e (g h)

is_used_hint-more : (acts : List Act) (flags after : List Bool) (h n : ℕ) → ((q : ℕ) → get_or flags q false ≡ true → get_or after q false ≡ true) →
    is_used_hint flags h n acts ≡ true → is_used_hint after h n acts ≡ true
is_used_hint-more [] flags after h n up u = u
is_used_hint-more (Add step ∷ acts) flags after h n up u =
    more_hints (get_or flags (n + 1) false) (get_or after (n + 1) false) (has_hint step.hints h) (is_used_hint flags h (n + 1) acts) (is_used_hint after h (n + 1) acts)
    (up (n + 1)) (is_used_hint-more acts flags after h (n + 1) up) u
is_used_hint-more (Remove numbers ∷ acts) flags after h n up u = is_used_hint-more acts flags after h n up u

AreNeeded-add : (b : Bool) (flags : List Bool) (last n : ℕ) (step : Step) (rest : List Act) → get_or flags (n + 1) false ≡ b → AreNeeded flags last (n + 1) rest →
    AreNeeded (raised_if b flags step.hints) last n (Add step ∷ rest)
AreNeeded-add b flags last n step rest e needed h up =
    ⊎_elim
    (λ k. ⊎_elim (λ m. inl m)
    (λ u. inr (or_later (get_or (raised_if b flags step.hints) (n + 1) false && has_hint step.hints h) (is_used_hint (raised_if b flags step.hints) h (n + 1) rest)
    (is_used_hint-more rest flags (raised_if b flags step.hints) h (n + 1) (kept b flags step.hints) u)))
    (needed h k))
    (λ k. inr (or_first (get_or (raised_if b flags step.hints) (n + 1) false && has_hint step.hints h) (is_used_hint (raised_if b flags step.hints) h (n + 1) rest)
    (and_up (get_or (raised_if b flags step.hints) (n + 1) false) (has_hint step.hints h) (kept b flags step.hints (n + 1) (e ∙ k.0)) k.1)))
    (raised_if_from b flags step.hints h up)

AreNeeded-begun : (m last : ℕ) (acts : List Act) → AreNeeded (set (replicate m false) last true) last last acts
AreNeeded-begun m last acts h up =
    ⊎_elim (λ k. absurd (false≢true (sym (none_up m h) ∙ k))) (λ e. inl (sym e)) (set_from (replicate m false) last h up)

-- what the loop keeps
pub record AreFlagged (question : ℕ) (acts : List Act) (flags : List Bool) (number left : ℕ) : Type 0 where
  pub used : AreUsed flags number (drop left acts)
  pub counted : number ≡ question + step_count (take left acts)
  pub within : left ≤ length acts
  pub last : get_or flags (question + step_count acts) false ≡ true
  pub places : length flags ≡ question + step_count acts + 1
  pub needed : AreNeeded flags (question + step_count acts) number (drop left acts)

pub step_count-append : (front bs : List Act) → step_count (front ++ bs) ≡ step_count front + step_count bs
step_count-append [] bs = omega arith
step_count-append (Add step ∷ front) bs = let e = step_count-append front bs in omega arith
step_count-append (Remove numbers ∷ front) bs = step_count-append front bs

pub step_count-take : (acts : List Act) (k : ℕ) (a : Act) → k < length acts → drop k acts ≡ a ∷ drop (k + 1) acts → take (k + 1) acts ≡ take k acts ++ a ∷ []
step_count-take acts k a lt e =
    let d = drop_more acts k a lt in
    let s : get_or acts k a ≡ a = cc in
    take_more acts k a lt ∙ ap (λ x. take k acts ++ x ∷ []) s

pub count_next : (acts : List Act) (k : ℕ) (a : Act) → k < length acts → drop k acts ≡ a ∷ drop (k + 1) acts →
    step_count (take (k + 1) acts) ≡ step_count (take k acts) + step_count (a ∷ [])
count_next acts k a lt e = ap step_count (step_count-take acts k a lt e) ∙ step_count-append (take k acts) (a ∷ [])

count_all : (acts : List Act) (k : ℕ) → step_count acts ≡ step_count (take k acts) + step_count (drop k acts)
count_all acts k = ap step_count (sym (take-append-drop k acts)) ∙ step_count-append (take k acts) (drop k acts)

earlier_at : (acts : List Act) (k m : ℕ) (step : Step) (rest : List Act) → drop k acts ≡ Add step ∷ rest → AreEarlier m acts →
    AreAtMost (m + step_count (take k acts)) step.hints
earlier_at [] zero m step rest e h = cc
earlier_at [] (suc k) m step rest e h = cc
earlier_at (Add s ∷ acts) zero m step rest e h =
    let same : s ≡ step = cc in let n : m ≡ m + 0 = omega arith in
    subst (λ x. x) (λ i. AreAtMost (n i) (same i).hints) h.0
earlier_at (Remove numbers ∷ acts) zero m step rest e h = cc
earlier_at (Add s ∷ acts) (suc k) m step rest e h =
    let n : (m + 1) + step_count (take k acts) ≡ m + suc (step_count (take k acts)) = omega arith in
    subst (λ x. AreAtMost x step.hints) n (earlier_at acts k (m + 1) step rest e h.1)
earlier_at (Remove numbers ∷ acts) (suc k) m step rest e h = earlier_at acts k m step rest e h

pub AreFlagged-add : (question : ℕ) (acts : List Act) (flags after : List Bool) (number left k : ℕ) (step : Step) → left ≡ k + 1 →
    drop k acts ≡ Add step ∷ drop (k + 1) acts → AreEarlier question acts → after ≡ raised_if (get_or flags number false) flags step.hints →
    AreFlagged question acts flags number left → (0 < number) × AreFlagged question acts after (number - 1) k
AreFlagged-add question acts flags after number left k step l d early made h =
    let lt : k < length acts = omega (arith, h.within) in
    let n = question + step_count (take k acts) in
    let next = count_next acts k (Add step) lt d in
    let one : step_count (Add step ∷ []) ≡ 1 = refl in
    let counted : number ≡ n + 1 = h.counted ∙ ap (λ x. question + step_count (take x acts)) l ∙ omega (arith, next) in
    let total = count_all acts k in
    let rest : step_count (drop k acts) ≡ suc (step_count (drop (k + 1) acts)) = ap step_count d in
    let hints = earlier_at acts k question step (drop (k + 1) acts) d early in
    let room : n + 1 < length flags = omega (arith, h.places, total, rest) in
    let used : AreUsed flags (n + 1) (drop (k + 1) acts) = subst (λ x. x) (λ i. AreUsed flags (counted i) (drop (l i) acts)) h.used in
    let both_parts = step_used (get_or flags (n + 1) false) flags step.hints (drop (k + 1) acts) n refl hints room used in
    let same : after ≡ raised_if (get_or flags (n + 1) false) flags step.hints = made ∙ ap (λ x. raised_if (get_or flags x false) flags step.hints) counted in
    let less : n ≡ number - 1 = omega (arith, counted) in
    let here : AreUsed (raised_if (get_or flags (n + 1) false) flags step.hints) n (Add step ∷ drop (k + 1) acts) = both_parts in (
      omega (arith, counted),
      record {
        used = subst (λ x. x) (λ i. AreUsed (sym same i) (less i) (sym d i)) here;
        counted = sym less;
        within = omega (arith, lt);
        last = ap (λ fs. get_or fs (question + step_count acts) false) made ∙ kept (get_or flags number false) flags step.hints (question + step_count acts) h.last;
        places = ap length made ∙ same_places (get_or flags number false) flags step.hints ∙ h.places;
        needed = subst (λ x. x) (λ i. AreNeeded (sym same i) (question + step_count acts) (less i) (sym d i))
            (AreNeeded-add (get_or flags (n + 1) false) flags (question + step_count acts) n step (drop (k + 1) acts) refl
            (subst (λ x. x) (λ i. AreNeeded flags (question + step_count acts) (counted i) (drop (l i) acts)) h.needed));
      },
    )

pub AreFlagged-remove : (question : ℕ) (acts : List Act) (flags : List Bool) (number left k : ℕ) (gone : List ℕ) → left ≡ k + 1 →
    drop k acts ≡ Remove gone ∷ drop (k + 1) acts → AreFlagged question acts flags number left → AreFlagged question acts flags number k
AreFlagged-remove question acts flags number left k gone l d h =
    let lt : k < length acts = omega (arith, h.within) in
    let next = count_next acts k (Remove gone) lt d in
    let none : step_count (Remove gone ∷ []) ≡ 0 = refl in
    let here : AreUsed flags number (Remove gone ∷ drop (k + 1) acts) = subst (λ x. AreUsed flags number (drop x acts)) l h.used in
    record {
      used = subst (AreUsed flags number) (sym d) here;
      counted = h.counted ∙ ap (λ x. question + step_count (take x acts)) l ∙ omega (arith, next);
      within = omega (arith, lt);
      last = h.last;
      places = h.places;
      needed = subst (AreNeeded flags (question + step_count acts) number) (sym d) (subst (λ x. AreNeeded flags (question + step_count acts) number (drop x acts)) l h.needed);
    }

pub AreFlagged-begun : (question : ℕ) (acts : List Act) (flags : List Bool) → flags ≡ set (replicate (question + step_count acts + 1) false) (question + step_count acts) true →
    AreFlagged question acts flags (question + step_count acts) (length acts)
AreFlagged-begun question acts flags made =
    let n = question + step_count acts in
    let room : n < length (replicate (n + 1) false) = rw (length-replicate (n + 1) false) (omega arith) in
    record {
      used = subst (AreUsed flags n) (sym (drop_all (length acts) acts (omega arith))) tt;
      counted = ap (λ x. question + step_count x) (sym (take_all (length acts) acts (omega arith)));
      within = omega arith;
      last = ap (λ fs. get_or fs n false) made ∙ get_or-set_same (replicate (n + 1) false) n true false room;
      places = ap length made ∙ length-set (replicate (n + 1) false) n true ∙ length-replicate (n + 1) false;
      needed = subst (λ fs. AreNeeded fs n n (drop (length acts) acts)) (sym made) (AreNeeded-begun (n + 1) n (drop (length acts) acts));
    }

pub AreFlagged-end : (question : ℕ) (acts : List Act) (flags : List Bool) (number : ℕ) → AreFlagged question acts flags number 0 → AreUsed flags question acts
AreFlagged-end question acts flags number h = let n : number ≡ question = h.counted ∙ omega arith in subst (λ x. AreUsed flags x acts) n h.used

pub AreFlagged-needed : (question : ℕ) (acts : List Act) (flags : List Bool) (number : ℕ) → AreFlagged question acts flags number 0 →
    AreNeeded flags (question + step_count acts) question acts
AreFlagged-needed question acts flags number h =
    let n : number ≡ question = h.counted ∙ omega arith in subst (λ x. AreNeeded flags (question + step_count acts) x acts) n h.needed

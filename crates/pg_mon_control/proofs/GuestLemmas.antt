-- Guests in a list: one of them moves, and the others are as they were.
use Rattle.std.proofs.Common.{◌≡◌, ℕ, zero, suc, ◌+◌, ◌≤◌, inl, inr, Bool, true, false, not, List, [], ◌∷◌, length, take, drop, All, Option, None, Some, IsSomeAnd, slice_set, slice_get, refl, sym, ◌∙◌, ap, subst, arith}
use Rattle.std.specs.Option.{option_map}
use Rattle.std.proofs.lemmas.Bool.{eqb-true}
use Rattle.std.proofs.lemmas.List.{length-set, get_or-set_same}
use Rattle.std.proofs.lemmas.List.Elements.{All-nil, All-cons, All-head, All-tail, All-set, All-get_or}
use Rattle.std.proofs.lemmas.Option.{slice_get-map, slice_get-get_or, slice_get_within, get_or_from_slice_get}
use Rattle.pg_word.specs.declared.psw.Psw.{Psw}
use Rattle.pg_ast.specs.declared.tree.Desc.{Desc}
use Rattle.pg_lang_meaning.specs.States.{State, IsState}
use Rattle.pg_lang_meaning.specs.Steps.{step, steps}
use Rattle.pg_lang_valid.specs.Valid.{IsValid}
use Rattle.pg_lang_valid.proofs.StepSound.{steps-state}
use Rattle.pg_hw.specs.Bursts.{traps}
use Rattle.pg_routine.specs.Composing.{composed}
use Rattle.pg_routine.specs.Granting.{with_grant}
use Rattle.pg_routine.proofs.GrantLaws.{guest-before, guest-after}
use Rattle.pg_mon_control.specs.declared.guest.Guest.{Guest}
use Rattle.pg_mon_control.specs.Guests.{virtual, virtuals, IsGrant, AreApart, AreDisjoint, grants_of}
use Rattle.pg_mon_control.specs.Direct.{is_direct}
use Rattle.pg_mon_control.specs.Standing.{IsUnder, Stands}
use Rattle.pg_mon_control.specs.Plans.{moved}
use Rattle.pg_mon_control.specs.Current.{Holds, Runs, is_current, with_psw}
use Rattle.pg_mon_control.proofs.CellLemmas.{set_first-guest}
use Rattle.pg_mon_control.proofs.DirectLemmas.{Runs-direct, DirectStep-of, IsAlikeIn}
use Rattle.pg_mon_control.proofs.StateLemmas.{composed-fits}

-- ---- elements

pub All-at : {X : Type 0} (P : X → Type 0) (xs : List X) (k : ℕ) (x : X) → All P xs → slice_get xs k ≡ Some x → P x
All-at P xs k x all is = subst P (get_or_from_slice_get xs k x x is) (All-get_or P xs k x (slice_get_within xs k x is) all)

pub slice_get-set : {X : Type 0} (xs : List X) (k : ℕ) (x y : X) → slice_get xs k ≡ Some y → slice_get (slice_set xs k x) k ≡ Some x
slice_get-set xs k x y is =
    let within = slice_get_within xs k y is in
    slice_get-get_or (slice_set xs k x) k x (omega (arith, length-set xs k x, within)) ∙ ap Some (get_or-set_same xs k x x within)

pub virtuals-at : (cells : List ℕ) (gs : List Guest) (k : ℕ) (g : Guest) → slice_get gs k ≡ Some g → slice_get (virtuals cells gs) k ≡ Some (virtual cells g)
virtuals-at cells gs k g is = slice_get-map (virtual cells) gs k ∙ ap (option_map (virtual cells)) is

-- ---- states

-- what leaves every guest apart from one as it was
abbrev pub LeavesOthers : ℕ → List ℕ → List ℕ → Guest → Type 0
LeavesOthers q cells now g = (x : Guest) → IsGrant q x → AreApart x g → virtual now x ≡ virtual cells x

turned : (g h : Guest) → AreApart g h → AreApart h g
turned g h (inl before) = inr before
turned g h (inr after) = inl after

pub virtuals-apart : (q : ℕ) (cells now : List ℕ) (g : Guest) (gs : List Guest) → LeavesOthers q cells now g → All (IsGrant q) gs → All (AreApart g) gs → virtuals now gs ≡ virtuals cells gs
virtuals-apart q cells now g [] others grants apart = refl
virtuals-apart q cells now g (x ∷ xs) others grants apart =
    ap (λ y. y ∷ virtuals now xs) (others x (All-head (IsGrant q) x xs grants) (turned g x (All-head (AreApart g) x xs apart)))
    ∙ ap (λ ys. virtual cells x ∷ ys) (virtuals-apart q cells now g xs others (All-tail (IsGrant q) x xs grants) (All-tail (AreApart g) x xs apart))

pub virtuals-set : (d : Desc) (n q : ℕ) (cells now : List ℕ) (gs : List Guest) (k : ℕ) (g : Guest) (psw : Psw) → slice_get gs k ≡ Some g → All (IsGrant q) gs → AreDisjoint gs →
    LeavesOthers q cells now g → virtual now (with_psw g psw) ≡ steps d n (virtual cells g) → virtuals now (slice_set gs k (with_psw g psw)) ≡ moved d k n (virtuals cells gs)
virtuals-set d n q cells now [] k g psw is grants apart others own = absurd (let wrong : ⊥ = cc in wrong)
virtuals-set d n q cells now (x ∷ xs) zero g psw is grants apart others own =
    let same : x ≡ g = cc in
    ap (λ y. y ∷ virtuals now xs) (own ∙ ap (λ y. steps d n (virtual cells y)) (sym same))
    ∙ ap (λ ys. steps d n (virtual cells x) ∷ ys)
    (virtuals-apart q cells now g xs others (All-tail (IsGrant q) x xs grants) (subst (λ y. All (AreApart y) xs) same apart.0))
virtuals-set d n q cells now (x ∷ xs) (suc k) g psw is grants apart others own =
    ap (λ y. y ∷ virtuals now (slice_set xs k (with_psw g psw)))
    (others x (All-head (IsGrant q) x xs grants) (All-at (AreApart x) xs k g apart.0 is))
    ∙ ap (λ ys. virtual cells x ∷ ys) (virtuals-set d n q cells now xs k g psw is (All-tail (IsGrant q) x xs grants) apart.1 others own)

pub moved-none : (d : Desc) (k : ℕ) (ss : List State) → moved d k 0 ss ≡ ss
unfolding steps
moved-none d k [] = refl
moved-none d zero (s ∷ ss) = refl
moved-none d (suc k) (s ∷ ss) = ap (λ l. s ∷ l) (moved-none d k ss)

pub moved-states : (d : Desc) (k n : ℕ) (ss : List State) → IsValid d → All (IsState d) ss → All (IsState d) (moved d k n ss)
moved-states d k n [] valid all = All-nil (IsState d)
moved-states d zero n (s ∷ ss) valid all =
    All-cons (IsState d) (steps d n s) ss (steps-state d n s valid (All-head (IsState d) s ss all)) (All-tail (IsState d) s ss all)
moved-states d (suc k) n (s ∷ ss) valid all =
    All-cons (IsState d) s (moved d k n ss) (All-head (IsState d) s ss all) (moved-states d k n ss valid (All-tail (IsState d) s ss all))

-- ---- grants

pub grants_of-set : (gs : List Guest) (k : ℕ) (g : Guest) (psw : Psw) → slice_get gs k ≡ Some g → grants_of (slice_set gs k (with_psw g psw)) ≡ grants_of gs
grants_of-set [] k g psw is = refl
grants_of-set (x ∷ xs) zero g psw is =
    let same : x ≡ g = cc in ap (λ (y : Guest). (y.base, y.size) ∷ grants_of xs) (sym same)
grants_of-set (x ∷ xs) (suc k) g psw is = ap (λ l. (x.base, x.size) ∷ l) (grants_of-set xs k g psw is)

pub disjoint-set : (gs : List Guest) (k : ℕ) (g : Guest) (psw : Psw) → slice_get gs k ≡ Some g → AreDisjoint gs → AreDisjoint (slice_set gs k (with_psw g psw))
disjoint-set [] k g psw is apart = tt
disjoint-set (x ∷ xs) zero g psw is apart =
    let same : x ≡ g = cc in (subst (λ y. All (AreApart y) xs) same apart.0, apart.1)
disjoint-set (x ∷ xs) (suc k) g psw is apart =
    (All-set (AreApart x) xs k (with_psw g psw) (All-at (AreApart x) xs k g apart.0 is) apart.0, disjoint-set xs k g psw is apart.1)

-- ---- the guest that runs, and the others

pub storage-others : (q : ℕ) (cells now new : List ℕ) (g : Guest) (word : ℕ) → now ≡ slice_set (with_grant cells g.base new) 0 word → length new ≡ g.size → g.base + g.size ≤ length cells →
    LeavesOthers q cells now g
storage-others q cells now new g word is len within x grant apart =
    ap (λ xs. virtual xs x) is
    ∙ ap (λ xs. let t : State = record { cells = xs; psw = x.psw } in t)
    (set_first-guest (with_grant cells g.base new) x.base x.size word (omega (arith, grant.above)) ∙ by_place apart)
  where
    by_place : AreApart x g → take x.size (drop x.base (with_grant cells g.base new)) ≡ take x.size (drop x.base cells)
    by_place (inl before) = guest-before cells new g.base x.base x.size (omega (arith, within, len)) before
    by_place (inr after) = guest-after cells new g.base x.base x.size (omega (arith, within, len)) (omega (arith, after, len))

pub Holds-of : (d : Desc) (real : State) (gs : List Guest) (current : Option ℕ) (k : ℕ) (g : Guest) → Stands d real gs current → slice_get gs k ≡ Some g → Holds d real g
Holds-of d real gs current k g s is = record {
  size = s.stands.size;
  grant = All-at (IsGrant d.size) gs k g s.stands.grants is;
  control = s.stands.control;
  real_state = s.real_state;
  virtual_state = All-at (IsState d) (virtuals real.cells gs) k (virtual real.cells g) s.virtual_states (virtuals-at real.cells gs k g is);
}

pub Runs-of : (d : Desc) (real : State) (gs : List Guest) (current : Option ℕ) (k : ℕ) (g : Guest) → Stands d real gs current → slice_get gs k ≡ Some g → current ≡ Some k → Runs d real g
Runs-of d real gs current k g s is now = record {
  holds = Holds-of d real gs current k g s is;
  under =
      let under : IsUnder real gs (Some k) = subst (IsUnder real gs) now s.stands.under in
      subst (λ o. IsSomeAnd o (λ x. real.psw ≡ composed x.psw x.base x.size)) is under;
}

-- ---- the current guest, and a change of guest

pub current-is : (k : ℕ) (current : Option ℕ) → is_current k current ≡ true → current ≡ Some k
current-is k None e = absurd (let wrong : ⊥ = cc in wrong)
current-is k (Some j) e = ap Some (eqb-true j k e)

-- a guest that is entered runs
pub Runs-entered : (d : Desc) (real now : State) (g : Guest) → IsValid d → Holds d real g → now ≡ record real { psw = composed g.psw g.base g.size } → Runs d now g
Runs-entered d real now g valid h is = record {
  holds = record {
    size = ap (λ (t : State). length t.cells) is ∙ h.size;
    grant = h.grant;
    control = ap (λ (t : State). slice_get t.cells 1) is ∙ h.control;
    real_state = subst (IsState d) (sym is) (record {
      size_least = h.real_state.size_least;
      size_most = h.real_state.size_most;
      words = h.real_state.words;
      fields = composed-fits d g.psw g.base g.size valid h.grant.within h.virtual_state.fields;
    });
    virtual_state = subst (λ (t : State). IsState d (virtual t.cells g)) (sym is) h.virtual_state;
  };
  under = ap (λ (t : State). t.psw) is;
}

not_true : (b : Bool) → not b ≡ true → b ≡ false
not_true false e = refl
not_true true e = absurd (let wrong : ⊥ = cc in wrong)

-- a direct step leaves the hardware's mode and R
pub direct-kept : (d : Desc) (real : State) (g : Guest) → IsAlikeIn d g.psw.mode → IsValid d → Runs d real g → is_direct d g.base (virtual real.cells g) ≡ true →
    (step d real).psw ≡ record real.psw { p = (step d real).psw.p }
direct-kept d real g alike valid r is =
    let calm = not_true (traps d real) (sym (Runs-direct d real g r) ∙ is) in
    let moved = DirectStep-of d real g (alike.goes real g refl r) valid r calm in
    moved.psw ∙ ap (λ (x : Psw). composed x g.base g.size) moved.kept ∙ ap (λ (x : Psw). record x { p = (step d real).psw.p }) (sym r.under)

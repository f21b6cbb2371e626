-- A guest whose cells or program status word are set from outside.
use Rattle.std.proofs.Common.{◌≡◌, ℕ, zero, suc, ◌+◌, ◌<◌, ◌≤◌, ◌⊎◌, inl, inr, ◌^◌, List, [], ◌∷◌, length, take, drop, All, Option, None, Some, IsSomeAnd, slice_get, slice_set, slice_index, refl, sym, ◌∙◌, ap, subst, arith}
use Rattle.std.proofs.lemmas.List.{length-set, get_or-set_other, get_or-take, get_or-drop}
use Rattle.std.proofs.lemmas.List.Elements.{All-nil, All-cons, All-head, All-tail, All-set}
use Rattle.std.proofs.lemmas.Option.{slice_get-get_or, get_or_from_slice_get}
use Rattle.pg_word.specs.declared.psw.Psw.{Psw}
use Rattle.pg_word.specs.Psw.{IsPsw, packed, power_on_psw}
use Rattle.pg_ast.specs.declared.tree.Desc.{Desc}
use Rattle.pg_lang_meaning.specs.States.{State, IsState}
use Rattle.pg_lang_valid.specs.Valid.{IsValid}
use Rattle.pg_routine.specs.Composing.{composed}
use Rattle.pg_routine.proofs.GrantLaws.{guest-length, guest-set, guest-changed}
use Rattle.pg_mon_control.specs.declared.guest.Guest.{Guest}
use Rattle.pg_mon_control.specs.Guests.{virtual, virtuals, IsGrant, AreApart, AreDisjoint}
use Rattle.pg_mon_control.specs.Current.{Holds, with_psw}
use Rattle.pg_monitor.specs.Reaching.{with_cell, changed_at}
use Rattle.pg_mon_control.specs.Standing.{IsUnder, Stands}
use Rattle.pg_mon_control.proofs.AdmitLemmas.{grant-others}
use Rattle.pg_mon_control.proofs.CellLemmas.{cell_of}
use Rattle.pg_mon_control.proofs.DirectLemmas.{Holds-within}
use Rattle.pg_mon_control.proofs.GuestLemmas.{All-at, LeavesOthers, virtuals-apart, Holds-of}
use Rattle.pg_mon_control.proofs.StateLemmas.{Holds-addressable}

-- ---- the k-th of a list

turned : (g h : Guest) → AreApart g h → AreApart h g
turned g h (inl before) = inr before
turned g h (inr after) = inl after

pub virtuals-changed : (change : State → State) (q : ℕ) (cells now : List ℕ) (gs : List Guest) (k : ℕ) (g : Guest) (psw : Psw) → slice_get gs k ≡ Some g → All (IsGrant q) gs →
    AreDisjoint gs → LeavesOthers q cells now g → virtual now (with_psw g psw) ≡ change (virtual cells g) →
    virtuals now (slice_set gs k (with_psw g psw)) ≡ changed_at k change (virtuals cells gs)
virtuals-changed change q cells now [] k g psw is grants apart others own = absurd (let wrong : ⊥ = cc in wrong)
virtuals-changed change q cells now (x ∷ xs) zero g psw is grants apart others own =
    let same : x ≡ g = cc in
    ap (λ y. y ∷ virtuals now xs) (own ∙ ap (λ y. change (virtual cells y)) (sym same))
    ∙ ap (λ ys. change (virtual cells x) ∷ ys)
    (virtuals-apart q cells now g xs others (All-tail (IsGrant q) x xs grants) (subst (λ y. All (AreApart y) xs) same apart.0))
virtuals-changed change q cells now (x ∷ xs) (suc k) g psw is grants apart others own =
    ap (λ y. y ∷ virtuals now (slice_set xs k (with_psw g psw)))
    (others x (All-head (IsGrant q) x xs grants) (All-at (AreApart x) xs k g apart.0 is))
    ∙ ap (λ ys. virtual cells x ∷ ys) (virtuals-changed change q cells now xs k g psw is (All-tail (IsGrant q) x xs grants) apart.1 others own)

pub changed-all : (P : State → Type 0) (change : State → State) (k : ℕ) (ss : List State) → ((s : State) → P s → P (change s)) → All P ss → All P (changed_at k change ss)
changed-all P change k [] keeps all = All-nil P
changed-all P change zero (s ∷ ss) keeps all = All-cons P (change s) ss (keeps s (All-head P s ss all)) (All-tail P s ss all)
changed-all P change (suc k) (s ∷ ss) keeps all = All-cons P s (changed_at k change ss) (All-head P s ss all) (changed-all P change k ss keeps (All-tail P s ss all))

set-own : (gs : List Guest) (k : ℕ) (g : Guest) → slice_get gs k ≡ Some g → slice_set gs k (with_psw g g.psw) ≡ gs
set-own [] k g is = refl
set-own (x ∷ xs) zero g is = let same : x ≡ g = cc in ap (λ y. y ∷ xs) (sym same)
set-own (x ∷ xs) (suc k) g is = ap (λ l. x ∷ l) (set-own xs k g is)

pub known-guest : (gs : List Guest) (k : ℕ) (g : Guest) (P : Guest → Type 0) → slice_get gs k ≡ Some g → P g → IsSomeAnd (slice_get gs k) P
known-guest gs k g P is p = subst (λ o. IsSomeAnd o P) (sym is) p

pub guest-known : (gs : List Guest) (k : ℕ) (g : Guest) (P : Guest → Type 0) → slice_get gs k ≡ Some g → IsSomeAnd (slice_get gs k) P → P g
guest-known gs k g P is p = subst (λ o. IsSomeAnd o P) is p

-- ---- a cell

module _ (d : Desc) (real : State) (gs : List Guest) (current : Option ℕ) (k : ℕ) (g : Guest) (at : ℕ) where
  pub record IsReached : Type 0 where
    pub valid : IsValid d
    pub stands : Stands d real gs current
    pub guest : slice_get gs k ≡ Some g
    pub inside : at < g.size

  module _ (h : IsReached) where
    held : Holds d real g
    held = Holds-of d real gs current k g h.stands h.guest

    within : g.base + g.size ≤ length real.cells
    within = Holds-within d real g held

    pub reached-within : g.base + at < length real.cells
    reached-within = (let fits = within in let low = h.inside in omega (arith, fits, low))

    pub reached-fits : g.base + at < 2 ^ 32
    reached-fits = (let all = Holds-addressable d real g h.valid held in let low = h.inside in omega (arith, all, low))

    pub reached-cell : (word : ℕ) → slice_get real.cells (g.base + at) ≡ Some word → slice_get (virtual real.cells g).cells at ≡ Some word
    reached-cell word is =
        let len = guest-length real.cells g.base g.size within in
        slice_get-get_or (take g.size (drop g.base real.cells)) at 0 (let low = h.inside in omega (arith, len, low))
        ∙ ap Some (get_or-take g.size (drop g.base real.cells) at 0 h.inside ∙ get_or-drop g.base real.cells at 0 ∙ get_or_from_slice_get real.cells (g.base + at) word 0 is)

    module _ (word : ℕ) (now : State) (fits : word < 2 ^ d.word) (poked : now ≡ record real { cells = slice_set real.cells (g.base + at) word }) where
      cells : now.cells ≡ slice_set real.cells (g.base + at) word
      cells = ap (λ (s : State). s.cells) poked

      psw : now.psw ≡ real.psw
      psw = ap (λ (s : State). s.psw) poked

      size : length now.cells ≡ length real.cells
      size = ap length cells ∙ length-set real.cells (g.base + at) word

      others : LeavesOthers d.size real.cells now.cells g
      others x grant apart =
          let mine = slice_set (take g.size (drop g.base real.cells)) at word in
          let len : length mine ≡ g.size = length-set (take g.size (drop g.base real.cells)) at word ∙ guest-length real.cells g.base g.size within in
          let all = within in
          grant-others d.size g.base real.cells now.cells mine g.psw (cells ∙ sym (guest-set real.cells g.base g.size at word within h.inside)) (omega (arith, len, all)) x grant
          (subst (λ n. (x.base + x.size ≤ g.base) ⊎ (g.base + n ≤ x.base)) (sym len) apart)

      own : virtual now.cells (with_psw g g.psw) ≡ with_cell at word (virtual real.cells g)
      own = ap (λ xs. virtual xs g) cells ∙ ap (λ xs. let s : State = record { cells = xs; psw = g.psw } in s) (guest-changed real.cells g.base g.size at word h.inside)

      pub poked-states : virtuals now.cells gs ≡ changed_at k (with_cell at word) (virtuals real.cells gs)
      poked-states =
          ap (virtuals now.cells) (sym (set-own gs k g h.guest))
          ∙ virtuals-changed (with_cell at word) d.size real.cells now.cells gs k g g.psw h.guest h.stands.stands.grants h.stands.stands.disjoint others own

      keeps : (s : State) → IsState d s → IsState d (with_cell at word s)
      keeps s is = record {
        size_least = (let len = length-set s.cells at word in let low = is.size_least in omega (arith, len, low));
        size_most = (let len = length-set s.cells at word in let high = is.size_most in omega (arith, len, high));
        words = All-set (λ c. c < 2 ^ d.word) s.cells at word fits is.words;
        fields = is.fields;
      }

      under : (current : Option ℕ) → IsUnder real gs current → IsUnder now gs current
      under None is = tt
      under (Some j) is = under_one (slice_get gs j) is
        where
          under_one : (o : Option Guest) → IsSomeAnd o (λ x. real.psw ≡ composed x.psw x.base x.size) → IsSomeAnd o (λ x. now.psw ≡ composed x.psw x.base x.size)
          under_one None is = absurd is
          under_one (Some x) is = psw ∙ is

      pub poked-stands : Stands d now gs current
      poked-stands = record {
        stands = record {
          size = size ∙ h.stands.stands.size;
          grants = h.stands.stands.grants;
          disjoint = h.stands.stands.disjoint;
          guests = refl;
          control = cell_of real.cells now.cells 1 (packed d.address (power_on_psw d.size)) size
              (ap (λ xs. slice_index xs 1) cells ∙ get_or-set_other real.cells (g.base + at) 1 word 0 (λ e. absurd (let low = held.grant.above in omega (arith, e, low)))) h.stands.stands.control;
          under = under current h.stands.stands.under;
        };
        real_state = record {
          size_least = (let same = size in let low = h.stands.real_state.size_least in omega (arith, same, low));
          size_most = (let same = size in let high = h.stands.real_state.size_most in omega (arith, same, high));
          words = subst (All (λ c. c < 2 ^ d.word)) (sym cells) (All-set (λ c. c < 2 ^ d.word) real.cells (g.base + at) word fits h.stands.real_state.words);
          fields = subst (IsPsw d.address) (sym psw) h.stands.real_state.fields;
        };
        virtual_states = subst (All (IsState d)) (sym poked-states) (changed-all (IsState d) (with_cell at word) k (virtuals real.cells gs) keeps h.stands.virtual_states);
      }

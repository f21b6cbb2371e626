-- One state behind cells that are held.
use Rattle.std.proofs.Common.{◌≡◌, ℕ, zero, suc, ◌+◌, ◌≤◌, ◌⊎◌, inl, inr, List, [], ◌∷◌, ◌++◌, length, All, None, Some, refl, sym, ◌∙◌, ap, subst, arith}
use Rattle.std.proofs.lemmas.List.Elements.{All-nil, All-cons, All-head}
use Rattle.std.proofs.lemmas.Option.{same_Some}
use Rattle.pg_mach_ready.specs.declared.machine.Machine.{Machine}
use Rattle.pg_lang_meaning.specs.States.{State, IsState}
use Rattle.pg_ast.specs.declared.tree.Desc.{Desc}
use Rattle.pg_hw.specs.Machinery.{Machinery}
use Rattle.pg_alloc.specs.Fit.{kept_cells, free_base}
use Rattle.pg_alloc.specs.Grants.{Granted, and_grant}
use Rattle.pg_alloc.proofs.FitLemmas.{free_base-is}
use Rattle.pg_mon_control.specs.Admitting.{Kept, place_for, GrantMade, StateTaken}
use Rattle.pg_mon_control.specs.Guests.{guest_in, virtuals}
use Rattle.pg_mon_control.specs.Loading.{with_words}
use Rattle.pg_mon_control.specs.Standing.{Stands}
use Rattle.pg_run_guests.specs.Begun.{IsBegun}
use Rattle.pg_run_guests.specs.Setting.{HaveRoom, loaded_from}
use Rattle.pg_run_guests.specs.HaveRun.{holding}

abbrev IsBeside : ℕ → ℕ → ℕ × ℕ → Type 0
IsBeside size base grant = (base + size ≤ grant.0) ⊎ (grant.0 + grant.1 ≤ base)

held-beside : (skip size : ℕ) → All (IsBeside size (kept_cells + skip)) (holding skip)
held-beside zero size = All-nil (IsBeside size (kept_cells + zero))
held-beside (suc n) size = All-cons (IsBeside size (kept_cells + suc n)) (kept_cells, suc n) [] (inr (omega arith)) (All-nil (IsBeside size (kept_cells + suc n)))

held-least : (skip size c : ℕ) → 1 ≤ size → kept_cells ≤ c → All (IsBeside size c) (holding skip) → kept_cells + skip ≤ c
held-least zero size c some above beside = omega (arith, above)
held-least (suc n) size c some above beside = by_place (All-head (IsBeside size c) (kept_cells, suc n) [] beside)
  where
    by_place : (c + size ≤ kept_cells) ⊎ (kept_cells + suc n ≤ c) → kept_cells + suc n ≤ c
    by_place (inl before) = absurd (omega (arith, before, some, above))
    by_place (inr after) = after

-- the first grant behind cells that are held lies right behind them
pub place-behind : (q skip size : ℕ) → 1 ≤ size → kept_cells + skip + size ≤ q → free_base q (holding skip) size ≡ Some (kept_cells + skip)
place-behind q skip size some room =
    free_base-is q (holding skip) size (kept_cells + skip)
    (record { above = omega arith; within = room; beside = held-beside skip size })
    (λ c free. held-least skip size c some free.above free.beside)

-- ---- the cells are held

-- a monitor that made no grant finds room for them
pub hold-fits : (before : Kept) (skip : ℕ) → (skip ≡ 0 → ⊥) → before.granted.grants ≡ [] → kept_cells + skip ≤ before.machine.desc.size → place_for before skip ≡ None → ⊥
hold-fits before zero some none fits refused = some refl
hold-fits before (suc n) some none fits refused =
    let wrong : None ≡ Some (kept_cells + 0) =
    sym refused ∙ ap (λ gs. free_base before.machine.desc.size gs (suc n)) none ∙ place-behind before.machine.desc.size 0 (suc n) (omega arith) (omega (arith, fits)) in
    cc

-- and then holds them
pub hold-held : (before after : Kept) (skip base : ℕ) → (skip ≡ 0 → ⊥) → before.granted.grants ≡ [] → kept_cells + skip ≤ before.machine.desc.size →
    GrantMade skip base before after → after.granted.grants ≡ holding skip
hold-held before after zero base some none fits made = absurd (some refl)
hold-held before after (suc n) base some none fits made =
    let first : free_base before.machine.desc.size [] (suc n) ≡ Some (kept_cells + 0) = place-behind before.machine.desc.size 0 (suc n) (omega arith) (omega (arith, fits)) in
    let at : base ≡ kept_cells + 0 = same_Some base (kept_cells + 0) (sym made.first ∙ ap (λ gs. free_base before.machine.desc.size gs (suc n)) none ∙ first) in
    ap (λ (x : Granted). x.grants) made.granted ∙ ap (and_grant (base, suc n)) none ∙ ap (λ (b : ℕ). (b, suc n) ∷ []) at

-- ---- the state is loaded

pub state-small : (d : Desc) (skip : ℕ) (s : State) → HaveRoom d (kept_cells + skip) (s ∷ []) → (2 ≤ length s.cells) × (kept_cells + skip + length s.cells ≤ d.size)
state-small d skip s fit =
    let one : IsState d s = All-head (IsState d) s [] fit.each in
    let room = fit.room in
    (one.size_least, omega (arith, room))

-- it is not refused for want of room
pub behind-fits : (d : Desc) (skip size : ℕ) (s : State) (before : Kept) → before.machine.desc ≡ d → size ≡ length s.cells → HaveRoom d (kept_cells + skip) (s ∷ []) →
    before.granted.grants ≡ holding skip → place_for before size ≡ None → ⊥
behind-fits d skip size s before desc is fit held none =
    let small = state-small d skip s fit in
    let room : kept_cells + skip + size ≤ before.machine.desc.size = subst (λ (e : Desc). kept_cells + skip + size ≤ e.size) (sym desc) (omega (arith, is, small.1)) in
    let wrong : None ≡ Some (kept_cells + skip) =
    sym none ∙ ap (λ gs. free_base before.machine.desc.size gs size) held ∙ place-behind before.machine.desc.size skip size (omega (arith, is, small.0)) room in
    cc

module _ (skip : ℕ) (s : State) (before after : Kept) (old new : Machinery) where
  -- what is known of a state that was loaded behind cells that are held
  pub record IsBehind : Type 0 where
    pub fit : HaveRoom before.machine.desc (kept_cells + skip) (s ∷ [])
    pub guests : before.guests ≡ []
    pub current : before.current ≡ None
    pub held : before.granted.grants ≡ holding skip
    pub admitted : StateTaken s before after old new
    pub stands : Stands before.machine.desc new.state after.guests after.current

  module _ (h : IsBehind) where
    at : h.admitted.base ≡ kept_cells + skip
    at =
        let small = state-small before.machine.desc skip s h.fit in
        same_Some h.admitted.base (kept_cells + skip)
        (sym h.admitted.placed.first ∙ ap (λ gs. free_base before.machine.desc.size gs (length s.cells)) h.held
        ∙ place-behind before.machine.desc.size skip (length s.cells) (omega (arith, small.0)) small.1)

    pub behind-made : new ≡ loaded_from (kept_cells + skip) (s ∷ []) old
    behind-made = h.admitted.poked ∙ ap (λ b. with_words b s.cells old) at

    pub behind-begun : IsBegun (kept_cells + skip) (s ∷ []) after new
    behind-begun = record {
      guests = h.admitted.guests ∙ ap (λ gs. gs ++ guest_in h.admitted.base (length s.cells) s.psw ∷ []) h.guests ∙ ap (λ b. guest_in b (length s.cells) s.psw ∷ []) at;
      current = h.admitted.placed.current ∙ h.current;
      stands = subst (λ (m : Machine). Stands m.desc new.state after.guests after.current) (sym h.admitted.placed.machine) h.stands;
      states = h.admitted.states ∙ ap (λ gs. virtuals old.state.cells gs ++ s ∷ []) h.guests;
    }

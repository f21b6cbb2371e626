-- Guests placed one behind the other, and what stands in their grants before the first turn.
use Rattle.std.proofs.Common.{◌≡◌, ℕ, ◌+◌, ◌^◌, ◌<◌, ◌≤◌, ◌⊎◌, inl, inr, cond, List, [], ◌∷◌, ◌++◌, length, All, Some, slice_get, slice_index, refl, sym, ◌∙◌, ap, arith}
use Rattle.std.proofs.lemmas.Bool.{le-ltb}
use Rattle.std.proofs.lemmas.List.Elements.{All-nil, All-cons, All-head, All-tail, All-weaker}
use Rattle.pg_hw.specs.Machinery.{Machinery}
use Rattle.pg_routine.proofs.StateLaws.{with_grant-length}
use Rattle.pg_alloc.specs.Fit.{free_base}
use Rattle.pg_alloc.specs.Grants.{and_grant}
use Rattle.pg_alloc.proofs.FitLemmas.{free_base-is}
use Rattle.pg_mon_control.specs.declared.guest.Guest.{Guest}
use Rattle.pg_mon_control.specs.Loading.{with_words}
use Rattle.pg_mon_control.specs.Guests.{guest_in, grants_of}
use Rattle.pg_mon_control.proofs.CellLemmas.{with_grant-before}
use Rattle.pg_lang_meaning.specs.States.{State}
use Rattle.pg_mon_control.proofs.PlanLemmas.{granted-outside, outside_of}
use Rattle.pg_run_guests.specs.Runs.{cells_in, guests_from}
use Rattle.pg_run_guests.specs.Setting.{loaded_from}

-- ---- one state more

pub cells-push : (states : List State) (s : State) → cells_in (states ++ s ∷ []) ≡ cells_in states + length s.cells
cells-push [] s = omega arith
cells-push (x ∷ xs) s = omega (arith, cells-push xs s)

abbrev pub guest_of : ℕ → State → Guest
guest_of base s = guest_in base (length s.cells) s.psw

pub guests-push : (base : ℕ) (states : List State) (s : State) →
    guests_from base (states ++ s ∷ []) ≡ guests_from base states ++ guest_of (base + cells_in states) s ∷ []
guests-push base [] s = let here : base ≡ base + 0 = omega arith in ap (λ b. guest_of b s ∷ []) here
guests-push base (x ∷ xs) s =
    let here : base + length x.cells + cells_in xs ≡ base + (length x.cells + cells_in xs) = omega arith in
    ap (λ gs. guest_of base x ∷ gs) (guests-push (base + length x.cells) xs s ∙ ap (λ b. guests_from (base + length x.cells) xs ++ guest_of b s ∷ []) here)

pub loaded-push : (base : ℕ) (states : List State) (s : State) (h : Machinery) →
    loaded_from base (states ++ s ∷ []) h ≡ with_words (base + cells_in states) s.cells (loaded_from base states h)
loaded-push base [] s h = let here : base ≡ base + 0 = omega arith in ap (λ b. with_words b s.cells h) here
loaded-push base (x ∷ xs) s h =
    let here : base + length x.cells + cells_in xs ≡ base + (length x.cells + cells_in xs) = omega arith in
    loaded-push (base + length x.cells) xs s (with_words base x.cells h) ∙ ap (λ b. with_words b s.cells (loaded_from (base + length x.cells) xs (with_words base x.cells h))) here

grants-push : (gs : List Guest) (g : Guest) → grants_of (gs ++ g ∷ []) ≡ grants_of gs ++ (g.base, g.size) ∷ []
grants-push [] g = refl
grants-push (x ∷ xs) g = ap (λ (l : List (ℕ × ℕ)). (x.base, x.size) ∷ l) (grants-push xs g)

-- ---- where one more is placed

abbrev IsBefore : ℕ → ℕ × ℕ → Type 0
IsBefore end grant = grant.0 + grant.1 ≤ end

all-before : (base : ℕ) (states : List State) (end : ℕ) → base + cells_in states ≤ end → All (IsBefore end) (grants_of (guests_from base states))
all-before base [] end fits = All-nil (IsBefore end)
all-before base (x ∷ xs) end fits =
    All-cons (IsBefore end) (base, length x.cells) (grants_of (guests_from (base + length x.cells) xs)) (omega arith) (all-before (base + length x.cells) xs end (omega (arith, fits)))

abbrev IsBeside : ℕ → ℕ → ℕ × ℕ → Type 0
IsBeside size base grant = (base + size ≤ grant.0) ⊎ (grant.0 + grant.1 ≤ base)

-- what is beside grants that lie one behind the other, and not before them, is behind them
behind-all : (base : ℕ) (states : List State) (c size : ℕ) → 1 ≤ size → base ≤ c → All (IsBeside size c) (grants_of (guests_from base states)) → base + cells_in states ≤ c
behind-all base [] c size some above beside = omega (arith, above)
behind-all base (x ∷ xs) c size some above beside =
    by_place (All-head (IsBeside size c) (base, length x.cells) (grants_of (guests_from (base + length x.cells) xs)) beside)
    (λ next. behind-all (base + length x.cells) xs c size some next (All-tail (IsBeside size c) (base, length x.cells) (grants_of (guests_from (base + length x.cells) xs)) beside))
  where
    by_place : (c + size ≤ base) ⊎ (base + length x.cells ≤ c) → (base + length x.cells ≤ c → base + length x.cells + cells_in xs ≤ c) → base + (length x.cells + cells_in xs) ≤ c
    by_place (inl before) more = absurd (omega (arith, before, some, above))
    by_place (inr after) more = (let rest = more after in omega (arith, rest))

pub free-behind : (q size : ℕ) (states : List State) → 1 ≤ size → 2 + cells_in states + size ≤ q →
    free_base q (grants_of (guests_from 2 states)) size ≡ Some (2 + cells_in states)
free-behind q size states some room =
    free_base-is q (grants_of (guests_from 2 states)) size (2 + cells_in states)
    (record {
      above = omega arith;
      within = room;
      beside = All-weaker (IsBefore (2 + cells_in states)) (IsBeside size (2 + cells_in states)) (λ grant before. inr before) (grants_of (guests_from 2 states))
          (all-before 2 states (2 + cells_in states) (omega arith));
    })
    (λ c free. behind-all 2 states c size some free.above free.beside)

and-last : (base size : ℕ) (grants : List (ℕ × ℕ)) → All (IsBefore base) grants → and_grant (base, size) grants ≡ grants ++ (base, size) ∷ []
and-last base size [] before = refl
and-last base size (first ∷ rest) before =
    let low : first.0 ≤ base = (let head : first.0 + first.1 ≤ base = All-head (IsBefore base) first rest before in omega (arith, head)) in
    ap (λ t. cond t ((base, size) ∷ first ∷ rest) (first ∷ and_grant (base, size) rest)) (le-ltb base first.0 low)
    ∙ ap (λ (l : List (ℕ × ℕ)). first ∷ l) (and-last base size rest (All-tail (IsBefore base) first rest before))

pub granted-push : (states : List State) (s : State) →
    and_grant (2 + cells_in states, length s.cells) (grants_of (guests_from 2 states)) ≡ grants_of (guests_from 2 (states ++ s ∷ []))
granted-push states s =
    and-last (2 + cells_in states) (length s.cells) (grants_of (guests_from 2 states)) (all-before 2 states (2 + cells_in states) (omega arith))
    ∙ sym (ap grants_of (guests-push 2 states s) ∙ grants-push (guests_from 2 states) (guest_of (2 + cells_in states) s))

-- ---- what stands in the storage

pub loaded-length : (base : ℕ) (states : List State) (h : Machinery) → base + cells_in states ≤ length h.state.cells →
    length (loaded_from base states h).state.cells ≡ length h.state.cells
loaded-length base [] h fits = refl
loaded-length base (x ∷ xs) h fits =
    let one = with_grant-length h.state.cells x.cells base (omega (arith, fits)) in
    loaded-length (base + length x.cells) xs (with_words base x.cells h) (omega (arith, one, fits)) ∙ one

pub loaded-psw : (base : ℕ) (states : List State) (h : Machinery) → (loaded_from base states h).state.psw ≡ h.state.psw
loaded-psw base [] h = refl
loaded-psw base (x ∷ xs) h = loaded-psw (base + length x.cells) xs (with_words base x.cells h)

pub loaded-before : (base : ℕ) (states : List State) (h : Machinery) (at : ℕ) → at < base → base + cells_in states ≤ length h.state.cells →
    slice_index (loaded_from base states h).state.cells at ≡ slice_index h.state.cells at
loaded-before base [] h at low fits = refl
loaded-before base (x ∷ xs) h at low fits =
    let one = with_grant-length h.state.cells x.cells base (omega (arith, fits)) in
    loaded-before (base + length x.cells) xs (with_words base x.cells h) at (omega (arith, low)) (omega (arith, one, fits))
    ∙ with_grant-before h.state.cells x.cells base at (omega (arith, fits)) low

pub loaded-outside : (base : ℕ) (states : List State) (h : Machinery) (at : ℕ) → All (outside_of at) (guests_from base states) → base + cells_in states ≤ length h.state.cells →
    slice_get (loaded_from base states h).state.cells at ≡ slice_get h.state.cells at
loaded-outside base [] h at out fits = refl
loaded-outside base (x ∷ xs) h at out fits =
    let one = with_grant-length h.state.cells x.cells base (omega (arith, fits)) in
    loaded-outside (base + length x.cells) xs (with_words base x.cells h) at (All-tail (outside_of at) (guest_of base x) (guests_from (base + length x.cells) xs) out) (omega (arith, one, fits))
    ∙ granted-outside h.state.cells x.cells base at (omega (arith, fits)) (All-head (outside_of at) (guest_of base x) (guests_from (base + length x.cells) xs) out)

-- the counts: one poke a cell
pub loaded-steps : (base : ℕ) (states : List State) (h : Machinery) → (loaded_from base states h).tally.steps ≡ h.tally.steps
loaded-steps base [] h = refl
loaded-steps base (x ∷ xs) h = loaded-steps (base + length x.cells) xs (with_words base x.cells h)

pub loaded-untrapped : (base : ℕ) (states : List State) (h : Machinery) → (loaded_from base states h).tally.untrapped ≡ h.tally.untrapped
loaded-untrapped base [] h = refl
loaded-untrapped base (x ∷ xs) h = loaded-untrapped (base + length x.cells) xs (with_words base x.cells h)

pub loaded-loads : (base : ℕ) (states : List State) (h : Machinery) → (loaded_from base states h).tally.loads ≡ h.tally.loads
loaded-loads base [] h = refl
loaded-loads base (x ∷ xs) h = loaded-loads (base + length x.cells) xs (with_words base x.cells h)

pub loaded-bottom : (base : ℕ) (states : List State) (h : Machinery) → (loaded_from base states h).bottom ≡ h.bottom
loaded-bottom base [] h = refl
loaded-bottom base (x ∷ xs) h = loaded-bottom (base + length x.cells) xs (with_words base x.cells h)

pub loaded-pokes : (base : ℕ) (states : List State) (h : Machinery) → h.tally.pokes + cells_in states < 2 ^ 63 → (loaded_from base states h).tally.pokes ≡ h.tally.pokes + cells_in states
loaded-pokes base [] h few = omega arith
loaded-pokes base (x ∷ xs) h few =
    let one : (with_words base x.cells h).tally.pokes ≡ h.tally.pokes + length x.cells = omega (arith, few) in
    loaded-pokes (base + length x.cells) xs (with_words base x.cells h) (omega (arith, one, few)) ∙ omega (arith, one)

-- Guests: each has a grant of the storage, and a program status word that it believes to be its machine's.
use Rattle.std.specs.Prelude.{◌≡◌, ℕ, ◌+◌, ◌≤◌, ◌⊎◌, Bool, true, ◌==◌, ◌&&◌, List, [], ◌∷◌, map, All}
use Rattle.std.specs.List.{list_any}
use Rattle.pg_alloc.specs.Fit.{kept_cells}
use Rattle.pg_alloc.specs.Grants.{Granted, AreGrants}
use Rattle.pg_word.specs.declared.psw.Psw.{Psw}
use Rattle.pg_lang_meaning.specs.States.{State}
use Rattle.pg_routine.specs.Granting.{guest_at}
use Rattle.pg_mon_control.specs.declared.guest.Guest.{Guest}

-- the state that a guest believes its machine to be at: the cells of its grant, and its virtual PSW
abbrev pub virtual : List ℕ → Guest → State
virtual cells g = guest_at cells g.base g.size g.psw

abbrev pub virtuals : List ℕ → List Guest → List State
virtuals cells gs = map (virtual cells) gs

-- a grant of two cells or more, behind the cells that are kept and within q
pub record IsGrant (q : ℕ) (g : Guest) : Type 0 where
  pub above : kept_cells ≤ g.base
  pub least : 2 ≤ g.size
  pub within : g.base + g.size ≤ q

-- two grants have no cell in common
abbrev pub AreApart : Guest → Guest → Type 0
AreApart g h = (g.base + g.size ≤ h.base) ⊎ (h.base + h.size ≤ g.base)

-- no two of these have
abbrev pub AreDisjoint : List Guest → Type 0
AreDisjoint [] = Unit {0}
AreDisjoint (g ∷ gs) = All (AreApart g) gs × AreDisjoint gs

-- the grants of guests, each its base and its size
abbrev pub grants_of : List Guest → List (ℕ × ℕ)
grants_of gs = map (λ g. (g.base, g.size)) gs

-- a guest in a grant as large as its storage
abbrev pub guest_in : ℕ → ℕ → Psw → Guest
guest_in base size psw = record { base = base; size = size; psw = psw }

-- ---- grants that a control program made

-- whether a grant is one of these
abbrev pub is_one_of : ℕ × ℕ → List (ℕ × ℕ) → Bool
is_one_of grant grants = list_any (λ x. (x.0 == grant.0) && (x.1 == grant.1)) grants

-- grants that lie right in a storage of q cells, among which each guest has its own; those of no guest are held
pub record AreOwned (q : ℕ) (granted : Granted) (gs : List Guest) : Type 0 where
  pub storage : granted.q ≡ q
  pub lie : AreGrants q granted.grants
  pub own : All (λ g. is_one_of (g.base, g.size) granted.grants ≡ true) gs

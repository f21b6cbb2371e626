-- The hardware of a run before the first turn, and the grants of its guests.
use Rattle.std.proofs.Common.{◌≡◌, ◌≢◌, ℕ, suc, ◌+◌, ◌^◌, ◌<◌, ◌≤◌, pow_mono, List, [], ◌∷◌, length, take, map, replicate, Some, slice_set, slice_get, slice_index, refl, sym, ◌∙◌, ap, arith}
use Rattle.std.proofs.lemmas.List.{length-set, length-replicate, get_or-replicate, get_or-set_other}
use Rattle.std.proofs.lemmas.Option.{slice_get-get_or}
use Rattle.pg_word.specs.Psw.{power_on_psw}
use Rattle.pg_ast.specs.declared.tree.Desc.{Desc}
use Rattle.pg_lang_valid.specs.Valid.{IsValid}
use Rattle.pg_lang_valid.proofs.ValidFacts.{IsShape-of_valid}
use Rattle.pg_lang_meaning.specs.States.{State}
use Rattle.pg_hw.specs.Machinery.{Machinery}
use Rattle.pg_hw.specs.Serving.{blank}
use Rattle.pg_mon_control.specs.declared.guest.Guest.{Guest}
use Rattle.pg_mon_control.specs.Guests.{virtuals, grants_of}
use Rattle.pg_report.specs.Spans.{span}
use Rattle.pg_run_guests.specs.Runs.{GuestRun, guests_from, granted}
use Rattle.pg_run_guests.specs.Setting.{SetUp, Untouched, Installed, Loaded, installed_for, loaded_for}

-- ---- what is small

pub size-small : (d : Desc) → IsValid d → d.size < 2 ^ 32
size-small d v =
    let shape = IsShape-of_valid d v in
    let most : 2 ^ d.address ≤ 2 ^ 20 = pow_mono shape.address_most in
    omega (arith, shape.size_most, most)

-- ---- the storage before the first turn

pub blank-zero : (q at w : ℕ) → at < q → at ≢ 1 → slice_get (slice_set (blank q).cells 1 w) at ≡ Some 0
unfolding blank
blank-zero q at w h other =
    slice_get-get_or (slice_set (replicate q 0) 1 w) at 0 (omega (arith, h, length-replicate {A = ℕ} q 0, length-set {A = ℕ} (replicate q 0) 1 w))
    ∙ ap (λ n. Some n) (get_or-set_other (replicate q 0) 1 at w 0 other ∙ get_or-replicate q at 0 0 h)

pub blank-size : (q : ℕ) → length (blank q).cells ≡ q
unfolding blank
blank-size q = length-replicate {A = ℕ} q 0

pub blank-length : (q w : ℕ) → length (slice_set (blank q).cells 1 w) ≡ q
unfolding blank
blank-length q w = length-set {A = ℕ} (replicate q 0) 1 w ∙ length-replicate {A = ℕ} q 0

pub blank-first : (q w : ℕ) → 0 < q → slice_index (slice_set (blank q).cells 1 w) 0 ≡ 0
unfolding blank
blank-first q w some = get_or-set_other (replicate q 0) 1 0 w 0 (λ e. absurd (omega (arith, e))) ∙ get_or-replicate q 0 0 0 some

pub blank-psw : (q : ℕ) → (blank q).psw ≡ power_on_psw q
unfolding blank
blank-psw q = refl

-- ---- guests one behind the other

pub guests-length : (base : ℕ) (states : List State) → length (guests_from base states) ≡ length states
guests-length base [] = refl
guests-length base (x ∷ xs) = ap suc (guests-length (base + length x.cells) xs)

pub granted-same : (cells : List ℕ) (gs hs : List Guest) → grants_of hs ≡ grants_of gs → granted gs cells ≡ map (λ (s : State). s.cells) (virtuals cells hs)
granted-same cells [] [] e = refl
granted-same cells [] (h ∷ hs) e = absurd (let wrong : ⊥ = cc in wrong)
granted-same cells (g ∷ gs) [] e = absurd (let wrong : ⊥ = cc in wrong)
granted-same cells (g ∷ gs) (h ∷ hs) e =
    let first : (h.base, h.size) ≡ (g.base, g.size) = cc in
    let rest : grants_of hs ≡ grants_of gs = cc in
    ap (λ (p : ℕ × ℕ). span p.0 p.1 cells ∷ granted gs cells) (sym first) ∙ ap (λ l. span h.base h.size cells ∷ l) (granted-same cells gs hs rest)

-- ---- a hardware that was being set up

-- whatever the slice and the turns are
pub set-up-same : (r q : GuestRun) (old new : Machinery) → r.desc ≡ q.desc → r.first ≡ q.first → r.states ≡ q.states → SetUp r old new → SetUp q old new
set-up-same r q old new desc first states (Untouched is) = Untouched is
set-up-same r q old new desc first states (Installed is) = Installed (is ∙ ap (λ d. installed_for d old) desc)
set-up-same r q old new desc first states (Loaded some is) =
    Loaded some (is ∙ ap (λ d. loaded_for d r.first (take some r.states) old) desc ∙ ap (λ b. loaded_for q.desc b (take some r.states) old) first
    ∙ ap (λ ss. loaded_for q.desc q.first (take some ss) old) states)

-- States of a hardware that runs guests: composed program status words, and other cells in a grant.
use Rattle.std.proofs.Common.{◌≡◌, ℕ, ◌+◌, ◌-◌, ◌<◌, ◌≤◌, ◌^◌, Bool, true, false, min, nat_lt, if◌then◌else◌, ◌++◌, length, take, drop, All, pow_mono, refl, sym, ◌∙◌, ap, subst, arith}
use Rattle.std.proofs.lemmas.Bool.{ltb-true}
use Rattle.std.proofs.lemmas.List.Elements.{All-append, All-take, All-drop}
use Rattle.pg_word.specs.declared.psw.Psw.{Psw}
use Rattle.pg_word.specs.declared.psw.Mode.TheVariants.{U}
use Rattle.pg_word.specs.Psw.{IsPsw}
use Rattle.pg_ast.specs.declared.tree.Desc.{Desc}
use Rattle.pg_lang_meaning.specs.States.{State, IsState}
use Rattle.pg_lang_valid.specs.Valid.{IsValid}
use Rattle.pg_lang_valid.proofs.ValidFacts.{IsShape-of_valid}
use Rattle.pg_routine.specs.Composing.{composed}
use Rattle.pg_routine.specs.Granting.{with_grant}
use Rattle.pg_routine.proofs.StateLaws.{with_grant-length}
use Rattle.pg_mon_control.specs.declared.guest.Guest.{Guest}
use Rattle.pg_mon_control.specs.Current.{Holds}

-- ---- what a composed program status word and other cells in a grant leave

-- a grant lies within the addresses that a number of 32 bits can have
pub Holds-addressable : (d : Desc) (real : State) (g : Guest) → IsValid d → Holds d real g → g.base + g.size < 2 ^ 32
Holds-addressable d real g valid h =
    let shape = IsShape-of_valid d valid in
    let most : 2 ^ d.address ≤ 2 ^ 20 = pow_mono shape.address_most in
    omega (arith, most, shape.size_most, h.grant.within)

composed-fits_by : (a : ℕ) (psw : Psw) (base size : ℕ) (b : Bool) → IsPsw a psw → base + size < 2 ^ a → nat_lt psw.l size ≡ b →
    IsPsw a (record { mode = U; p = psw.p; l = (if b then psw.l + base else base); b = (if b then min psw.b (size - psw.l) else 0) })
composed-fits_by a psw base size true h within e =
    let below : psw.l < size = ltb-true psw.l size e in
    record { p = h.p; l = omega arith; b = omega (arith, h.b) }
composed-fits_by a psw base size false h within e = record { p = h.p; l = omega arith; b = omega arith }

pub composed-fits : (d : Desc) (psw : Psw) (base size : ℕ) → IsValid d → base + size ≤ d.size → IsPsw d.address psw → IsPsw d.address (composed psw base size)
composed-fits d psw base size valid within h =
    let shape = IsShape-of_valid d valid in
    composed-fits_by d.address psw base size (nat_lt psw.l size) h (omega (arith, shape.size_most)) refl

-- a state with the cells of another state in a grant
pub granted-state : (d : Desc) (real s : State) (base : ℕ) (now : State) → IsState d real → IsState d s → base + length s.cells ≤ length real.cells →
    now.cells ≡ with_grant real.cells base s.cells → IsPsw d.address now.psw → IsState d now
granted-state d real s base now real_state s_state within e fields =
    let same = ap length e ∙ with_grant-length real.cells s.cells base within in
    record {
      size_least = omega (arith, same, real_state.size_least);
      size_most = omega (arith, same, real_state.size_most);
      words = subst (All (λ c. c < 2 ^ d.word)) (sym e)
          (All-append (λ c. c < 2 ^ d.word) (take base real.cells ++ s.cells) (drop (base + length s.cells) real.cells)
          (All-append (λ c. c < 2 ^ d.word) (take base real.cells) s.cells (All-take (λ c. c < 2 ^ d.word) base real.cells real_state.words) s_state.words)
          (All-drop (λ c. c < 2 ^ d.word) (base + length s.cells) real.cells real_state.words));
      fields = fields;
    }

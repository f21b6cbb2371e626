-- A step of a guest, by the outcome of its instruction over the cells where its window lies.
use Rattle.std.proofs.Common.{◌≡◌, ℕ, ◌+◌, ◌≤◌, List, length, take, drop, min, sym, ◌∙◌, ap, subst, arith}
use Rattle.pg_word.specs.declared.psw.Psw.{Psw}
use Rattle.pg_word.specs.Psw.{window_len_of}
use Rattle.pg_ast.specs.declared.tree.Desc.{Desc}
use Rattle.pg_lang_meaning.specs.States.{IsState, window}
use Rattle.pg_lang_meaning.specs.Steps.{Ending, Done, ending, left_by, step, ends_in_trap}
use Rattle.pg_lang_valid.specs.Typed.{AreWords}
use Rattle.pg_lang_valid.proofs.StepSound.{window-words}
use Rattle.pg_hw.specs.Bursts.{traps}
use Rattle.pg_interp.specs.declared.effect.Write.{Write}
use Rattle.pg_interp.specs.declared.effect.Effect.{Effect}
use Rattle.pg_interp.specs.declared.effect.Outcome.{Outcome}
use Rattle.pg_interp.specs.declared.effect.Outcome.TheVariants.{Done as Effects}
use Rattle.pg_interp.specs.Writes.{written}
use Rattle.pg_interp.specs.Outcomes.{ending_as, IsOutcome, OnEffect, IsEffect}
use Rattle.pg_interp.proofs.WriteLemmas.{written-length}
use Rattle.pg_routine.specs.Granting.{guest_at, with_grant}
use Rattle.pg_routine.proofs.GrantLaws.{guest-length, guest-window, with_grant-put_back}

-- the cells that a guest's instruction sees are its window
pub seen-window : (cells : List ℕ) (base size : ℕ) (psw : Psw) (from len : ℕ) → base + size ≤ length cells → from ≡ base + min psw.l size → len ≡ window_len_of psw size →
    take len (drop from cells) ≡ window (guest_at cells base size psw)
seen-window cells base size psw from len within from_is len_is =
    ap (λ n. take n (drop from cells)) len_is ∙ ap (λ n. take (window_len_of psw size) (drop n cells)) from_is ∙ guest-window cells base size psw within

-- and words
pub seen-words : (d : Desc) (cells : List ℕ) (base size : ℕ) (psw : Psw) (from len : ℕ) → base + size ≤ length cells → from ≡ base + min psw.l size → len ≡ window_len_of psw size →
    IsState d (guest_at cells base size psw) → AreWords d.word (take len (drop from cells))
seen-words d cells base size psw from len within from_is len_is h =
    subst (AreWords d.word) (sym (seen-window cells base size psw from len within from_is len_is)) (window-words d (guest_at cells base size psw) h)

-- a step leaves what the ending of its instruction leaves
pub step-of : (d : Desc) (cells : List ℕ) (base size : ℕ) (psw : Psw) (from len : ℕ) (o : Outcome) (e : Ending) →
    base + size ≤ length cells → from ≡ base + min psw.l size → len ≡ window_len_of psw size →
    IsOutcome d.word (take len (drop from cells)) (ending d (take len (drop from cells)) psw) o → ending_as (take len (drop from cells)) o ≡ e →
    left_by d (guest_at cells base size psw) e ≡ step d (guest_at cells base size psw)
unfolding step
step-of d cells base size psw from len o e within from_is len_is h is =
    ap (left_by d (guest_at cells base size psw)) (sym is ∙ h.ends ∙ ap (λ w. ending d w psw) (seen-window cells base size psw from len within from_is len_is))

-- and traps where that is a trap
pub traps-of : (d : Desc) (cells : List ℕ) (base size : ℕ) (psw : Psw) (from len : ℕ) (o : Outcome) (e : Ending) →
    base + size ≤ length cells → from ≡ base + min psw.l size → len ≡ window_len_of psw size →
    IsOutcome d.word (take len (drop from cells)) (ending d (take len (drop from cells)) psw) o → ending_as (take len (drop from cells)) o ≡ e →
    ends_in_trap e ≡ traps d (guest_at cells base size psw)
unfolding traps
traps-of d cells base size psw from len o e within from_is len_is h is =
    ap ends_in_trap (sym is ∙ h.ends ∙ ap (λ w. ending d w psw) (seen-window cells base size psw from len within from_is len_is))

-- the storage after the stores of an instruction that is done
pub step-done : (d : Desc) (cells : List ℕ) (base size : ℕ) (psw : Psw) (from len : ℕ) (o : Outcome) (effect : Effect) (ws : List Write) →
    base + size ≤ length cells → from ≡ base + min psw.l size → len ≡ window_len_of psw size →
    IsOutcome d.word (take len (drop from cells)) (ending d (take len (drop from cells)) psw) o → o ≡ Effects effect → ws ≡ effect.writes →
    with_grant cells from (written ws (take len (drop from cells))) ≡ with_grant cells base (step d (guest_at cells base size psw)).cells
step-done d cells base size psw from len o effect ws within from_is len_is h is ws_is =
    let w = take len (drop from cells) in
    let after = written effect.writes w in
    let whole : length after ≡ window_len_of psw size =
    written-length effect.writes w ∙ guest-length cells from len (omega (arith, from_is, len_is, within)) ∙ len_is in
    ap (λ xs. with_grant cells from (written xs w)) ws_is ∙ ap (λ n. with_grant cells n after) from_is
    ∙ sym (with_grant-put_back cells after base size psw within whole)
    ∙ ap (λ t. with_grant cells base t.cells)
    (step-of d cells base size psw from len o (Done (record { window = after; psw = effect.psw })) within from_is len_is h (ap (ending_as w) is))

-- an instruction that is done makes no more stores than it has accesses
pub few-writes : (bits : ℕ) (window : List ℕ) (ending : Ending) (o : Outcome) (effect : Effect) (ws : List Write) → IsOutcome bits window ending o → o ≡ Effects effect → ws ≡ effect.writes → length ws ≤ 8
few-writes bits window ending o effect ws h is e =
    let P : Outcome → Type 0 = OnEffect bits window in
    let effects : IsEffect bits window effect = subst P is h.effect in
    omega (arith, ap length e, effects.most)

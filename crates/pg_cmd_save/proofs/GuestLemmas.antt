-- One guest that ran: what is told of it, and the room for its text.
use Rattle.std.proofs.Common.{◌≡◌, ◌∙◌, ℕ, ◌+◌, ◌<◌, ◌≤◌, List, [], ◌∷◌, length, take, drop, All, Option, None, Some, IsSomeAnd, slice_get, sym, ap, arith, length-take, length-drop}
use Rattle.std.proofs.lemmas.List.Elements.{All-head}
use Rattle.pg_mon_control.specs.declared.guest.Guest.{Guest}
use Rattle.pg_mon_control.specs.Guests.{virtual, virtuals}
use Rattle.pg_run_guests.specs.declared.running.Ran.{Ran}
use Rattle.pg_run_guests.specs.HaveRun.{HaveRun}
use Rattle.pg_hw.specs.Machinery.{Machinery}
use Rattle.pg_lang_meaning.specs.States.{State}
use Rattle.pg_report.specs.Runs.{run_text}
use Rattle.pg_report.specs.Spans.{span}
use Rattle.pg_run_guests.specs.Runs.{GuestRun, direct_turns_of, reached_by, turns_in}

-- what is told of a guest that ran is that of the state that it reached
pub ran-told : (r : GuestRun) (s : State) (ran : Ran) (h : Machinery) (guests : List Guest) (turns direct : ℕ) → HaveRun r ran h → reached_by r ≡ s ∷ [] → turns_in r ≡ r.steps →
    guests ≡ ran.monitor.guests → turns ≡ ran.turns → direct ≡ ran.direct →
    run_text r.desc.word (virtuals h.state.cells guests) turns direct ≡ run_text r.desc.word (s ∷ []) r.steps (direct_turns_of r)
ran-told r s ran h guests turns direct have reached count are_guests are_turns are_direct =
    ap (λ gs. run_text r.desc.word (virtuals h.state.cells gs) turns direct) are_guests
    ∙ ap (λ ss. run_text r.desc.word ss turns direct) (have.states ∙ reached)
    ∙ ap (λ n. run_text r.desc.word (s ∷ []) n direct) (are_turns ∙ have.turns ∙ count)
    ∙ ap (run_text r.desc.word (s ∷ []) r.steps) (are_direct ∙ have.direct)

-- ---- how large a guest is

pub span-length : (base size : ℕ) (cells : List ℕ) → base + size ≤ length cells → length (span base size cells) ≡ size
span-length base size cells fits = omega (arith, length-take size (drop base cells), length-drop base cells, fits)

-- a guest at a state has as many cells
pub one-size : (cells : List ℕ) (gs : List Guest) (s : State) → virtuals cells gs ≡ s ∷ [] → All (λ g. g.base + g.size ≤ length cells) gs →
    IsSomeAnd (slice_get gs 0) (λ g. g.size ≡ length s.cells)
one-size cells [] s e within = absurd (let wrong : ⊥ = cc in wrong)
one-size cells (g ∷ gs) s e within =
    let same : virtual cells g ≡ s = cc in
    let fits : g.base + g.size ≤ length cells = All-head (λ (x : Guest). x.base + x.size ≤ length cells) g gs within in
    sym (span-length g.base g.size cells fits) ∙ ap (λ (t : State). length t.cells) same

pub one-there : (cells : List ℕ) (gs : List Guest) (s : State) → virtuals cells gs ≡ s ∷ [] → 0 < length gs
one-there cells [] s e = absurd (let wrong : ⊥ = cc in wrong)
one-there cells (g ∷ gs) s e = omega arith

pub some-weaker : (o : Option Guest) (P Q : Guest → Type 0) → ((g : Guest) → P g → Q g) → IsSomeAnd o P → IsSomeAnd o Q
some-weaker None P Q go h = absurd h
some-weaker (Some g) P Q go h = go g h

-- States that show a kind are states of the machine at which P is usable, with windows of one length.
use Rattle.std.proofs.Common.{◌≡◌, ℕ, zero, suc, ◌<◌, List, [], ◌∷◌, length, Option, None, Some, refl, sym, ap, ◌∙◌, subst, arith}
use Rattle.std.specs.Prelude.{slice_get, IsSome, IsSomeAnd}
use Rattle.pg_ast.specs.declared.tree.Instr.{Instr}
use Rattle.pg_ast.specs.declared.tree.Desc.{Desc}
use Rattle.pg_lang_valid.specs.Valid.{IsValid}
use Rattle.pg_lang_valid.proofs.StepSound.{step-length, window-length}
use Rattle.pg_lang_meaning.specs.States.{State, IsState, window, window_length}
use Rattle.pg_lang_meaning.specs.Steps.{step}
use Rattle.pg_word.specs.Psw.{window_len_of}
use Rattle.pg_type.specs.declared.kind.Kind.{Kind}
use Rattle.pg_type.specs.declared.kind.Kind.TheVariants.{Privileged, Control, ModeDep, Location, Bound, UControl, ULocation, UBound}
use Rattle.pg_type.specs.Kinds.{Shows, ShowsControl, ShowsLocation, ShowsBound, IsAt, IsModePair}
use Rattle.pg_type.proofs.KindLaws.{shown_states}
use Rattle.pg_type.specs.Listed.{state_of}
use Rattle.pg_out_pair.specs.declared.seen.Seen.{Seen}
use Rattle.pg_out_pair.specs.declared.told.Told.{Told}
use Rattle.pg_out_pair.specs.Telling.{seen}
use Rattle.pg_out_pair.specs.Views.{seen_window}
use Rattle.pg_out_pair.specs.Explaining.{IsTold, IsShownPair, left_window}

some-fetched : (P : ℕ → Type 0) (o : Option ℕ) → IsSomeAnd o P → IsSome o
some-fetched P None h = absurd h
some-fetched P (Some x) h = refl

usable : (i : Instr) (s : State) → IsAt i s → IsSome (slice_get (window s) s.psw.p)
usable i s h = some-fetched _ (slice_get (window s) s.psw.p) h

mode_pair-length : (d : Desc) (i : Instr) (s t : State) → IsModePair d i s t → window_length s ≡ window_length t
mode_pair-length d i s t h = ap window_length (sym h.same_in_user)

abbrev BothAt : Instr → State → State → Type 0
BothAt i s t = IsAt i s × IsAt i t × (window_length s ≡ window_length t)

mode-at : (d : Desc) (i : Instr) (s t : State) → IsModePair d i s t → BothAt i s t
mode-at d i s t h = (h.at_first, h.at_second, mode_pair-length d i s t h)

control-at : (d : Desc) (i : Instr) (s t : State) → ShowsControl d i s t → BothAt i s t
control-at d i s t h = (h.at, subst (IsAt i) (sym h.same) h.at, ap window_length (sym h.same))

location-at : (d : Desc) (i : Instr) (s t : State) → ShowsLocation d i s t → BothAt i s t
location-at d i s t h = (h.at_first, h.at_second, sym (window-length s) ∙ ap length h.same_window ∙ window-length t)

bound-at : (d : Desc) (i : Instr) (s t : State) → ShowsBound d i s t → BothAt i s t
bound-at d i s t h = (h.at_first, h.at_second, sym (window-length s) ∙ ap length h.same_window ∙ window-length t)

both-at : (d : Desc) (i : Instr) (kind : Kind) (s t : State) → Shows d i kind s t → BothAt i s t
both-at d i Privileged s t h = mode-at d i s t h.pair
both-at d i Control s t h = control-at d i s t h
both-at d i ModeDep s t h = mode-at d i s t h.pair
both-at d i Location s t h = location-at d i s t h
both-at d i Bound s t h = bound-at d i s t h
both-at d i UControl s t h = control-at d i s t h.0
both-at d i ULocation s t h = location-at d i s t h.0
both-at d i UBound s t h = bound-at d i s t h.0

pub shown-pair : (d : Desc) (i : Instr) (kind : Kind) (s t : State) → Shows d i kind s t → IsShownPair d s t
shown-pair d i kind s t h =
    let states = shown_states d i kind s t h in
    let at = both-at d i kind s t h in
    record { first = states.0; second = states.1; first_usable = usable i s at.0; second_usable = usable i t at.1; same_length = at.2 }

left-length : (d : Desc) (s : State) → IsValid d → IsState d s → length (left_window d s) ≡ window_length s
left-length d s v h = window-length (record { cells = (step d s).cells; psw = s.psw }) ∙ ap (window_len_of s.psw) (step-length d s v h)

-- the windows that the steps leave are of one length
pub left-same : (d : Desc) (s t : State) → IsValid d → IsShownPair d s t → length (left_window d s) ≡ length (left_window d t)
left-same d s t v h = left-length d s v h.first ∙ h.same_length ∙ sym (left-length d t v h.second)

some_at : (is : List Instr) (k : ℕ) → k < length is → (i : Instr) × (slice_get is k ≡ Some i)
some_at [] k l = absurd (omega arith)
some_at (x ∷ is) zero l = (x, refl)
some_at (x ∷ is) (suc k) l = some_at is k (omega arith)

-- what is shown by an instruction of a number
pub shown-by : (d : Desc) (k : ℕ) (kind : Kind) (s t : State) → k < length d.instrs → ((i : Instr) → slice_get d.instrs k ≡ Some i → Shows d i kind s t) → IsShownPair d s t
shown-by d k kind s t l h = let i = some_at d.instrs k l in shown-pair d i.0 kind s t (h i.0 i.1)

-- what is seen behind a step is the window that it left
pub seen-left : (d : Desc) (s : State) (r : Seen) (told : Told) → r.psw ≡ s.psw → r.state.now ≡ told.after → IsTold d s told → seen_window r ≡ left_window d s
seen-left d s r told same_psw same_state h =
    ap (λ p. window (seen p (state_of r.state.now))) same_psw ∙ ap (λ z. window (seen s.psw (state_of z))) same_state ∙ ap (λ z. window (seen s.psw z)) h.after

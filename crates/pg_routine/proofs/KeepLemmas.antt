-- Stores that leave every cell of a window as it is; and steps that leave a guest's state as it is.
use Rattle.std.proofs.Common.{◌≡◌, ℕ, ◌+◌, ◌<◌, ◌≤◌, Bool, true, false, ◌==◌, if◌then◌else◌, ◌||◌, List, [], ◌∷◌, ◌++◌, append_assoc, All, length, take, drop, min, slice_set, slice_index, get_or, refl, sym, ◌∙◌, ap, subst, arith, true≢false}
use Rattle.std.proofs.lemmas.Bool.{eqb-true}
use Rattle.std.proofs.lemmas.List.{append_cancel_left, append_cancel_right, ext_get_or, get_or-set_same, set-get_or, take-append-drop}
use Rattle.std.proofs.lemmas.List.Elements.{All-head, All-tail}
use Rattle.std.proofs.lemmas.Option.{slice_get-get_or, get_or_from_slice_get}
use Rattle.std.proofs.Math.Seq.{take-add}
use Rattle.std.specs.List.{list_any}
use Rattle.pg_word.specs.declared.psw.Psw.{Psw}
use Rattle.pg_word.specs.Psw.{packed_trap, unpacked, window_len_of}
use Rattle.pg_ast.specs.declared.tree.Desc.{Desc}
use Rattle.pg_lang_meaning.specs.States.{State, shape_of, window, window_length, put_back}
use Rattle.pg_lang_meaning.specs.Steps.{Done, ending, step, trapped}
use Rattle.pg_interp.specs.declared.effect.Write.{Write}
use Rattle.pg_interp.specs.declared.effect.Effect.{Effect}
use Rattle.pg_interp.specs.declared.effect.Outcome.{Outcome}
use Rattle.pg_interp.specs.declared.effect.Outcome.TheVariants.{Done as Effects}
use Rattle.pg_interp.specs.Writes.{written, overlaid}
use Rattle.pg_interp.specs.Outcomes.{ending_as, IsOutcome}
use Rattle.pg_interp.proofs.WriteLemmas.{written-length, written-some}
use Rattle.pg_routine.specs.Granting.{guest_at}
use Rattle.pg_routine.proofs.StepLemmas.{seen-window, step-of}

-- ---- stores

-- a store to a cell that holds in the end what it held before them all
abbrev pub IsKept : List ℕ → List Write → Write → Type 0
IsKept cells ws x = overlaid ws x.at (get_or cells x.at 0) ≡ get_or cells x.at 0

-- what a cell holds after stores
written-at : (ws : List Write) (cells : List ℕ) (at : ℕ) → at < length cells → get_or (written ws cells) at 0 ≡ overlaid ws at (get_or cells at 0)
written-at ws cells at within =
    get_or_from_slice_get (written ws cells) at (overlaid ws at (get_or cells at 0)) 0
    (written-some ws cells at (get_or cells at 0) (slice_get-get_or cells at 0 within))

-- whether some store is to a cell
abbrev hits : ℕ → List Write → Bool
hits at ws = list_any (λ x. x.at == at) ws

-- a cell to which none is
overlaid-none : (ws : List Write) (at held : ℕ) → hits at ws ≡ false → overlaid ws at held ≡ held
unfolding overlaid
overlaid-none [] at held none = refl
overlaid-none (x ∷ xs) at held none = by (x.at == at) refl (overlaid-none xs at held)
  where
    by : (b : Bool) → (x.at == at) ≡ b → (hits at xs ≡ false → overlaid xs at held ≡ held) →
        overlaid xs at (if x.at == at then x.cell else held) ≡ held
    by true e others = absurd (true≢false (sym (ap (λ b. b || hits at xs) e) ∙ none))
    by false e others = rw e (others (sym (ap (λ b. b || hits at xs) e) ∙ none))

-- a cell to which one of those is that keep theirs
overlaid-hit : (cells : List ℕ) (all ws : List Write) (at : ℕ) → All (IsKept cells all) ws → hits at ws ≡ true →
    overlaid all at (get_or cells at 0) ≡ get_or cells at 0
overlaid-hit cells all [] at kept some = absurd (true≢false (sym some))
overlaid-hit cells all (x ∷ xs) at kept some =
    by (x.at == at) refl (overlaid-hit cells all xs at (All-tail (IsKept cells all) x xs kept))
  where
    by : (b : Bool) → (x.at == at) ≡ b → (hits at xs ≡ true → overlaid all at (get_or cells at 0) ≡ get_or cells at 0) →
        overlaid all at (get_or cells at 0) ≡ get_or cells at 0
    by true e others = subst (λ i. overlaid all i (get_or cells i 0) ≡ get_or cells i 0) (eqb-true x.at at e) (All-head (IsKept cells all) x xs kept)
    by false e others = others (sym (ap (λ b. b || hits at xs) e) ∙ some)

-- every cell is kept where each store keeps its own
pub written-kept : (ws : List Write) (cells : List ℕ) → All (IsKept cells ws) ws → written ws cells ≡ cells
written-kept ws cells kept = ext_get_or 0 (written ws cells) cells (written-length ws cells) each
  where
    held : (at : ℕ) (b : Bool) → hits at ws ≡ b → overlaid ws at (get_or cells at 0) ≡ get_or cells at 0
    held at true is = overlaid-hit cells ws ws at kept is
    held at false is = overlaid-none ws at (get_or cells at 0) is

    each : (i : ℕ) → i < length (written ws cells) → get_or (written ws cells) i 0 ≡ get_or cells i 0
    each i within = let same = written-length ws cells in written-at ws cells i (omega (arith, within, same)) ∙ held i (hits i ws) refl

-- a store that does not keep its own changes a cell
pub written-changed : (at word : ℕ) (ws : List Write) (cells : List ℕ) → at < length cells → word ≡ overlaid ws at (get_or cells at 0) →
    (word ≡ get_or cells at 0 → ⊥) → written ws cells ≡ cells → ⊥
written-changed at word ws cells within is differs same =
    differs (is ∙ sym (written-at ws cells at within) ∙ ap (λ cs. get_or cs at 0) same)

-- ---- traps

-- a trap that stores what is there and loads the PSW that is
pub trapped-still : (d : Desc) (s : State) (cause : ℕ) → unpacked d.address (slice_index s.cells 1) ≡ s.psw → slice_index s.cells 0 ≡ packed_trap (shape_of d) s.psw cause →
    trapped d s cause ≡ s
trapped-still d s cause loads stores =
    ap (λ (x : Psw). let t : State = record { cells = slice_set s.cells 0 (packed_trap (shape_of d) s.psw cause); psw = x } in t) loads
    ∙ ap (λ cs. let t : State = record { cells = cs; psw = s.psw } in t) (ap (slice_set s.cells 0) (sym stores) ∙ set-get_or s.cells 0 0)

-- what a trap that leaves the state as it is loads and stores
pub trapped-loads : (d : Desc) (s : State) (cause : ℕ) → trapped d s cause ≡ s → unpacked d.address (slice_index s.cells 1) ≡ s.psw
trapped-loads d s cause same = ap (λ (t : State). t.psw) same

pub trapped-stores : (d : Desc) (s : State) (cause : ℕ) → 0 < length s.cells → trapped d s cause ≡ s → slice_index s.cells 0 ≡ packed_trap (shape_of d) s.psw cause
trapped-stores d s cause some same =
    let w = packed_trap (shape_of d) s.psw cause in
    sym (ap (λ (t : State). slice_index t.cells 0) same) ∙ get_or-set_same s.cells 0 w 0 some

-- ---- windows

-- a window put back as it was
pub put_back-same : (s : State) → put_back s (window s) ≡ s.cells
put_back-same s = ap (λ xs. xs ++ drop (s.psw.l + window_length s) s.cells) (sym (take-add s.psw.l (window_length s) s.cells)) ∙ take-append-drop (s.psw.l + window_length s) s.cells

-- and only so is every cell as it was
pub put_back-kept : (s : State) (cells : List ℕ) → put_back s cells ≡ s.cells → cells ≡ window s
put_back-kept s cells same =
    let rest = drop (s.psw.l + window_length s) s.cells in
    append_cancel_right cells (window s) rest
    (append_cancel_left (take s.psw.l s.cells) (cells ++ rest) (window s ++ rest)
    (sym (append_assoc (take s.psw.l s.cells) cells rest) ∙ same ∙ sym (put_back-same s) ∙ append_assoc (take s.psw.l s.cells) (window s) rest))

-- ---- steps that are done

module _ (d : Desc) (cells : List ℕ) (base size : ℕ) (psw : Psw) (from len : ℕ) (o : Outcome) (effect : Effect) (ws : List Write) where
  abbrev guest : State
  guest = guest_at cells base size psw

  abbrev seen : List ℕ
  seen = take len (drop from cells)

  -- what is known of the step of a guest that is done
  pub record IsDone : Type 0 where
    pub within : base + size ≤ length cells
    pub from_is : from ≡ base + min psw.l size
    pub len_is : len ≡ window_len_of psw size
    pub outcome : IsOutcome d.word seen (ending d seen psw) o
    pub is : o ≡ Effects effect
    pub writes : ws ≡ effect.writes

  module _ (h : IsDone) where
    left : record { cells = put_back guest (written effect.writes seen); psw = effect.psw } ≡ step d guest
    left = step-of d cells base size psw from len o (Done (record { window = written effect.writes seen; psw = effect.psw })) h.within h.from_is h.len_is h.outcome (ap (ending_as seen) h.is)

    window_is : seen ≡ window guest
    window_is = seen-window cells base size psw from len h.within h.from_is h.len_is

    pub done-still : effect.psw ≡ psw → written ws seen ≡ seen → step d guest ≡ guest
    done-still next kept =
        sym left
        ∙ ap (λ w. let t : State = record { cells = put_back guest w; psw = effect.psw } in t) (ap (λ xs. written xs seen) (sym h.writes) ∙ kept ∙ window_is)
        ∙ ap (λ cs. let t : State = record { cells = cs; psw = effect.psw } in t) (put_back-same guest)
        ∙ ap (λ (x : Psw). let t : State = record { cells = guest.cells; psw = x } in t) next

    pub done-next : step d guest ≡ guest → effect.psw ≡ psw
    done-next same = ap (λ (t : State). t.psw) (left ∙ same)

    pub done-kept : step d guest ≡ guest → written ws seen ≡ seen
    done-kept same =
        ap (λ xs. written xs seen) h.writes ∙ put_back-kept guest (written effect.writes seen) (ap (λ (t : State). t.cells) (left ∙ same)) ∙ sym window_is

-- A step of a valid description's machine leads from states to states.
use Rattle.std.proofs.Common.{◌≡◌, ℕ, zero, suc, ◌+◌, ◌-◌, ◌%◌, ◌^◌, ◌<◌, ◌≤◌, List, [], ◌∷◌, ◌++◌, length, take, drop, map, replicate, slice_get, slice_index, Option, None, Some, refl, sym, ◌∙◌, ap, subst, arith, lit≤, length-append, length-drop}
use Rattle.std.proofs.lemmas.List.{length-take, length-replicate}
use Rattle.std.proofs.lemmas.List.Elements.{All-append, All-take, All-drop, All-set, All-replicate}
use Rattle.std.proofs.Math.ListN.{length-set}
use Rattle.std.proofs.lemmas.Nat.{pow_pos}
use Rattle.std.proofs.Math.Nat.{mod-lt}
use Rattle.pg_word.specs.declared.psw.Psw.{Psw}
use Rattle.pg_word.specs.Psw.{IsPsw, packed_trap, unpacked}
use Rattle.pg_word.proofs.Words.{packed_trap_below}
use Rattle.pg_ast.specs.declared.tree.Stmt.{Stmt}
use Rattle.pg_ast.specs.declared.tree.Instr.{Instr}
use Rattle.pg_ast.specs.declared.tree.Desc.{Desc}
use Rattle.pg_lang_meaning.specs.Patterns.{matching}
use Rattle.pg_lang_meaning.specs.Values.{Entry}
use Rattle.pg_lang_meaning.specs.Bodies.{Course, MemTrapped, Trapped, Going, After, in_order, deed_of, entry_of, begun, body}
use Rattle.pg_lang_meaning.specs.States.{State, IsState, shape_of, window_length, window, put_back}
use Rattle.pg_lang_meaning.specs.Steps.{Ending, ByMemTrap, ByTrap, ByNoPattern, Done, ending_of, executed, fetched, ending, trapped, left_by, step, steps, power_on}
use Rattle.pg_lang_valid.specs.Widths.{LetWidths, Fare, Breaks, Keeps, broken_place, fares_in_order, fare_of, setting_of}
use Rattle.pg_lang_valid.specs.Valid.{IsValid}
use Rattle.pg_lang_valid.specs.Typed.{IsEntry, AreWords, RunFits}
use Rattle.pg_lang_valid.proofs.DeedSound.{OnGoing, RunKeeps, IsSound, deed-sound, in_order-sound, on_then}
use Rattle.pg_lang_valid.proofs.ValidFacts.{IsShape-of_valid, pattern_length-of_valid, widths-of_valid, IsWidth-word, IsWidth-address}

-- what an instruction leaves is in range, in a window of the same length
pub record AfterFits (d : Desc) (n : ℕ) (after : After) : Type 0 where
  pub window : AreWords d.word after.window
  pub psw : IsPsw d.address after.psw
  pub same_length : length after.window ≡ n

abbrev pub OnDone : Ending → (After → Type 0) → Type 0
OnDone ByMemTrap P = Unit {0}
OnDone ByTrap P = Unit {0}
OnDone ByNoPattern P = Unit {0}
OnDone (Done after) P = P after

-- statements that keep to the table of widths
pub no_break : (f : Fare) → broken_place f ≡ None → (next : ℕ) × (lets : LetWidths) × (f ≡ Keeps next lets)
no_break (Breaks place how) h = absurd (cc h)
no_break (Keeps next lets) h = (next, lets, refl)

with_proofs : (ss : List Stmt) → List ((s : Stmt) × IsSound s)
with_proofs [] = []
with_proofs (s ∷ ss) = (s, deed-sound s) ∷ with_proofs ss

with_proofs-first : (ss : List Stmt) → map (λ p. p.0) (with_proofs ss) ≡ ss
unfolding with_proofs
with_proofs-first [] = refl
with_proofs-first (s ∷ ss) = ap (λ l. s ∷ l) (with_proofs-first ss)

next_psw : (a : ℕ) (x : Psw) → IsPsw a x → IsPsw a (record x { p = (x.p + 1) % 2 ^ a })
next_psw a x h = record { p = mod-lt (x.p + 1) (pow_pos a); l = h.l; b = h.b }

unpacked-fits : (a w : ℕ) → IsPsw a (unpacked a w)
unpacked-fits a w = record { p = mod-lt _ (pow_pos a); l = mod-lt _ (pow_pos a); b = mod-lt _ (pow_pos a) }

-- the body of a matching instruction, in a window of words
pub body-sound : (d : Desc) (i : Instr) (cells : List ℕ) (psw : Psw) (word : ℕ) → IsValid d → matching d.instrs word ≡ Some i →
    AreWords d.word cells → IsPsw d.address psw → OnGoing (body d i cells psw word) (AfterFits d (length cells))
unfolding body
body-sound d i cells psw word v m words fields =
    let fare = no_break (fares_in_order (map (fare_of (setting_of d i)) i.body) 0 []) (widths-of_valid d word i v m) in
    let at : Entry = entry_of d i psw word in
    let is : IsEntry at = record {
      word_width = IsWidth-word d v;
      address_width = IsWidth-address d v;
      pattern = omega (arith, pattern_length-of_valid d word i v m, (IsWidth-word d v).most);
      psw = fields;
    } in
    let fits : RunFits at (begun d cells psw) [] = record { window = words; next = next_psw d.address psw fields; lets = tt } in
    on_then (in_order (map deed_of i.body) at (begun d cells psw)) (λ r. Going (record { window = r.window; psw = r.next })) (λ t. RunKeeps at (begun d cells psw) t fare.1) (AfterFits d (length cells))
    (subst (λ ss. OnGoing (in_order (map deed_of ss) at (begun d cells psw)) (λ t. RunKeeps at (begun d cells psw) t fare.1)) (with_proofs-first i.body)
    (in_order-sound (with_proofs i.body) at (begun d cells psw) 0 [] fare.0 fare.1 is fits
    (subst (λ ss. fares_in_order (map (fare_of (setting_of d i)) ss) 0 [] ≡ Keeps fare.0 fare.1) (sym (with_proofs-first i.body)) fare.2)))
    (λ t keeps. record { window = keeps.fits.window; psw = keeps.fits.next; same_length = keeps.same_length })

ending_of-sound : (c : Course After) (P : After → Type 0) → OnGoing c P → OnDone (ending_of c) P
ending_of-sound MemTrapped P h = tt
ending_of-sound Trapped P h = tt
ending_of-sound (Going after) P h = h

executed-sound : (d : Desc) (cells : List ℕ) (psw : Psw) (word : ℕ) (o : Option Instr) → matching d.instrs word ≡ o → IsValid d → AreWords d.word cells → IsPsw d.address psw →
    OnDone (executed d cells psw word o) (AfterFits d (length cells))
executed-sound d cells psw word None m v words fields = tt
executed-sound d cells psw word (Some i) m v words fields =
    ending_of-sound (body d i cells psw word) (AfterFits d (length cells)) (body-sound d i cells psw word v m words fields)

fetched-sound : (d : Desc) (cells : List ℕ) (psw : Psw) (o : Option ℕ) → IsValid d → AreWords d.word cells → IsPsw d.address psw →
    OnDone (fetched d cells psw o) (AfterFits d (length cells))
fetched-sound d cells psw None v words fields = tt
fetched-sound d cells psw (Some word) v words fields = executed-sound d cells psw word (matching d.instrs word) refl v words fields

-- an ending in a window of words
pub ending-sound : (d : Desc) (cells : List ℕ) (psw : Psw) → IsValid d → AreWords d.word cells → IsPsw d.address psw → OnDone (ending d cells psw) (AfterFits d (length cells))
unfolding ending
ending-sound d cells psw v words fields = fetched-sound d cells psw (slice_get cells psw.p) v words fields

-- a window has as many cells as its length says
pub window-length : (s : State) → length (window s) ≡ window_length s
window-length s = omega (arith, length-take (window_length s) (drop s.psw.l s.cells), length-drop s.psw.l s.cells)

-- a window of another content leaves the storage its length
pub put_back-length : (s : State) (cells : List ℕ) → length cells ≡ window_length s → length (put_back s cells) ≡ length s.cells
put_back-length s cells e = simp (length-append, length-take, length-drop) (omega (arith, e))

trapped-sound : (d : Desc) (s : State) (cause : ℕ) → IsValid d → IsState d s → cause ≤ 3 → IsState d (trapped d s cause)
trapped-sound d s cause v h most =
    let same = length-set s.cells 0 (packed_trap (shape_of d) s.psw cause) in
    record {
      size_least = omega (arith, same, h.size_least);
      size_most = omega (arith, same, h.size_most);
      words = All-set (λ c. c < 2 ^ d.word) s.cells 0 _ (packed_trap_below (shape_of d) s.psw cause (IsShape-of_valid d v) h.fields most) h.words;
      fields = unpacked-fits d.address (slice_index s.cells 1);
    }

left_by-sound : (d : Desc) (s : State) (e : Ending) → IsValid d → IsState d s → OnDone e (AfterFits d (length (window s))) → IsState d (left_by d s e)
left_by-sound d s ByMemTrap v h fits = trapped-sound d s 1 v h (lit≤ tt)
left_by-sound d s ByTrap v h fits = trapped-sound d s 2 v h (lit≤ tt)
left_by-sound d s ByNoPattern v h fits = trapped-sound d s 3 v h (lit≤ tt)
left_by-sound d s (Done after) v h fits =
    let same = put_back-length s after.window (fits.same_length ∙ window-length s) in
    record {
      size_least = omega (arith, same, h.size_least);
      size_most = omega (arith, same, h.size_most);
      words = All-append (λ c. c < 2 ^ d.word) (take s.psw.l s.cells ++ after.window) (drop (s.psw.l + window_length s) s.cells)
          (All-append (λ c. c < 2 ^ d.word) (take s.psw.l s.cells) after.window (All-take (λ c. c < 2 ^ d.word) s.psw.l s.cells h.words) fits.window)
          (All-drop (λ c. c < 2 ^ d.word) (s.psw.l + window_length s) s.cells h.words);
      fields = fits.psw;
    }

left_by-length : (d : Desc) (s : State) (e : Ending) → OnDone e (AfterFits d (length (window s))) → length (left_by d s e).cells ≡ length s.cells
left_by-length d s ByMemTrap fits = length-set s.cells 0 _
left_by-length d s ByTrap fits = length-set s.cells 0 _
left_by-length d s ByNoPattern fits = length-set s.cells 0 _
left_by-length d s (Done after) fits = put_back-length s after.window (fits.same_length ∙ window-length s)

-- the window of a state is of words
pub window-words : (d : Desc) (s : State) → IsState d s → AreWords d.word (window s)
window-words d s h = All-take (λ c. c < 2 ^ d.word) (window_length s) (drop s.psw.l s.cells) (All-drop (λ c. c < 2 ^ d.word) s.psw.l s.cells h.words)

-- a step leads from states to states
pub step-state : (d : Desc) (s : State) → IsValid d → IsState d s → IsState d (step d s)
unfolding step
step-state d s v h = left_by-sound d s (ending d (window s) s.psw) v h (ending-sound d (window s) s.psw v (window-words d s h) h.fields)

pub steps-state : (d : Desc) (n : ℕ) (s : State) → IsValid d → IsState d s → IsState d (steps d n s)
unfolding steps
steps-state d zero s v h = h
steps-state d (suc n) s v h = step-state d (steps d n s) v (steps-state d n s v h)

-- a step leaves the storage its length
pub step-length : (d : Desc) (s : State) → IsValid d → IsState d s → length (step d s).cells ≡ length s.cells
unfolding step
step-length d s v h = left_by-length d s (ending d (window s) s.psw) (ending-sound d (window s) s.psw v (window-words d s h) h.fields)

pub steps-length : (d : Desc) (n : ℕ) (s : State) → IsValid d → IsState d s → length (steps d n s).cells ≡ length s.cells
unfolding steps
steps-length d zero s v h = refl
steps-length d (suc n) s v h = step-length d (steps d n s) v (steps-state d n s v h) ∙ steps-length d n s v h

-- a machine of 2 to q cells, switched on with words, is at a state
pub power_on-state : (d : Desc) (image : List ℕ) (g : ℕ) → IsValid d → 2 ≤ g → g ≤ d.size → length image ≤ g → AreWords d.word image → IsState d (power_on image g)
unfolding power_on
power_on-state d image g v least most short words =
    let shape = IsShape-of_valid d v in
    let all = length-append image (replicate (g - length image) 0) in
    let zeros = length-replicate {A = ℕ} (g - length image) 0 in
    record {
      size_least = omega (arith, all, zeros);
      size_most = omega (arith, all, zeros);
      words = All-append (λ c. c < 2 ^ d.word) image (replicate (g - length image) 0) words (All-replicate (λ c. c < 2 ^ d.word) (g - length image) 0 (pow_pos d.word));
      fields = record { p = omega (arith, shape.size_least, shape.size_most); l = pow_pos d.address; b = omega (arith, shape.size_most) };
    }

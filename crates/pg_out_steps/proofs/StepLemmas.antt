-- A step, by how its instruction ended in a frame.
use Rattle.std.proofs.Common.{◌≡◌, ℕ, ◌<◌, ◌^◌, List, length, slice_get, get_or, All, Option, None, Some, refl, sym, ◌∙◌, ap, subst}
use Rattle.std.specs.Prelude.{IfSome}
use Rattle.std.proofs.lemmas.List.Elements.{All-get_or, All-weaker}
use Rattle.std.proofs.lemmas.Option.{slice_get_within, unwrap_or-slice_get}
use Rattle.std.specs.Option.{unwrap_or}
use Rattle.pg_word.specs.Psw.{cause_number}
use Rattle.pg_ast.specs.declared.tree.Desc.{Desc}
use Rattle.pg_lang_meaning.specs.States.{State, window, put_back}
use Rattle.pg_lang_meaning.specs.Steps.{Ending, ending, left_by, step, trapped}
use Rattle.pg_hw.specs.Machinery.{Machinery}
use Rattle.pg_hw.specs.Tallies.{after_steps}
use Rattle.pg_hw.specs.Bursts.{untrapped_at, BottomRises}
use Rattle.pg_hw.specs.Running.{Ran}
use Rattle.pg_hw.proofs.BurstLaws.{steps-one, untrapped_among-one}
use Rattle.pg_interp.specs.declared.effect.Write.{Write}
use Rattle.pg_interp.specs.declared.effect.Ended.{Ended}
use Rattle.pg_interp.specs.declared.effect.Ended.TheVariants as ended
use Rattle.pg_interp.specs.declared.frame.Frame.{Frame}
use Rattle.pg_interp.specs.Outcomes.{IsOutcome, ending_as, outcome_in}
use Rattle.pg_interp.specs.Writes.{written, IsWrite, AreWrites}
use Rattle.pg_out_steps.specs.Tells.{cause_of, cause_as}

cause-shown : (w : List ℕ) (f : Frame) (e : Ended) → cause_as e ≡ cause_of (ending_as w (outcome_in f e))
cause-shown w f ended.MemTrap = refl
cause-shown w f ended.Trap = refl
cause-shown w f ended.NoPattern = refl
cause-shown w f ended.Done = refl

-- why it trapped
pub told-cause : (bits : ℕ) (w : List ℕ) (x : Ending) (f : Frame) (e : Ended) → IsOutcome bits w x (outcome_in f e) → cause_as e ≡ cause_of x
told-cause bits w x f e h = cause-shown w f e ∙ ap cause_of h.ends

-- the cells behind it, where it is done
pub told-done : (d : Desc) (s : State) (f : Frame) (e : Ended) → IsOutcome d.word (window s) (ending d (window s) s.psw) (outcome_in f e) → cause_as e ≡ None →
    (step d s).cells ≡ put_back s (written f.writes (window s))
unfolding step
told-done d s f ended.MemTrap h none = absurd (cc none)
told-done d s f ended.Trap h none = absurd (cc none)
told-done d s f ended.NoPattern h none = absurd (cc none)
told-done d s f ended.Done h none = ap (λ x. (left_by d s x).cells) (sym h.ends)

-- the state behind it, where it traps
pub told-trapped : (d : Desc) (s : State) (f : Frame) (e : Ended) → IsOutcome d.word (window s) (ending d (window s) s.psw) (outcome_in f e) →
    IfSome (cause_as e) (λ cause. step d s ≡ trapped d s (cause_number cause))
unfolding step
told-trapped d s f ended.MemTrap h = ap (left_by d s) (sym h.ends)
told-trapped d s f ended.Trap h = ap (left_by d s) (sym h.ends)
told-trapped d s f ended.NoPattern h = ap (left_by d s) (sym h.ends)
told-trapped d s f ended.Done h = tt

-- its stores, where it is done, are of words
pub told-stores : (bits : ℕ) (w : List ℕ) (x : Ending) (f : Frame) (e : Ended) → IsOutcome bits w x (outcome_in f e) → cause_as e ≡ None → All (λ y. y.cell < 2 ^ bits) f.writes
told-stores bits w x f ended.MemTrap h none = absurd (cc none)
told-stores bits w x f ended.Trap h none = absurd (cc none)
told-stores bits w x f ended.NoPattern h none = absurd (cc none)
told-stores bits w x f ended.Done h none = words bits (length w) f.writes h.effect.writes
  where
    words : (bits n : ℕ) (ws : List Write) → AreWrites bits n ws → All (λ y. y.cell < 2 ^ bits) ws
    words bits n ws are = All-weaker (IsWrite bits n) (λ y. y.cell < 2 ^ bits) (λ y is. is.cell) ws are

-- a word that is there is one of the words
pub word-fits : (bits : ℕ) (cells : List ℕ) (at : ℕ) (o : Option ℕ) → o ≡ slice_get cells at → All (λ cell. cell < 2 ^ bits) cells → IfSome o (λ word. word < 2 ^ bits)
word-fits bits cells at None is h = tt
word-fits bits cells at (Some word) is h =
    let there = slice_get_within cells at word (sym is) in
    let same : word ≡ get_or cells at word = ap (λ o. unwrap_or o word) is ∙ unwrap_or-slice_get cells at word in
    subst (λ x. x < 2 ^ bits) (sym same) (All-get_or (λ cell. cell < 2 ^ bits) cells at word there h)

-- the hardware made one step
pub ran-one : (d : Desc) (old new : Machinery) → new.state ≡ step d old.state → new.tally ≡ after_steps old.tally 1 (untrapped_at d old.state) →
    BottomRises d 1 old.state old.bottom new.bottom → Ran d 1 old new
ran-one d old new moved counted bottom = record {
  state = moved ∙ sym (steps-one d old.state);
  tally = counted ∙ ap (λ u. after_steps old.tally 1 u) (sym (untrapped_among-one d old.state));
  bottom = bottom;
}

-- `pg_go --bare`: what it leaves.
use Rattle.std.proofs.Common.{◌≡◌, ◌∙◌, ℕ, List, length, Option, ap, refl, sym, subst}
use Rattle.pg_edge.specs.Shelf.{Files}
use Rattle.pg_lang_meaning.specs.States.{State, IsState}
use Rattle.pg_lang_meaning.specs.Steps.{bare, power_on}
use Rattle.pg_lang_valid.specs.Valid.{IsValid}
use Rattle.pg_lang_valid.proofs.StepSound.{steps-length, steps-state}
use Rattle.pg_cmd_base.specs.declared.status.Status.TheVariants.{Done}
use Rattle.pg_cmd_base.specs.Steps.{Came}
use Rattle.pg_cmd_base.specs.World.{World}
use Rattle.pg_cmd_plain.specs.Bare.{BareDue, BareRun}
use Rattle.pg_run_still.specs.declared.view.View.{View}
use Rattle.pg_run_still.specs.Bare.{CanStand, Stood, stood_text}
use Rattle.pg_run_still.specs.Running.{steps_of_rest}
use Rattle.pg_run_still.specs.Views.{AreViewsOf}
use Rattle.pg_run_still.proofs.StandLemmas.{stand-state}
use Rattle.pg_prog_go.specs.declared.request.BareGoWords.{BareGoWords}
use Rattle.pg_prog_go.specs.Bare.{StaysStill, StoodEnd, bare_words}
use Rattle.pg_prog_go.proofs.EndsLemmas.{power_on-length, stays}

-- a state that a machine reached is one of its, of as many cells as it was granted
pub stood-state : (r : BareRun) (still : Option ℕ) (now : State) → IsValid r.desc → CanStand r.desc r.grant r.image → Stood r.desc r.grant r.steps r.image still now → IsState r.desc now
unfolding bare
stood-state r still now valid can stood =
    subst (IsState r.desc) (sym stood.reached) (steps-state r.desc (steps_of_rest r.steps still) (power_on r.image r.grant) valid (stand-state r.desc r.grant r.image valid can))

pub stood-long : (r : BareRun) (still : Option ℕ) (now : State) → IsValid r.desc → CanStand r.desc r.grant r.image → Stood r.desc r.grant r.steps r.image still now → length now.cells ≡ r.grant
unfolding bare
stood-long r still now valid can stood =
    ap (λ (s : State). length s.cells) stood.reached
    ∙ steps-length r.desc (steps_of_rest r.steps still) (power_on r.image r.grant) valid (stand-state r.desc r.grant r.image valid can)
    ∙ subst (λ n. length (power_on r.image n).cells ≡ n) can.whole (power_on-length r.image)

-- the views show cells that it has
pub stood-views : (told : Option Files) (w : BareGoWords) (r : BareRun) (vs : List View) (still : Option ℕ) (now : State) → IsValid r.desc → CanStand r.desc r.grant r.image →
    Stood r.desc r.grant r.steps r.image still now → BareDue (bare_words w) told (Came r) → vs ≡ w.views.items → AreViewsOf (length now.cells) vs
unfolding BareDue
stood-views told w r vs still now valid can stood due same =
    let granted : r.grant ≡ w.grant = ap (λ (x : BareRun). x.grant) due.2.2.2 in
    subst (λ n. AreViewsOf n vs) (sym (stood-long r still now valid can stood ∙ granted)) (subst (λ xs. AreViewsOf w.grant xs) (sym same) w.within)

-- it stays where it is still
stay-still : (r : BareRun) (still : Option ℕ) (now : State) → Stood r.desc r.grant r.steps r.image still now → StaysStill r still
unfolding bare
stay-still r still now stood n k is behind = stays r.desc (power_on r.image r.grant) r.steps n k still is behind stood.first

-- it ran
pub stood-end : (vs : List View) (r : BareRun) (still : Option ℕ) (old new : World) → Stood r.desc r.grant r.steps r.image still new.hw.state → new.files ≡ old.files →
    new.save_faults ≡ old.save_faults → StoodEnd vs r old new Done (stood_text r.desc.word vs r.steps still (bare r.desc r.image r.grant (steps_of_rest r.steps still)))
stood-end vs r still old new stood files saves = record {
  status = refl;
  still = still;
  first = stood.first;
  stay = stay-still r still new.hw.state stood;
  wording = refl;
  reached = stood.reached;
  files = files;
  saves = saves;
}

-- what is put is the text of the state that it reached
pub stood-said : (vs ws : List View) (r : BareRun) (still : Option ℕ) (now : State) → ws ≡ vs → Stood r.desc r.grant r.steps r.image still now →
    stood_text r.desc.word ws r.steps still now ≡ stood_text r.desc.word vs r.steps still (bare r.desc r.image r.grant (steps_of_rest r.steps still))
stood-said vs ws r still now same stood = ap (λ xs. stood_text r.desc.word xs r.steps still now) same ∙ ap (stood_text r.desc.word vs r.steps still) stood.reached

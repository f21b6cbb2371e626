-- `pg_go`: what it leaves, by the verdict of its certificate.
use Rattle.std.proofs.Common.{◌≡◌, ◌∙◌, ◌+◌, ◌-◌, ◌≤◌, ap, List, [], ◌∷◌, All, length, replicate, ℕ, suc, Option, None, Some, slice_get, refl, sym, subst, arith}
use Rattle.std.proofs.lemmas.List.{length-append, length-map, length-replicate}
use Rattle.std.proofs.lemmas.List.Elements.{All-cons, All-head, All-nil, All-tail}
use Rattle.std.proofs.lemmas.Option.{same_Some, slice_get-map}
use Rattle.std.specs.Option.{option_map}
use Rattle.pg_cert.specs.declared.cert.Family.TheVariants.{Plain}
use Rattle.pg_cert.specs.declared.report.Verdict.TheVariants.{Accepted}
use Rattle.pg_edge.specs.Shelf.{Files}
use Rattle.pg_ast.specs.declared.tree.Desc.{Desc}
use Rattle.pg_lang_meaning.specs.States.{State}
use Rattle.pg_lang_meaning.specs.Steps.{bare, power_on, steps}
use Rattle.pg_lang_meaning.proofs.StepLaws.{steps-add, steps-stay}
use Rattle.pg_hw.specs.Machinery.{Machinery}
use Rattle.pg_hw.specs.Stillness.{IsStill}
use Rattle.pg_mon_control.specs.declared.guest.Guest.{Guest}
use Rattle.pg_alloc.specs.Fit.{kept_cells}
use Rattle.pg_mon_control.specs.Guests.{grants_of, virtual, virtuals}
use Rattle.pg_monitor.specs.Settling.{TellsFirst}
use Rattle.pg_run_guests.specs.Runs.{GuestRun, guests_from, switched_on}
use Rattle.pg_run_guests.specs.Telling.{AreWithin}
use Rattle.pg_run_guests.proofs.TellLemmas.{Stands-within}
use Rattle.pg_type.specs.Accepting.{IsAccepted}
use Rattle.pg_cmd_base.specs.declared.status.Status.TheVariants.{Done}
use Rattle.pg_cmd_certs.specs.Judged.{verdict_on, verdict_status, verdict_told}
use Rattle.pg_cmd_certs.proofs.JudgedLemmas.{IsRead}
use Rattle.pg_cmd_certs.proofs.TellingLemmas.{ends-told, ends-left, verdict-ends}
use Rattle.pg_cmd_base.specs.Steps.{Came}
use Rattle.pg_cmd_base.specs.World.{World, IsUntouched}
use Rattle.pg_cmd_run.specs.Run.{JudgedRun, guests_in, judged_by}
use Rattle.pg_cmd_run.proofs.LoadingLemmas.{guests-read}
use Rattle.pg_run_still.specs.declared.rounds.Rest.{Rest}
use Rattle.pg_run_still.specs.declared.running.Rested.{Rested}
use Rattle.pg_run_still.specs.declared.view.View.{View}
use Rattle.pg_run_still.specs.Rested.{HaveRested}
use Rattle.pg_run_still.specs.Running.{RanStill, rested, steps_told, still_text, text_of_rest}
use Rattle.pg_run_still.specs.Views.{AreViewsOf}
use Rattle.pg_prog_go.specs.declared.request.GoWords.{GoWords}
use Rattle.pg_prog_go.specs.Going.{GoDue, GoEnds, GoneEnd, StayStill, bare_each, files_of}

-- the verdict was told, and nothing ran
pub go-told : (told : Option Files) (w : GoWords) (j : JudgedRun) (old new : World) → GoDue w told (Came j) → ¬ (verdict_on (judged_by j) ≡ Accepted) → IsUntouched old new →
    GoEnds w.views.items j old new (verdict_status (verdict_on (judged_by j))) (verdict_told (judged_by j))
unfolding GoDue
go-told told w j old new due other same =
    let read : IsRead Plain (judged_by j) = subst (λ (x : JudgedRun). IsRead Plain (judged_by x)) (sym due.2) (guests-read Plain (files_of w) told due.0 due.1) in
    record {
      by_verdict = ends-told (verdict_on (judged_by j)) (GoneEnd w.views.items j) Plain (judged_by j) old new _ _ other (verdict-ends Plain (judged_by j) old new read same);
    }

-- the states of images that are switched on are those of bare machines
reached-each : (d : Desc) (images : List (List ℕ)) (rests : List Rest) → rested d (switched_on images) rests ≡ bare_each d images rests
unfolding bare
reached-each d [] rests = refl
reached-each d (image ∷ images) [] = refl
reached-each d (image ∷ images) (rest ∷ rests) = ap (λ ss. steps d (steps_told rest) (power_on image (length image)) ∷ ss) (reached-each d images rests)

-- a guest that is still stays so
pub stays : (d : Desc) (s : State) (turns n k : ℕ) (f : Option ℕ) → f ≡ Some n → n ≤ k → TellsFirst d turns s f → steps d k s ≡ steps d n s
stays d s turns n k None is behind tells = absurd (let wrong : ⊥ = cc in wrong)
stays d s turns n k (Some m) is behind tells =
    let same : m ≡ n = same_Some m n is in
    let still : IsStill d (steps d n s) = subst (λ i. IsStill d (steps d i s)) same tells.still in
    let whole : n + (k - n) ≡ k = omega (arith, behind) in
    ap (λ i. steps d i s) (sym whole) ∙ sym (steps-add d n (k - n) s) ∙ steps-stay d (k - n) (steps d n s) still

stay-still : (j : JudgedRun) (ran : Rested) (rounds : ℕ) (old new : Machinery) → RanStill (guests_in j) ran.rests.items rounds old new → StayStill j.desc j.images ran.rests.items
unfolding bare
stay-still j ran rounds old new left at n k image rest is is' still behind =
    let s : State = power_on image (length image) in
    let from : slice_get (switched_on j.images) at ≡ Some s = slice_get-map (λ (i : List ℕ). power_on i (length i)) j.images at ∙ ap (option_map (λ (i : List ℕ). power_on i (length i))) is in
    stays j.desc s rest.turns n k rest.still still behind (left.each at s rest from is').first

-- the guests ran
pub go-ran : (vs : List View) (j : JudgedRun) (ran : Rested) (old new : World) → verdict_on (judged_by j) ≡ Accepted → IsAccepted j.desc → All (λ image. length image ≡ j.grant) j.images →
    (have : HaveRested (guests_in j) ran old.hw new.hw) → new.files ≡ old.files → new.save_faults ≡ old.save_faults → GoEnds vs j old new Done (text_of_rest (guests_in j) vs ran.rests.items have.rounds)
go-ran vs j ran old new is accepted filled have files saves = record {
  by_verdict = ends-left (verdict_on (judged_by j)) (GoneEnd vs j) Plain (judged_by j) old new Done (text_of_rest (guests_in j) vs ran.rests.items have.rounds) is
      (record {
        status = refl;
        accepted = accepted;
        granted = filled;
        rests = ran.rests.items;
        rounds = have.rounds;
        reached = reached-each j.desc j.images ran.rests.items;
        stay = stay-still j ran have.rounds old.hw new.hw have.ran_still;
        wording = refl;
        ran = have.ran_still;
        files = files;
        saves = saves;
      });
}

-- what is told of guests that ran is the text of their run
pub rested-text : (r : GuestRun) (vs : List View) (ran : Rested) (old h : Machinery) → (have : HaveRested r ran old h) →
    still_text r.desc.word vs (virtuals h.state.cells ran.monitor.guests) ran.rests.items ran.turns ran.direct ≡ text_of_rest r vs ran.rests.items have.rounds
rested-text r vs ran old h have =
    ap (λ ss. still_text r.desc.word vs ss ran.rests.items ran.turns ran.direct) have.states
    ∙ ap (λ n. still_text r.desc.word vs (rested r.desc r.states ran.rests.items) ran.rests.items n ran.direct) have.turns
    ∙ ap (still_text r.desc.word vs (rested r.desc r.states ran.rests.items) ran.rests.items _) have.direct

-- of each guest something is told
rested-long : (d : Desc) (ss : List State) (rests : List Rest) → length rests ≡ length ss → length (rested d ss rests) ≡ length ss
rested-long d [] rests same = refl
rested-long d (s ∷ ss) [] same = absurd (omega (arith, same))
rested-long d (s ∷ ss) (r ∷ rs) same = ap suc (rested-long d ss rs (omega (arith, same)))

pub rested-count : (r : GuestRun) (ran : Rested) (old h : Machinery) → HaveRested r ran old h → length ran.rests.items ≡ length ran.monitor.guests
rested-count r ran old h have =
    have.ran_still.count ∙ sym (rested-long r.desc r.states ran.rests.items have.ran_still.count) ∙ ap length (sym have.states) ∙ length-map ran.monitor.guests (virtual h.state.cells)

-- they lie within the storage
pub rested-within : (r : GuestRun) (ran : Rested) (old h : Machinery) → HaveRested r ran old h → AreWithin h.state ran.monitor.guests
rested-within r ran old h have = Stands-within r.desc h.state ran.monitor.guests ran.monitor.current have.stands

-- guests have the sizes of their images
pub power_on-length : (image : List ℕ) → length (power_on image (length image)).cells ≡ length image
unfolding power_on
power_on-length image = omega (arith, length-append image (replicate (length image - length image) 0), length-replicate {A = ℕ} (length image - length image) 0)

sized : (size : ℕ) (P : ℕ → Type 0) (images : List (List ℕ)) (base : ℕ) (gs : List Guest) → grants_of gs ≡ grants_of (guests_from base (switched_on images)) →
    All (λ image. length image ≡ size) images → P size → All (λ (g : Guest). P g.size) gs
sized size P [] base [] same filled p = All-nil (λ (g : Guest). P g.size)
sized size P [] base (g ∷ gs) same filled p = absurd (let wrong : ⊥ = cc in wrong)
sized size P (image ∷ images) base [] same filled p = absurd (let wrong : ⊥ = cc in wrong)
sized size P (image ∷ images) base (g ∷ gs) same filled p =
    let long : ℕ = length (power_on image (length image)).cells in
    let pair : (g.base, g.size) ≡ (base, long) = cc in
    let first : g.size ≡ long = ap (λ (p : ℕ × ℕ). p.1) pair in
    let rest : grants_of gs ≡ grants_of (guests_from (base + long) (switched_on images)) = cc in
    let whole : length image ≡ size = All-head (λ (i : List ℕ). length i ≡ size) image images filled in
    let own : g.size ≡ size = first ∙ power_on-length image ∙ whole in
    All-cons (λ (x : Guest). P x.size) g gs (subst P (sym own) p)
    (sized size P images (base + long) gs rest (All-tail (λ (i : List ℕ). length i ≡ size) image images filled) p)

-- so the views show cells that each guest has
pub rested-views : (j : JudgedRun) (vs : List View) (ran : Rested) (old h : Machinery) → HaveRested (guests_in j) ran old h → All (λ image. length image ≡ j.grant) j.images →
    AreViewsOf j.grant vs → All (λ g. AreViewsOf g.size vs) ran.monitor.guests
rested-views j vs ran old h have filled within = sized j.grant (λ size. AreViewsOf size vs) j.images kept_cells ran.monitor.guests have.grants filled within

-- the words grant as many cells as their run has
pub granted-by : (told : Option Files) (w : GoWords) (j : JudgedRun) → GoDue w told (Came j) → w.grant ≡ j.grant
unfolding GoDue
granted-by told w j due = sym (ap (λ (x : JudgedRun). x.grant) due.2)

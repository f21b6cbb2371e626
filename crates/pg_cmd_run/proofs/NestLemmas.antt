-- `nest`: that there is its run, what it leaves, and what is told of it.
use Rattle.std.proofs.Common.{◌≡◌, ◌∙◌, ℕ, ◌+◌, ◌*◌, ◌<◌, ◌≤◌, ◌^◌, List, [], ◌∷◌, ◌++◌, length, All, Option, refl, sym, ap, subst, arith}
use Rattle.std.proofs.lemmas.List.{append-nil}
use Rattle.pg_alloc.specs.Fit.{kept_cells}
use Rattle.pg_cli_table.specs.declared.nest.NestWords.{NestWords}
use Rattle.pg_ast.specs.declared.tree.Desc.{Desc}
use Rattle.pg_cert.specs.declared.cert.Family.TheVariants.{Plain}
use Rattle.pg_cert.specs.declared.report.Verdict.TheVariants.{Accepted}
use Rattle.pg_edge.specs.Shelf.{Files}
use Rattle.pg_image.specs.Lines.{state_text}
use Rattle.pg_cmd_base.specs.Images.{Fills}
use Rattle.pg_cmd_certs.specs.Judged.{verdict_on, verdict_status, verdict_told}
use Rattle.pg_cmd_certs.proofs.GuestLemmas.{guest-read}
use Rattle.pg_cmd_certs.proofs.JudgedLemmas.{IsRead}
use Rattle.pg_cmd_certs.proofs.TellingLemmas.{ends-told, ends-left, verdict-ends}
use Rattle.pg_lang_meaning.specs.States.{State, IsState}
use Rattle.pg_lang_meaning.specs.Steps.{bare, power_on}
use Rattle.pg_run_guests.specs.Nesting.{CanNest, IsInnermost, RanNested, direct_steps}
use Rattle.pg_run_guests.specs.declared.nesting.Innermost.{Innermost}
use Rattle.pg_report.specs.Runs.{guest_line, run_text, steps_line}
use Rattle.pg_report.specs.Spans.{span}
use Rattle.pg_cmd_base.specs.Steps.{Came}
use Rattle.pg_cmd_base.specs.World.{World, IsUntouched}
use Rattle.pg_cmd_base.specs.declared.status.Status.TheVariants.{Done}
use Rattle.pg_cmd_run.specs.Nest.{NestRun, NestDue, NestEnds, GuestNested, files_of, judged_by, told_of}
use Rattle.pg_type.specs.Accepting.{IsAccepted}
use Rattle.pg_lang_valid.proofs.StepSound.{power_on-state, steps-state}
use Rattle.pg_lang_valid.specs.Valid.{IsValid}
use Rattle.pg_word.specs.declared.psw.Psw.{Psw}

-- ---- that there is such a run

pub can-nest : (d : Desc) (image : List ℕ) (grant depth n : ℕ) → 2 ≤ grant → Fills d.word grant image → kept_cells * depth + grant ≤ d.size → n ≤ 1000000 → CanNest depth d image n
can-nest d image grant depth n least fills room few = record {
  is_image = record { least = (let whole = fills.whole in omega (arith, least, whole)); words = fills.words };
  room = (let whole = fills.whole in omega (arith, room, whole));
  counted = omega (arith, few);
}

-- ---- what it leaves, by the verdict of its certificate

-- the certificate was read
nest-read : (told : Option Files) (n : NestWords) (j : NestRun) → NestDue n told (Came j) → IsRead Plain (judged_by j)
unfolding NestDue
nest-read told n j h = subst (λ (x : NestRun). IsRead Plain (judged_by x)) (sym h.2) (guest-read (files_of n) told h.0 h.1)

-- the verdict was told, and nothing ran
pub nest-told : (told : Option Files) (n : NestWords) (j : NestRun) (old new : World) → NestDue n told (Came j) → ¬ (verdict_on (judged_by j) ≡ Accepted) → IsUntouched old new →
    NestEnds j old new (verdict_status (verdict_on (judged_by j))) (verdict_told (judged_by j))
nest-told told n j old new due other same = record {
  by_verdict = ends-told (verdict_on (judged_by j)) (GuestNested j) Plain (judged_by j) old new _ _ other (verdict-ends Plain (judged_by j) old new (nest-read told n j due) same);
}

-- the guest ran
pub nest-ran : (j : NestRun) (old new : World) → verdict_on (judged_by j) ≡ Accepted → IsAccepted j.desc → length j.image ≡ j.grant → RanNested j.depth j.desc j.image j.steps old.hw new.hw →
    new.files ≡ old.files → new.save_faults ≡ old.save_faults → NestEnds j old new Done (told_of j)
nest-ran j old new is accepted granted ran files saves = record {
  by_verdict = ends-left (verdict_on (judged_by j)) (GuestNested j) Plain (judged_by j) old new Done (told_of j) is
      (record { status = refl; accepted = accepted; granted = granted; wording = refl; ran = ran; files = files; saves = saves });
}

-- ---- what is told of the guest

-- its cells are words of the machine
pub reached-words : (d : Desc) (image : List ℕ) (depth n : ℕ) → IsValid d → CanNest depth d image n → All (λ cell. cell < 2 ^ d.word) (bare d image (length image) n).cells
unfolding bare
reached-words d image depth n valid can =
    let least = can.is_image.least in
    let room = can.room in
    let on : IsState d (power_on image (length image)) = power_on-state d image (length image) valid least (omega (arith, room)) (omega arith) can.is_image.words in
    (steps-state d n (power_on image (length image)) valid on).words

-- the text of one guest
pub one-text : (w : ℕ) (s : State) (n direct : ℕ) → (guest_line 0 ++ state_text w s.cells s.psw) ++ steps_line n direct ≡ run_text w (s ∷ []) n direct
unfolding run_text
one-text w s n direct = ap (λ t. t ++ steps_line n direct) (sym (append-nil (guest_line 0 ++ state_text w s.cells s.psw)))

-- the text of the guest, whose cells lie behind those of all monitors, and of its steps
pub nested-text : (j : NestRun) (cells : List ℕ) (x : Innermost) → length j.image ≡ j.grant → IsInnermost j.desc j.image j.steps x →
    span (kept_cells * j.depth) (length j.image) cells ≡ (bare j.desc j.image (length j.image) j.steps).cells →
    (guest_line 0 ++ state_text j.desc.word (span (kept_cells * j.depth) j.grant cells) x.psw) ++ steps_line j.steps x.direct ≡ told_of j
nested-text j cells x whole inner held =
    let w = j.desc.word in
    let s : State = bare j.desc j.image j.grant j.steps in
    let same_cells : span (kept_cells * j.depth) j.grant cells ≡ s.cells =
    subst (λ m. span (kept_cells * j.depth) m cells ≡ (bare j.desc j.image m j.steps).cells) whole held in
    let same_psw : x.psw ≡ s.psw = subst (λ m. x.psw ≡ (bare j.desc j.image m j.steps).psw) whole inner.psw in
    ap (λ (cs : List ℕ). (guest_line 0 ++ state_text w cs x.psw) ++ steps_line j.steps x.direct) same_cells
    ∙ ap (λ (psw : Psw). (guest_line 0 ++ state_text w s.cells psw) ++ steps_line j.steps x.direct) same_psw
    ∙ ap (λ (k : ℕ). (guest_line 0 ++ state_text w s.cells s.psw) ++ steps_line j.steps k) inner.direct
    ∙ one-text w s j.steps (direct_steps j.desc j.image j.steps)

-- and its cells are words of the machine
pub nested-words : (d : Desc) (image : List ℕ) (grant depth n : ℕ) (cells : List ℕ) → IsValid d → CanNest depth d image n → length image ≡ grant →
    span (kept_cells * depth) (length image) cells ≡ (bare d image (length image) n).cells → All (λ cell. cell < 2 ^ d.word) (span (kept_cells * depth) grant cells)
nested-words d image grant depth n cells valid can whole held =
    subst (λ m. All (λ cell. cell < 2 ^ d.word) (span (kept_cells * depth) m cells)) whole
    (subst (λ (cs : List ℕ). All (λ cell. cell < 2 ^ d.word) cs) (sym held) (reached-words d image depth n valid can))

-- What `pg_explain` leaves, by what its parts answer.
use Rattle.std.proofs.Common.{◌≡◌, ℕ, ◌≤◌, ◌<◌, List, [], ◌∷◌, length, cond, Option, None, Some, Result, Ok, Err, inl, inr, refl, sym, ◌∙◌, ap, subst, arith}
use Rattle.std.specs.Prelude.{IsSomeAnd}
use Rattle.std.proofs.lemmas.Slice.Eq.{bytes_eq-Decides}
use Rattle.pg_ast.specs.declared.tree.Desc.{Desc}
use Rattle.pg_cert.specs.declared.report.Report.{Report}
use Rattle.pg_edge.specs.Shelf.{Files, SameBut}
use Rattle.pg_edge.specs.ShelfView.{content_of}
use Rattle.pg_edge.specs.Sink.{Puts}
use Rattle.pg_edge.specs.Told.{BothTold}
use Rattle.pg_edge.specs.declared.shelf.Failed.{Failed}
use Rattle.pg_cmd_base.specs.Descriptions.{DescDue, TextDue}
use Rattle.pg_cmd_certs.specs.Judged.{Judged, verdict_on, verdict_status}
use Rattle.pg_cmd_certs.specs.Meaning.{VerdictMeans}
use Rattle.pg_cmd_certs.proofs.JudgedLemmas.{certificate-read, desc-valid}
use Rattle.pg_read.specs.Answer.{most_desc_bytes}
use Rattle.pg_report.specs.declared.line.DescriptionLine.{DescriptionLine}
use Rattle.pg_cmd_base.specs.Answering.{Comes}
use Rattle.pg_cmd_base.specs.Classes.{Class, Ended, Unwritten, Unread, OutOfMemory, class_of}
use Rattle.pg_cmd_base.specs.Commands.{Carries, CarriesAs}
use Rattle.pg_cmd_base.specs.FileSteps.{FileFault, Absent, Faulty, HoldsWithin, FromFile}
use Rattle.pg_cmd_base.specs.Steps.{Came, Refused, Then, Gives}
use Rattle.pg_cmd_base.specs.World.{World, Output, IsUntouched, SavesOnly}
use Rattle.pg_cmd_base.specs.declared.refusal.Refusal.{Refusal}
use Rattle.pg_cmd_base.specs.declared.refusal.Stop.{Stop}
use Rattle.pg_cmd_base.specs.declared.status.Status.{Status}
use Rattle.pg_cmd_base.specs.declared.status.Status.TheVariants as status
use Rattle.pg_cmd_base.proofs.CarryLemmas.{carries-stopped, carries-unsaved}
use Rattle.pg_cmd_base.proofs.StepLemmas.{comes-stopped, comes-behind}
use Rattle.pg_prog_explain.specs.Explaining.{ExplainWords, EitherJudgedDue, ExplainDue, LacksNamed, MendsOnly, VerdictExplained, explain_command, HaltsAt, PutAs, HaltTold, stated_as}
use Rattle.pg_prog_explain.specs.Mended.{HoldsMended}
use Rattle.pg_prog_base.specs.Either.{EitherDue}
use Rattle.pg_prog_base.proofs.CertLemmas.{comes-later}
use Rattle.pg_prog_explain.specs.declared.found.Halt.{Halt}
use Rattle.pg_prog_explain.specs.declared.found.Halt.TheVariants as halt

-- ---- the text of a description, in a shelf of its own

-- a shelf of one file holds it
one-content : (name text : List ℕ) (files : List (List ℕ × List ℕ)) → files ≡ (name, text) ∷ [] → content_of files name ≡ Some text
one-content name text files is =
    ap (λ (fs : List (List ℕ × List ℕ)). content_of fs name) is ∙ ap (λ b. cond b (Some text) None) ((bytes_eq-Decides name name).1 refl)

same-bytes : (x y : List ℕ) → Some x ≡ Some y → x ≡ y
same-bytes x y is = cc is

-- what a text comes to in such a shelf it comes to where it was read
pub again-came : (told : Option Files) (name text : List ℕ) (files : List (List ℕ × List ℕ)) (d : Desc) → files ≡ (name, text) ∷ [] →
    HoldsWithin told name most_desc_bytes text → DescDue (Some (content_of files)) name (Came d) → DescDue told name (Came d)
unfolding DescDue
again-came told name text files d is held h =
    let same : h.0 ≡ text = same-bytes h.0 text (sym h.1.holds ∙ one-content name text files is) in
    (text, held, subst (λ (bytes : List ℕ). TextDue bytes (Ok d)) same h.2)

again-fault : (told : Option Files) (name text : List ℕ) (files : List (List ℕ × List ℕ)) (long : DescriptionLine) (fault : FileFault DescriptionLine) → files ≡ (name, text) ∷ [] →
    HoldsWithin told name most_desc_bytes text → FromFile (Some (content_of files)) name most_desc_bytes long TextDue (Refused fault) →
    FromFile told name most_desc_bytes long TextDue (Refused fault)
again-fault told name text files long Absent is held h = absurd (let no : Some text ≡ None = sym (one-content name text files is) ∙ h in cc no)
again-fault told name text files long (Faulty e) is held (inl h) =
    let longer : most_desc_bytes < length text = subst (λ (o : Option (List ℕ)). IsSomeAnd o (λ bytes. most_desc_bytes < length bytes)) (one-content name text files is) h.0 in
    absurd (omega (arith, longer, held.within))
again-fault told name text files long (Faulty e) is held (inr h) =
    let same : h.0 ≡ text = same-bytes h.0 text (sym h.1.holds ∙ one-content name text files is) in
    inr (text, held, subst (λ (bytes : List ℕ). TextDue bytes (Err e)) same h.2)

pub again-refused : (told : Option Files) (name text : List ℕ) (files : List (List ℕ × List ℕ)) (why : Refusal) → files ≡ (name, text) ∷ [] →
    HoldsWithin told name most_desc_bytes text → DescDue (Some (content_of files)) name (Refused why) → DescDue told name (Refused why)
unfolding DescDue
again-refused told name text files why is held h = (h.0, again-fault told name text files _ h.0 is held h.1, h.2)

-- ---- its steps

-- the description stops it
pub judged-stopped : {T U : Type 0} (view : T → Desc) (shows : U → Judged) (desc cert : List ℕ) (told : Option Files) (before mid after : ℕ) (why : Stop) →
    Comes view (DescDue told desc) before mid (Err why) → mid ≤ after → Comes shows (EitherJudgedDue desc cert told) before after (Err why)
unfolding EitherJudgedDue
judged-stopped view shows desc cert told before mid after why h later =
    comes-stopped view shows (DescDue told desc) (λ d. Then (EitherDue d told cert) (λ report. Gives (record { desc = d; report = report }))) before mid after why h later

-- the certificate does
pub judged-refused : {U : Type 0} (shows : U → Judged) (desc cert : List ℕ) (told : Option Files) (d : Desc) (before mid after : ℕ) (why : Stop) → DescDue told desc (Came d) → before ≤ mid →
    Comes {T = Report} (λ report. report) (EitherDue d told cert) mid after (Err why) → Comes shows (EitherJudgedDue desc cert told) before after (Err why)
unfolding EitherJudgedDue
judged-refused shows desc cert told d before mid after why came earlier h =
    comes-behind shows (DescDue told desc) (λ d. Then (EitherDue d told cert) (λ report. Gives (record { desc = d; report = report }))) d before mid after (Err why) came earlier
    (comes-stopped (λ (report : Report). report) shows (EitherDue d told cert) (λ report. Gives (record { desc = d; report = report })) mid after after why h (omega arith))

-- nothing does
pub judged-came : (desc cert : List ℕ) (told : Option Files) (d : Desc) (report : Report) → DescDue told desc (Came d) → EitherDue d told cert (Came report) →
    EitherJudgedDue desc cert told (Came (record { desc = d; report = report }))
unfolding EitherJudgedDue
judged-came desc cert told d report came h = (d, came, (report, h, refl))

pub due-means : (desc cert : List ℕ) (told : Option Files) (j : Judged) → EitherJudgedDue desc cert told (Came j) → VerdictMeans j.desc j.report
unfolding EitherJudgedDue EitherDue
due-means desc cert told j h =
    subst (λ (x : Judged). VerdictMeans x.desc x.report) (sym h.2.2)
    (certificate-read h.0 h.2.1.0 told cert h.2.0 (desc-valid told desc h.0 h.1) h.2.1.1).means

-- ---- what is saved

told-same : (told now : Option Files) (name : List ℕ) → now ≡ told → BothTold told now (SameBut name)
told-same told now name is = subst (λ (o : Option Files). BothTold told o (SameBut name)) (sym is) (alike told)
  where
    alike : (o : Option Files) → BothTold o o (SameBut name)
    alike None = tt
    alike (Some files) = λ other differs. refl

told-others : (was now : Option Files) (j : Judged) (name : List ℕ) → BothTold was now (λ old new. HoldsMended j.desc j.report name new × SameBut name old new) →
    BothTold was now (SameBut name)
told-others None None j name h = tt
told-others None (Some now) j name h = h
told-others (Some was) None j name h = h
told-others (Some was) (Some now) j name h = h.1

pub mends-saves : (mend : Option (List ℕ)) (j : Judged) (was now : Option Files) → MendsOnly mend j was now → SavesOnly mend was now
mends-saves None j was now h = h
mends-saves (Some name) j was now (inl h) = told-same was now name h
mends-saves (Some name) j was now (inr h) = told-others was now j name h

-- ---- what is told

pub put-as : (text : List ℕ) (due : Status) (old new : Output) (r : Result (Unit {0}) Failed) → class_of due ≡ Ended → Puts old.written new.written old.faults new.faults text r →
    PutAs text due old new (stated_as r due) (class_of (stated_as r due))
put-as text due old new (Ok x) ended h = subst (λ (k : Class). PutAs text due old new due k) (sym ended) (refl, h.whole)
put-as text due old new (Err e) ended h = record { cause = h.cause; front = h.front }

explained-as : (w : ExplainWords) (old new : World) (j : Judged) (text : List ℕ) (given : Status) (k : Class) → ExplainDue w old.files (Came j) → MendsOnly w.mend j old.files new.files →
    PutAs text (verdict_status (verdict_on j)) old.out new.out given k → CarriesAs (explain_command w) old new given k
explained-as w old new j text given Ended due mends h =
    let told : VerdictExplained w j old new given = record { status = h.0; means = due-means w.desc w.cert old.files j due; mends = mends } in
    inr (record { work = j; is_due = due; came = record { text = text; ends = inl told; written = h.1 } })
explained-as w old new j text given Unwritten due mends h =
    let told : VerdictExplained w j old new (verdict_status (verdict_on j)) = record { status = refl; means = due-means w.desc w.cert old.files j due; mends = mends } in
    inr (inl (record { work = j; is_due = due; given = verdict_status (verdict_on j); text = text; ends = inl told; front = h }))
explained-as w old new j text given Unread due mends h = absurd h
explained-as w old new j text given OutOfMemory due mends h = absurd h

-- the verdict was told
pub explained-carried : (w : ExplainWords) (old new : World) (j : Judged) (text : List ℕ) (given : Status) → ExplainDue w old.files (Came j) → MendsOnly w.mend j old.files new.files →
    PutAs text (verdict_status (verdict_on j)) old.out new.out given (class_of given) → Carries (explain_command w) old new given
explained-carried w old new j text given due mends h = record { by_class = explained-as w old new j text given (class_of given) due mends h }

lacking-as : (w : ExplainWords) (old new : World) (j : Judged) (text : List ℕ) (given : Status) (k : Class) → ExplainDue w old.files (Came j) → LacksNamed w j.desc → IsUntouched old new →
    PutAs text status.Words old.out new.out given k → CarriesAs (explain_command w) old new given k
lacking-as w old new j text given Ended due lacks same h =
    inr (record { work = j; is_due = due; came = record { text = text; ends = inr (record { lacks = lacks; status = h.0; untouched = same }); written = h.1 } })
lacking-as w old new j text given Unwritten due lacks same h =
    inr (inl (record { work = j; is_due = due; given = status.Words; text = text; ends = inr (record { lacks = lacks; status = refl; untouched = same }); front = h }))
lacking-as w old new j text given Unread due lacks same h = absurd h
lacking-as w old new j text given OutOfMemory due lacks same h = absurd h

-- it halted before
pub halted-carried : (w : ExplainWords) (old new : World) (why : Halt) (given : Status) →
    HaltsAt w old.files new.files old.read_faults new.read_faults old.save_faults new.save_faults why → HaltTold why old.out new.out given → new.hw ≡ old.hw →
    Carries (explain_command w) old new given
halted-carried w old new (halt.Stopped why) given h told same =
    carries-stopped {T = Judged} (explain_command w) (λ j. j) old new why given h.0 told (record { files = h.1; saves = h.2; hw = same })
halted-carried w old new halt.Lacking given h told same = record {
  by_class = lacking-as w old new h.0 told.0 given (class_of given) h.1 h.2 (record { files = h.3; saves = h.4; hw = same }) told.1;
}
halted-carried w old new halt.Unsaved given h told same =
    let left = subst (λ (mend : Option (List ℕ)). SavesOnly mend old.files new.files) (sym h.3) h.4 in
    subst (λ (s : Status). Carries (explain_command w) old new s) (sym told.0)
    (carries-unsaved (explain_command w) old new h.0 h.2 h.1 h.3 h.5 told.1 left)

-- why it halts behind steps that only read
pub halts-later : (w : ExplainWords) (was mid now : Option Files) (before reads later saves after : ℕ) (why : Halt) → mid ≡ was → before ≤ reads →
    HaltsAt w mid now reads later saves after why → HaltsAt w was now before later saves after why
halts-later w was mid now before reads later saves after (halt.Stopped stop) same earlier h =
    let k = subst (λ (o : Option Files). HaltsAt w o now reads later saves after (halt.Stopped stop)) same h in
    (comes-later (λ (j : Judged). j) (ExplainDue w was) before reads later (Err stop) earlier k.0, k.1, k.2)
halts-later w was mid now before reads later saves after halt.Lacking same earlier h =
    subst (λ (o : Option Files). HaltsAt w o now reads later saves after halt.Lacking) same h
halts-later w was mid now before reads later saves after halt.Unsaved same earlier h =
    subst (λ (o : Option Files). HaltsAt w o now reads later saves after halt.Unsaved) same h

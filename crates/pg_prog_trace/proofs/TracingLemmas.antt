-- What a trace leaves, by what its parts answer.
use Rattle.std.proofs.Common.{◌≡◌, ℕ, ◌+◌, ◌≤◌, List, Option, None, Some, Result, Ok, Err, inl, inr, refl, sym, ap, subst, arith}
use Rattle.std.specs.Prelude.{OnOk, OnErr, IfErr, IfSome, IsErrOf}
use Rattle.pg_alloc.specs.Fit.{kept_cells}
use Rattle.pg_cli_table.specs.declared.bare.BareWords.{BareWords}
use Rattle.pg_cert.specs.declared.cert.Family.{Family}
use Rattle.pg_cert.specs.declared.report.Report.{Report}
use Rattle.pg_cert.specs.declared.report.Verdict.TheVariants.{Accepted}
use Rattle.pg_edge.specs.Count.{Rose}
use Rattle.pg_edge.specs.Shelf.{Files}
use Rattle.pg_hw.specs.Machinery.{Machinery}
use Rattle.pg_cmd_certs.specs.Certificates.{CertDue}
use Rattle.pg_cmd_certs.specs.Judged.{Judged, verdict_on}
use Rattle.pg_cmd_certs.specs.Meaning.{VerdictMeans}
use Rattle.pg_cmd_certs.specs.Telling.{ToldAs}
use Rattle.pg_cmd_certs.proofs.GuestLemmas.{cert-accepts}
use Rattle.pg_cmd_certs.proofs.JudgedLemmas.{certificate-read, desc-valid}
use Rattle.pg_cmd_base.specs.Answering.{Comes, SaysRefusal, Stops}
use Rattle.pg_cmd_base.specs.Classes.{Class, Ended, Unwritten, Unread, OutOfMemory, class_of}
use Rattle.pg_cmd_base.specs.Steps.{Came, Refused, Gives}
use Rattle.pg_cmd_base.specs.World.{World, Output, IsUntouched}
use Rattle.pg_cmd_base.specs.declared.refusal.Refusal.{Refusal}
use Rattle.pg_cmd_base.specs.declared.refusal.Stop.{Stop}
use Rattle.pg_cmd_base.specs.declared.refusal.Stop.TheVariants as stop
use Rattle.pg_cmd_base.specs.declared.status.Status.{Status}
use Rattle.pg_cmd_base.specs.declared.status.Status.TheVariants as status
use Rattle.pg_cmd_base.proofs.StepLemmas.{comes-stopped, comes-behind}
use Rattle.pg_cmd_plain.specs.Bare.{BareRun, reached}
use Rattle.pg_cmd_plain.specs.CanRuns.{CanRun}
use Rattle.pg_lang_meaning.specs.States.{State}
use Rattle.pg_out_steps.specs.declared.shows.Shows.{Shows}
use Rattle.pg_out_steps.specs.declared.shows.Telling.{Telling}
use Rattle.pg_out_steps.specs.declared.tracing.TraceFault.{TraceFault}
use Rattle.pg_out_steps.specs.declared.tracing.TraceFault.TheVariants as fault
use Rattle.pg_lang_valid.specs.Valid.{IsValid}
use Rattle.pg_prog_base.specs.Either.{EitherDue}
use Rattle.pg_prog_trace.specs.Done.{IsShown, PutsText, PutsRun, ended_as}
use Rattle.pg_prog_trace.specs.Judging.{IsJudged}
use Rattle.pg_prog_trace.specs.Plans.{RunDue, kept_beside}
use Rattle.pg_prog_trace.specs.Tracing.{TraceWork, behind_run, TraceDue, telling_by, PutsFront, PutsPart, BreaksPart, LetsRun, ForbidsRun, RunShown, Leaving, WorkLeaves, FormLeaves, TracesAs, Traces, TracesForm}
use Rattle.pg_prog_trace.specs.Until.{IsPart}
use Rattle.pg_prog_trace.specs.declared.request.TraceWords.{TraceWords}
use Rattle.pg_prog_trace.specs.declared.request.Until.{Until}
use Rattle.pg_prog_trace.proofs.Undone.{not-done}
use Rattle.pg_prog_trace.proofs.RunLemmas.{run-due, anywhere}

-- ---- its steps

-- the run stops it
pub trace-stopped : {T U : Type 0} (view : T → BareRun) (shows : U → TraceWork) (cert : Option (List ℕ)) (b : BareWords) (told : Option Files) (kept before after : ℕ) (why : Stop) →
    kept ≡ kept_beside cert → Comes view (RunDue kept b told) before after (Err why) → Comes shows (TraceDue cert b told) before after (Err why)
unfolding TraceDue
trace-stopped view shows cert b told kept before after why same h =
    comes-stopped view shows (RunDue (kept_beside cert) b told) (behind_run cert told) before after after why
    (subst (λ (k : ℕ). Comes view (RunDue k b told) before after (Err why)) same h) (omega arith)

-- the certificate stops it
pub trace-refused : {U : Type 0} (shows : U → TraceWork) (cert : Option (List ℕ)) (name : List ℕ) (b : BareWords) (told : Option Files) (run : BareRun) (kept before mid after : ℕ) (why : Stop) →
    kept ≡ kept_beside cert → cert ≡ Some name → RunDue kept b told (Came run) → before ≤ mid → Comes {T = Report} (λ report. report) (EitherDue run.desc told name) mid after (Err why) →
    Comes shows (TraceDue cert b told) before after (Err why)
unfolding TraceDue
trace-refused shows None name b told run kept before mid after why same is came earlier h = absurd (cc is)
trace-refused shows (Some cert) name b told run kept before mid after why same is came earlier h =
    let due = subst (λ (k : ℕ). RunDue k b told (Came run)) same came in
    let named : name ≡ cert = cc is in
    comes-behind shows (RunDue kept_cells b told) (behind_run (Some cert) told) run before mid after (Err why) due earlier
    (comes-stopped (λ (report : Report). report) shows (EitherDue run.desc told cert) (λ report. Gives (record { run = run; report = Some report })) mid after after why
    (subst (λ (n : List ℕ). Comes {T = Report} (λ report. report) (EitherDue run.desc told n) mid after (Err why)) named h) (omega arith))

-- nothing stops it
pub trace-bare : (cert : Option (List ℕ)) (b : BareWords) (told : Option Files) (run : BareRun) (kept : ℕ) → kept ≡ kept_beside cert → cert ≡ None → RunDue kept b told (Came run) →
    TraceDue cert b told (Came (record { run = run; report = None }))
unfolding TraceDue
trace-bare None b told run kept same is came = (run, subst (λ (k : ℕ). RunDue k b told (Came run)) same came, refl)
trace-bare (Some cert) b told run kept same is came = absurd (cc is)

pub trace-judged : (cert : Option (List ℕ)) (name : List ℕ) (b : BareWords) (told : Option Files) (run : BareRun) (report : Report) (kept : ℕ) → kept ≡ kept_beside cert → cert ≡ Some name →
    RunDue kept b told (Came run) → EitherDue run.desc told name (Came report) → TraceDue cert b told (Came (record { run = run; report = Some report }))
unfolding TraceDue
trace-judged None name b told run report kept same is came h = absurd (cc is)
trace-judged (Some cert) name b told run report kept same is came h =
    let named : name ≡ cert = cc is in (
      run,
      subst (λ (k : ℕ). RunDue k b told (Came run)) same came,
      (report, subst (λ (n : List ℕ). EitherDue run.desc told n (Came report)) named h, refl),
    )

-- ---- what is known of its work

-- the verdict of its certificate means what it says
means-behind : (cert : Option (List ℕ)) (told : Option Files) (run : BareRun) (w : TraceWork) → IsValid run.desc → behind_run cert told run (Came w) →
    IfSome w.report (λ report. VerdictMeans w.run.desc report)
unfolding EitherDue
means-behind None told run w valid h = subst (λ (x : TraceWork). IfSome x.report (λ report. VerdictMeans x.run.desc report)) (sym h) tt
means-behind (Some cert) told run w valid h =
    subst (λ (x : TraceWork). IfSome x.report (λ report. VerdictMeans x.run.desc report)) (sym h.2) (certificate-read run.desc h.1.0 told cert h.0 valid h.1.1).means

run-valid : (kept : ℕ) (b : BareWords) (told : Option Files) (run : BareRun) → RunDue kept b told (Came run) → IsValid run.desc
unfolding RunDue
run-valid kept b told run h = subst (λ (r : BareRun). IsValid r.desc) (sym h.2.2.2) (desc-valid told b.desc h.0 h.1)

pub work-means : (cert : Option (List ℕ)) (b : BareWords) (told : Option Files) (w : TraceWork) → TraceDue cert b told (Came w) →
    IfSome w.report (λ report. VerdictMeans w.run.desc report)
unfolding TraceDue
work-means cert b told w h = means-behind cert told h.0 w (run-valid (kept_beside cert) b told h.0 h.1) h.2

-- ---- its work

-- the part of a run that was done, by how its text was put
pub part-put : (t : Telling) (until : Option Until) (whole part : BareRun) (was now : Option (List ℕ)) (state : State) (r : Result (Unit {0}) TraceFault) → IsPart until whole part →
    OnOk r (state ≡ reached part) → OnOk r (PutsText t part was now) → OnOk r (PutsPart t until whole was now state)
part-put t until whole part was now state (Ok x) is reached put = record { run = part; part = is; put = put; reached = reached }
part-put t until whole part was now state (Err e) is reached put = tt

pub part-broken : (t : Telling) (until : Option Until) (whole part : BareRun) (old new : Output) (r : Result (Unit {0}) TraceFault) → IsPart until whole part →
    OnErr r (PutsFront t part old.written new.written) → IfErr r (BreaksPart t until whole old new)
part-broken t until whole part old new (Ok x) is front = tt
part-broken t until whole part old new (Err fault.Output) is front = record { run = part; part = is; front = front }
part-broken t until whole part old new (Err fault.Memory) is front = inl (record { run = part; part = is; front = front })

-- memory was refused for its cells
pub part-refused : (t : Telling) (until : Option Until) (whole : BareRun) (out : Output) (r : Result (Unit {0}) TraceFault) → r ≡ Err fault.Memory → IfErr r (BreaksPart t until whole out out)
part-refused t until whole out r is = subst (λ (x : Result (Unit {0}) TraceFault). IfErr x (BreaksPart t until whole out out)) (sym is) (inr refl)

-- what it leaves
pub run-left : (shows : Shows) (until : Option Until) (w : TraceWork) (old new : Output) (before after : Machinery) (r : Result (Unit {0}) TraceFault) → LetsRun w →
    OnOk r (PutsPart (telling_by shows w.report) until w.run old.written new.written after.state) → IfErr r (BreaksPart (telling_by shows w.report) until w.run old new) →
    (IsErrOf r fault.Output → Rose old.faults new.faults) → WorkLeaves shows until w old new before after (ended_as r) (class_of (ended_as r))
run-left shows until w old new before after (Ok x) lets put left cause = inl (record { lets = lets; status = refl; put = put })
run-left shows until w old new before after (Err fault.Output) lets put left cause = inl (cause refl, record { lets = lets; left = left })
run-left shows until w old new before after (Err fault.Memory) lets put left cause = record { lets = lets; left = left }

-- a verdict that was told in place of it
pub verdict-left : (shows : Shows) (until : Option Until) (w : TraceWork) (j : Judged) (old new : Output) (before after : Machinery) (given : Status) (k : Class) → ForbidsRun w j →
    after ≡ before → ToldAs j old new given k → WorkLeaves shows until w old new before after given k
verdict-left shows until w j old new before after given Ended forbids same h = inr (record { judged = j; forbids = forbids; told = h; untouched = same })
verdict-left shows until w j old new before after given Unwritten forbids same h = inr (record { judged = j; forbids = forbids; broken = h; untouched = same })
verdict-left shows until w j old new before after given Unread forbids same h = absurd h
verdict-left shows until w j old new before after given OutOfMemory forbids same h = absurd h

-- ---- the program

refused-as : (Leaves : Leaving) (w : TraceWords) (old new : World) (why : Refusal) (given : Status) (k : Class) → TraceDue w.cert w.bare old.files (Refused why) → IsUntouched old new →
    SaysRefusal why old.out new.out given k → TracesAs Leaves w old new given k
refused-as Leaves w old new why given Ended due same h = inl (record { why = why; is_due = due; came = record { status = h.status; said = h.said; untouched = same } })
refused-as Leaves w old new why given Unwritten due same h = inl (record { why = why; is_due = due; front = h; untouched = same })
refused-as Leaves w old new why given Unread due same h = absurd h
refused-as Leaves w old new why given OutOfMemory due same h = absurd h

-- it stops before its work
stopped-as : {T : Type 0} (Leaves : Leaving) (w : TraceWords) (view : T → TraceWork) (old new : World) (why : Stop) (given : Status) →
    Comes view (TraceDue w.cert w.bare old.files) old.read_faults new.read_faults (Err why) → Stops why old.out new.out given → IsUntouched old new →
    TracesAs Leaves w old new given (class_of given)
stopped-as Leaves w view old new (stop.Refused why) given h told same = refused-as Leaves w old new why given (class_of given) h same told
stopped-as Leaves w view old new stop.ReadFault given h told same =
    subst (λ s. TracesAs Leaves w old new s (class_of s)) (sym told.0) (record { is_due = h.0; cause = h.1; silent = told.1; untouched = same })
stopped-as Leaves w view old new stop.Memory given h told same =
    subst (λ s. TracesAs Leaves w old new s (class_of s)) (sym told.0) (inl (record { silent = told.1; untouched = same }))

pub traces-stopped : {T : Type 0} (w : TraceWords) (view : T → TraceWork) (old new : World) (why : Stop) (given : Status) →
    Comes view (TraceDue w.cert w.bare old.files) old.read_faults new.read_faults (Err why) → Stops why old.out new.out given → IsUntouched old new → Traces w old new given
traces-stopped w view old new why given h told same = record { by_class = stopped-as (WorkLeaves w.shows w.until) w view old new why given h told same }

pub form-stopped : {T : Type 0} (w : TraceWords) (view : T → TraceWork) (old new : World) (why : Stop) (given : Status) →
    Comes view (TraceDue w.cert w.bare old.files) old.read_faults new.read_faults (Err why) → Stops why old.out new.out given → IsUntouched old new → TracesForm w old new given
form-stopped w view old new why given h told same = record { by_class = stopped-as FormLeaves w view old new why given h told same }

-- its work is done, or breaks off
works-as : (Leaves : Leaving) → ((work : TraceWork) (old new : Output) (before after : Machinery) (given : Status) → Leaves work old new before after given Unread → ⊥) →
    (w : TraceWords) (old new : World) (work : TraceWork) (given : Status) (k : Class) → TraceDue w.cert w.bare old.files (Came work) →
    Leaves work old.out new.out old.hw new.hw given k → new.files ≡ old.files → new.save_faults ≡ old.save_faults → TracesAs Leaves w old new given k
works-as Leaves never w old new work given Ended due left files saves =
    inr (record { work = work; is_due = due; left = left; means = work-means w.cert w.bare old.files work due; files = files; saves = saves })
works-as Leaves never w old new work given Unwritten due left files saves =
    inr (record { work = work; is_due = due; left = left; means = work-means w.cert w.bare old.files work due; files = files; saves = saves })
works-as Leaves never w old new work given Unread due left files saves = absurd (never work old.out new.out old.hw new.hw given left)
works-as Leaves never w old new work given OutOfMemory due left files saves =
    inr (record { work = work; is_due = due; left = left; means = work-means w.cert w.bare old.files work due; files = files; saves = saves })

pub traces-works : (w : TraceWords) (old new : World) (work : TraceWork) (given : Status) → TraceDue w.cert w.bare old.files (Came work) →
    WorkLeaves w.shows w.until work old.out new.out old.hw new.hw given (class_of given) → new.files ≡ old.files → new.save_faults ≡ old.save_faults → Traces w old new given
traces-works w old new work given due left files saves =
    record { by_class = works-as (WorkLeaves w.shows w.until) (λ x a b c e s never. never) w old new work given (class_of given) due left files saves }

pub form-works : (w : TraceWords) (old new : World) (work : TraceWork) (given : Status) → TraceDue w.cert w.bare old.files (Came work) →
    FormLeaves work old.out new.out old.hw new.hw given (class_of given) → new.files ≡ old.files → new.save_faults ≡ old.save_faults → TracesForm w old new given
form-works w old new work given due left files saves =
    record { by_class = works-as FormLeaves (λ x a b c e s never. never) w old new work given (class_of given) due left files saves }

-- ---- of another form

-- the run was to be done
pub form-left : (w : TraceWork) (old new : Output) (before after : Machinery) (r : Result (Unit {0}) TraceFault) → LetsRun w →
    (IsErrOf r fault.Output → Rose old.faults new.faults) → FormLeaves w old new before after (ended_as r) (class_of (ended_as r))
form-left w old new before after (Ok x) lets cause = inl (record { lets = lets; status = refl })
form-left w old new before after (Err fault.Output) lets cause = inl (cause refl, lets)
form-left w old new before after (Err fault.Memory) lets cause = lets

-- the verdict was told in place of it
pub form-verdict : (w : TraceWork) (j : Judged) (old new : Output) (before after : Machinery) (given : Status) (k : Class) → ForbidsRun w j → after ≡ before → ToldAs j old new given k →
    FormLeaves w old new before after given k
form-verdict w j old new before after given Ended forbids same h = inr (record { judged = j; forbids = forbids; told = h; untouched = same })
form-verdict w j old new before after given Unwritten forbids same h = inr (record { judged = j; forbids = forbids; broken = h; untouched = same })
form-verdict w j old new before after given Unread forbids same h = absurd h
form-verdict w j old new before after given OutOfMemory forbids same h = absurd h

-- ---- where it is done

lets-some : (w : TraceWork) (run : BareRun) (report : Report) → w ≡ record { run = run; report = Some report } → LetsRun w →
    verdict_on (record { desc = run.desc; report = report }) ≡ Accepted
lets-some w run report is h = subst (λ (x : TraceWork). LetsRun x) is h

text-of-work : (shows : Shows) (w x : TraceWork) (part : BareRun) (was now : Option (List ℕ)) → w ≡ x → PutsText (telling_by shows w.report) part was now →
    PutsText (telling_by shows x.report) part was now
text-of-work shows w x part was now is h = subst (λ (y : TraceWork). PutsText (telling_by shows y.report) part was now) is h

-- what a certificate says of a run it says of a part
judged-part : (cert : List ℕ) (told : Option Files) (until : Option Until) (run part : BareRun) (report : Report) → IsPart until run part → IsJudged cert told run report →
    IsJudged cert told part report
judged-part cert told until run part report is j =
    let shorter : BareRun = record run { steps = part.steps } in
    let judged : IsJudged cert told shorter report = record {
      due = j.due;
      verdict = j.verdict;
      accepted = j.accepted;
      room = j.room;
      anywhere = record { step = j.anywhere.step; count = j.anywhere.count };
    } in
    subst (λ (r : BareRun). IsJudged cert told r report) (sym is.same) judged

put-by : (shows : Shows) (until : Option Until) (cert : Option (List ℕ)) (told : Option Files) (run part : BareRun) (w : TraceWork) (was now : Option (List ℕ)) → IsValid run.desc →
    CanRun run.desc.word run.desc.size run.grant run.steps run.image → kept_beside cert + run.grant ≤ run.desc.size → IsPart until run part → behind_run cert told run (Came w) →
    LetsRun w → PutsText (telling_by shows w.report) part was now → PutsRun shows cert told part was now
unfolding EitherDue
put-by shows until None told run part w was now valid can room is h lets put = text-of-work shows w (record { run = run; report = None }) part was now h put
put-by shows until (Some cert) told run part w was now valid can room is h lets put =
    let report = h.0 in
    let verdict = lets-some w run report h.2 lets in
    let family = (certificate-read run.desc h.1.0 told cert report valid h.1.1).of_family in
    let due = subst (λ (f : Family). CertDue run.desc f told cert (Came report)) (sym family) h.1.1 in
    let accepted = cert-accepts run.desc report.family told cert report valid due verdict in
    let judged : IsJudged cert told run report =
    record { due = due; verdict = verdict; accepted = accepted; room = room; anywhere = anywhere report.family run accepted valid can } in
    record {
      report = report;
      judged = judged-part cert told until run part report is judged;
      put = text-of-work shows w (record { run = run; report = Some report }) part was now h.2 put;
    }

same-run : (cert : Option (List ℕ)) (told : Option Files) (run : BareRun) (w : TraceWork) → behind_run cert told run (Came w) → w.run ≡ run
unfolding EitherDue
same-run None told run w h = ap (λ (x : TraceWork). x.run) h
same-run (Some cert) told run w h = ap (λ (x : TraceWork). x.run) h.2

is-shown : (w : TraceWords) (told : Option Files) (work : TraceWork) (old new : Output) (hw : Machinery) (given : Status) →
    CanRun work.run.desc.word work.run.desc.size work.run.grant work.run.steps work.run.image → kept_beside w.cert + work.run.grant ≤ work.run.desc.size →
    TraceDue w.cert w.bare told (Came work) → RunShown w.shows w.until work old new hw given → IsShown w told hw.state old.written new.written
unfolding TraceDue
is-shown w told work old new hw given can room h shown =
    let same = same-run w.cert told h.0 work h.2 in
    let part = subst (λ (r : BareRun). IsPart w.until r shown.put.run) same shown.put.part in
    record {
      due = h.0;
      is_due = run-due (kept_beside w.cert) w.bare told h.0 h.1;
      run = shown.put.run;
      part = part;
      reached = shown.put.reached;
      put = put-by w.shows w.until w.cert told h.0 shown.put.run work old.written new.written (run-valid (kept_beside w.cert) w.bare told h.0 h.1)
          (subst (λ (r : BareRun). CanRun r.desc.word r.desc.size r.grant r.steps r.image) same can)
          (subst (λ (r : BareRun). kept_beside w.cert + r.grant ≤ r.desc.size) same room) part h.2 shown.lets shown.put.put;
    }

by-left : (w : TraceWords) (told : Option Files) (work : TraceWork) (old new : Output) (before after : Machinery) →
    CanRun work.run.desc.word work.run.desc.size work.run.grant work.run.steps work.run.image → kept_beside w.cert + work.run.grant ≤ work.run.desc.size →
    TraceDue w.cert w.bare told (Came work) → WorkLeaves w.shows w.until work old new before after status.Done Ended → IsShown w told after.state old.written new.written
by-left w told work old new before after can room due (inl shown) = is-shown w told work old new after status.Done can room due shown
by-left w told work old new before after can room due (inr shown) = absurd (not-done (verdict_on shown.judged) shown.forbids.other shown.told.status)

-- the run that is due was done
pub work-shown : (w : TraceWords) (told : Option Files) (work : TraceWork) (old new : Output) (before after : Machinery) (given : Status) →
    CanRun work.run.desc.word work.run.desc.size work.run.grant work.run.steps work.run.image → kept_beside w.cert + work.run.grant ≤ work.run.desc.size →
    TraceDue w.cert w.bare told (Came work) → WorkLeaves w.shows w.until work old new before after given (class_of given) → given ≡ status.Done →
    IsShown w told after.state old.written new.written
work-shown w told work old new before after given can room due left is =
    by-left w told work old new before after can room due (subst (λ (s : Status). WorkLeaves w.shows w.until work old new before after s (class_of s)) is left)

-- A run that was dumped.
use Rattle.std.proofs.Common.{◌≡◌, ℕ, List, length, Option, Result, Ok, Err, sym, ◌∙◌, subst}
use Rattle.std.specs.Prelude.{OnOk}
use Rattle.pg_cert.specs.declared.report.Verdict.TheVariants.{Accepted}
use Rattle.pg_edge.specs.Sink.{Adds}
use Rattle.pg_edge.specs.Told.{BothTold}
use Rattle.pg_cmd_certs.specs.Judged.{Judged, verdict_on}
use Rattle.pg_cmd_certs.specs.Telling.{ToldAs}
use Rattle.pg_lang_meaning.specs.States.{State}
use Rattle.pg_lang_meaning.specs.Steps.{bare, power_on}
use Rattle.pg_out_steps.specs.Dump.{dump_text}
use Rattle.pg_cmd_base.specs.Classes.{Ended, class_of}
use Rattle.pg_cmd_base.specs.World.{Output}
use Rattle.pg_cmd_base.specs.declared.status.Status.{Status}
use Rattle.pg_cmd_base.specs.declared.status.Status.TheVariants as status
use Rattle.pg_cmd_plain.specs.Bare.{BareRun}
use Rattle.pg_out_steps.specs.declared.handling.Monitor.{Monitor}
use Rattle.pg_out_steps.specs.declared.tracing.TraceFault.{TraceFault}
use Rattle.pg_out_steps.specs.declared.tracing.TraceFault.TheVariants as fault
use Rattle.pg_prog_trace.specs.Done.{ended_as}
use Rattle.pg_prog_trace.specs.Dumped.{PutsDump, IsWorkDumped, monitor_by}
use Rattle.pg_prog_trace.specs.Tracing.{TraceWork, LetsRun}
use Rattle.pg_prog_trace.specs.Until.{IsPart}
use Rattle.pg_prog_trace.specs.declared.request.Until.{Until}
use Rattle.pg_prog_trace.proofs.Undone.{not-done}

-- the part of a run that was done
pub dump-put : (monitor : Option Monitor) (until : Option Until) (whole part : BareRun) (image : List ℕ) (was now : Option (List ℕ)) (state : State) (r : Result (Unit {0}) TraceFault) →
    IsPart until whole part → image ≡ part.image → length part.image ≡ part.grant → OnOk r (state ≡ bare part.desc image (length image) part.steps) →
    OnOk r (BothTold was now (Adds (dump_text monitor part.desc part.steps (power_on image (length image))))) → OnOk r (PutsDump monitor until whole was now state)
dump-put monitor until whole part image was now state (Ok x) is same filled reached put =
    let cells : length image ≡ part.grant = (λ i. length (same i)) ∙ filled in
    record {
      run = part;
      part = is;
      reached = reached ∙ (λ i. bare part.desc (same i) (cells i) part.steps);
      put = subst (λ (s : State). BothTold was now (Adds (dump_text monitor part.desc part.steps s))) (λ i. power_on (same i) (cells i)) put;
    }
dump-put monitor until whole part image was now state (Err e) is same filled reached put = tt

-- what it leaves where the program ends as done
pub dump-left : (until : Option Until) (w : TraceWork) (monitor : Option Monitor) (was now : Option (List ℕ)) (state : State) (r : Result (Unit {0}) TraceFault) (given : Status) →
    LetsRun w → monitor ≡ monitor_by w.report → OnOk r (PutsDump monitor until w.run was now state) → given ≡ ended_as r → given ≡ status.Done →
    IsWorkDumped until w was now state
dump-left until w monitor was now state (Ok x) given lets same put ended done =
    record { lets = lets; put = subst (λ (m : Option Monitor). PutsDump m until w.run was now state) same put }
dump-left until w monitor was now state (Err fault.Output) given lets same put ended done = absurd (let no : status.WriteFault ≡ status.Done = sym ended ∙ done in cc)
dump-left until w monitor was now state (Err fault.Memory) given lets same put ended done = absurd (let no : status.Memory ≡ status.Done = sym ended ∙ done in cc)

-- a verdict that was told in place of it
pub verdict-undone : (j : Judged) (old new : Output) (given : Status) → (verdict_on j ≡ Accepted → ⊥) → ToldAs j old new given (class_of given) → given ≡ status.Done → ⊥
verdict-undone j old new given other h is =
    let told : ToldAs j old new status.Done Ended = subst (λ (s : Status). ToldAs j old new s (class_of s)) is h in
    not-done (verdict_on j) other told.status

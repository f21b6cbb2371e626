-- What a run that was dumped to its end left.
use Rattle.std.specs.Prelude.{◌≡◌, ℕ, List, Option, None, Some}
use Rattle.pg_cert.specs.declared.report.Report.{Report}
use Rattle.pg_edge.specs.Shelf.{Files}
use Rattle.pg_edge.specs.Sink.{Adds}
use Rattle.pg_edge.specs.Told.{BothTold}
use Rattle.pg_lang_meaning.specs.States.{State}
use Rattle.pg_lang_meaning.specs.Steps.{power_on}
use Rattle.pg_out_steps.specs.Dump.{dump_text}
use Rattle.pg_cmd_base.specs.Steps.{Came}
use Rattle.pg_cmd_plain.specs.Bare.{BareRun, reached}
use Rattle.pg_out_steps.specs.declared.handling.Monitor.{Monitor}
use Rattle.pg_prog_trace.specs.Judging.{monitor_of}
use Rattle.pg_prog_trace.specs.Tracing.{TraceWork, TraceDue, LetsRun}
use Rattle.pg_prog_trace.specs.Until.{IsPart}
use Rattle.pg_prog_trace.specs.declared.request.TraceWords.{TraceWords}
use Rattle.pg_prog_trace.specs.declared.request.Until.{Until}

-- a run was done, up to where its condition first holds if one is named: its dump was put whole, and the hardware holds the state that
-- a bare machine reaches
pub record PutsDump (monitor : Option Monitor) (until : Option Until) (whole : BareRun) (was now : Option (List ℕ)) (state : State) : Type 0 where
  pub run : BareRun
  pub part : IsPart until whole run
  pub reached : state ≡ reached run
  pub put : BothTold was now (Adds (dump_text monitor run.desc run.steps (power_on run.image run.grant)))

-- the monitor that may run a machine, where a certificate of it is named
abbrev pub monitor_by : Option Report → Option Monitor
monitor_by None = None
monitor_by (Some report) = Some (monitor_of report.family)

-- no certificate is named, or it accepts the machine, and the run was done
pub record IsWorkDumped (until : Option Until) (w : TraceWork) (was now : Option (List ℕ)) (state : State) : Type 0 where
  pub lets : LetsRun w
  pub put : PutsDump (monitor_by w.report) until w.run was now state

-- and it is the run that is due for the words
pub record IsDumped (w : TraceWords) (told : Option Files) (was now : Option (List ℕ)) (state : State) : Type 0 where
  pub work : TraceWork
  pub is_due : TraceDue w.cert w.bare told (Came work)
  pub dumped : IsWorkDumped w.until work was now state

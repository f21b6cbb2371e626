-- `gen`: a description and images that are made of a number. The description is classified, and where a monitor may run its
-- machine, the images run as guests.
use Rattle.std.specs.Prelude.{◌≡◌, ℕ, List, [], ◌++◌, Option, None, Some}
use Rattle.pg_ast.specs.declared.tree.Desc.{Desc}
use Rattle.pg_cert.specs.declared.cert.Family.TheVariants.{Plain}
use Rattle.pg_cert.specs.declared.report.Report.{Report}
use Rattle.pg_cert.specs.declared.report.Verdict.{Verdict}
use Rattle.pg_cert.specs.declared.report.Verdict.TheVariants as verdict
use Rattle.pg_cert.specs.Verdicts.{verdict_of}
use Rattle.pg_cli_table.specs.declared.generating.GenWords.{GenWords}
use Rattle.pg_edge.specs.Shelf.{Files}
use Rattle.pg_cmd_gen.specs.Generated.{IsGenerated}
use Rattle.pg_cmd_gen.specs.Images.{images_of}
use Rattle.pg_run_guests.specs.declared.running.Ran.{Ran}
use Rattle.pg_run_guests.specs.HaveRun.{HaveRun}
use Rattle.pg_alloc.specs.Fit.{kept_cells}
use Rattle.pg_run_guests.specs.UnderMonitor.{RanGuests}
use Rattle.pg_run_guests.specs.Runs.{GuestRun, summary_of_run, switched_on}
use Rattle.pg_run_guests.specs.Setting.{SetUp}
use Rattle.pg_hw.specs.Machinery.{Machinery}
use Rattle.pg_report.specs.Summaries.{instructions_line}
use Rattle.pg_report.specs.Verdicts.{outcome_line}
use Rattle.pg_type.specs.Accepting.{IsAccepted}
use Rattle.pg_cmd_base.specs.declared.status.Status.{Status}
use Rattle.pg_cmd_base.specs.declared.refusal.Refusal.{Refusal}
use Rattle.pg_cmd_certs.specs.Checked.{IsChecked}
use Rattle.pg_cmd_base.specs.Commands.{Command}
use Rattle.pg_cmd_certs.specs.Judged.{verdict_status}
use Rattle.pg_cmd_certs.specs.Saving.{IsSaved, LeavesUnsaved}
use Rattle.pg_cmd_base.specs.Steps.{Step, Came, Refused, Misread}
use Rattle.pg_cmd_base.specs.World.{World}

-- how many clauses the solver may learn for a question
abbrev pub gen_budget : ℕ
gen_budget = 20000

-- how many turns a guest has before the next has its own, and how many it has in all
abbrev pub gen_slice : ℕ
gen_slice = 7

abbrev pub gen_steps : ℕ
gen_steps = 1000

-- the description of the number; no file is read, and nothing is refused
abbrev pub GenDue : GenWords → Option Files → Step Refusal Desc
GenDue g told (Came d) = IsGenerated g.number g.count d
GenDue g told (Refused why) = ⊥
GenDue g told Misread = ⊥

-- the run of the images on its machine
abbrev pub generated_run : GenWords → Desc → GuestRun
generated_run g d = record { desc = d; first = kept_cells; states = switched_on (images_of g.number g.count); slice = gen_slice; steps = gen_steps }

-- ---- by the verdict

-- the guests ran where it lets them: every sensitive instruction is privileged. Else nothing ran
abbrev pub RanBy : Verdict → GuestRun → Machinery → Machinery → Type 0
RanBy verdict.Accepted r old new = IsAccepted r.desc × RanGuests r old new
RanBy (verdict.Refused number) r old new = new ≡ old
RanBy (verdict.Unsettled number kind) r old new = new ≡ old

-- guests at hand, where there was a run
abbrev pub HaveRunBy : Verdict → GuestRun → Option Ran → Machinery → Type 0
HaveRunBy verdict.Accepted r None h = ⊥
HaveRunBy verdict.Accepted r (Some ran) h = HaveRun r ran h
HaveRunBy (verdict.Refused number) r ran h = ran ≡ None
HaveRunBy (verdict.Unsettled number kind) r ran h = ran ≡ None

-- what is told of the run
abbrev pub run_told : Verdict → GuestRun → List ℕ
run_told verdict.Accepted r = summary_of_run r
run_told (verdict.Refused number) r = []
run_told (verdict.Unsettled number kind) r = []

-- the count of instructions, the verdict in a line, and the summary of the run
unfoldable pub generated_text : GenWords → Desc → Verdict → List ℕ
generated_text g d v = instructions_line g.count ++ (outcome_line d v ++ run_told v (generated_run g d))

-- ---- what is left

-- its certificate is saved, and the status, the text and what ran are those of its verdict
pub record GenEnds (g : GenWords) (d : Desc) (old new : World) (given : Status) (text : List ℕ) : Type 0 where
  pub bytes : List ℕ
  pub report : Report
  pub checked : IsChecked d Plain gen_budget bytes report
  pub saving : IsSaved g.cert d Plain bytes report old new
  pub status : given ≡ verdict_status (verdict_of report.family report.marks)
  pub wording : text ≡ generated_text g d (verdict_of report.family report.marks)
  pub ran : RanBy (verdict_of report.family report.marks) (generated_run g d) old.hw new.hw

-- or the save of it failed, and nothing ran
pub record GenUnsaved (g : GenWords) (d : Desc) (old new : World) : Type 0 where
  pub bytes : List ℕ
  pub report : Report
  pub checked : IsChecked d Plain gen_budget bytes report
  pub unsaved : LeavesUnsaved g.cert bytes old new

-- or it was saved, and memory was refused for the storage, the monitor or a guest: nothing was put, and no turn made
pub record GenStarves (g : GenWords) (d : Desc) (old new : World) : Type 0 where
  pub bytes : List ℕ
  pub report : Report
  pub checked : IsChecked d Plain gen_budget bytes report
  pub saving : IsSaved g.cert d Plain bytes report old new
  pub accepted : verdict_of report.family report.marks ≡ verdict.Accepted
  pub silent : new.out ≡ old.out
  pub set_up : SetUp (generated_run g d) old.hw new.hw

abbrev pub gen_command : GenWords → Command
gen_command g = record {
  Work = Desc;
  due = GenDue g;
  saved = Some g.cert;
  ends = GenEnds g;
  unsaved = GenUnsaved g;
  starved = GenStarves g;
}

-- What a step on a file comes to, by how the file was loaded and read.
use Rattle.std.proofs.Common.{◌≡◌, ℕ, List, Option, Result, Ok, Err, inl, inr, refl}
use Rattle.pg_edge.specs.Count.{Rose}
use Rattle.pg_edge.specs.Shelf.{Files, LacksFile, HoldsLonger}
use Rattle.pg_edge.specs.declared.shelf.LoadFault.{LoadFault}
use Rattle.pg_edge.specs.declared.shelf.LoadFault.TheVariants as load
use Rattle.pg_report.specs.declared.line.RefusalLine.{RefusalLine}
use Rattle.pg_cmd_base.specs.declared.refusal.Refusal.TheVariants.{Line}
use Rattle.pg_cmd_base.specs.FileSteps.{Absent, Faulty, HoldsWithin, FromFile}
use Rattle.pg_cmd_base.specs.Answering.{Comes, stop_as}
use Rattle.pg_cmd_base.specs.Refusals.{of_file}
use Rattle.pg_cmd_base.specs.Steps.{As, Came, Refused}

-- a file that was not loaded
pub file-stops : {E T X : Type 0} (view : T → X) (line : E → RefusalLine) (told : Option Files) (name : List ℕ) (limit : ℕ) (long : E) (reads : List ℕ → Result X E → Type 0)
    (before after : ℕ) (fault : LoadFault) → (fault ≡ load.Missing → LacksFile told name) → (fault ≡ load.Long → HoldsLonger told name limit) →
    (fault ≡ load.Failed → Rose before after) →
    Comes view (As (of_file line) (FromFile told name limit long reads)) before after (Err (stop_as fault (line long)))
file-stops view line told name limit long reads before after load.Missing lacks longer rose = (Absent, lacks refl, refl)
file-stops view line told name limit long reads before after load.Long lacks longer rose = (Faulty long, inl (longer refl, refl), refl)
file-stops view line told name limit long reads before after load.Failed lacks longer rose = (tt, rose refl)
file-stops view line told name limit long reads before after load.Memory lacks longer rose = tt

-- a file whose bytes were refused
pub file-refused : {E X : Type 0} (line : E → RefusalLine) (told : Option Files) (name : List ℕ) (limit : ℕ) (long : E) (reads : List ℕ → Result X E → Type 0) (bytes : List ℕ) (e : E) →
    HoldsWithin told name limit bytes → reads bytes (Err e) → As {X = X} (of_file line) (FromFile told name limit long reads) (Refused (Line (line e)))
file-refused line told name limit long reads bytes e held h = (Faulty e, inr (bytes, held, h), refl)

-- a file whose bytes were read
pub file-came : {E X : Type 0} (line : E → RefusalLine) (told : Option Files) (name : List ℕ) (limit : ℕ) (long : E) (reads : List ℕ → Result X E → Type 0) (bytes : List ℕ) (x : X) →
    HoldsWithin told name limit bytes → reads bytes (Ok x) → As (of_file line) (FromFile told name limit long reads) (Came x)
file-came line told name limit long reads bytes x held h = (bytes, held, h)

-- `replay`: what it leaves, and what its text needs.
use Rattle.std.proofs.Common.{◌≡◌, ℕ, List, length, All, get_or, Option, Some, refl}
use Rattle.std.specs.Prelude.{slice_get}
use Rattle.std.proofs.lemmas.Option.{slice_get-get_or, slice_get_within}
use Rattle.pg_type.specs.Listed.{state_of}
use Rattle.pg_type.proofs.KindLaws.{shown_states}
use Rattle.pg_cert.specs.declared.cert.Family.TheVariants.{Plain}
use Rattle.pg_cert.specs.declared.report.Mark.{Mark}
use Rattle.pg_cert.specs.declared.report.Mark.TheVariants.{Refuted, Shown, Spent}
use Rattle.pg_cert.specs.Texts.{instr_of, kind_of}
use Rattle.pg_cert.proofs.Fits.{instr_within}
use Rattle.pg_edge.specs.Shelf.{Files}
use Rattle.pg_report.specs.Replays.{AreMarkStates}
use Rattle.pg_cmd_base.specs.declared.status.Status.TheVariants.{Done}
use Rattle.pg_cmd_certs.specs.Judged.{Judged, JudgedDue}
use Rattle.pg_cmd_check.specs.Replay.{ReplayEnds, replayed}
use Rattle.pg_cmd_base.specs.Steps.{Came}
use Rattle.pg_cmd_base.specs.World.{World, IsUntouched}
use Rattle.pg_cmd_certs.proofs.JudgedLemmas.{IsRead, judged-read}
use Rattle.pg_cmd_certs.proofs.VerdictMeanings.{some_at}

pub replay-ends : (told : Option Files) (desc cert : List ℕ) (j : Judged) (old new : World) → JudgedDue Plain desc cert told (Came j) → IsUntouched old new →
    ReplayEnds j old new Done (replayed j)
replay-ends told desc cert j old new due same =
    record { status = refl; wording = refl; shown = (judged-read Plain told desc cert j due).shown; untouched = same }

module _ (j : Judged) (h : IsRead Plain j) where
  mark_states : (n : ℕ) (m : Mark) → slice_get j.report.marks n ≡ Some m → AreMarkStates j.desc m
  mark_states n Refuted e = tt
  mark_states n (Shown s t) e =
      let within = instr_within j.report.family n (length j.report.marks) (length j.desc.instrs) h.whole (slice_get_within j.report.marks n (Shown s t) e) in
      let i = some_at j.desc.instrs (instr_of j.report.family n) within in
      shown_states j.desc i.0 (kind_of j.report.family n) (state_of s) (state_of t) (h.shown n s t i.0 e i.1)
  mark_states n (Spent budget) e = tt

  all_states : All (AreMarkStates j.desc) j.report.marks
  all_states = λ n m l. mark_states n (get_or j.report.marks n m) (slice_get-get_or j.report.marks n m l)

pub replay-states : (told : Option Files) (desc cert : List ℕ) (j : Judged) → JudgedDue Plain desc cert told (Came j) → All (AreMarkStates j.desc) j.report.marks
replay-states told desc cert j due = all_states j (judged-read Plain told desc cert j due)

-- Runs that are due, beside the cells that a monitor keeps.
use Rattle.std.proofs.Common.{◌≡◌, ℕ, ◌-◌, ◌≤◌, List, length, replicate, Option, arith}
use Rattle.std.proofs.lemmas.List.{length-append, length-replicate}
use Rattle.pg_ast.specs.declared.tree.Desc.{Desc}
use Rattle.pg_cli_table.specs.declared.bare.BareWords.{BareWords}
use Rattle.pg_cert.specs.declared.cert.Family.{Family}
use Rattle.pg_cert.specs.declared.cert.Family.TheVariants.{Plain, Hybrid}
use Rattle.pg_edge.specs.Shelf.{Files}
use Rattle.pg_cmd_base.specs.Descriptions.{DescDue}
use Rattle.pg_cmd_certs.specs.Meaning.{IsAcceptedBy}
use Rattle.pg_lang_meaning.specs.Steps.{power_on}
use Rattle.pg_cmd_base.specs.declared.refusal.Refusal.{Refusal}
use Rattle.pg_cmd_base.specs.Rooms.{RoomDue}
use Rattle.pg_cmd_base.specs.Steps.{Step, Came, Then}
use Rattle.pg_cmd_plain.specs.Bare.{BareRun, BareDue}
use Rattle.pg_cmd_plain.specs.CanRuns.{CanRun}
use Rattle.pg_cmd_plain.proofs.BareLemmas.{first-state}
use Rattle.pg_out_steps.proofs.AnywhereLemmas.{step-anywhere, count-anywhere}
use Rattle.pg_type.specs.Accepting.{IsHybridAccepted}
use Rattle.pg_type.proofs.KindLaws.{accepted-hybrid}
use Rattle.pg_lang_valid.specs.Valid.{IsValid}
use Rattle.pg_prog_trace.specs.Judging.{monitor_of, IsAnywhere}
use Rattle.pg_prog_trace.specs.Plans.{RunDue, behind_room}

-- ---- the run that is due

-- what comes behind the description
abbrev pub behind_desc : ℕ → BareWords → Option Files → Desc → Step Refusal BareRun
behind_desc kept b told d = Then (RoomDue b.grant (d.size - kept)) (behind_room b told d)

free : (n : ℕ) → n - 0 ≡ n
free n = omega arith

-- beside no cells it is that of a bare machine
pub run-bare : (b : BareWords) (told : Option Files) → RunDue 0 b told ≡ BareDue b told
unfolding RunDue BareDue
run-bare b told = λ i. Then (DescDue told b.desc) (λ d. Then (RoomDue b.grant (free d.size i)) (behind_room b told d))

-- beside others it is one of a bare machine too
pub run-due : (kept : ℕ) (b : BareWords) (told : Option Files) (r : BareRun) → RunDue kept b told (Came r) → BareDue b told (Came r)
unfolding RunDue BareDue RoomDue
run-due kept b told r h = (h.0, h.1, (h.2.0, (omega (arith, h.2.1.0), h.2.1.1), h.2.2))

-- ---- wherever it runs

accepted-any : (family : Family) (d : Desc) → IsAcceptedBy family d → ∥ IsHybridAccepted d ∥₁
accepted-any Plain d h = ∣ accepted-hybrid d h ∣₁
accepted-any Hybrid d h = ∣ h ∣₁

begun-length : (image : List ℕ) (g : ℕ) → length image ≤ g → length (power_on image g).cells ≡ g
unfolding power_on
begun-length image g h = omega (arith, length-append image (replicate (g - length image) 0), length-replicate {A = ℕ} (g - length image) 0)

pub anywhere : (family : Family) (r : BareRun) → IsAcceptedBy family r.desc → IsValid r.desc → CanRun r.desc.word r.desc.size r.grant r.steps r.image →
    IsAnywhere (monitor_of family) r
anywhere family r accepted valid can =
    let known = accepted-any family r.desc accepted in
    let begun = first-state r.desc r.grant r.steps r.image valid can in
    let whole = begun-length r.image r.grant (omega (arith, can.whole)) in
    record {
      step = λ base n within. step-anywhere (monitor_of family) r.desc base n (power_on r.image r.grant) known valid begun (omega (arith, whole, within));
      count = λ base n within. count-anywhere (monitor_of family) r.desc base n (power_on r.image r.grant) known valid begun (omega (arith, whole, within));
    }

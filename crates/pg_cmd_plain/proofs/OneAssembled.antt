-- `asm` and `disasm` come to one thing, for told files.
use Rattle.std.proofs.Common.{◌≡◌, ℕ, ◌≤◌, List, length, Option, Some, None, Result, Ok, Err, ◌∙◌, ap}
use Rattle.pg_cli_table.specs.declared.asm.AsmWords.{AsmWords}
use Rattle.pg_cli_table.specs.declared.disasm.DisasmWords.{DisasmWords}
use Rattle.pg_asm.specs.declared.fault.AsmFault.{AsmFault}
use Rattle.pg_asm.specs.Sources.{most_source_bytes, source_due}
use Rattle.pg_ast.specs.declared.tree.Desc.{Desc}
use Rattle.pg_edge.specs.Shelf.{Files}
use Rattle.pg_cmd_base.specs.Descriptions.{DescDue}
use Rattle.pg_cmd_base.specs.Images.{ImageDue}
use Rattle.pg_cmd_base.proofs.OneInput.{desc_answer, only-desc, image_answer, only-image}
use Rattle.pg_report.specs.declared.line.RefusalLine.TheVariants.{Source}
use Rattle.pg_report.specs.declared.line.SourceLine.{SourceLine}
use Rattle.pg_report.specs.declared.line.SourceLine.TheVariants as told_source
use Rattle.pg_cmd_base.specs.declared.refusal.Refusal.{Refusal}
use Rattle.pg_cmd_base.specs.FileSteps.{FromFile}
use Rattle.pg_cmd_base.specs.Refusals.{of_file}
use Rattle.pg_cmd_base.specs.Rooms.{of_room, RoomDue}
use Rattle.pg_cmd_base.specs.Steps.{Step, Gives, IsOne}
use Rattle.pg_cmd_base.proofs.OneRoom.{room_answer, only-room}
use Rattle.pg_cmd_base.proofs.OnlySteps.{Only, one-of, only-gives, lifted, only-as, bind, only-then, file_answer, only-file}
use Rattle.pg_cmd_plain.specs.Asm.{ImageOf, AsmDue}
use Rattle.pg_cmd_plain.specs.Disasm.{DisasmDue}
use Rattle.pg_cmd_plain.specs.Machines.{MachineDue}
use Rattle.pg_cmd_plain.specs.Sources.{AssembledAs, SourceDue, told_of_source}
use Rattle.pg_cmd_plain.proofs.MachineLemmas.{behind_desc}
use Rattle.pg_cmd_plain.proofs.ImageLemmas.{image_of, behind_machine, sources, images}

-- ---- the machine

abbrev room_then : ℕ → Desc → Result Desc Refusal
room_then grant d = bind (lifted of_room (room_answer grant d.size)) (λ cells. Ok d)

abbrev machine_answer : Files → List ℕ → ℕ → Result Desc Refusal
machine_answer files name grant = bind (desc_answer files name) (room_then grant)

only-room_then : (grant : ℕ) (d : Desc) → Only (behind_desc grant d) (room_then grant d)
only-room_then grant d =
    only-then (RoomDue grant d.size) (λ cells. Gives d) (lifted of_room (room_answer grant d.size)) (λ cells. Ok d) (only-room grant d.size) (λ cells. only-gives d)

only-machine : (files : Files) (name : List ℕ) (grant : ℕ) → Only (MachineDue (Some files) name grant) (machine_answer files name grant)
unfolding MachineDue
only-machine files name grant =
    only-then (DescDue (Some files) name) (behind_desc grant) (desc_answer files name) (room_then grant) (only-desc files name) (only-room_then grant)

-- ---- the source

abbrev line_answer : Option SourceLine → Result (List ℕ) SourceLine
line_answer None = Err told_source.Long
line_answer (Some line) = Err line

abbrev bytes_answer : Result (List ℕ) AsmFault → Result (List ℕ) SourceLine
bytes_answer (Ok cells) = Ok cells
bytes_answer (Err fault) = line_answer (told_of_source fault)

bytes-only : (d : Desc) (size : ℕ) (text : List ℕ) → length text ≤ most_source_bytes → (due : Result (List ℕ) SourceLine) → AssembledAs d size text due →
    bytes_answer (source_due d size text) ≡ due
bytes-only d size text within (Ok cells) h = ap bytes_answer h
bytes-only d size text within (Err line) h = ap bytes_answer h.first ∙ ap line_answer h.told

abbrev source_answer : Files → List ℕ → Desc → ℕ → Result (List ℕ) Refusal
source_answer files name d size =
    lifted (of_file Source) (file_answer most_source_bytes told_source.Long (λ text. bytes_answer (source_due d size text)) (files name))

only-source : (files : Files) (name : List ℕ) (d : Desc) (size : ℕ) → Only (SourceDue (Some files) name d size) (source_answer files name d size)
unfolding SourceDue
only-source files name d size =
    only-as (of_file Source) (FromFile (Some files) name most_source_bytes told_source.Long (AssembledAs d size))
    (file_answer most_source_bytes told_source.Long (λ text. bytes_answer (source_due d size text)) (files name))
    (only-file files name most_source_bytes told_source.Long (AssembledAs d size) (λ text. bytes_answer (source_due d size text)) (bytes-only d size))

-- ---- the commands

abbrev image_then : (Desc → Result (List ℕ) Refusal) → Desc → Result ImageOf Refusal
image_then answer d = bind (answer d) (λ image. Ok (image_of d image))

only-image_then : (steps : Desc → Step Refusal (List ℕ)) (answer : Desc → Result (List ℕ) Refusal) → ((d : Desc) → Only (steps d) (answer d)) → (d : Desc) →
    Only (behind_machine steps d) (image_then answer d)
only-image_then steps answer only d =
    only-then (steps d) (λ image. Gives (image_of d image)) (answer d) (λ image. Ok (image_of d image)) (only d) (λ image. only-gives (image_of d image))

pub one-asm : (files : Files) (a : AsmWords) → IsOne (AsmDue a (Some files))
unfolding AsmDue
one-asm files a =
    let answer : Desc → Result (List ℕ) Refusal = λ d. source_answer files a.source d a.grant in
    one-of (AsmDue a (Some files)) (bind (machine_answer files a.desc a.grant) (image_then answer))
    (only-then (MachineDue (Some files) a.desc a.grant) (behind_machine (sources (Some files) a)) (machine_answer files a.desc a.grant) (image_then answer)
    (only-machine files a.desc a.grant)
    (only-image_then (sources (Some files) a) answer (λ d. only-source files a.source d a.grant)))

pub one-disasm : (files : Files) (a : DisasmWords) → IsOne (DisasmDue a (Some files))
unfolding DisasmDue
one-disasm files a =
    let answer : Desc → Result (List ℕ) Refusal = λ d. image_answer files 0 a.image d.word a.grant in
    one-of (DisasmDue a (Some files)) (bind (machine_answer files a.desc a.grant) (image_then answer))
    (only-then (MachineDue (Some files) a.desc a.grant) (behind_machine (images (Some files) a)) (machine_answer files a.desc a.grant) (image_then answer)
    (only-machine files a.desc a.grant)
    (only-image_then (images (Some files) a) answer (λ d. only-image files 0 a.image d.word a.grant)))

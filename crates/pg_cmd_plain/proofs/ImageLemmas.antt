-- The image of a machine: the steps of both commands, the machine and then its image.
use Rattle.std.proofs.Common.{◌≡◌, ℕ, ◌≤◌, List, Option, Err, refl, arith}
use Rattle.pg_cli_table.specs.declared.asm.AsmWords.{AsmWords}
use Rattle.pg_cli_table.specs.declared.disasm.DisasmWords.{DisasmWords}
use Rattle.pg_ast.specs.declared.tree.Desc.{Desc}
use Rattle.pg_edge.specs.Shelf.{Files}
use Rattle.pg_cmd_base.specs.Images.{ImageDue}
use Rattle.pg_cmd_base.specs.declared.refusal.Refusal.{Refusal}
use Rattle.pg_cmd_base.specs.declared.refusal.Stop.{Stop}
use Rattle.pg_cmd_base.specs.Answering.{Comes}
use Rattle.pg_cmd_base.specs.Steps.{Step, Came, Then, Gives}
use Rattle.pg_cmd_base.proofs.StepLemmas.{comes-stopped, comes-behind}
use Rattle.pg_cmd_plain.specs.Asm.{ImageOf, AsmDue}
use Rattle.pg_cmd_plain.specs.Disasm.{DisasmDue}
use Rattle.pg_cmd_plain.specs.Machines.{MachineDue}
use Rattle.pg_cmd_plain.specs.Sources.{SourceDue}

abbrev pub image_of : Desc → List ℕ → ImageOf
image_of d image = record { desc = d; image = image }

-- what comes behind the machine, where its image comes by this step
abbrev pub behind_machine : (Desc → Step Refusal (List ℕ)) → Desc → Step Refusal ImageOf
behind_machine images d = Then (images d) (λ image. Gives (image_of d image))

-- the image stops it
image-stopped : {T U : Type 0} (view : T → List ℕ) (shows : U → ImageOf) (machines : Step Refusal Desc) (images : Desc → Step Refusal (List ℕ)) (d : Desc) (before mid after : ℕ) (why : Stop) →
    machines (Came d) → before ≤ mid → Comes view (images d) mid after (Err why) → Comes shows (Then machines (behind_machine images)) before after (Err why)
image-stopped view shows machines images d before mid after why h earlier k =
    comes-behind shows machines (behind_machine images) d before mid after (Err why) h earlier
    (comes-stopped view shows (images d) (λ image. Gives (image_of d image)) mid after after why k (omega arith))

-- ---- `asm`

abbrev pub sources : Option Files → AsmWords → Desc → Step Refusal (List ℕ)
sources told a d = SourceDue told a.source d a.grant

pub asm-stopped : {T U : Type 0} (view : T → Desc) (shows : U → ImageOf) (told : Option Files) (a : AsmWords) (before after : ℕ) (why : Stop) →
    Comes view (MachineDue told a.desc a.grant) before after (Err why) → Comes shows (AsmDue a told) before after (Err why)
unfolding AsmDue
asm-stopped view shows told a before after why h =
    comes-stopped view shows (MachineDue told a.desc a.grant) (behind_machine (sources told a)) before after after why h (omega arith)

pub asm-no_source : {T U : Type 0} (view : T → List ℕ) (shows : U → ImageOf) (told : Option Files) (a : AsmWords) (d : Desc) (before mid after : ℕ) (why : Stop) →
    MachineDue told a.desc a.grant (Came d) → before ≤ mid → Comes view (SourceDue told a.source d a.grant) mid after (Err why) →
    Comes shows (AsmDue a told) before after (Err why)
unfolding AsmDue
asm-no_source view shows told a d before mid after why h earlier k =
    image-stopped view shows (MachineDue told a.desc a.grant) (sources told a) d before mid after why h earlier k

pub asm-came : (told : Option Files) (a : AsmWords) (d : Desc) (image : List ℕ) → MachineDue told a.desc a.grant (Came d) →
    SourceDue told a.source d a.grant (Came image) → AsmDue a told (Came (image_of d image))
unfolding AsmDue
asm-came told a d image h k = (d, h, (image, k, refl))

-- ---- `disasm`

abbrev pub images : Option Files → DisasmWords → Desc → Step Refusal (List ℕ)
images told a d = ImageDue told 0 a.image d.word a.grant

pub disasm-stopped : {T U : Type 0} (view : T → Desc) (shows : U → ImageOf) (told : Option Files) (a : DisasmWords) (before after : ℕ) (why : Stop) →
    Comes view (MachineDue told a.desc a.grant) before after (Err why) → Comes shows (DisasmDue a told) before after (Err why)
unfolding DisasmDue
disasm-stopped view shows told a before after why h =
    comes-stopped view shows (MachineDue told a.desc a.grant) (behind_machine (images told a)) before after after why h (omega arith)

pub disasm-no_image : {T U : Type 0} (view : T → List ℕ) (shows : U → ImageOf) (told : Option Files) (a : DisasmWords) (d : Desc) (before mid after : ℕ) (why : Stop) →
    MachineDue told a.desc a.grant (Came d) → before ≤ mid → Comes view (ImageDue told 0 a.image d.word a.grant) mid after (Err why) →
    Comes shows (DisasmDue a told) before after (Err why)
unfolding DisasmDue
disasm-no_image view shows told a d before mid after why h earlier k =
    image-stopped view shows (MachineDue told a.desc a.grant) (images told a) d before mid after why h earlier k

pub disasm-came : (told : Option Files) (a : DisasmWords) (d : Desc) (image : List ℕ) → MachineDue told a.desc a.grant (Came d) →
    ImageDue told 0 a.image d.word a.grant (Came image) → DisasmDue a told (Came (image_of d image))
unfolding DisasmDue
disasm-came told a d image h k = (d, h, (image, k, refl))

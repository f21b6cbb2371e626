-- A description, an image and images come to one thing, for told files.
use Rattle.std.proofs.Common.{◌≡◌, ◌≢◌, ℕ, suc, ◌≤◌, List, [], ◌∷◌, length, Option, Some, None, Result, Ok, Err, sym, ◌∙◌, ap}
use Rattle.pg_ast.specs.declared.tree.Desc.{Desc}
use Rattle.pg_lang_valid.specs.declared.fault.TypeFault.{TypeFault}
use Rattle.pg_lang_valid.specs.Valid.{fault_of}
use Rattle.pg_lang_valid.proofs.FaultLemmas.{no_fault}
use Rattle.pg_edge.specs.Shelf.{Files}
use Rattle.pg_read.specs.declared.fault.DescFault.{DescFault}
use Rattle.pg_read.specs.declared.fault.DescFault.TheVariants as read_fault
use Rattle.pg_read.specs.Answer.{most_desc_bytes, IsAnswer}
use Rattle.pg_read.proofs.OneAnswer.{answer_due, answer_is_due}
use Rattle.pg_image.specs.declared.fault.ImageFault.{ImageFault}
use Rattle.pg_image.specs.Images.{most_image_bytes, image_due}
use Rattle.pg_report.specs.declared.line.RefusalLine.TheVariants.{Description, Image}
use Rattle.pg_report.specs.declared.line.DescriptionLine.{DescriptionLine}
use Rattle.pg_report.specs.declared.line.DescriptionLine.TheVariants as told_line
use Rattle.pg_report.specs.declared.line.ImageLine.{ImageLine}
use Rattle.pg_report.specs.declared.line.ImageLine.TheVariants as told_image
use Rattle.pg_cmd_base.specs.declared.refusal.Refusal.{Refusal}
use Rattle.pg_cmd_base.specs.Steps.{Then, Gives, IsOne}
use Rattle.pg_cmd_base.specs.FileSteps.{FromFile}
use Rattle.pg_cmd_base.specs.Refusals.{of_file}
use Rattle.pg_cmd_base.specs.Descriptions.{ReadsAs, IsInvalid, TextDue, told_of_reading, told_of_type, DescDue}
use Rattle.pg_cmd_base.specs.Images.{told_of_image, BytesDue, ImageDue, ImagesDue}
use Rattle.pg_cmd_base.proofs.OneSteps.{one-gives, one-then}
use Rattle.pg_cmd_base.proofs.OnlySteps.{Only, one-of, lifted, only-as, file_answer, only-file}

-- ---- a description

abbrev fault_answer : Option DescriptionLine → Result Desc DescriptionLine
fault_answer None = Err told_line.Long
fault_answer (Some line) = Err line

abbrev check_answer : Desc → Option TypeFault → Result Desc DescriptionLine
check_answer d None = Ok d
check_answer d (Some fault) = fault_answer (told_of_type fault)

-- the fault in an answer
abbrev fault_in : DescFault → Result Desc DescFault → DescFault
fault_in other (Ok d) = other
fault_in other (Err fault) = fault

-- what the reader answers, as it is told
abbrev read_answer : Result Desc DescFault → Result Desc DescriptionLine
read_answer (Ok d) = check_answer d (fault_of d)
read_answer (Err fault) = fault_answer (told_of_reading fault)

text-reads : (text : List ℕ) (d : Desc) → length text ≤ most_desc_bytes → ReadsAs text d → answer_due text ≡ Ok d
text-reads text d within h = sym (answer_is_due text (Ok d) (λ e. cc) (within, h.tokens))

text-fault : (text : List ℕ) (fault : DescFault) → fault ≢ read_fault.Memory → IsAnswer text (Err fault) → answer_due text ≡ Err fault
text-fault text fault known h = sym (answer_is_due text (Err fault) (λ e. known (ap (fault_in fault) e)) h)

text-invalid : (text : List ℕ) (line : DescriptionLine) → length text ≤ most_desc_bytes → IsInvalid text line → read_answer (answer_due text) ≡ Err line
text-invalid text line within h = ap read_answer (text-reads text h.desc within h.reads) ∙ ap (check_answer h.desc) h.first ∙ ap fault_answer h.told

text-only : (text : List ℕ) → length text ≤ most_desc_bytes → (due : Result Desc DescriptionLine) → TextDue text due → read_answer (answer_due text) ≡ due
text-only text within (Ok d) h = ap read_answer (text-reads text d within h.0) ∙ ap (check_answer d) (no_fault d h.1)
text-only text within (Err told_line.Long) h = absurd h
text-only text within (Err (told_line.Token place)) h = ap read_answer (text-fault text (read_fault.Token place) (λ e. cc) (within, h))
text-only text within (Err (told_line.Grammar place)) h = ap read_answer (text-fault text (read_fault.Grammar place) (λ e. cc) (within, h))
text-only text within (Err (told_line.Deep place)) h = ap read_answer (text-fault text (read_fault.Deep place) (λ e. cc) (within, h))
text-only text within (Err told_line.Shape) h = text-invalid text told_line.Shape within h
text-only text within (Err (told_line.Limit limit instr)) h = text-invalid text (told_line.Limit limit instr) within h
text-only text within (Err (told_line.Twice name)) h = text-invalid text (told_line.Twice name) within h
text-only text within (Err (told_line.Pattern instr)) h = text-invalid text (told_line.Pattern instr) within h
text-only text within (Err (told_line.Overlap i j)) h = text-invalid text (told_line.Overlap i j) within h
text-only text within (Err (told_line.Name instr name)) h = text-invalid text (told_line.Name instr name) within h
text-only text within (Err (told_line.Width instr place how)) h = text-invalid text (told_line.Width instr place how) within h

abbrev pub desc_answer : Files → List ℕ → Result Desc Refusal
desc_answer files name = lifted (of_file Description) (file_answer most_desc_bytes told_line.Long (λ text. read_answer (answer_due text)) (files name))

pub only-desc : (files : Files) (name : List ℕ) → Only (DescDue (Some files) name) (desc_answer files name)
unfolding DescDue
only-desc files name =
    only-as (of_file Description) (FromFile (Some files) name most_desc_bytes told_line.Long TextDue)
    (file_answer most_desc_bytes told_line.Long (λ text. read_answer (answer_due text)) (files name))
    (only-file files name most_desc_bytes told_line.Long TextDue (λ text. read_answer (answer_due text)) text-only)

pub one-desc : (files : Files) (name : List ℕ) → IsOne (DescDue (Some files) name)
one-desc files name = one-of (DescDue (Some files) name) (desc_answer files name) (only-desc files name)

-- ---- an image

abbrev line_answer : Option ImageLine → Result (List ℕ) ImageLine
line_answer None = Err told_image.Long
line_answer (Some line) = Err line

abbrev bytes_answer : Result (List ℕ) ImageFault → Result (List ℕ) ImageLine
bytes_answer (Ok cells) = Ok cells
bytes_answer (Err fault) = line_answer (told_of_image fault)

bytes-only : (w size : ℕ) (text : List ℕ) → length text ≤ most_image_bytes → (due : Result (List ℕ) ImageLine) → BytesDue w size text due → bytes_answer (image_due w size text) ≡ due
bytes-only w size text within (Ok cells) h = ap bytes_answer h
bytes-only w size text within (Err line) h = ap bytes_answer h.first ∙ ap line_answer h.told

abbrev pub image_answer : Files → ℕ → List ℕ → ℕ → ℕ → Result (List ℕ) Refusal
image_answer files number name w size =
    lifted (of_file (Image number)) (file_answer most_image_bytes told_image.Long (λ text. bytes_answer (image_due w size text)) (files name))

pub only-image : (files : Files) (number : ℕ) (name : List ℕ) (w size : ℕ) → Only (ImageDue (Some files) number name w size) (image_answer files number name w size)
unfolding ImageDue
only-image files number name w size =
    only-as (of_file (Image number)) (FromFile (Some files) name most_image_bytes told_image.Long (BytesDue w size))
    (file_answer most_image_bytes told_image.Long (λ text. bytes_answer (image_due w size text)) (files name))
    (only-file files name most_image_bytes told_image.Long (BytesDue w size) (λ text. bytes_answer (image_due w size text)) (bytes-only w size))

pub one-image : (files : Files) (number : ℕ) (name : List ℕ) (w size : ℕ) → IsOne (ImageDue (Some files) number name w size)
one-image files number name w size =
    one-of (ImageDue (Some files) number name w size) (image_answer files number name w size) (only-image files number name w size)

-- ---- images, one behind another

pub one-images : (files : Files) (number : ℕ) (names : List (List ℕ)) (w size : ℕ) → IsOne (ImagesDue (Some files) number names w size)
unfolding ImagesDue
one-images files number [] w size = one-gives []
one-images files number (name ∷ names) w size =
    one-then (ImageDue (Some files) number name w size) (λ image. Then (ImagesDue (Some files) (suc number) names w size) (λ images. Gives (image ∷ images)))
    (one-image files number name w size)
    (λ image. one-then (ImagesDue (Some files) (suc number) names w size) (λ images. Gives (image ∷ images)) (one-images files (suc number) names w size)
    (λ images. one-gives (image ∷ images)))

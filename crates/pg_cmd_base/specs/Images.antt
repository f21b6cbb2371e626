-- An image: what bytes come to as one, and the step that loads and reads it.
use Rattle.std.specs.Prelude.{◌≡◌, ◌<◌, ◌^◌, ℕ, suc, List, [], ◌∷◌, length, All, Option, None, Some, Result, Ok, Err}
use Rattle.pg_edge.specs.Shelf.{Files}
use Rattle.pg_image.specs.declared.fault.ImageFault.{ImageFault}
use Rattle.pg_image.specs.declared.fault.ImageFault.TheVariants as image_fault
use Rattle.pg_image.specs.Images.{most_image_bytes, image_due}
use Rattle.pg_report.specs.declared.line.RefusalLine.TheVariants.{Image}
use Rattle.pg_report.specs.declared.line.ImageLine.{ImageLine}
use Rattle.pg_report.specs.declared.line.ImageLine.TheVariants as told_image
use Rattle.pg_cmd_base.specs.declared.refusal.Refusal.{Refusal}
use Rattle.pg_cmd_base.specs.Steps.{Step, As, Then, Gives}
use Rattle.pg_cmd_base.specs.FileSteps.{FromFile}
use Rattle.pg_cmd_base.specs.Refusals.{of_file}

-- what is told of bytes that are no image
abbrev pub told_of_image : ImageFault → Option ImageLine
told_of_image image_fault.Long = Some told_image.Long
told_of_image (image_fault.Token place) = Some (told_image.Token place)
told_of_image (image_fault.Grammar n) = Some (told_image.Grammar n)
told_of_image (image_fault.Address n) = Some (told_image.Address n)
told_of_image (image_fault.Overlap n) = Some (told_image.Overlap n)
told_of_image image_fault.Memory = None

-- bytes that are no image for words of w bits and so many cells: their fault is the one that is told
pub record IsNoImage (w size : ℕ) (text : List ℕ) (shown : ImageLine) : Type 0 where
  pub fault : ImageFault
  pub first : image_due w size text ≡ Err fault
  pub told : told_of_image fault ≡ Some shown

-- what bytes within the limit come to as an image
abbrev pub BytesDue : ℕ → ℕ → List ℕ → Result (List ℕ) ImageLine → Type 0
BytesDue w size text (Ok cells) = image_due w size text ≡ Ok cells
BytesDue w size text (Err told) = IsNoImage w size text told

-- the image of this number is loaded, and then read, for words of w bits and so many cells
unfoldable pub ImageDue : Option Files → ℕ → List ℕ → ℕ → ℕ → Step Refusal (List ℕ)
ImageDue told number name w size = As (of_file (Image number)) (FromFile told name most_image_bytes told_image.Long (BytesDue w size))

-- the images of these names, in order, the first of this number
unfoldable pub ImagesDue : Option Files → ℕ → List (List ℕ) → ℕ → ℕ → Step Refusal (List (List ℕ))
ImagesDue told number [] w size = Gives []
ImagesDue told number (name ∷ names) w size =
    Then (ImageDue told number name w size) (λ image. Then (ImagesDue told (suc number) names w size) (λ images. Gives (image ∷ images)))

-- an image for so many cells, of words of w bits
pub record Fills (w size : ℕ) (image : List ℕ) : Type 0 where
  pub whole : length image ≡ size
  pub words : All (λ word. word < 2 ^ w) image

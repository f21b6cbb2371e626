-- The texts of refusals: what is put where a command is refused. Every line ends with LF; numbers are decimal.
use Rattle.std.specs.Prelude.{ℕ, List, [], ◌∷◌, ◌++◌, take, codes}
use Rattle.std.specs.Fmt.{decimal}
use Rattle.pg_lang_token.specs.Words.{most_name_bytes}
use Rattle.pg_lang_valid.specs.declared.fault.Limit.{Limit as Limits}
use Rattle.pg_lang_valid.specs.declared.fault.Limit.TheVariants.{Instructions, Accesses, Lets, Statements, Expressions}
use Rattle.pg_cert.specs.Lines.{kind_text}
use Rattle.pg_report.specs.declared.line.RefusalLine.{RefusalLine}
use Rattle.pg_report.specs.declared.line.RefusalLine.TheVariants.{Description, Image, Certificate, Room, Source, Saved}
use Rattle.pg_report.specs.declared.line.DescriptionLine.{DescriptionLine}
use Rattle.pg_report.specs.declared.line.DescriptionLine.TheVariants.{Long, Token, Grammar as Misplaced, Deep, Shape, Limit, Twice, Pattern, Overlap, Name, Width}
use Rattle.pg_report.specs.declared.line.ImageLine.{ImageLine}
use Rattle.pg_report.specs.declared.line.ImageLine.TheVariants.{Long as LongImage, Token as Foreign, Grammar, Address, Overlap as Again}
use Rattle.pg_report.specs.declared.line.CertificateLine.{CertificateLine}
use Rattle.pg_report.specs.declared.line.CertificateLine.TheVariants as cert
use Rattle.pg_report.specs.declared.line.SourceLine.{SourceLine}
use Rattle.pg_report.specs.declared.line.SourceLine.TheVariants as source
use Rattle.pg_report.specs.declared.line.SavedLine.{SavedLine}
use Rattle.pg_report.specs.declared.line.SavedLine.TheVariants as saved

-- limits by number
abbrev pub limit_number : Limits → ℕ
limit_number Instructions = 1
limit_number Accesses = 2
limit_number Lets = 3
limit_number Statements = 4
limit_number Expressions = 5

-- a name, which has no more bytes
abbrev pub name_text : List ℕ → List ℕ
name_text name = take most_name_bytes name

-- two numbers with a space between
abbrev pub two_numbers : ℕ → ℕ → List ℕ
two_numbers m n = decimal m ++ codes " " ++ decimal n

-- why a description is refused
unfoldable pub description_text : DescriptionLine → List ℕ
description_text Long = codes "long"
description_text (Token place) = codes "token " ++ decimal place
description_text (Misplaced place) = codes "grammar " ++ decimal place
description_text (Deep place) = codes "deep " ++ decimal place
description_text Shape = codes "shape"
description_text (Limit limit instr) = codes "limit " ++ two_numbers (limit_number limit) instr
description_text (Twice name) = codes "twice " ++ name_text name
description_text (Pattern instr) = codes "pattern " ++ decimal instr
description_text (Overlap i j) = codes "overlap " ++ two_numbers i j
description_text (Name instr name) = codes "name " ++ decimal instr ++ codes " " ++ name_text name
description_text (Width instr place how) = codes "width " ++ two_numbers instr place

-- why an image is refused
unfoldable pub image_text : ImageLine → List ℕ
image_text LongImage = codes "long"
image_text (Foreign place) = codes "token " ++ decimal place
image_text (Grammar line) = codes "grammar " ++ decimal line
image_text (Address line) = codes "address " ++ decimal line
image_text (Again line) = codes "overlap " ++ decimal line

-- why a certificate is refused
unfoldable pub certificate_text : CertificateLine → List ℕ
certificate_text cert.Long = codes "long"
certificate_text (cert.Token line) = codes "token " ++ decimal line
certificate_text (cert.Grammar line) = codes "grammar " ++ decimal line
certificate_text cert.Version = codes "version 1"
certificate_text (cert.Instr line) = codes "instr " ++ decimal line
certificate_text (cert.Step line cause) = codes "step " ++ two_numbers line cause
certificate_text (cert.Closed line) = codes "closed " ++ decimal line
certificate_text (cert.Pair line) = codes "pair " ++ decimal line
certificate_text (cert.Spent line) = codes "spent " ++ decimal line
certificate_text (cert.Missing name kind) = codes "missing " ++ name_text name ++ codes " " ++ kind_text kind
certificate_text (cert.Extra line) = codes "extra " ++ decimal line
certificate_text (cert.Delete line) = codes "delete " ++ decimal line

-- why a source is refused
unfoldable pub source_line_text : SourceLine → List ℕ
source_line_text source.Long = codes "long"
source_line_text (source.Token place) = codes "token " ++ decimal place
source_line_text (source.Grammar line) = codes "grammar " ++ decimal line
source_line_text (source.Name line) = codes "name " ++ decimal line
source_line_text (source.Field line) = codes "field " ++ decimal line
source_line_text (source.Label line) = codes "label " ++ decimal line
source_line_text (source.Range line) = codes "range " ++ decimal line
source_line_text (source.Place line) = codes "place " ++ decimal line
source_line_text (source.Overlap line) = codes "overlap " ++ decimal line

-- why the text of a saved guest is refused
unfoldable pub saved_line_text : SavedLine → List ℕ
saved_line_text saved.Long = codes "long"
saved_line_text (saved.Token line) = codes "token " ++ decimal line
saved_line_text (saved.Grammar line) = codes "grammar " ++ decimal line
saved_line_text (saved.Version line) = codes "version " ++ decimal line

-- the line of a refusal
unfoldable pub refusal_text : RefusalLine → List ℕ
refusal_text (Description line) = codes "description: " ++ description_text line ++ 10 ∷ []
refusal_text (Image number line) = codes "image " ++ decimal number ++ codes ": " ++ image_text line ++ 10 ∷ []
refusal_text (Certificate line) = codes "certificate: " ++ certificate_text line ++ 10 ∷ []
refusal_text (Room wanted free) = codes "room " ++ two_numbers wanted free ++ 10 ∷ []
refusal_text (Source line) = codes "source: " ++ source_line_text line ++ 10 ∷ []
refusal_text (Saved line) = codes "saved: " ++ saved_line_text line ++ 10 ∷ []

-- What `pg_import` saves and tells.
use Rattle.std.specs.Prelude.{◌≡◌, ◌⊎◌, ℕ, ◌≤◌, List, [], ◌∷◌, ◌++◌, length, codes, string_bytes, Option, Some, Ok}
use Rattle.std.specs.Fmt.{decimal}
use Rattle.pg_ast.specs.declared.tree.Desc.{Desc}
use Rattle.pg_type.specs.declared.kind.Kind.{Kind}
use Rattle.pg_cert.specs.declared.cert.Finding.{Finding}
use Rattle.pg_cert.specs.declared.cert.Finding.TheVariants.{Refuted, Shown, Spent}
use Rattle.pg_cert.specs.declared.cert.Cert.{Cert}
use Rattle.pg_cert.specs.declared.report.Report.{Report}
use Rattle.pg_cert.specs.Reading.{read_kind}
use Rattle.pg_cmd_certs.specs.Saving.{IsWritten, HoldsNow}
use Rattle.pg_edge.specs.Shelf.{Files, SameBut, CountsSave}
use Rattle.pg_edge.specs.Sink.{Adds}
use Rattle.pg_edge.specs.Told.{BothTold}
use Rattle.pg_prog_base.specs.Imported.{IsOfFile, IsPlaceOf, IsRightAt, IsReplaced}
use Rattle.pg_cmd_base.specs.Descriptions.{DescDue}
use Rattle.pg_cmd_certs.specs.Certificates.{IsCertificate}
use Rattle.pg_cmd_certs.specs.Judged.{Judged, verdict_on, verdict_status, verdict_told}
use Rattle.pg_cmd_certs.specs.Meaning.{VerdictMeans}
use Rattle.pg_cmd_certs.specs.Views.{judged}
use Rattle.pg_proof.specs.Trimmed.{step_count}
use Rattle.pg_cmd_base.specs.declared.status.Status.{Status}
use Rattle.pg_cmd_base.specs.Classes.{Class, Ended, Unwritten, Unread, OutOfMemory, class_of}
use Rattle.pg_cmd_base.specs.Codes.{code_of}
use Rattle.pg_cmd_base.specs.Steps.{Came}
use Rattle.pg_cmd_base.specs.World.{Output, Breaks}
use Rattle.pg_verify.specs.Feeding.{most_bytes}
use Rattle.pg_verify.specs.Taking.{instr_named}
use Rattle.pg_prog_proofs.specs.declared.import.making.Written.{Written}
use Rattle.pg_prog_proofs.specs.declared.import.request.Request.{Request}
use Rattle.pg_prog_base.specs.declared.stop.Stop.{Stop}

-- what the words ask for, of which the first is the program's name
pub record AsksImport (words : List (List ℕ)) (r : Request) : Type 0 where
  pub program : List ℕ
  pub in_order : words ≡ program ∷ r.desc.now ∷ r.cert.now ∷ r.instr.now ∷ r.word.now ∷ r.proof.now ∷ r.file.now ∷ []
  pub is_kind : read_kind r.word.now ≡ Some r.kind

-- the text of a certificate that was made anew, with a right finding of an instruction and a kind in place of the one that stood there,
-- and what is kept of it
pub record IsSavedText (d : Desc) (made : Cert) (instr : ℕ) (kind : Kind) (f : Finding) (text : List ℕ) (report : Report) : Type 0 where
  pub place : ℕ
  pub asked : IsPlaceOf made instr kind place
  pub right : IsRightAt d made.family place f
  pub written : IsWritten d made.family text report
  pub replaced : IsReplaced d made place f written.cert

-- whatever the words are: all files are as they were, or but for the one that they name for the new certificate
abbrev pub SavesNothingElse : List (List ℕ) → (was now : Option Files) → Type 0
SavesNothingElse words was now = (now ≡ was) ⊎ ((r : Request) × AsksImport words r × BothTold was now (SameBut r.file.now))

-- the line that tells of a log of so many steps, and the one that tells of two states
abbrev pub refuted_line : (instr word : List ℕ) → ℕ → List ℕ
refuted_line instr word steps =
    codes "imported " ++ (instr ++ (codes " " ++ (word ++ (codes " refuted " ++ (decimal steps ++ (codes " steps" ++ 10 ∷ []))))))

abbrev pub shown_line : (instr word : List ℕ) → List ℕ
shown_line instr word = codes "imported " ++ (instr ++ (codes " " ++ (word ++ (codes " shown" ++ 10 ∷ []))))

-- the line that tells what was imported: the words for the instruction and the kind, and what was found
abbrev pub import_line : (instr word : List ℕ) → Finding → List ℕ
import_line instr word (Refuted acts) = refuted_line instr word (step_count acts)
import_line instr word (Shown s t) = shown_line instr word
import_line instr word (Spent k steps) = shown_line instr word

-- a new certificate of a machine, with the line that tells of the finding in it
pub record IsNew (d : Desc) (made : Cert) (instr : ℕ) (r : Request) (w : Written) : Type 0 where
  pub finding : Finding
  pub saved : IsSavedText d made instr r.kind finding w.text.items w.judged.report
  pub line : string_bytes w.line ≡ import_line r.instr.now r.word.now finding

-- that of the files which the words name: of the description, made anew of the certificate, and of the instruction of this name
pub record IsImport (told : Option Files) (r : Request) (w : Written) : Type 0 where
  pub due : DescDue told r.desc.now (Came w.judged.machine.desc)
  pub made : Cert
  pub of_file : IsOfFile told r.cert.now w.judged.machine.desc made
  pub instr : ℕ
  pub named : instr_named w.judged.machine.desc r.instr.now ≡ Some instr
  pub is_new : IsNew w.judged.machine.desc made instr r w

-- a line was put, and the verdict behind it; the status is that of the verdict
pub record ToldBehind (line : List ℕ) (j : Judged) (old new : Output) (given : Status) : Type 0 where
  pub status : given ≡ verdict_status (verdict_on j)
  pub written : BothTold old.written new.written (Adds (line ++ verdict_told j))

-- what is put of the two, by the class of the status
abbrev pub ToldBehindAs : List ℕ → Judged → Output → Output → Status → Class → Type 0
ToldBehindAs line j old new given Ended = ToldBehind line j old new given
ToldBehindAs line j old new given Unwritten = Breaks (line ++ verdict_told j) old new
ToldBehindAs line j old new given Unread = ⊥
ToldBehindAs line j old new given OutOfMemory = ⊥

-- the count of failed saves moved as it does at one save, which went through
abbrev pub SavesOnce : ℕ → ℕ → Type 0
SavesOnce before now = CountsSave {T = Unit {0}} {E = Stop} before now (Ok tt)

-- such a certificate is saved, and its verdict told, which means what it says. Where the text is within the limit, a verifier takes it,
-- and keeps the same of it
pub record IsImported (r : Request) (was now : Option Files) (before after : ℕ) (old new : Output) (given : Status) : Type 0 where
  pub cert : Written
  pub of_files : IsImport was r cert
  pub meaning : VerdictMeans cert.judged.machine.desc cert.judged.report
  pub again : length cert.text.items ≤ most_bytes →
      IsCertificate cert.judged.machine.desc cert.judged.report.family cert.text.items cert.judged.report
  pub saved : BothTold was now (HoldsNow r.file.now cert.text.items)
  pub once : SavesOnce before after
  pub told : ToldBehindAs (string_bytes cert.line) (judged cert.judged) old new given (class_of given)

-- the words asked for it, and this is the number of the status
pub record EndsImported (words : List (List ℕ)) (was now : Option Files) (before after : ℕ) (old new : Output) (number : ℕ) : Type 0 where
  pub request : Request
  pub asked : AsksImport words request
  pub given : Status
  pub numbered : number ≡ code_of given
  pub imported : IsImported request was now before after old new given

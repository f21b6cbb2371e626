-- A certificate that is saved, and the verdict of it.
use Rattle.std.specs.Prelude.{◌≡◌, ◌⊎◌, ◌≤◌, ℕ, List, Some, length, map}
use Rattle.pg_ast.specs.declared.tree.Desc.{Desc}
use Rattle.pg_cert.specs.declared.cert.Cert.{Cert}
use Rattle.pg_cert.specs.declared.cert.Family.{Family}
use Rattle.pg_cert.specs.declared.report.Report.{Report}
use Rattle.pg_cert.specs.Texts.{heading_of, cert_text}
use Rattle.pg_cert.specs.Verdicts.{mark_of}
use Rattle.pg_edge.specs.Count.{Rose}
use Rattle.pg_edge.specs.Shelf.{Files, HasOldOrFront, SameBut}
use Rattle.pg_edge.specs.Told.{BothTold}
use Rattle.pg_verify.specs.Feeding.{most_bytes}
use Rattle.pg_verify.specs.Verified.{IsValidOf}
use Rattle.pg_cmd_base.specs.declared.status.Status.{Status}
use Rattle.pg_cmd_certs.specs.Certificates.{IsCertificate}
use Rattle.pg_cmd_certs.specs.Judged.{Judged, verdict_on, verdict_status, verdict_told}
use Rattle.pg_cmd_certs.specs.Meaning.{VerdictMeans}
use Rattle.pg_cmd_certs.specs.Telling.{ToldWhole}
use Rattle.pg_cmd_base.specs.Classes.{Class, Ended, Unwritten, Unread, OutOfMemory}
use Rattle.pg_cmd_base.specs.World.{World, Breaks}

-- a valid certificate of a description and a family: its text under the heading that is written today, and what is kept of it
pub record IsWritten (d : Desc) (family : Family) (bytes : List ℕ) (report : Report) : Type 0 where
  pub cert : Cert
  pub of_family : cert.family ≡ family
  pub valid : IsValidOf (heading_of family) d cert
  pub text : bytes ≡ cert_text d (heading_of family) cert
  pub kept_family : report.family ≡ family
  pub marks : report.marks ≡ map mark_of cert.findings

-- the files hold these bytes under a name, and all others are as they were
abbrev pub HoldsNow : List ℕ → List ℕ → Files → Files → Type 0
HoldsNow name bytes was now = (now name ≡ Some bytes) × SameBut name was now

-- they hold what they held under it, or a front of these bytes
abbrev pub HoldsAtMost : List ℕ → List ℕ → Files → Files → Type 0
HoldsAtMost name bytes was now = HasOldOrFront name bytes was now × SameBut name was now

-- bytes were saved under a name, and no save failed on the way
pub record HasSaved (name bytes : List ℕ) (old new : World) : Type 0 where
  pub saved : BothTold old.files new.files (HoldsNow name bytes)
  pub whole : new.save_faults ≡ old.save_faults

-- the text of a certificate is saved whole, and its verdict means what it says. Where the text is within the limit, a verifier of
-- the family takes it, and keeps the same of it
pub record IsSaved (name : List ℕ) (d : Desc) (family : Family) (bytes : List ℕ) (report : Report) (old new : World) : Type 0 where
  pub meaning : VerdictMeans d report
  pub again : length bytes ≤ most_bytes → IsCertificate d family bytes report
  pub saved : HasSaved name bytes old new

-- a certificate is saved; the status and the text that is put are those of its verdict, and nothing else is touched
pub record EndsSaved (name : List ℕ) (family : Family) (bytes : List ℕ) (j : Judged) (old new : World) (given : Status) (text : List ℕ) : Type 0 where
  pub status : given ≡ verdict_status (verdict_on j)
  pub wording : text ≡ verdict_told j
  pub saving : IsSaved name j.desc family bytes j.report old new
  pub hw : new.hw ≡ old.hw

-- where the save failed: the file has what it had, or a front of the text
pub record LeavesUnsaved (name bytes : List ℕ) (old new : World) : Type 0 where
  pub left : BothTold old.files new.files (HoldsAtMost name bytes)
  pub hw : new.hw ≡ old.hw

-- ---- a save, and the verdict told behind it

-- the save failed, and nothing was put
pub record SaveFailed (name bytes : List ℕ) (old new : World) : Type 0 where
  pub cause : Rose old.save_faults new.save_faults
  pub silent : new.out ≡ old.out
  pub unsaved : LeavesUnsaved name bytes old new

-- the text was saved, and the verdict told
pub record SavedWhole (name bytes : List ℕ) (j : Judged) (old new : World) (given : Status) : Type 0 where
  pub saved : HasSaved name bytes old new
  pub told : ToldWhole j old.out new.out given

-- it was saved, and a put failed
pub record SavedUntold (name bytes : List ℕ) (j : Judged) (old new : World) : Type 0 where
  pub saved : HasSaved name bytes old new
  pub front : Breaks (verdict_told j) old.out new.out

-- what is left, by the class of the status
abbrev pub SavedAs : (name bytes : List ℕ) → Judged → World → World → Status → Class → Type 0
SavedAs name bytes j old new given Ended = SavedWhole name bytes j old new given
SavedAs name bytes j old new given Unwritten = SaveFailed name bytes old new ⊎ SavedUntold name bytes j old new
SavedAs name bytes j old new given Unread = ⊥
SavedAs name bytes j old new given OutOfMemory = ⊥

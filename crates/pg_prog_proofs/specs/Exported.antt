-- What `pg_dimacs` and `pg_export` tell.
use Rattle.std.specs.Prelude.{◌≡◌, ◌⊎◌, ℕ, ℤ, List, [], ◌∷◌, codes, Option, None, Some, option_copied, slice_get}
use Rattle.pg_ask.specs.Question.{question}
use Rattle.pg_ast.specs.declared.tree.Desc.{Desc}
use Rattle.pg_ast.specs.declared.tree.Instr.{Instr}
use Rattle.pg_cert.specs.declared.cert.Cert.{Cert}
use Rattle.pg_cert.specs.declared.cert.Finding.TheVariants.{Refuted}
use Rattle.pg_cert.specs.Reading.{read_kind}
use Rattle.pg_cert.specs.Texts.{instr_of, kind_of}
use Rattle.pg_edge.specs.Shelf.{Files}
use Rattle.pg_edge.specs.Sink.{Adds}
use Rattle.pg_edge.specs.Told.{BothTold}
use Rattle.pg_prog_base.specs.Dimacs.{IsQuestionText}
use Rattle.pg_prog_base.specs.Lrat.{lrat_text}
use Rattle.pg_prog_base.specs.Imported.{IsOfFile, IsPlaceOf}
use Rattle.pg_cmd_base.specs.Descriptions.{DescDue}
use Rattle.pg_proof.specs.declared.step.Act.{Act}
use Rattle.pg_proof.specs.Log.{IsClosedLog}
use Rattle.pg_cmd_base.specs.Steps.{Came}
use Rattle.pg_cmd_base.specs.World.{SavesOnly}
use Rattle.pg_verify.specs.Taking.{instr_named}
use Rattle.pg_prog_proofs.specs.declared.dimacs.request.Request.{Request as Question}
use Rattle.pg_prog_proofs.specs.declared.export.making.Texts.{Texts}
use Rattle.pg_prog_proofs.specs.declared.export.request.Request.{Request}

-- ---- a question

-- what the words ask for, of which the first is the program's name
pub record AsksDimacs (words : List (List ℕ)) (r : Question) : Type 0 where
  pub program : List ℕ
  pub in_order : words ≡ program ∷ r.names.file.now ∷ r.names.instr.now ∷ r.names.word.now ∷ []
  pub is_kind : read_kind r.names.word.now ≡ Some r.kind

-- the text of the question of an instruction by its name and a kind
pub record IsOfMachine (d : Desc) (r : Question) (text : List ℕ) : Type 0 where
  pub instr : ℕ
  pub named : instr_named d r.names.instr.now ≡ Some instr
  pub asked : (i : Instr) → slice_get d.instrs instr ≡ Some i → IsQuestionText (question d i r.kind) text

-- that of the description which the words name
pub record IsDimacs (told : Option Files) (r : Question) (text : List ℕ) : Type 0 where
  pub desc : Desc
  pub due : DescDue told r.names.file.now (Came desc)
  pub of_machine : IsOfMachine desc r text

-- it was put
pub record PutsDimacs (told : Option Files) (r : Question) (old new : Option (List ℕ)) : Type 0 where
  pub text : List ℕ
  pub of_file : IsDimacs told r text
  pub put : BothTold old new (Adds text)

-- and the words asked for it
pub record EndsDimacs (words : List (List ℕ)) (told : Option Files) (old new : Option (List ℕ)) : Type 0 where
  pub request : Question
  pub asked : AsksDimacs words request
  pub puts : PutsDimacs told request old new

-- ---- a log

-- the text of a log that refutes clauses, and a text of these
pub record AreTexts (clauses : List (List ℤ)) (acts : List Act) (log text : List ℕ) : Type 0 where
  pub refuted : IsClosedLog clauses acts
  pub logged : log ≡ lrat_text clauses acts
  pub asked : IsQuestionText clauses text

-- the log of the finding at a place of a certificate, and the clauses of its question
pub record AreTextsAt (d : Desc) (cert : Cert) (n : ℕ) (log text : List ℕ) : Type 0 where
  pub acts : List Act
  pub found : slice_get cert.findings n ≡ Some (Refuted acts)
  pub texts : (i : Instr) → slice_get d.instrs (instr_of cert.family n) ≡ Some i → AreTexts (question d i (kind_of cert.family n)) acts log text

-- the finding is that of an instruction by its name and a kind
pub record AreTextsOf (d : Desc) (cert : Cert) (r : Request) (t : Texts) : Type 0 where
  pub instr : ℕ
  pub named : instr_named d r.names.instr.now ≡ Some instr
  pub place : ℕ
  pub asked : IsPlaceOf cert instr r.kind place
  pub texts : AreTextsAt d cert place t.log.items t.clauses.items

-- the certificate is the one that a file holds, made anew
pub record IsOfCert (told : Option Files) (d : Desc) (r : Request) (t : Texts) : Type 0 where
  pub made : Cert
  pub of_file : IsOfFile told r.cert.now d made
  pub texts : AreTextsOf d made r t

-- and the description is that of another
pub record IsExport (told : Option Files) (r : Request) (t : Texts) : Type 0 where
  pub desc : Desc
  pub due : DescDue told r.names.file.now (Came desc)
  pub of_cert : IsOfCert told desc r t

-- the words of the option for a file, where there is one
abbrev pub option_words : Option (List ℕ) → List (List ℕ)
option_words None = []
option_words (Some file) = codes "--cnf" ∷ file ∷ []

-- what the words ask for, of which the first is the program's name
pub record AsksExport (words : List (List ℕ)) (r : Request) : Type 0 where
  pub program : List ℕ
  pub in_order : words ≡ program ∷ r.names.file.now ∷ r.cert.now ∷ r.names.instr.now ∷ r.names.word.now ∷ option_words (option_copied r.cnf)
  pub is_kind : read_kind r.names.word.now ≡ Some r.kind

-- the file of this name, if there is one, holds these clauses
abbrev pub SavesClauses : Option (List ℕ) → List ℕ → (was now : Option Files) → Type 0
SavesClauses None text was now = Unit {0}
SavesClauses (Some file) text was now = BothTold was now (λ _ files. files file ≡ Some text)

-- whatever the words are: all files are as they were, or but for the one that they name for the clauses
abbrev pub SavesNothingElse : List (List ℕ) → (was now : Option Files) → Type 0
SavesNothingElse words was now = (now ≡ was) ⊎ ((r : Request) × AsksExport words r × SavesOnly (option_copied r.cnf) was now)

-- the clauses were saved where they were to be, and the log was put
pub record IsExported (r : Request) (was now : Option Files) (old new : Option (List ℕ)) : Type 0 where
  pub texts : Texts
  pub of_files : IsExport was r texts
  pub saved : SavesClauses (option_copied r.cnf) texts.clauses.items was now
  pub others : SavesOnly (option_copied r.cnf) was now
  pub put : BothTold old new (Adds texts.log.items)

-- and the words asked for it
pub record EndsExported (words : List (List ℕ)) (was now : Option Files) (old new : Option (List ℕ)) : Type 0 where
  pub request : Request
  pub asked : AsksExport words request
  pub exported : IsExported request was now old new

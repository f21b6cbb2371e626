-- The text of a certificate: its lines in order.
use Rattle.std.specs.Prelude.{◌≡◌, ◌+◌, ◌≤◌, ⊤, ℕ, zero, suc, ◌*◌, ◌^◌, ◌<◌, ◌/◌, ◌%◌, ◌==◌, if◌then◌else◌, List, [], ◌∷◌, ◌++◌, map, slice_index_or}
use Rattle.std.specs.List.{All, list_all}
use Rattle.pg_word.specs.declared.shape.Shape.{Shape}
use Rattle.pg_word.specs.declared.sparse.Sparse.{Sparse}
use Rattle.pg_word.specs.Sparse.{IsCellList, storage_of}
use Rattle.pg_ast.specs.declared.tree.Desc.{Desc}
use Rattle.pg_lang_meaning.specs.States.{shape_of}
use Rattle.pg_image.specs.Lines.{line_cells, line_words, line_count}
use Rattle.pg_proof.specs.declared.step.Act.{Act}
use Rattle.pg_proof.specs.declared.step.Act.TheVariants as act
use Rattle.pg_type.specs.declared.kind.Kind.{Kind}
use Rattle.pg_type.specs.declared.kind.Kind.TheVariants.{Privileged}
use Rattle.pg_lang_valid.specs.Twice.{instr_names}
use Rattle.pg_cert.specs.declared.cert.Family.{Family}
use Rattle.pg_cert.specs.declared.cert.Family.TheVariants.{Plain, Hybrid}
use Rattle.pg_cert.specs.declared.cert.Finding.{Finding}
use Rattle.pg_cert.specs.declared.cert.Finding.TheVariants as finding
use Rattle.pg_cert.specs.declared.cert.Cert.{Cert}
use Rattle.pg_cert.specs.declared.line.Heading.{Heading}
use Rattle.pg_cert.specs.declared.line.Heading.TheVariants.{PlainOne, PlainTwo, HybridOne}
use Rattle.pg_cert.specs.declared.line.Found.{Found}
use Rattle.pg_cert.specs.declared.line.Found.TheVariants as found
use Rattle.pg_cert.specs.declared.line.Line.{Line}
use Rattle.pg_cert.specs.declared.line.Line.TheVariants.{First, Header, Step, Remove, Size, Psw, Cells, End}
use Rattle.pg_cert.specs.Lines.{line_text, IsLine}
use Rattle.pg_cert.specs.Verdicts.{kinds_of, kind_count}

-- ---- states

-- the line of words from cell `first` on, left out where all of them are zero
abbrev pub row_lines : ℕ → List ℕ → List Line
row_lines first words = (if list_all (λ word. word == 0) words then [] else Cells first words ∷ [])

-- the first rows of cells
unfoldable pub rows_before : ℕ → List ℕ → List Line
rows_before zero cells = []
rows_before (suc k) cells = rows_before k cells ++ row_lines (line_cells * k) (line_words k cells)

-- the rows of a storage of so many cells, of which the listed ones are not zero
abbrev pub rows_of : ℕ → List (ℕ × ℕ) → List Line
rows_of size cells = rows_before (line_count size) (storage_of size cells)

-- cells of a storage of so many that stand in the row from cell `first` on
abbrev pub AreInRow : ℕ → ℕ → List (ℕ × ℕ) → Type 0
AreInRow size first cells = All (λ cell. (first ≤ cell.0) × (cell.0 < first + line_cells) × (cell.0 < size)) cells

-- a state: its size, its program status word, and its cells that are not zero
abbrev pub state_lines : Sparse → List Line
state_lines s = Size s.size ∷ Psw s.psw ∷ rows_of s.size s.cells

-- ---- findings

abbrev pub act_line : Act → Line
act_line (act.Add step) = Step step
act_line (act.Remove numbers) = Remove numbers

abbrev pub found_of : Finding → Found
found_of (finding.Refuted acts) = found.Refuted
found_of (finding.Shown s t) = found.Shown
found_of (finding.Spent k steps) = found.Spent k

-- what stands below the header of a finding
abbrev pub body_lines : Finding → List Line
body_lines (finding.Refuted acts) = map act_line acts
body_lines (finding.Shown s t) = state_lines s ++ state_lines t
body_lines (finding.Spent k steps) = map Step steps

-- finding n, from 0, is that of this instruction and this kind
abbrev pub instr_of : Family → ℕ → ℕ
instr_of family n = n / kind_count family

abbrev pub kind_of : Family → ℕ → Kind
kind_of family n = slice_index_or (kinds_of family) (n % kind_count family) Privileged

abbrev pub name_of : Desc → ℕ → List ℕ
name_of d instr = slice_index_or (instr_names d.instrs) instr []

-- the lines of a finding of an instruction of this name
abbrev pub named_lines : List ℕ → Kind → Finding → List Line
named_lines name kind f = Header name kind (found_of f) ∷ body_lines f

abbrev pub finding_lines : Desc → Family → ℕ → Finding → List Line
finding_lines d family n f = named_lines (name_of d (instr_of family n)) (kind_of family n) f

-- findings from number n on
unfoldable pub findings_lines : Desc → Family → ℕ → List Finding → List Line
findings_lines d family n [] = []
findings_lines d family n (f ∷ fs) = finding_lines d family n f ++ findings_lines d family (suc n) fs

-- ---- certificates

-- the family of a heading, and the heading that is written today
abbrev pub family_of : Heading → Family
family_of PlainOne = Plain
family_of PlainTwo = Plain
family_of HybridOne = Hybrid

abbrev pub heading_of : Family → Heading
heading_of Plain = PlainTwo
heading_of Hybrid = HybridOne

-- the lines of a certificate under a heading
unfoldable pub cert_lines : Desc → Heading → Cert → List Line
cert_lines d heading cert = First heading ∷ findings_lines d cert.family 0 cert.findings ++ End ∷ []

-- lines, one after another
unfoldable pub lines_text : Shape → List Line → List ℕ
lines_text shape [] = []
lines_text shape (line ∷ lines) = line_text shape line ++ lines_text shape lines

abbrev pub cert_text : Desc → Heading → Cert → List ℕ
cert_text d heading cert = lines_text (shape_of d) (cert_lines d heading cert)

-- ---- what can be written

-- the cells of the states that are shown are listed in the one way. That they are within the size is part of what a
-- listed state is
abbrev pub AreListed : Finding → Type 0
AreListed (finding.Refuted acts) = ⊤
AreListed (finding.Shown s t) = IsCellList s.cells × IsCellList t.cells
AreListed (finding.Spent k steps) = ⊤

-- the words of a state have w bits
abbrev pub DoStateWordsFit : ℕ → Sparse → Type 0
DoStateWordsFit w s = All (λ cell. cell.1 < 2 ^ w) s.cells

-- the words of the states that are shown have w bits
abbrev pub DoFindingWordsFit : ℕ → Finding → Type 0
DoFindingWordsFit w (finding.Refuted acts) = ⊤
DoFindingWordsFit w (finding.Shown s t) = DoStateWordsFit w s × DoStateWordsFit w t
DoFindingWordsFit w (finding.Spent k steps) = ⊤

-- ---- what has a text of its own

-- the heading is one of the certificate's family, each line under it is in range, and the cells of the states that are
-- shown are listed in the one way
pub record IsSpellable (heading : Heading) (d : Desc) (cert : Cert) : Type 0 where
  pub family : family_of heading ≡ cert.family
  pub in_range : All (IsLine (shape_of d)) (cert_lines d heading cert)
  pub listed : All AreListed cert.findings

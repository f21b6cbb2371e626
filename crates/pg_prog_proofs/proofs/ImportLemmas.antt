-- A certificate with a finding of another solver: what follows of it, and what is left once it was saved and told.
use Rattle.std.proofs.Common.{◌≡◌, ℕ, ◌<◌, ◌≤◌, List, [], ◌∷◌, length, get_or, map, Option, Some, Result, Ok, Err, sym, subst, ◌∙◌, arith}
use Rattle.std.specs.Prelude.{string_bytes, IfOk, OnOk}
use Rattle.pg_ast.specs.declared.tree.Desc.{Desc}
use Rattle.pg_type.specs.declared.kind.Kind.{Kind}
use Rattle.pg_cert.specs.declared.cert.Finding.{Finding}
use Rattle.pg_cert.specs.declared.cert.Cert.{Cert}
use Rattle.pg_cert.specs.declared.report.Report.{Report}
use Rattle.pg_cert.specs.Reading.{read_kind}
use Rattle.pg_cert.specs.Texts.{heading_of, cert_text}
use Rattle.pg_cert.specs.Verdicts.{mark_of}
use Rattle.pg_cmd_certs.specs.Saving.{HoldsNow}
use Rattle.pg_cmd_certs.proofs.SavingLemmas.{written_means, written_again}
use Rattle.pg_edge.specs.Count.{Rose}
use Rattle.pg_edge.specs.Shelf.{Files}
use Rattle.pg_edge.specs.Sink.{Adds}
use Rattle.pg_edge.specs.Told.{BothTold}
use Rattle.pg_edge.proofs.PutsLaws.{Adds-append, AddsFront-append}
use Rattle.pg_prog_base.specs.Imported.{IsOfFile, IsPlaceOf, IsRightAt, IsReplaced}
use Rattle.pg_cmd_base.specs.Descriptions.{DescDue}
use Rattle.pg_cmd_certs.specs.Certificates.{IsCertificate}
use Rattle.pg_cmd_certs.specs.Judged.{Judged, verdict_told}
use Rattle.pg_cmd_certs.specs.Telling.{ToldAs}
use Rattle.pg_cmd_certs.specs.Views.{judged}
use Rattle.pg_cmd_base.specs.declared.status.Status.{Status}
use Rattle.pg_cmd_base.specs.Classes.{Class, Ended, Unwritten, Unread, OutOfMemory, class_of}
use Rattle.pg_cmd_base.specs.Steps.{Came}
use Rattle.pg_cmd_base.specs.World.{Output}
use Rattle.pg_verify.specs.Taking.{instr_named}
use Rattle.pg_prog_proofs.specs.declared.import.making.Written.{Written}
use Rattle.pg_prog_proofs.specs.declared.import.request.Request.{Request}
use Rattle.pg_prog_proofs.specs.Saved.{AsksImport, IsSavedText, IsNew, IsImport, ToldBehindAs, SavesOnce, IsImported}

-- ---- the words

module _ {X : Type 0} (text : X → List ℕ) (b c d e f g : X) where
  -- seven words, the first of which is any
  seven : (xs : List X) → 7 ≤ length xs → length xs < 8 → b ≡ get_or xs 1 b → c ≡ get_or xs 2 c → d ≡ get_or xs 3 d → e ≡ get_or xs 4 e → f ≡ get_or xs 5 f →
      g ≡ get_or xs 6 g → (a : List ℕ) × (map text xs ≡ a ∷ text b ∷ text c ∷ text d ∷ text e ∷ text f ∷ text g ∷ [])
  seven [] l m at_1 at_2 at_3 at_4 at_5 at_6 = absurd (omega arith)
  seven (x ∷ []) l m at_1 at_2 at_3 at_4 at_5 at_6 = absurd (omega arith)
  seven (x ∷ y1 ∷ []) l m at_1 at_2 at_3 at_4 at_5 at_6 = absurd (omega arith)
  seven (x ∷ y1 ∷ y2 ∷ []) l m at_1 at_2 at_3 at_4 at_5 at_6 = absurd (omega arith)
  seven (x ∷ y1 ∷ y2 ∷ y3 ∷ []) l m at_1 at_2 at_3 at_4 at_5 at_6 = absurd (omega arith)
  seven (x ∷ y1 ∷ y2 ∷ y3 ∷ y4 ∷ []) l m at_1 at_2 at_3 at_4 at_5 at_6 = absurd (omega arith)
  seven (x ∷ y1 ∷ y2 ∷ y3 ∷ y4 ∷ y5 ∷ []) l m at_1 at_2 at_3 at_4 at_5 at_6 = absurd (omega arith)
  seven (x ∷ y1 ∷ y2 ∷ y3 ∷ y4 ∷ y5 ∷ y6 ∷ []) l m at_1 at_2 at_3 at_4 at_5 at_6 = (
    text x,
    λ i. text x ∷ text (sym at_1 i) ∷ text (sym at_2 i) ∷ text (sym at_3 i) ∷ text (sym at_4 i) ∷ text (sym at_5 i) ∷ text (sym at_6 i) ∷ [],
  )
  seven (x ∷ y1 ∷ y2 ∷ y3 ∷ y4 ∷ y5 ∷ y6 ∷ y7 ∷ ys) l m at_1 at_2 at_3 at_4 at_5 at_6 = absurd (omega arith)

  pub asks_import : (xs : List X) (r : Request) → 7 ≤ length xs → length xs < 8 → b ≡ get_or xs 1 b → c ≡ get_or xs 2 c → d ≡ get_or xs 3 d → e ≡ get_or xs 4 e →
      f ≡ get_or xs 5 f → g ≡ get_or xs 6 g → r.desc.now ≡ text b → r.cert.now ≡ text c → r.instr.now ≡ text d → r.word.now ≡ text e → r.proof.now ≡ text f →
      r.file.now ≡ text g → read_kind r.word.now ≡ Some r.kind → AsksImport (map text xs) r
  asks_import xs r l m at_1 at_2 at_3 at_4 at_5 at_6 desc cert instr word proof file is_kind =
      let h = seven xs l m at_1 at_2 at_3 at_4 at_5 at_6 in
      record {
        program = h.0;
        in_order = h.1 ∙ (λ i. h.0 ∷ sym desc i ∷ sym cert i ∷ sym instr i ∷ sym word i ∷ sym proof i ∷ sym file i ∷ []);
        is_kind = is_kind;
      }

-- ---- the new certificate

pub is_saved_text : (d : Desc) (made cert : Cert) (instr : ℕ) (kind : Kind) (n : ℕ) (f : Finding) (text : List ℕ) (report : Report) → IsPlaceOf made instr kind n →
    IsRightAt d made.family n f → IsReplaced d made n f cert → text ≡ cert_text d (heading_of made.family) cert → report.family ≡ made.family →
    report.marks ≡ map mark_of cert.findings → IsSavedText d made instr kind f text report
is_saved_text d made cert instr kind n f text report asked right h whole family marks = record {
  place = n;
  asked = asked;
  right = right;
  written = record { cert = cert; of_family = h.of_family; valid = h.valid; text = whole; kept_family = family; marks = marks };
  replaced = h;
}

-- made of the files that the words name
pub is_import : (told : Option Files) (r : Request) (w : Written) (d : Desc) (made : Cert) (instr : ℕ) → w.judged.machine.desc ≡ d →
    DescDue told r.desc.now (Came d) → IsOfFile told r.cert.now d made → instr_named d r.instr.now ≡ Some instr → IsNew d made instr r w → IsImport told r w
is_import told r w d made instr same due of_file named is_new = record {
  due = subst (λ x. DescDue told r.desc.now (Came x)) (sym same) due;
  made = made;
  of_file = subst (λ x. IsOfFile told r.cert.now x made) (sym same) of_file;
  instr = instr;
  named = subst (λ x. instr_named x r.instr.now ≡ Some instr) (sym same) named;
  is_new = subst (λ x. IsNew x made instr r w) (sym same) is_new;
}

-- ---- what is left

pub told_behind : (line : List ℕ) (j : Judged) (old mid new : Output) (given : Status) → BothTold old.written mid.written (Adds line) → mid.faults ≡ old.faults →
    ToldAs j mid new given (class_of given) → ToldBehindAs line j old new given (class_of given)
told_behind line j old mid new given whole quiet = by (class_of given)
  where
    by : (k : Class) → ToldAs j mid new given k → ToldBehindAs line j old new given k
    by Ended h = record { status = h.status; written = Adds-append old.written mid.written new.written line (verdict_told j) whole h.written }
    by Unwritten h = record {
      cause = subst (λ n. Rose n new.faults) quiet h.cause;
      front = AddsFront-append old.written mid.written new.written line (verdict_told j) whole h.front;
    }
    by Unread h = h
    by OutOfMemory h = h

module _ (r : Request) (was mid now : Option Files) (before between after : ℕ) (old new : Output) (w : Written) (h : IsImport was r w) (same : mid ≡ was)
    (same_saves : between ≡ before) where
  is_imported : (given : Status) → BothTold mid now (HoldsNow r.file.now w.text.items) → SavesOnce between after →
      ToldBehindAs (string_bytes w.line) (judged w.judged) old new given (class_of given) → IsImported r was now before after old new given
  is_imported given saved once told =
      let d = w.judged.machine.desc in
      let valid = w.judged.machine.valid in
      let report = w.judged.report in
      let written = h.is_new.saved.written in
      record {
        cert = w;
        of_files = h;
        meaning = written_means d h.made.family w.text.items report valid written;
        again = λ few. subst (λ f. IsCertificate d f w.text.items report) (sym written.kept_family)
            (written_again d h.made.family w.text.items report valid written few);
        saved = subst (λ f. BothTold f now (HoldsNow r.file.now w.text.items)) same saved;
        once = subst (λ n. SavesOnce n after) same_saves once;
        told = told;
      }

  pub imported_so : {E : Type 0} (result : Result Status E) → OnOk result (BothTold mid now (HoldsNow r.file.now w.text.items)) →
      OnOk result (SavesOnce between after) → IfOk result (λ given. ToldBehindAs (string_bytes w.line) (judged w.judged) old new given (class_of given)) →
      IfOk result (IsImported r was now before after old new)
  imported_so (Ok given) saved once told = is_imported given saved once told
  imported_so (Err e) saved once told = tt

-- Bytes come to one thing at most as a certificate: what is kept of it is one, as a state is listed in one way.
use Rattle.std.proofs.Common.{◌≡◌, ℕ, List, [], ◌∷◌, map, Some, Result, Ok, Err, sym, ◌∙◌, ap}
use Rattle.std.proofs.lemmas.Option.{same_Some}
use mathlib.Core.HLevel.{is_prop→PathP}
use Rattle.pg_word.specs.Sparse.{AreWithin, AreWithin-prop}
use Rattle.pg_word.specs.declared.sparse.Sparse.{Sparse}
use Rattle.pg_ast.specs.declared.tree.Desc.{Desc}
use Rattle.pg_edge.specs.Shelf.{Files}
use Rattle.pg_cert.specs.declared.cert.Family.{Family}
use Rattle.pg_cert.specs.declared.report.Mark.{Mark}
use Rattle.pg_cert.specs.declared.report.Mark.TheVariants.{Refuted, Shown, Spent}
use Rattle.pg_cert.specs.declared.report.Report.{Report}
use Rattle.pg_report.specs.declared.line.RefusalLine.TheVariants.{Certificate}
use Rattle.pg_report.specs.declared.line.CertificateLine.{CertificateLine}
use Rattle.pg_report.specs.declared.line.CertificateLine.TheVariants as told_line
use Rattle.pg_cert_drawn.specs.Drawn.{Drawn, drawn_of}
use Rattle.pg_verify.specs.declared.fault.VerifyFault.{VerifyFault}
use Rattle.pg_verify.specs.Reader.{Progress, Reader}
use Rattle.pg_verify.specs.Feeding.{most_bytes, kept, IsReportOf}
use Rattle.pg_verify.proofs.StepLemmas.{same_ok}
use Rattle.pg_cmd_certs.specs.Certificates.{told_of_verifying, CertTextDue, CertDue}
use Rattle.pg_cmd_base.specs.FileSteps.{FromFile}
use Rattle.pg_cmd_base.specs.Refusals.{of_file}
use Rattle.pg_cmd_base.specs.Steps.{IsOne}
use Rattle.pg_cmd_base.proofs.OneSteps.{one-as, one-file}

-- ---- marks

same_sparse : (x y : Sparse) → drawn_of x ≡ drawn_of y → x ≡ y
same_sparse x y e =
    let s = ap (λ (d : Drawn). d.size) e in
    let p = ap (λ (d : Drawn). d.psw) e in
    let c = ap (λ (d : Drawn). d.cells) e in
    λ i. record { size = s i; psw = p i; cells = c i; within = is_prop→PathP (λ j. AreWithin (s j) (c j)) (λ j. AreWithin-prop (s j) (c j)) x.within y.within i }

same_mark : (m n : Mark) → kept m ≡ kept n → m ≡ n
same_mark Refuted Refuted e = cc
same_mark Refuted (Shown s t) e = absurd (cc)
same_mark Refuted (Spent k) e = absurd (cc)
same_mark (Shown s t) Refuted e = absurd (cc)
same_mark (Shown s t) (Shown x y) e =
    let first : drawn_of s ≡ drawn_of x = cc in
    let second : drawn_of t ≡ drawn_of y = cc in
    let a = same_sparse s x first in
    let b = same_sparse t y second in
    λ i. Shown (a i) (b i)
same_mark (Shown s t) (Spent k) e = absurd (cc)
same_mark (Spent k) Refuted e = absurd (cc)
same_mark (Spent k) (Shown s t) e = absurd (cc)
same_mark (Spent k) (Spent n) e = let same : k ≡ n = cc in ap (λ b. Spent b) same

same_marks : (ms ns : List Mark) → map kept ms ≡ map kept ns → ms ≡ ns
same_marks [] [] e = cc
same_marks [] (n ∷ ns) e = absurd (cc)
same_marks (m ∷ ms) [] e = absurd (cc)
same_marks (m ∷ ms) (n ∷ ns) e =
    let first : kept m ≡ kept n = cc in
    let rest : map kept ms ≡ map kept ns = cc in
    let a = same_mark m n first in
    let b = same_marks ms ns rest in
    λ i. a i ∷ b i

same_report : (p q : Progress) (r s : Report) → p ≡ q → IsReportOf p r → IsReportOf q s → r ≡ s
same_report p q r s e h k =
    let family = h.family ∙ ap (λ (x : Progress). x.family) e ∙ sym k.family in
    let marks = same_marks r.marks s.marks (h.marks ∙ ap (λ (x : Progress). x.marks) e ∙ sym k.marks) in
    λ i. record { family = family i; marks = marks i }

-- ---- bytes

same_fault : (f g : VerifyFault) → ◌≡◌ {A = Reader} (Err f) (Err g) → f ≡ g
same_fault f g e = cc

cert-one : (d : Desc) (family : Family) (bytes : List ℕ) (r s : Result Report CertificateLine) → CertTextDue d family bytes r → CertTextDue d family bytes s → r ≡ s
cert-one d family bytes (Ok a) (Ok b) h k = ap (λ x. Ok x) (same_report h.progress k.progress a b (same_ok h.progress k.progress (sym h.taken ∙ k.taken)) h.kept k.kept)
cert-one d family bytes (Ok a) (Err e) h k = absurd (let no : ◌≡◌ {A = Reader} (Ok h.progress) (Err k.fault) = sym h.taken ∙ k.first in cc)
cert-one d family bytes (Err e) (Ok b) h k = absurd (let no : ◌≡◌ {A = Reader} (Err h.fault) (Ok k.progress) = sym h.first ∙ k.taken in cc)
cert-one d family bytes (Err e) (Err f) h k =
    let same = same_fault h.fault k.fault (sym h.first ∙ k.first) in
    ap (λ x. Err x) (same_Some e f (sym h.told ∙ ap (told_of_verifying d) same ∙ k.told))

pub one-certificate : (d : Desc) (family : Family) (files : Files) (name : List ℕ) → IsOne (CertDue d family (Some files) name)
unfolding CertDue
one-certificate d family files name =
    one-as (of_file Certificate) (FromFile (Some files) name most_bytes told_line.Long (CertTextDue d family))
    (one-file files name most_bytes told_line.Long (CertTextDue d family) (cert-one d family))

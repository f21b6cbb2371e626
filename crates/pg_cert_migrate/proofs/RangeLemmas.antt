-- The lines of a log that is closed are in range, where its numbers are such as lines can have.
use Rattle.std.proofs.Common.{◌≡◌, ℕ, zero, suc, List, [], ◌∷◌, ◌++◌, map, replicate, All, Some, refl, subst}
use Rattle.std.specs.Prelude.{ℤ, slice_get}
use Rattle.std.proofs.lemmas.List.Elements.{All-nil, All-cons, All-head, All-tail}
use Rattle.std.proofs.lemmas.Option.{same_Some}
use Rattle.pg_ast.specs.declared.tree.Instr.{Instr}
use Rattle.pg_ast.specs.declared.tree.Desc.{Desc}
use Rattle.pg_word.specs.Shape.{IsShape}
use Rattle.pg_lang_meaning.specs.States.{shape_of}
use Rattle.pg_type.specs.declared.kind.Kind.{Kind}
use Rattle.pg_proof.specs.declared.step.Act.{Act}
use Rattle.pg_proof.specs.Log.{IsClosedLog}
use Rattle.pg_cert.specs.declared.cert.Family.TheVariants.{Plain}
use Rattle.pg_cert.specs.declared.cert.Finding.{Finding}
use Rattle.pg_cert.specs.declared.cert.Finding.TheVariants.{Refuted}
use Rattle.pg_cert.specs.declared.cert.Cert.{Cert}
use Rattle.pg_cert.specs.declared.line.Heading.{Heading}
use Rattle.pg_cert.specs.declared.line.Heading.TheVariants.{PlainTwo}
use Rattle.pg_cert.specs.declared.line.Found.TheVariants as found
use Rattle.pg_cert.specs.declared.line.Line.{Line}
use Rattle.pg_cert.specs.declared.line.Line.TheVariants.{First, Header, End}
use Rattle.pg_cert.specs.Lines.{IsLine}
use Rattle.pg_cert.specs.Texts.{act_line, kind_of, name_of, findings_lines, cert_lines}
use Rattle.pg_cert.specs.Validity.{IsActUnder, IsValidFinding, IsValidCert}
use Rattle.pg_cert.specs.InRange.{IsNumbered, IsFindingNumbered}
use Rattle.pg_cert.proofs.InRange.{cert_in_range}

module _ {X : Type 0} (P : X → Type 0) where
  pub All-front : (xs ys : List X) → All P (xs ++ ys) → All P xs
  All-front [] ys h = All-nil P
  All-front (x ∷ xs) ys h = All-cons P x xs (All-head P x (xs ++ ys) h) (All-front xs ys (All-tail P x (xs ++ ys) h))

  pub All-back : (xs ys : List X) → All P (xs ++ ys) → All P ys
  All-back [] ys h = h
  All-back (x ∷ xs) ys h = All-back xs ys (All-tail P x (xs ++ ys) h)

same_in : {X : Type 0} (k n : ℕ) (x y : X) → slice_get (replicate k x) n ≡ Some y → x ≡ y
same_in zero n x y e = absurd (cc)
same_in (suc k) zero x y e = same_Some x y e
same_in (suc k) (suc n) x y e = same_in k n x y e

closed_valid : (clauses : List (List ℤ)) (heading : Heading) (d : Desc) (i : Instr) (kind : Kind) (acts : List Act) →
    IsClosedLog clauses acts → All (IsActUnder heading) acts → IsValidFinding clauses heading d i kind (Refuted acts)
unfolding IsValidFinding
closed_valid clauses heading d i kind acts closed under = (closed, under)

-- each line of a log is one of a certificate of one instruction, whose kinds are all refuted so
module _ (d : Desc) (shape : IsShape (shape_of d)) (clauses : List (List ℤ)) (i : Instr) (acts : List Act) (closed : IsClosedLog clauses acts)
    (under : All (IsActUnder PlainTwo) acts) (numbered : IsNumbered clauses acts) where
  abbrev one : Desc
  one = record d { instrs = i ∷ [] }

  abbrev same : List Finding
  same = replicate 5 (Refuted acts)

  abbrev cert : Cert
  cert = record { family = Plain; findings = same }

  one_valid : IsValidCert (λ j kind. clauses) PlainTwo one cert
  one_valid = record {
    family = refl;
    whole = refl;
    each = λ n f j e at. subst (λ g. IsValidFinding clauses PlainTwo one j (kind_of Plain n) g) (same_in 5 n (Refuted acts) f e)
        (closed_valid clauses PlainTwo one j (kind_of Plain n) acts closed under);
  }

  one_numbered : (n : ℕ) (f : Finding) → slice_get same n ≡ Some f → IsFindingNumbered clauses f
  one_numbered n f e = subst (λ g. IsFindingNumbered clauses g) (same_in 5 n (Refuted acts) f e) numbered

  pub log_in_range : All (IsLine (shape_of d)) (map act_line acts)
  unfolding cert_lines findings_lines
  log_in_range =
      let rest : List Line = findings_lines one Plain 1 (replicate 4 (Refuted acts)) in
      let header : Line = Header (name_of one 0) (kind_of Plain 0) found.Refuted in
      let all = cert_in_range one shape (λ j kind. clauses) PlainTwo cert one_valid (λ n f j e at. one_numbered n f e) in
      All-tail (IsLine (shape_of d)) header (map act_line acts)
      (All-front (IsLine (shape_of d)) (header ∷ map act_line acts) rest
      (All-front (IsLine (shape_of d)) ((header ∷ map act_line acts) ++ rest) (End ∷ [])
      (All-tail (IsLine (shape_of d)) (First PlainTwo) (((header ∷ map act_line acts) ++ rest) ++ End ∷ []) all)))

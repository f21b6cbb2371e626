-- All findings of a machine, in order, are a certificate.
use Rattle.std.proofs.Common.{◌≡◌, ℕ, zero, suc, ◌*◌, ◌<◌, ◌≤◌, ◌⊎◌, inl, inr, true, List, [], ◌∷◌, ◌++◌, length, get_or, All, None, Some, refl, sym, ap, subst, ◌∙◌, arith}
use Rattle.std.specs.Prelude.{slice_get}
use Rattle.std.proofs.lemmas.Option.{same_Some, slice_get-get_or, slice_get_cases}
use Rattle.pg_ast.specs.declared.tree.Instr.{Instr}
use Rattle.pg_ast.specs.declared.tree.Desc.{Desc}
use Rattle.pg_lang_valid.specs.Valid.{IsValid}
use Rattle.pg_lang_valid.proofs.ValidFacts.{IsShape-of_valid}
use Rattle.pg_ask.specs.Question.{question}
use Rattle.pg_cert.specs.declared.cert.Family.{Family}
use Rattle.pg_cert.specs.declared.cert.Family.TheVariants.{Plain, Hybrid}
use Rattle.pg_cert.specs.declared.cert.Finding.{Finding}
use Rattle.pg_cert.specs.declared.cert.Cert.{Cert}
use Rattle.pg_cert.specs.Verdicts.{kind_count}
use Rattle.pg_cert.specs.Texts.{AreListed, instr_of, kind_of, heading_of, family_of}
use Rattle.pg_cert.specs.Validity.{may_remove, IsValidCert}
use Rattle.pg_cert.proofs.Fits.{instr_within}
use Rattle.pg_cert.proofs.InRange.{cert_in_range}
use Rattle.pg_classify.specs.Classified.{IsFoundAt, AreFound, IsClassified}

-- ---- one more

record IsLast {A : Type 0} (xs : List A) (x : A) (m : ℕ) (y : A) : Type 0 where
  place : m ≡ length xs
  same : x ≡ y

pushed : {A : Type 0} (xs : List A) (x : A) (m : ℕ) (y : A) → slice_get (xs ++ x ∷ []) m ≡ Some y →
    (slice_get xs m ≡ Some y) ⊎ IsLast xs x m y
pushed [] x zero y e = inr (record { place = refl; same = same_Some x y e })
pushed [] x (suc m) y e = absurd (cc)
pushed (z ∷ xs) x zero y e = inl e
pushed (z ∷ xs) x (suc m) y e = elim (pushed xs x m y e) [ inl h ↦ inl h | inr h ↦ inr (record { place = ap suc h.place; same = h.same }) ]

pub none_found : (d : Desc) (family : Family) (budget : ℕ) → AreFound d family budget []
none_found d family budget = λ n f e. absurd (cc)

pub one_more_found : (d : Desc) (family : Family) (budget number : ℕ) (findings : List Finding) (f : Finding) →
    length findings ≡ number → AreFound d family budget findings →
    IsFoundAt d (instr_of family number) (kind_of family number) budget f → AreFound d family budget (findings ++ f ∷ [])
one_more_found d family budget number findings f count before one = λ n g e. elim (pushed findings f n g e) [
  | inl h ↦ before n g h
  | inr h ↦ subst (λ x. IsFoundAt d (instr_of family n) (kind_of family n) budget x) h.same
      (subst (λ m. IsFoundAt d (instr_of family m) (kind_of family m) budget f) (sym (h.place ∙ count)) one)
]

-- ---- all of them

heading_family : (family : Family) → family_of (heading_of family) ≡ family
heading_family Plain = refl
heading_family Hybrid = refl

heading_removes : (family : Family) → may_remove (heading_of family) ≡ true
heading_removes Plain = refl
heading_removes Hybrid = refl

module _ (d : Desc) (valid : IsValid d) (family : Family) (budget : ℕ) (findings : List Finding)
    (whole : length findings ≡ length d.instrs * kind_count family) (found : AreFound d family budget findings) where
  abbrev cert : Cert
  cert = record { family = family; findings = findings }

  certified : IsValidCert (question d) (heading_of family) d cert
  certified = record {
    family = heading_family family;
    whole = whole;
    each = λ n f i e at. (found n f e i at).valid (heading_of family) (heading_removes family);
  }

  all_listed : All AreListed findings
  all_listed = λ n f l. by n f l (slice_get_cases d.instrs (instr_of family n)).1
    where
      by : (n : ℕ) (f : Finding) → n < length findings →
          ((i : Instr) × (instr_of family n < length d.instrs) × (slice_get d.instrs (instr_of family n) ≡ Some i) ×
          (get_or d.instrs (instr_of family n) i ≡ i)) ⊎
          ((length d.instrs ≤ instr_of family n) × (slice_get d.instrs (instr_of family n) ≡ None)) →
          AreListed (get_or findings n f)
      by n f l (inl there) = (found n (get_or findings n f) (slice_get-get_or findings n f l) there.0 there.2).listed
      by n f l (inr past) =
          let inside = instr_within family n (length findings) (length d.instrs) whole l in
          let beyond = past.0 in
          absurd (omega arith)

  pub classified : IsClassified d family budget cert
  classified = record {
    of_family = refl;
    valid = certified;
    in_range = cert_in_range d (IsShape-of_valid d valid) (question d) (heading_of family) cert certified
        (λ n f i e at. (found n f e i at).numbered);
    listed = all_listed;
    searched = λ n f i e at. (found n f e i at).searched;
  }

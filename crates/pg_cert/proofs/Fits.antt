-- The words of states that show a kind fit, and so do those that are listed; so those of a valid certificate fit.
use Rattle.std.proofs.Common.{◌≡◌, ℕ, ◌*◌, ◌^◌, ◌<◌, ◌≤◌, ◌⊎◌, inl, inr, ℤ, List, length, get_or, All, Some, None, refl, sym, subst, arith}
use Rattle.std.specs.Prelude.{slice_get}
use Rattle.std.proofs.lemmas.List.Elements.{All-from_get_or}
use Rattle.std.proofs.lemmas.Option.{slice_get-get_or, slice_get_cases}
use Rattle.pg_word.specs.declared.sparse.Sparse.{Sparse}
use Rattle.pg_word.specs.Sparse.{address_at, IsCellList, storage_of}
use Rattle.pg_word.proofs.SparseLemmas.{length-storage_of, listed_holds}
use Rattle.pg_ast.specs.declared.tree.Desc.{Desc}
use Rattle.pg_ast.specs.declared.tree.Instr.{Instr}
use Rattle.pg_lang_meaning.specs.States.{State}
use Rattle.pg_type.specs.declared.kind.Kind.{Kind}
use Rattle.pg_type.specs.declared.kind.Kind.TheVariants.{Privileged, Control, ModeDep, Location, Bound, UControl, ULocation, UBound}
use Rattle.pg_type.specs.Kinds.{Shows}
use Rattle.pg_type.specs.Listed.{state_of}
use Rattle.pg_cert.specs.declared.cert.Family.{Family}
use Rattle.pg_cert.specs.declared.cert.Family.TheVariants.{Plain, Hybrid}
use Rattle.pg_cert.specs.declared.cert.Finding.{Finding}
use Rattle.pg_cert.specs.declared.cert.Finding.TheVariants as finding
use Rattle.pg_cert.specs.declared.cert.Cert.{Cert}
use Rattle.pg_cert.specs.declared.line.Heading.{Heading}
use Rattle.pg_cert.specs.Verdicts.{kind_count}
use Rattle.pg_cert.specs.Texts.{instr_of, kind_of, AreListed, DoStateWordsFit, DoFindingWordsFit}
use Rattle.pg_cert.specs.Validity.{IsValidFinding, IsValidCert}

listed_fit : (w : ℕ) (s : Sparse) → IsCellList s.cells → All (λ word. word < 2 ^ w) (storage_of s.size s.cells) →
    DoStateWordsFit w s
listed_fit w s listed h =
    All-from_get_or (λ cell. cell.1 < 2 ^ w) s.cells (0, 0) (λ i l.
    let at : ℕ = address_at s.cells i in
    let inside : at < s.size = s.within i (0, 0) l in
    let fits : get_or (storage_of s.size s.cells) at 0 < 2 ^ w =
    h at 0 (omega (arith, length-storage_of s.size s.cells)) in
    subst (λ word. word < 2 ^ w) (listed_holds s.size s.cells at i inside listed l refl) fits)

module _ (d : Desc) (i : Instr) where
  abbrev Fits : State → Type 0
  Fits s = All (λ word. word < 2 ^ d.word) s.cells

  words_shown : (kind : Kind) (s t : State) → Shows d i kind s t → Fits s × Fits t
  words_shown Privileged s t h = (h.pair.state.words, subst Fits (sym h.pair.same_in_user) h.pair.state.words)
  words_shown Control s t h = (h.state.words, subst Fits (sym h.same) h.state.words)
  words_shown ModeDep s t h = (h.pair.state.words, subst Fits (sym h.pair.same_in_user) h.pair.state.words)
  words_shown Location s t h = (h.first.words, h.second.words)
  words_shown Bound s t h = (h.first.words, h.second.words)
  words_shown UControl s t h = (h.0.state.words, subst Fits (sym h.0.same) h.0.state.words)
  words_shown ULocation s t h = (h.0.first.words, h.0.second.words)
  words_shown UBound s t h = (h.0.first.words, h.0.second.words)

  pub shown_fit : (kind : Kind) (s t : Sparse) → IsCellList s.cells → IsCellList t.cells →
      Shows d i kind (state_of s) (state_of t) → DoStateWordsFit d.word s × DoStateWordsFit d.word t
  shown_fit kind s t ls lt h =
      let both = words_shown kind (state_of s) (state_of t) h in
      (listed_fit d.word s ls both.0, listed_fit d.word t lt both.1)

-- ---- certificates

pub instr_within : (family : Family) (n findings instrs : ℕ) → findings ≡ instrs * kind_count family → n < findings →
    instr_of family n < instrs
instr_within Plain n findings instrs e l = omega arith
instr_within Hybrid n findings instrs e l = omega arith

module _ (question : Instr → Kind → List (List ℤ)) (heading : Heading) (d : Desc) where
  finding_fits : (i : Instr) (kind : Kind) (f : Finding) → AreListed f →
      IsValidFinding (question i kind) heading d i kind f → DoFindingWordsFit d.word f
  unfolding IsValidFinding
  finding_fits i kind (finding.Refuted acts) listed h = tt
  finding_fits i kind (finding.Shown s t) listed h = shown_fit d i kind s t listed.0 listed.1 h
  finding_fits i kind (finding.Spent k steps) listed h = tt

  pub cert_fits : (cert : Cert) → All AreListed cert.findings → IsValidCert question heading d cert →
      All (DoFindingWordsFit d.word) cert.findings
  cert_fits cert listed valid = λ n f l. by n f l (slice_get_cases d.instrs (instr_of cert.family n)).1
    where
      by : (n : ℕ) (f : Finding) → n < length cert.findings →
          ((i : Instr) × (instr_of cert.family n < length d.instrs) ×
          (slice_get d.instrs (instr_of cert.family n) ≡ Some i) × (get_or d.instrs (instr_of cert.family n) i ≡ i)) ⊎
          ((length d.instrs ≤ instr_of cert.family n) × (slice_get d.instrs (instr_of cert.family n) ≡ None)) →
          DoFindingWordsFit d.word (get_or cert.findings n f)
      by n f l (inl there) =
          let own : Finding = get_or cert.findings n f in
          finding_fits there.0 (kind_of cert.family n) own (listed n f l)
          (valid.each n own there.0 (slice_get-get_or cert.findings n f l) there.2)
      by n f l (inr past) =
          let inside = instr_within cert.family n (length cert.findings) (length d.instrs) valid.whole l in
          let beyond = past.0 in
          absurd (omega arith)

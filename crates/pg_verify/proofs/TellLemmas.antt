-- What the marks of a text that is not refused tell: its logs are sound, and questions are exact.
use Rattle.std.proofs.Common.{◌≡◌, ℕ, Bool, true, List, [], ◌∷◌, length, Option, None, Some, Ok, is_none, refl, sym, ap, subst, ◌∙◌, ℤ, IsTrue, slice_get}
use Rattle.std.specs.Prelude.{IsSomeAnd}
use Rattle.std.specs.Option.{option_and_then, option_map}
use Rattle.std.proofs.lemmas.List.{length-map}
use Rattle.std.proofs.lemmas.Option.{same_Some, cond_some, slice_get-map}
use Rattle.pg_ast.specs.declared.tree.Instr.{Instr}
use Rattle.pg_ast.specs.declared.tree.Desc.{Desc}
use Rattle.pg_lang_valid.specs.Valid.{IsValid}
use Rattle.pg_type.specs.declared.kind.Kind.{Kind}
use Rattle.pg_cnf.specs.Truth.{clauses_true}
use Rattle.pg_proof.specs.declared.step.ProofFault.{ProofFault}
use Rattle.pg_proof.specs.declared.step.Act.{Act}
use Rattle.pg_proof.specs.declared.step.Act.TheVariants as act
use Rattle.pg_proof.specs.State.{State as Log, begun, with_clause}
use Rattle.pg_proof.specs.Refutation.{fault_of}
use Rattle.pg_proof.specs.Removal.{without}
use Rattle.pg_proof.specs.Sound.{IsSound}
use Rattle.pg_proof.specs.Log.{after_act, after_acts_from, after_acts, IsClosedLog}
use Rattle.pg_proof.proofs.SoundLemmas.{IsSound-begun, IsSound-added}
use Rattle.pg_proof.proofs.RemovalLemmas.{IsSound-without}
use Rattle.pg_ask.specs.Question.{question}
use Rattle.pg_ask.specs.Means.{QuestionsExact}
use Rattle.pg_cert.specs.declared.cert.Family.{Family}
use Rattle.pg_cert.specs.declared.cert.Finding.{Finding}
use Rattle.pg_cert.specs.declared.cert.Finding.TheVariants as finding
use Rattle.pg_cert.specs.declared.line.Heading.{Heading}
use Rattle.pg_cert.specs.Verdicts.{mark_of}
use Rattle.pg_cert.specs.Texts.{instr_of, kind_of}
use Rattle.pg_cert.specs.Validity.{IsValidFinding}
use Rattle.pg_verify.specs.Reader.{Mark, Progress}
use Rattle.pg_verify.specs.Feeding.{kept, verified}
use Rattle.pg_verify.specs.Verified.{Spells, Tells, AreTold}
use Rattle.pg_verify.proofs.SpellLemmas.{taken_texts_spell}

-- ---- logs are sound

none_is : (o : Option ProofFault) → is_none o ≡ true → o ≡ None
none_is None e = refl
none_is (Some f) e = cc

sound_act : (question : List (List ℤ)) (state after : Log) (a : Act) → IsSound question state →
    after_act state a ≡ Some after → IsSound question after
sound_act question state after (act.Add step) s e =
    let h = cond_some (is_none (fault_of state.variables state.held step)) (with_clause state step.lits) after e in
    subst (λ x. IsSound question x) h.1
    (IsSound-added question state step (none_is (fault_of state.variables state.held step) h.0) s)
sound_act question state after (act.Remove numbers) s e = by (without state.held numbers) refl e
  where
    by : (o : Option (List (Option (List ℤ)))) → without state.held numbers ≡ o →
        option_map (λ held. record state { held = held }) o ≡ Some after → IsSound question after
    by None eo e = absurd (cc)
    by (Some held) eo e = subst (λ x. IsSound question x) (same_Some (record state { held = held }) after e)
        (IsSound-without question state numbers held eo s)

sound_acts : (question : List (List ℤ)) (state log : Log) (acts : List Act) → IsSound question state →
    after_acts_from state acts ≡ Some log → IsSound question log
sound_acts question state log [] s e = subst (λ x. IsSound question x) (same_Some state log e) s
sound_acts question state log (a ∷ acts) s e =
    by (after_act state a) refl e (λ x h k. sound_acts question x log acts h k)
  where
    by : (o : Option Log) → after_act state a ≡ o → option_and_then (λ x. after_acts_from x acts) o ≡ Some log →
        ((x : Log) → IsSound question x → after_acts_from x acts ≡ Some log → IsSound question log) →
        IsSound question log
    by None eo e rest = absurd (cc)
    by (Some x) eo e rest = rest x (sound_act question state x a s eo) e

-- nothing makes the question of a closed log true
pub closed_refutes : (question : List (List ℤ)) (acts : List Act) → IsClosedLog question acts → (a : List Bool) →
    clauses_true a question ≡ true → ⊥
closed_refutes question acts c a t = by (after_acts question acts) refl c
  where
    by : (o : Option Log) → after_acts question acts ≡ o → IsSomeAnd o (λ after. IsTrue after.closed) → ⊥
    by None eo h = h
    by (Some log) eo h = (sound_acts question (begun question) log acts (IsSound-begun question) eo).refuted h a t

-- ---- marks

module _ (d : Desc) (exact : QuestionsExact d) (valid : IsValid d) where
  finding_tells : (heading : Heading) (k : ℕ) (i : Instr) (kind : Kind) (f : Finding) → slice_get d.instrs k ≡ Some i →
      IsValidFinding (question d i kind) heading d i kind f → Tells d i kind (kept (mark_of f))
  unfolding IsValidFinding
  finding_tells heading k i kind (finding.Refuted acts) at h = λ s t shows. let there =
      (exact k i kind valid at).1 (s, t, shows) in closed_refutes (question d i kind) acts h.0 there.0 there.1
  finding_tells heading k i kind (finding.Shown s t) at h = h
  finding_tells heading k i kind (finding.Spent n steps) at h = tt

  spelled_tells : (family : Family) (bytes : List ℕ) (p : Progress) (h : Spells d family bytes p) →
      AreTold d h.cert.family p.marks
  spelled_tells family bytes p h = record {
    whole = ap length h.marks ∙ length-map h.cert.findings (λ f. kept (mark_of f)) ∙ h.valid.valid.whole;
    each = λ n mark i get at. by n mark i (slice_get h.cert.findings n) refl
        (sym (slice_get-map (λ f. kept (mark_of f)) h.cert.findings n) ∙ ap (λ ms. slice_get ms n) (sym h.marks) ∙ get)
        at;
  }
    where
      by : (n : ℕ) (mark : Mark) (i : Instr) (o : Option Finding) → slice_get h.cert.findings n ≡ o →
          option_map (λ f. kept (mark_of f)) o ≡ Some mark → slice_get d.instrs (instr_of h.cert.family n) ≡ Some i →
          Tells d i (kind_of h.cert.family n) mark
      by n mark i None eo e at = absurd (cc)
      by n mark i (Some f) eo e at =
          subst (λ m. Tells d i (kind_of h.cert.family n) m) (same_Some (kept (mark_of f)) mark e)
          (finding_tells h.heading (instr_of h.cert.family n) i (kind_of h.cert.family n) f at
          (h.valid.valid.each n f i eo at))

  pub taken_texts_tell : (family : Family) (bytes : List ℕ) (p : Progress) → verified d family bytes ≡ Ok p →
      AreTold d family p.marks
  taken_texts_tell family bytes p e =
      let h = taken_texts_spell d family bytes p e in
      subst (λ x. AreTold d x p.marks) h.of_family (spelled_tells family bytes p h)

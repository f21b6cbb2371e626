-- A certificate that is saved: what follows of it, and what is left.
use Rattle.std.proofs.Common.{◌≡◌, ℕ, ◌*◌, ◌≤◌, List, [], ◌∷◌, length, map, All, Option, None, Some, Ok, inl, inr, refl, sym, ap, subst, ◌∙◌}
use Rattle.std.proofs.lemmas.List.Elements.{All-map, All-weaker}
use Rattle.pg_ast.specs.declared.tree.Desc.{Desc}
use Rattle.pg_lang_valid.specs.Valid.{IsValid}
use Rattle.pg_ask.specs.Question.{question}
use Rattle.pg_cert.specs.declared.cert.Family.{Family}
use Rattle.pg_cert.specs.declared.cert.Finding.{Finding}
use Rattle.pg_cert.specs.declared.cert.Finding.TheVariants as finding
use Rattle.pg_cert.specs.declared.report.Report.{Report}
use Rattle.pg_cert.specs.Texts.{heading_of, cert_text, DoFindingWordsFit}
use Rattle.pg_cert.specs.Verdicts.{kind_count, mark_of}
use Rattle.pg_cert.proofs.Fits.{cert_fits}
use Rattle.pg_edge.specs.Count.{Rose}
use Rattle.pg_edge.specs.Told.{BothTold}
use Rattle.pg_report.specs.Verdicts.{DoMarkWordsFit}
use Rattle.pg_verify.specs.Feeding.{most_bytes, verified, kept}
use Rattle.pg_verify.specs.Verified.{IsTaken}
use Rattle.pg_verify.proofs.SpellLemmas.{taken_texts_spell}
use Rattle.pg_verify.proofs.TakeLemmas.{valid_texts_are_taken}
use Rattle.pg_cmd_certs.specs.Certificates.{IsCertificate}
use Rattle.pg_cmd_certs.specs.Judged.{Judged, verdict_on, verdict_status, verdict_told}
use Rattle.pg_cmd_certs.specs.Telling.{ToldWhole, ToldAs}
use Rattle.pg_cmd_certs.specs.Meaning.{VerdictMeans}
use Rattle.pg_cmd_certs.specs.Saving.{IsWritten, HoldsNow, HoldsAtMost, HasSaved, IsSaved, EndsSaved, LeavesUnsaved, SavedAs}
use Rattle.pg_cmd_base.specs.declared.status.Status.{Status}
use Rattle.pg_cmd_base.specs.Classes.{Class, Ended, Unwritten, Unread, OutOfMemory, class_of}
use Rattle.pg_cmd_base.specs.Commands.{Command, CarriesAs, Carries}
use Rattle.pg_cmd_base.specs.Steps.{Came}
use Rattle.pg_cmd_base.specs.World.{World, Breaks}
use Rattle.pg_cmd_certs.proofs.VerdictMeanings.{certificate_means, certificate_whole}

-- ---- a certificate at hand

mark_fits : (w : ℕ) (f : Finding) → DoFindingWordsFit w f → DoMarkWordsFit w (mark_of f)
mark_fits w (finding.Refuted acts) h = tt
mark_fits w (finding.Shown s t) h = h
mark_fits w (finding.Spent k steps) h = tt

kept_marks : (fs : List Finding) → map kept (map mark_of fs) ≡ map (λ f. kept (mark_of f)) fs
kept_marks [] = refl
kept_marks (f ∷ fs) = ap (λ ms. kept (mark_of f) ∷ ms) (kept_marks fs)

module _ (d : Desc) (family : Family) (bytes : List ℕ) (report : Report) (valid : IsValid d) (h : IsWritten d family bytes report) where
  pub written_whole : length report.marks ≡ length d.instrs * kind_count report.family
  written_whole =
      certificate_whole d valid family (heading_of family) h.cert report h.valid.valid h.of_family h.kept_family h.marks

  pub written_fit : All (DoMarkWordsFit d.word) report.marks
  written_fit =
      subst (λ ms. All (DoMarkWordsFit d.word) ms) (sym h.marks)
      (All-map (DoMarkWordsFit d.word) mark_of h.cert.findings
      (All-weaker (DoFindingWordsFit d.word) (λ f. DoMarkWordsFit d.word (mark_of f)) (mark_fits d.word) h.cert.findings
      (cert_fits (question d) (heading_of family) d h.cert h.valid.listed h.valid.valid)))

  pub written_means : VerdictMeans d report
  written_means =
      certificate_means d valid family (heading_of family) h.cert report h.valid.valid h.of_family h.kept_family h.marks

  -- its text is taken where it is not too long, and its marks are kept
  pub written_again : length bytes ≤ most_bytes → IsCertificate d family bytes report
  written_again few =
      let taken : IsTaken d (heading_of family) h.cert =
      valid_texts_are_taken d (heading_of family) h.cert valid h.valid (subst (λ bs. length bs ≤ most_bytes) h.text few) in
      let verified_so : verified d family bytes ≡ Ok taken.progress =
      ap (verified d family) h.text ∙ ap (λ f. verified d f (cert_text d (heading_of family) h.cert)) (sym h.of_family) ∙ taken.taken in
      record {
        progress = taken.progress;
        taken = verified_so;
        spelled = taken_texts_spell d family bytes taken.progress verified_so;
        kept = record {
          family = h.kept_family ∙ sym h.of_family ∙ sym taken.family;
          marks = ap (map kept) h.marks ∙ kept_marks h.cert.findings ∙ sym taken.marks;
        };
      }

-- ---- a save

pub both_told : {A : Type 0} (was now : Option A) (P Q : A → A → Type 0) → BothTold was now P → BothTold was now Q →
    BothTold was now (λ x y. P x y × Q x y)
both_told None None P Q p q = tt
both_told None (Some y) P Q p q = p
both_told (Some x) None P Q p q = p
both_told (Some x) (Some y) P Q p q = (p, q)

pub same_but : {A : Type 0} (was now : Option A) (P Q : A → A → Type 0) → BothTold was now (λ x y. P x y × Q x y) → BothTold was now Q
same_but None None P Q h = tt
same_but None (Some y) P Q h = h
same_but (Some x) None P Q h = h
same_but (Some x) (Some y) P Q h = h.1

-- ---- what is left

module _ (name : List ℕ) (family : Family) (old new : World) (bytes : List ℕ) (j : Judged) (valid : IsValid j.desc)
    (h : IsWritten j.desc family bytes j.report) where
  pub is_saved : HasSaved name bytes old new → IsSaved name j.desc family bytes j.report old new
  is_saved saved = record {
    meaning = written_means j.desc family bytes j.report valid h;
    again = written_again j.desc family bytes j.report valid h;
    saved = saved;
  }

  pub ends_saved : new.hw ≡ old.hw → HasSaved name bytes old new →
      EndsSaved name family bytes j old new (verdict_status (verdict_on j)) (verdict_told j)
  ends_saved hw saved = record { status = refl; wording = refl; saving = is_saved saved; hw = hw }

-- ---- a command that saves, and tells the verdict

saved-as : (c : Command) (name bytes : List ℕ) (j : Judged) (old new : World) (work : c.Work) (given : Status) (k : Class) → c.due old.files (Came work) → c.saved ≡ Some name →
    (HasSaved name bytes old new → c.ends work old new (verdict_status (verdict_on j)) (verdict_told j)) →
    (LeavesUnsaved name bytes old new → c.unsaved work old new) → SavedAs name bytes j old new given k → CarriesAs c old new given k
saved-as c name bytes j old new work given Ended due saves ends unsaved h = inr (record {
  work = work;
  is_due = due;
  came = record { text = verdict_told j; ends = subst (λ s. c.ends work old new s (verdict_told j)) (sym h.told.status) (ends h.saved); written = h.told.written };
})
saved-as c name bytes j old new work given Unwritten due saves ends unsaved (inl h) =
    inr (inr (record { work = work; is_due = due; name = name; saves = saves; cause = h.cause; silent = h.silent; left = unsaved h.unsaved }))
saved-as c name bytes j old new work given Unwritten due saves ends unsaved (inr h) =
    inr (inl (record { work = work; is_due = due; given = verdict_status (verdict_on j); text = verdict_told j; ends = ends h.saved; front = h.front }))
saved-as c name bytes j old new work given Unread due saves ends unsaved h = absurd h
saved-as c name bytes j old new work given OutOfMemory due saves ends unsaved h = absurd h

-- what was lent to the save, after steps that only read
saved-since : (name bytes : List ℕ) (j : Judged) (old mid new : World) (given : Status) (k : Class) → mid.files ≡ old.files → mid.save_faults ≡ old.save_faults →
    mid.out ≡ old.out → mid.hw ≡ old.hw → SavedAs name bytes j mid new given k → SavedAs name bytes j old new given k
saved-since name bytes j old mid new given Ended files saves out hw h = record {
  saved = record { saved = subst (λ f. BothTold f new.files (HoldsNow name bytes)) files h.saved.saved; whole = h.saved.whole ∙ saves };
  told = subst (λ o. ToldWhole j o new.out given) out h.told;
}
saved-since name bytes j old mid new given Unwritten files saves out hw (inl h) = inl (record {
  cause = subst (λ n. Rose n new.save_faults) saves h.cause;
  silent = h.silent ∙ out;
  unsaved = record { left = subst (λ f. BothTold f new.files (HoldsAtMost name bytes)) files h.unsaved.left; hw = h.unsaved.hw ∙ hw };
})
saved-since name bytes j old mid new given Unwritten files saves out hw (inr h) = inr (record {
  saved = record { saved = subst (λ f. BothTold f new.files (HoldsNow name bytes)) files h.saved.saved; whole = h.saved.whole ∙ saves };
  front = subst (λ o. Breaks (verdict_told j) o new.out) out h.front;
})
saved-since name bytes j old mid new given Unread files saves out hw h = h
saved-since name bytes j old mid new given OutOfMemory files saves out hw h = h

pub carries-saved : (c : Command) (name bytes : List ℕ) (j : Judged) (old mid new : World) (work : c.Work) (given : Status) → c.due old.files (Came work) → c.saved ≡ Some name →
    (HasSaved name bytes old new → c.ends work old new (verdict_status (verdict_on j)) (verdict_told j)) →
    (LeavesUnsaved name bytes old new → c.unsaved work old new) →
    mid.files ≡ old.files → mid.save_faults ≡ old.save_faults → mid.out ≡ old.out → mid.hw ≡ old.hw → SavedAs name bytes j mid new given (class_of given) → Carries c old new given
carries-saved c name bytes j old mid new work given due saves ends unsaved files save_faults out hw h = record {
  by_class = saved-as c name bytes j old new work given (class_of given) due saves ends unsaved
      (saved-since name bytes j old mid new given (class_of given) files save_faults out hw h);
}

-- a verdict that is told behind a save
pub saved-told : (name bytes : List ℕ) (j : Judged) (old new : World) (given : Status) → HasSaved name bytes old new →
    ToldAs j old.out new.out given (class_of given) → SavedAs name bytes j old new given (class_of given)
saved-told name bytes j old new given saved told = by (class_of given) told
  where
    by : (k : Class) → ToldAs j old.out new.out given k → SavedAs name bytes j old new given k
    by Ended h = record { saved = saved; told = h }
    by Unwritten h = inr (record { saved = saved; front = h })
    by Unread h = h
    by OutOfMemory h = h

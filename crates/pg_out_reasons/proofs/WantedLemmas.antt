-- Marks that are pushed one after another.
use Rattle.std.proofs.Common.{◌≡◌, ℕ, zero, suc, ◌<◌, Bool, true, false, List, [], ◌∷◌, ◌++◌, length, get_or, slice_get, Some, sym, ap, ◌∙◌, subst}
use Rattle.std.proofs.lemmas.Option.{same_Some, slice_get-get_or, slice_get_within}
use Rattle.pg_cert.specs.declared.report.Report.{Report}
use Rattle.pg_cert.specs.Verdicts.{breaks, kind_count, marks_of}
use Rattle.pg_out_guarded.specs.Broken.{AreBroken}
use Rattle.pg_out_reasons.specs.Mending.{AreWanted}

pushed : (P : ℕ → Type 0) (xs : List Bool) (x : Bool) → ((k : ℕ) → slice_get xs k ≡ Some true → P k) → (x ≡ true → P (length xs)) →
    (k : ℕ) → slice_get (xs ++ x ∷ []) k ≡ Some true → P k
pushed P [] x h last zero e = last (same_Some x true e)
pushed P [] x h last (suc k) e = absurd (cc)
pushed P (z ∷ xs) x h last zero e = h zero e
pushed P (z ∷ xs) x h last (suc k) e = pushed (λ n. P (suc n)) xs x (λ n f. h (suc n) f) last k e

-- one mark more: it is true only where the instruction is broken
pub wanted-next : (broken marks : List Bool) (x : Bool) (n : ℕ) → length marks ≡ n → n < length broken →
    ((k : ℕ) → slice_get marks k ≡ Some true → slice_get broken k ≡ Some true) → (x ≡ true → get_or broken n false ≡ true) →
    (k : ℕ) → slice_get (marks ++ x ∷ []) k ≡ Some true → slice_get broken k ≡ Some true
wanted-next broken marks x n whole l h last =
    let P : ℕ → Type 0 = λ k. slice_get broken k ≡ Some true in
    pushed P marks x h (λ e. subst P (sym whole) (slice_get-get_or broken n false l ∙ ap Some (last e)))

pub are-wanted : (report : Report) (count : ℕ) (broken marks : List Bool) → AreBroken report count broken → length marks ≡ count →
    ((k : ℕ) → slice_get marks k ≡ Some true → slice_get broken k ≡ Some true) → AreWanted report count marks
are-wanted report count broken marks b whole h = record {
  whole = whole;
  broken = λ k e.
      let within : k < count = subst (λ n. k < n) b.whole (slice_get_within broken k true (h k e)) in
      same_Some (breaks (marks_of (kind_count report.family) report.marks k)) true (sym (b.each k within) ∙ h k e);
}

-- How far the lines of a text have been read.
use Rattle.std.proofs.Common.{◌≡◌, ℕ, suc, ◌+◌, ◌≤◌, Bool, true, if◌then◌else◌, List, [], ◌∷◌, length, Result, Ok, Err, refl, sym, ap, subst, ◌∙◌, arith}
use Rattle.std.specs.Prelude.{◌==◌, IfOk}
use Rattle.std.proofs.lemmas.Bool.{eqb-true, le-ltb}
use Rattle.pg_word.specs.declared.shape.Shape.{Shape}
use Rattle.pg_move.specs.declared.fault.SavedFault.{SavedFault}
use Rattle.pg_move.specs.declared.fault.SavedFault.TheVariants as fault
use Rattle.pg_move.specs.declared.saved.Saved.{Saved}
use Rattle.pg_move.specs.Texts.{IsSaved, most_bytes}
use Rattle.pg_move.specs.Reading.{SavedReader, Fresh, cut_lines, after_saved_line, then_read, finished, read_lines, saved_due}
use Rattle.pg_move.specs.Seen.{guest_of, IsAnswer}
use Rattle.pg_move.proofs.SpellLemmas.{texts_spelled}

-- what is left of a text, behind the lines before this number, says what the whole text does
pub record IsReadSoFar (shape : Shape) (bytes left : List ℕ) (n : ℕ) (r : SavedReader) : Type 0 where
  pub leads : read_lines shape 1 Fresh (cut_lines bytes) ≡ read_lines shape n r (cut_lines left)
  pub count : n + length left ≤ length bytes + 1

pub IsReadSoFar-begun : (shape : Shape) (bytes : List ℕ) → IsReadSoFar shape bytes bytes 1 Fresh
IsReadSoFar-begun shape bytes = record { leads = refl; count = omega arith }

module _ (shape : Shape) (bytes left first behind : List ℕ) (n : ℕ) (r : SavedReader)
    (cut : cut_lines left ≡ first ∷ cut_lines behind) (h : IsReadSoFar shape bytes left n r) where
  pub IsReadSoFar-next : (next : SavedReader) → after_saved_line shape n r first ≡ Ok next →
      length first + length behind ≡ length left → 1 ≤ length first → IsReadSoFar shape bytes behind (n + 1) next
  unfolding read_lines
  IsReadSoFar-next next e len some =
      let count = h.count in
      let k : suc n ≡ n + 1 = omega arith in
      record {
        leads = h.leads ∙ ap (read_lines shape n r) cut
            ∙ ap (λ x. then_read x (λ q. read_lines shape (suc n) q (cut_lines behind))) e
            ∙ ap (λ m. read_lines shape m next (cut_lines behind)) k;
        count = omega (arith, len, some, count);
      }

  pub read_refused : (f : SavedFault) → after_saved_line shape n r first ≡ Err f →
      read_lines shape 1 Fresh (cut_lines bytes) ≡ Err f
  unfolding read_lines
  read_refused f e = h.leads ∙ ap (read_lines shape n r) cut
      ∙ ap (λ x. then_read x (λ q. read_lines shape (suc n) q (cut_lines behind))) e

pub read_over : (shape : Shape) (bytes left : List ℕ) (n : ℕ) (r : SavedReader) (result : Result Saved SavedFault) →
    left ≡ [] → IsReadSoFar shape bytes left n r → IsAnswer (finished n r) result →
    IsAnswer (read_lines shape 1 Fresh (cut_lines bytes)) result
unfolding read_lines cut_lines
read_over shape bytes left n r result none h a =
    subst (λ due. IsAnswer due result) (sym (h.leads ∙ ap (λ bs. read_lines shape n r (cut_lines bs)) none)) a

pub none_left : (left : List ℕ) (b : Bool) → b ≡ (length left == 0) → b ≡ true → left ≡ []
none_left [] b e f = refl
none_left (c ∷ cs) b e f = absurd (omega (arith, eqb-true (length (c ∷ cs)) 0 (sym e ∙ f)))

-- what is answered is in range
pub read_in_range : (shape : Shape) (bytes : List ℕ) (r : Result Saved SavedFault) → length bytes ≤ most_bytes →
    IsAnswer (read_lines shape 1 Fresh (cut_lines bytes)) r → IfOk r (λ saved. IsSaved shape (guest_of saved))
unfolding saved_due
read_in_range shape bytes (Ok saved) l h =
    let due : saved_due shape bytes ≡ Ok (guest_of saved) =
    ap (λ (b : Bool). if b then Err fault.Long else read_lines shape 1 Fresh (cut_lines bytes)) (le-ltb most_bytes (length bytes) l) ∙ h in
    (texts_spelled shape bytes (guest_of saved) due).0
read_in_range shape bytes (Err f) l h = tt

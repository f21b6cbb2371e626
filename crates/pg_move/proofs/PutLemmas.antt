-- Texts that are put piece by piece.
use Rattle.std.proofs.Common.{◌≡◌, ℕ, ◌<◌, ◌^◌, List, [], ◌++◌, length, get_or, All, refl, sym, ap, subst, ◌∙◌, append_assoc}
use Rattle.std.proofs.lemmas.List.Elements.{All-from_get_or}
use Rattle.pg_word.specs.declared.shape.Shape.{Shape}
use Rattle.pg_word.specs.declared.sparse.Sparse.{Sparse}
use Rattle.pg_word.specs.Sparse.{IsCellList, address_at, storage_of}
use Rattle.pg_word.proofs.SparseLemmas.{length-storage_of, listed_holds}
use Rattle.pg_type.specs.Listed.{state_of}
use Rattle.pg_word.specs.declared.psw.Psw.{Psw}
use Rattle.pg_lang_meaning.specs.States.{State}
use Rattle.pg_image.specs.Lines.{size_text, psw_text, lines_before, line_count, state_text}
use Rattle.pg_report.proofs.Texts.{pushed-three}
use Rattle.pg_cert.specs.Texts.{state_lines, lines_text}
use Rattle.pg_cert.proofs.StateText.{lines_of_state}
use Rattle.pg_move.specs.Texts.{first_text, steps_text, end_text, saved_text}

-- the listed words of a storage whose words fit
pub cells_fit : (w : ℕ) (s : Sparse) → IsCellList s.cells → All (λ x. x < 2 ^ w) (storage_of s.size s.cells) →
    All (λ cell. cell.1 < 2 ^ w) s.cells
cells_fit w s listed fit = All-from_get_or (λ cell. cell.1 < 2 ^ w) s.cells (0, 0) (λ i l.
    let at : ℕ = address_at s.cells i in
    let below : at < s.size = s.within i (0, 0) l in
    let word : get_or (storage_of s.size s.cells) at 0 ≡ (get_or s.cells i (0, 0)).1 = listed_holds s.size s.cells at i below listed l refl in
    subst (λ x. x < 2 ^ w) word (fit at 0 (subst (λ n. at < n) (sym (length-storage_of s.size s.cells)) below)))

-- the pieces of a text that is written
pub written : (shape : Shape) (n : ℕ) (s : Sparse) (none first steps one two three all : List ℕ) → none ≡ [] →
    one ≡ none ++ first → first ≡ first_text → two ≡ one ++ steps → steps ≡ steps_text n →
    three ≡ two ++ lines_text shape (state_lines s) → all ≡ three ++ end_text → all ≡ saved_text shape n (state_of s)
unfolding saved_text
written shape n s none first steps one two three all e e1 f e2 g e3 e4 =
    let head : two ≡ first_text ++ steps_text n =
    e2 ∙ ap (λ t. one ++ t) g ∙ ap (λ t. t ++ steps_text n) (e1 ∙ ap (λ t. t ++ first) e ∙ f) in
    e4 ∙ ap (λ t. t ++ end_text) (e3 ∙ ap (λ t. t ++ lines_text shape (state_lines s)) head
    ∙ ap (λ t. (first_text ++ steps_text n) ++ t) (lines_of_state shape s))

-- the text of a state, behind what stands there
pub state_put : (w size : ℕ) (cells : List ℕ) (psw : Psw) (old first second one two three : List ℕ) → length cells ≡ size →
    one ≡ old ++ first → first ≡ size_text size → two ≡ one ++ second → second ≡ psw_text psw →
    three ≡ two ++ lines_before w (line_count size) cells → three ≡ old ++ state_text w cells psw
unfolding state_text
state_put w size cells psw old first second one two three len e1 f e2 g e3 =
    pushed-three old (size_text size) (psw_text psw) (lines_before w (line_count size) cells) one two three
    (e1 ∙ ap (λ t. old ++ t) f) (e2 ∙ ap (λ t. one ++ t) g) e3
    ∙ ap (λ n. old ++ ((size_text n ++ psw_text psw) ++ lines_before w (line_count n) cells)) (sym len)

-- the text of a guest, behind what stands there
pub saved_put : (shape : Shape) (n : ℕ) (s : State) (old first steps one two three four : List ℕ) →
    one ≡ old ++ first → first ≡ first_text → two ≡ one ++ steps → steps ≡ steps_text n →
    three ≡ two ++ state_text shape.w s.cells s.psw → four ≡ three ++ end_text → four ≡ old ++ saved_text shape n s
unfolding saved_text
saved_put shape n s old first steps one two three four e1 f e2 g e3 e4 =
    e4 ∙ ap (λ t. t ++ end_text) (pushed-three old first_text (steps_text n) (state_text shape.w s.cells s.psw) one two three
    (e1 ∙ ap (λ t. old ++ t) f) (e2 ∙ ap (λ t. one ++ t) g) e3)
    ∙ append_assoc old ((first_text ++ steps_text n) ++ state_text shape.w s.cells s.psw) end_text

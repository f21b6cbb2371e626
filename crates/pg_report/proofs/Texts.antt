-- The parts of texts.
use Rattle.std.proofs.Common.{◌≡◌, ℕ, zero, suc, ◌+◌, ◌-◌, ◌*◌, ◌≤◌, ◌==◌, Bool, true, false, List, [], ◌++◌, length, refl, sym, ◌∙◌, ap, arith}
use Rattle.std.proofs.lemmas.List.{append-nil, append_assoc}
use Rattle.std.specs.List.{list_all}
use Rattle.pg_word.specs.declared.psw.Psw.{Psw}
use Rattle.pg_image.specs.Lines.{line_cells, size_text, psw_text, cells_text, cells_shown, lines_before, line_count, line_words, state_text}

-- three pieces one after another
pub pushed-three : {X : Type 0} (old a b c x y z : List X) → x ≡ old ++ a → y ≡ x ++ b → z ≡ y ++ c → z ≡ old ++ (a ++ b ++ c)
pushed-three old a b c x y z h i j =
    j ∙ ap (λ t. t ++ c) (i ∙ ap (λ t. t ++ b) h ∙ append_assoc old a b) ∙ append_assoc old (a ++ b) c

-- ---- cells

-- words that were read and found all zero are not shown
pub shown-zero : (w first : ℕ) (words read : List ℕ) (none : Bool) → read ≡ words → none ≡ list_all (λ word. word == 0) read → none ≡ true → cells_shown w first words ≡ []
unfolding cells_shown
shown-zero w first words read none same test h =
    let all = ap (list_all (λ word. word == 0)) (sym same) ∙ sym test ∙ h in
    rw all refl

-- others are shown
pub shown-some : (w first : ℕ) (words read : List ℕ) (none : Bool) → read ≡ words → none ≡ list_all (λ word. word == 0) read → none ≡ false → cells_shown w first words ≡ cells_text w first read
unfolding cells_shown
shown-some w first words read none same test h =
    let some = ap (list_all (λ word. word == 0)) (sym same) ∙ sym test ∙ h in
    rw some (ap (cells_text w first) (sym same))

-- ---- lines

pub lines_before-none : (w : ℕ) (cells : List ℕ) → lines_before w 0 cells ≡ []
unfolding lines_before
lines_before-none w cells = refl

pub lines_before-next : (w k : ℕ) (cells : List ℕ) → lines_before w (k + 1) cells ≡ lines_before w k cells ++ cells_shown w (line_cells * k) (line_words k cells)
unfolding lines_before
lines_before-next w k cells =
    let next : k + 1 ≡ suc k = omega arith in
    rw next refl

-- what stands behind the first lines
pub lines_before-more : (w k m : ℕ) (cells : List ℕ) → (rest : List ℕ) × (lines_before w (k + m) cells ≡ lines_before w k cells ++ rest)
lines_before-more w k zero cells =
    let same : k + 0 ≡ k = omega arith in
    ([], ap (λ n. lines_before w n cells) same ∙ sym (append-nil (lines_before w k cells)))
lines_before-more w k (suc m) cells =
    let front = lines_before-more w k m cells in
    let next : k + suc m ≡ (k + m) + 1 = omega arith in
    let line = cells_shown w (line_cells * (k + m)) (line_words (k + m) cells) in
    (front.0 ++ line, ap (λ n. lines_before w n cells) next ∙ lines_before-next w (k + m) cells ∙ ap (λ t. t ++ line) front.1 ∙ append_assoc (lines_before w k cells) front.0 line)

pub lines_before-front : (w k n : ℕ) (cells : List ℕ) → k ≤ n → (rest : List ℕ) × (lines_before w n cells ≡ lines_before w k cells ++ rest)
lines_before-front w k n cells within =
    let more = lines_before-more w k (n - k) cells in
    let whole : n ≡ k + (n - k) = omega arith in
    (more.0, ap (λ m. lines_before w m cells) whole ∙ more.1)

-- ---- states

pub state_text-parts : (w size : ℕ) (cells : List ℕ) (psw : Psw) → length cells ≡ size → state_text w cells psw ≡ size_text size ++ (psw_text psw ++ lines_before w (line_count size) cells)
unfolding state_text
state_text-parts w size cells psw h = ap (λ n. size_text n ++ psw_text psw ++ lines_before w (line_count n) cells) h ∙ append_assoc (size_text size) (psw_text psw) (lines_before w (line_count size) cells)

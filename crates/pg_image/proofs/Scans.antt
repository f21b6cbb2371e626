-- A line more of a text that is read.
use Rattle.std.proofs.Common.{◌≡◌, ℕ, ◌+◌, not, List, [], ◌∷◌, length, Option, Some, None, Ok, sym, ap, ◌∙◌, arith}
use Rattle.std.specs.Prelude.{position}
use Rattle.std.specs.Result.{result_err}
use Rattle.pg_image.specs.declared.fault.ImageFault.TheVariants.{Grammar}
use Rattle.pg_image.specs.Images.{content, may_stand, parts_of, foreign_place, rows_from, with_line}
use Rattle.pg_image.specs.Left.{lines_left}
use Rattle.pg_image.specs.Forms.{MakeNone, AddNoFault}

pub foreign_here : (place k : ℕ) (left rest : Option (List ℕ)) (line : List ℕ) → lines_left left ≡ line ∷ lines_left rest
    → Some k ≡ position (λ c. not (may_stand c)) (content line) → foreign_place place (lines_left left) ≡ Some (place + k)
unfolding foreign_place
foreign_here place k left rest line cut found =
    ap (foreign_place place) cut ∙ ap (λ r. elim r [ Some j ↦ Some (place + j) | None ↦ foreign_place (place + length line + 1) (lines_left rest) ]) (sym found)

pub foreign_later : (place : ℕ) (left rest : Option (List ℕ)) (line : List ℕ) → lines_left left ≡ line ∷ lines_left rest
    → None ≡ position (λ c. not (may_stand c)) (content line) → foreign_place (place + (length line + 1)) (lines_left rest) ≡ foreign_place place (lines_left left)
unfolding foreign_place
foreign_later place left rest line cut found =
    let e : place + (length line + 1) ≡ place + length line + 1 = omega arith in
    ap (λ n. foreign_place n (lines_left rest)) e
    ∙ ap (λ r. elim r [ Some j ↦ Some (place + j) | None ↦ foreign_place (place + length line + 1) (lines_left rest) ]) found
    ∙ sym (ap (foreign_place place) cut)

pub foreign_none : (place : ℕ) (left : Option (List ℕ)) → left ≡ None → foreign_place place (lines_left left) ≡ None
unfolding foreign_place
foreign_none place left none = ap (λ l. foreign_place place (lines_left l)) none

pub rows_cut : (w n : ℕ) (left rest : Option (List ℕ)) (line : List ℕ) → lines_left left ≡ line ∷ lines_left rest
    → rows_from w n (lines_left left) ≡ with_line w n (parts_of (content line)) (rows_from w (n + 1) (lines_left rest))
unfolding rows_from
rows_cut w n left rest line cut = ap (rows_from w n) cut

pub rows_none : (w n : ℕ) (left : Option (List ℕ)) → left ≡ None → rows_from w n (lines_left left) ≡ Ok []
unfolding rows_from
rows_none w n left none = ap (λ l. rows_from w n (lines_left l)) none

pub other_here : (w n : ℕ) (left rest : Option (List ℕ)) (line : List ℕ) → lines_left left ≡ line ∷ lines_left rest
    → MakeNone w (parts_of (content line)) → result_err (rows_from w n (lines_left left)) ≡ Some (Grammar n)
other_here w n left rest line cut other =
    ap result_err (rows_cut w n left rest line cut ∙ other n (rows_from w (n + 1) (lines_left rest)))

pub other_later : (w n : ℕ) (left rest : Option (List ℕ)) (line : List ℕ) → lines_left left ≡ line ∷ lines_left rest
    → AddNoFault w (parts_of (content line)) → result_err (rows_from w (n + 1) (lines_left rest)) ≡ result_err (rows_from w n (lines_left left))
other_later w n left rest line cut none =
    sym (ap result_err (rows_cut w n left rest line cut) ∙ none n (rows_from w (n + 1) (lines_left rest)))

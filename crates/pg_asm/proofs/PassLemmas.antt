-- A line more of a source that is read.
use Rattle.std.proofs.Common.{◌≡◌, ℕ, ◌+◌, ◌^◌, ◌<◌, ◌≤◌, not, List, [], ◌∷◌, length, Option, Some, None, Result, Ok, Err, refl, sym, ap, ◌∙◌, arith}
use Rattle.std.specs.Prelude.{position}
use Rattle.std.specs.Result.{result_err}
use Rattle.pg_ast.specs.declared.tree.Desc.{Desc}
use Rattle.pg_image.specs.Images.{content, parts_of}
use Rattle.pg_image.specs.Left.{lines_left}
use Rattle.pg_asm.specs.declared.fault.AsmFault.{AsmFault}
use Rattle.pg_asm.specs.declared.fault.AsmFault.TheVariants.{Grammar}
use Rattle.pg_asm.specs.declared.line.Line.{Line}
use Rattle.pg_asm.specs.declared.line.Line.TheVariants as line
use Rattle.pg_asm.specs.Lines.{said_as, IsFormed}
use Rattle.pg_asm.specs.Said.{Said, said_of}
use Rattle.pg_asm.specs.Sources.{may_stand, foreign_place, with_line, said_from, place_behind, Labels, labels_behind, labels_from, cells_behind, cells_from, then_due}
use Rattle.pg_asm.specs.Passes.{labels_due, words_due}

-- ---- foreign bytes

pub foreign_here : (place k : ℕ) (left rest : Option (List ℕ)) (line : List ℕ) → lines_left left ≡ line ∷ lines_left rest
    → Some k ≡ position (λ c. not (may_stand c)) (content line) → foreign_place place (lines_left left) ≡ Some (place + k)
unfolding foreign_place
foreign_here place k left rest line cut found =
    ap (foreign_place place) cut ∙ ap (λ r. elim r [ Some j ↦ Some (place + j) | None ↦ foreign_place (place + length line + 1) (lines_left rest) ]) (sym found)

pub foreign_later : (place : ℕ) (left rest : Option (List ℕ)) (line : List ℕ) → lines_left left ≡ line ∷ lines_left rest
    → None ≡ position (λ c. not (may_stand c)) (content line) → foreign_place (place + (length line + 1)) (lines_left rest) ≡ foreign_place place (lines_left left)
unfolding foreign_place
foreign_later place left rest line cut found =
    let e : place + (length line + 1) ≡ place + length line + 1 = omega arith in
    ap (λ n. foreign_place n (lines_left rest)) e
    ∙ ap (λ r. elim r [ Some j ↦ Some (place + j) | None ↦ foreign_place (place + length line + 1) (lines_left rest) ]) found
    ∙ sym (ap (foreign_place place) cut)

pub foreign_none : (place : ℕ) (left : Option (List ℕ)) → left ≡ None → foreign_place place (lines_left left) ≡ None
unfolding foreign_place
foreign_none place left none = ap (λ l. foreign_place place (lines_left l)) none

-- ---- lines

pub said_cut : (w n : ℕ) (left rest : Option (List ℕ)) (line : List ℕ) → lines_left left ≡ line ∷ lines_left rest
    → said_from w n (lines_left left) ≡ with_line n (said_of w (parts_of (content line))) (said_from w (n + 1) (lines_left rest))
unfolding said_from
said_cut w n left rest line cut = ap (said_from w n) cut

pub said_none : (w n : ℕ) (left : Option (List ℕ)) → left ≡ None → said_from w n (lines_left left) ≡ Ok []
unfolding said_from
said_none w n left none = ap (λ l. said_from w n (lines_left l)) none

-- a line of no form
pub said_other : (w n : ℕ) (left rest : Option (List ℕ)) (line : List ℕ) → lines_left left ≡ line ∷ lines_left rest → said_of w (parts_of (content line)) ≡ None →
    said_from w n (lines_left left) ≡ Err (Grammar n)
said_other w n left rest line cut none = said_cut w n left rest line cut ∙ ap (λ s. with_line n s (said_from w (n + 1) (lines_left rest))) none

-- a line of some form
pub said_line : (w n : ℕ) (left rest : Option (List ℕ)) (line : List ℕ) (said : Said) → lines_left left ≡ line ∷ lines_left rest → said_of w (parts_of (content line)) ≡ Some said →
    said_from w n (lines_left left) ≡ with_line n (Some said) (said_from w (n + 1) (lines_left rest))
said_line w n left rest line said cut some = said_cut w n left rest line cut ∙ ap (λ s. with_line n s (said_from w (n + 1) (lines_left rest))) some

-- ---- labels

labels_line : (n place : ℕ) (labels : Labels) (said : Said) (behind : Result (List Said) AsmFault) →
    labels_due n place labels (with_line n (Some said) behind) ≡ labels_due (n + 1) (place_behind said place) (labels_behind said n place labels) behind
unfolding labels_from
labels_line n place labels said (Ok saids) = refl
labels_line n place labels said (Err fault) = refl

pub labels_later : (w n place place' : ℕ) (labels labels' : Labels) (left rest : Option (List ℕ)) (line : List ℕ) (said : Said) → lines_left left ≡ line ∷ lines_left rest →
    said_of w (parts_of (content line)) ≡ Some said → place' ≡ place_behind said place → labels' ≡ labels_behind said n place labels →
    labels_due (n + 1) place' labels' (said_from w (n + 1) (lines_left rest)) ≡ labels_due n place labels (said_from w n (lines_left left))
labels_later w n place place' labels labels' left rest line said cut some at with =
    let behind : Result (List Said) AsmFault = said_from w (n + 1) (lines_left rest) in
    ap (λ p. labels_due (n + 1) p labels' behind) at ∙ ap (λ ls. labels_due (n + 1) (place_behind said place) ls behind) with
    ∙ sym (labels_line n place labels said behind) ∙ sym (ap (labels_due n place labels) (said_line w n left rest line said cut some))

pub labels_end : (w n place : ℕ) (labels : Labels) (left : Option (List ℕ)) → left ≡ None → labels_due n place labels (said_from w n (lines_left left)) ≡ Ok labels
unfolding labels_from
labels_end w n place labels left none = ap (labels_due n place labels) (said_none w n left none)

-- ---- words

words_line : (d : Desc) (labels : Labels) (n place : ℕ) (cells cells' : List (Option ℕ)) (said : Said) (behind : Result (List Said) AsmFault) →
    cells_behind d labels n place cells said ≡ Ok cells' →
    words_due d labels n place cells (with_line n (Some said) behind) ≡ words_due d labels (n + 1) (place_behind said place) cells' behind
unfolding cells_from
words_line d labels n place cells cells' said (Ok saids) put = ap (λ r. then_due r (cells_from d labels (n + 1) (place_behind said place) saids)) put
words_line d labels n place cells cells' said (Err fault) put = refl

pub words_later : (d : Desc) (labels : Labels) (w n place place' : ℕ) (cells cells' : List (Option ℕ)) (left rest : Option (List ℕ)) (line : List ℕ) (said : Said) →
    lines_left left ≡ line ∷ lines_left rest → said_of w (parts_of (content line)) ≡ Some said → place' ≡ place_behind said place → cells_behind d labels n place cells said ≡ Ok cells' →
    words_due d labels (n + 1) place' cells' (said_from w (n + 1) (lines_left rest)) ≡ words_due d labels n place cells (said_from w n (lines_left left))
words_later d labels w n place place' cells cells' left rest line said cut some at put =
    let behind : Result (List Said) AsmFault = said_from w (n + 1) (lines_left rest) in
    ap (λ p. words_due d labels (n + 1) p cells' behind) at
    ∙ sym (words_line d labels n place cells cells' said behind put) ∙ sym (ap (words_due d labels n place cells) (said_line w n left rest line said cut some))

formed_behind : (n : ℕ) (said : Said) (behind : Result (List Said) AsmFault) → result_err (with_line n (Some said) behind) ≡ None → result_err behind ≡ None
formed_behind n said (Ok saids) h = refl
formed_behind n said (Err fault) h = h

-- where each line has a form, so have those behind the first
pub formed_later : (w n : ℕ) (left rest : Option (List ℕ)) (line : List ℕ) (said : Said) → lines_left left ≡ line ∷ lines_left rest → said_of w (parts_of (content line)) ≡ Some said →
    result_err (said_from w n (lines_left left)) ≡ None → result_err (said_from w (n + 1) (lines_left rest)) ≡ None
formed_later w n left rest line said cut some formed =
    formed_behind n said (said_from w (n + 1) (lines_left rest)) (sym (ap result_err (said_line w n left rest line said cut some)) ∙ formed)

clash_line : (d : Desc) (labels : Labels) (n place : ℕ) (cells : List (Option ℕ)) (fault : AsmFault) (said : Said) (behind : Result (List Said) AsmFault) →
    cells_behind d labels n place cells said ≡ Err fault → result_err behind ≡ None → words_due d labels n place cells (with_line n (Some said) behind) ≡ Err fault
unfolding cells_from
clash_line d labels n place cells fault said (Ok saids) clash formed = ap (λ r. then_due r (cells_from d labels (n + 1) (place_behind said place) saids)) clash
clash_line d labels n place cells fault said (Err other) clash formed = cc formed

-- a line with which something is wrong
pub words_clash : (d : Desc) (labels : Labels) (w n place : ℕ) (cells : List (Option ℕ)) (fault : AsmFault) (left rest : Option (List ℕ)) (line : List ℕ) (said : Said) →
    lines_left left ≡ line ∷ lines_left rest → said_of w (parts_of (content line)) ≡ Some said → result_err (said_from w n (lines_left left)) ≡ None →
    cells_behind d labels n place cells said ≡ Err fault → words_due d labels n place cells (said_from w n (lines_left left)) ≡ Err fault
words_clash d labels w n place cells fault left rest line said cut some formed clash =
    ap (words_due d labels n place cells) (said_line w n left rest line said cut some)
    ∙ clash_line d labels n place cells fault said (said_from w (n + 1) (lines_left rest)) clash (formed_later w n left rest line said cut some formed)

pub words_end : (d : Desc) (labels : Labels) (w n place : ℕ) (cells : List (Option ℕ)) (left : Option (List ℕ)) → left ≡ None →
    words_due d labels n place cells (said_from w n (lines_left left)) ≡ Ok cells
unfolding cells_from
words_end d labels w n place cells left none = ap (words_due d labels n place cells) (said_none w n left none)

-- ---- places

-- a place stays small: it was written with few digits, or each line behind that moves it on by one at most
pub place-room : (l : Line) (w place left rest total : ℕ) → IsFormed w l → rest < left → rest ≤ total → place + left ≤ 10 ^ 7 + total + 3 →
    place_behind (said_as l) place + rest ≤ 10 ^ 7 + total + 3
place-room line.Blank w place left rest total formed less within room = omega arith
place-room (line.At n) w place left rest total formed less within room = omega (arith, formed)
place-room (line.Label name) w place left rest total formed less within room = omega arith
place-room (line.Word word) w place left rest total formed less within room = omega arith
place-room (line.Instr t) w place left rest total formed less within room = omega arith

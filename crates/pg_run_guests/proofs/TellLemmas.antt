-- The text of guests, put piece by piece.
use Rattle.std.proofs.Common.{◌≡◌, ℕ, suc, ◌+◌, ◌<◌, ◌≤◌, List, [], ◌∷◌, ◌++◌, length, take, drop, get_or, Option, Some, slice_get, refl, sym, ◌∙◌, ap, arith, append_assoc}
use Rattle.std.proofs.lemmas.List.{append-nil, take_more, take-append-drop, length-take-le}
use Rattle.std.proofs.lemmas.List.Elements.{All-weaker}
use Rattle.std.proofs.lemmas.Option.{slice_get-get_or, get_or_from_slice_get, slice_get_within}
use Rattle.pg_lang_meaning.specs.States.{State}
use Rattle.pg_image.specs.Lines.{state_text}
use Rattle.pg_word.specs.declared.psw.Mode.TheVariants.{S}
use Rattle.pg_ast.specs.declared.tree.Desc.{Desc}
use Rattle.pg_mon_control.specs.declared.guest.Guest.{Guest}
use Rattle.pg_mon_control.specs.Guests.{IsGrant, virtual, virtuals}
use Rattle.pg_mon_control.specs.Standing.{Stands}
use Rattle.pg_run_guests.specs.Telling.{AreWithin}
use Rattle.pg_report.specs.Runs.{guest_line, guests_text, steps_line, run_text}
use Rattle.pg_mon_control.proofs.GuestLemmas.{virtuals-at}

text-split : (w j : ℕ) (xs ys : List State) → guests_text w j (xs ++ ys) ≡ guests_text w j xs ++ guests_text w (j + length xs) ys
text-split w j [] ys = let here : j ≡ j + 0 = omega arith in ap (λ i. guests_text w i ys) here
text-split w j (x ∷ xs) ys =
    let here : suc j + length xs ≡ j + suc (length xs) = omega arith in
    ap (λ t. guest_line j ++ state_text w x.cells x.psw ++ t) (text-split w (suc j) xs ys ∙ ap (λ i. guests_text w (suc j) xs ++ guests_text w i ys) here)
    ∙ regroup (guest_line j) (state_text w x.cells x.psw) (guests_text w (suc j) xs) (guests_text w (j + suc (length xs)) ys)
  where
    regroup : (a b c e : List ℕ) → (a ++ b) ++ (c ++ e) ≡ ((a ++ b) ++ c) ++ e
    regroup a b c e = sym (append_assoc (a ++ b) c e)

-- one guest more
pub told-next : (w : ℕ) (states : List State) (k : ℕ) (s : State) → slice_get states k ≡ Some s →
    guests_text w 0 (take k states) ++ (guest_line k ++ state_text w s.cells s.psw) ≡ guests_text w 0 (take (k + 1) states)
told-next w states k s is =
    let within = slice_get_within states k s is in
    let len : 0 + length (take k states) ≡ k = (let whole = length-take-le k states (omega (arith, within)) in omega (arith, whole)) in
    sym (ap (guests_text w 0) (take_more states k s within ∙ ap (λ x. take k states ++ x ∷ []) (get_or_from_slice_get states k s s is))
    ∙ text-split w 0 (take k states) (s ∷ [])
    ∙ ap (λ i. guests_text w 0 (take k states) ++ (guest_line i ++ state_text w s.cells s.psw ++ [])) len
    ∙ ap (λ t. guests_text w 0 (take k states) ++ t) (append-nil (guest_line k ++ state_text w s.cells s.psw)))

-- and what is left behind it
pub told-rest : (w : ℕ) (states : List State) (turns direct k : ℕ) → k ≤ length states →
    guests_text w 0 (take k states) ++ (guests_text w k (drop k states) ++ steps_line turns direct) ≡ run_text w states turns direct
unfolding run_text
told-rest w states turns direct k within =
    let len : 0 + length (take k states) ≡ k = (let whole = length-take-le k states within in omega (arith, whole)) in
    sym (append_assoc (guests_text w 0 (take k states)) (guests_text w k (drop k states)) (steps_line turns direct))
    ∙ ap (λ t. t ++ steps_line turns direct)
    (ap (λ i. guests_text w 0 (take k states) ++ guests_text w i (drop k states)) (sym len) ∙ sym (text-split w 0 (take k states) (drop k states))
    ∙ ap (guests_text w 0) (take-append-drop k states))

pub told-whole : (w : ℕ) (states : List State) (turns direct : ℕ) → guests_text w 0 states ++ steps_line turns direct ≡ run_text w states turns direct
unfolding run_text
told-whole w states turns direct = refl

-- what an element of guests that is past their end is in a proof
abbrev pub no_guest : Guest
no_guest = record { base = 0; size = 0; psw = record { mode = S; p = 0; l = 0; b = 0 } }

-- the state of the guest of a number
pub virtuals-of : (cells : List ℕ) (gs : List Guest) (k : ℕ) → k < length gs → slice_get (virtuals cells gs) k ≡ Some (virtual cells (get_or gs k no_guest))
virtuals-of cells gs k within = virtuals-at cells gs k (get_or gs k no_guest) (slice_get-get_or gs k no_guest within)

-- guests that stand lie within the storage
pub Stands-within : (d : Desc) (real : State) (gs : List Guest) (current : Option ℕ) → Stands d real gs current → AreWithin real gs
Stands-within d real gs current stands =
    All-weaker (IsGrant d.size) (λ (g : Guest). g.base + g.size ≤ length real.cells)
    (λ g grant. (let same = stands.stands.size in let within = grant.within in omega (arith, same, within))) gs stands.stands.grants

-- The text of guests that ran until they were still, put piece by piece.
use Rattle.std.proofs.Common.{◌≡◌, ℕ, suc, ◌+◌, ◌≤◌, List, [], ◌∷◌, ◌++◌, length, take, drop, Option, Some, slice_get, refl, sym, ◌∙◌, ap, arith, append_assoc}
use Rattle.std.proofs.lemmas.List.{append-nil, take_more, take-append-drop, length-take-le}
use Rattle.std.proofs.lemmas.Option.{get_or_from_slice_get, slice_get_within}
use Rattle.pg_lang_meaning.specs.States.{State}
use Rattle.pg_report.specs.Runs.{steps_line}
use Rattle.pg_run_still.specs.declared.rounds.Rest.{Rest}
use Rattle.pg_run_still.specs.declared.view.View.{View}
use Rattle.pg_run_still.specs.Views.{guest_text}
use Rattle.pg_run_still.specs.Bare.{stood_text}
use Rattle.pg_run_still.specs.Running.{head_text, rest_said, rests_text, still_text}

text-split : (w : ℕ) (vs : List View) (j : ℕ) (xs ys : List State) (rs qs : List Rest) → length rs ≡ length xs →
    rests_text w vs j (xs ++ ys) (rs ++ qs) ≡ rests_text w vs j xs rs ++ rests_text w vs (j + length xs) ys qs
text-split w vs j [] ys [] qs same = let here : j ≡ j + 0 = omega arith in ap (λ i. rests_text w vs i ys qs) here
text-split w vs j [] ys (r ∷ rs) qs same = absurd (omega (arith, same))
text-split w vs j (x ∷ xs) ys [] qs same = absurd (omega (arith, same))
text-split w vs j (x ∷ xs) ys (r ∷ rs) qs same =
    let here : suc j + length xs ≡ j + suc (length xs) = omega arith in
    ap (λ t. head_text j r ++ guest_text w vs x ++ t) (text-split w vs (suc j) xs ys rs qs (omega (arith, same)) ∙ ap (λ i. rests_text w vs (suc j) xs rs ++ rests_text w vs i ys qs) here)
    ∙ regroup (head_text j r) (guest_text w vs x) (rests_text w vs (suc j) xs rs) (rests_text w vs (j + suc (length xs)) ys qs)
  where
    regroup : (a b c e : List ℕ) → (a ++ b) ++ (c ++ e) ≡ ((a ++ b) ++ c) ++ e
    regroup a b c e = sym (append_assoc (a ++ b) c e)

-- one guest more
pub told-next : (w : ℕ) (vs : List View) (states : List State) (rests : List Rest) (k : ℕ) (s : State) (r : Rest) → slice_get states k ≡ Some s → slice_get rests k ≡ Some r →
    rests_text w vs 0 (take k states) (take k rests) ++ (head_text k r ++ guest_text w vs s) ≡ rests_text w vs 0 (take (k + 1) states) (take (k + 1) rests)
told-next w vs states rests k s r is is' =
    let within = slice_get_within states k s is in
    let within' = slice_get_within rests k r is' in
    let long = length-take-le k states (omega (arith, within)) in
    let long' = length-take-le k rests (omega (arith, within')) in
    let len : 0 + length (take k states) ≡ k = omega (arith, long) in
    sym (ap (λ ss. rests_text w vs 0 ss (take (k + 1) rests)) (take_more states k s within ∙ ap (λ x. take k states ++ x ∷ []) (get_or_from_slice_get states k s s is))
    ∙ ap (rests_text w vs 0 (take k states ++ s ∷ [])) (take_more rests k r within' ∙ ap (λ x. take k rests ++ x ∷ []) (get_or_from_slice_get rests k r r is'))
    ∙ text-split w vs 0 (take k states) (s ∷ []) (take k rests) (r ∷ []) (omega (arith, long, long'))
    ∙ ap (λ i. rests_text w vs 0 (take k states) (take k rests) ++ (head_text i r ++ guest_text w vs s ++ [])) len
    ∙ ap (λ t. rests_text w vs 0 (take k states) (take k rests) ++ t) (append-nil (head_text k r ++ guest_text w vs s)))

-- and what is left behind it
pub told-front : (w : ℕ) (vs : List View) (states : List State) (rests : List Rest) (k : ℕ) → k ≤ length states → length rests ≡ length states →
    rests_text w vs 0 (take k states) (take k rests) ++ rests_text w vs k (drop k states) (drop k rests) ≡ rests_text w vs 0 states rests
told-front w vs states rests k within same =
    let long = length-take-le k states within in
    let long' = length-take-le k rests (omega (arith, within, same)) in
    let len : 0 + length (take k states) ≡ k = omega (arith, long) in
    let front = rests_text w vs 0 (take k states) (take k rests) in
    ap (λ i. front ++ rests_text w vs i (drop k states) (drop k rests)) (sym len)
    ∙ sym (text-split w vs 0 (take k states) (drop k states) (take k rests) (drop k rests) (omega (arith, long, long')))
    ∙ ap (λ ss. rests_text w vs 0 ss (take k rests ++ drop k rests)) (take-append-drop k states)
    ∙ ap (rests_text w vs 0 states) (take-append-drop k rests)

pub told-whole : (w : ℕ) (vs : List View) (states : List State) (rests : List Rest) (turns direct : ℕ) →
    rests_text w vs 0 states rests ++ steps_line turns direct ≡ still_text w vs states rests turns direct
unfolding still_text
told-whole w vs states rests turns direct = refl

-- a bare machine
pub stood-whole : (w : ℕ) (vs : List View) (most : ℕ) (still : Option ℕ) (line : List ℕ) (whole s : State) → line ≡ rest_said most still → whole ≡ s →
    line ++ guest_text w vs whole ≡ stood_text w vs most still s
unfolding stood_text
stood-whole w vs most still line whole s said is = ap (λ x. x ++ guest_text w vs whole) said ∙ ap (λ t. rest_said most still ++ guest_text w vs t) is

-- The summary of guests, put line by line.
use Rattle.std.proofs.Common.{◌≡◌, ℕ, suc, ◌+◌, ◌≤◌, List, [], ◌∷◌, ◌++◌, length, take, drop, Some, slice_get, sym, ◌∙◌, ap, arith, append_assoc}
use Rattle.std.proofs.lemmas.List.{append-nil, take_more, take-append-drop, length-take-le}
use Rattle.std.proofs.lemmas.Option.{get_or_from_slice_get, slice_get_within}
use Rattle.pg_lang_meaning.specs.States.{State}
use Rattle.pg_report.specs.Summaries.{summary_line, summaries}

summaries-split : (w j : ℕ) (xs ys : List State) → summaries w j (xs ++ ys) ≡ summaries w j xs ++ summaries w (j + length xs) ys
summaries-split w j [] ys = let here : j ≡ j + 0 = omega arith in ap (λ i. summaries w i ys) here
summaries-split w j (x ∷ xs) ys =
    let here : suc j + length xs ≡ j + suc (length xs) = omega arith in
    let line = summary_line w j x.cells x.psw in
    ap (λ t. line ++ t) (summaries-split w (suc j) xs ys ∙ ap (λ i. summaries w (suc j) xs ++ summaries w i ys) here)
    ∙ sym (append_assoc line (summaries w (suc j) xs) (summaries w (j + suc (length xs)) ys))

module _ (w : ℕ) (states : List State) (k : ℕ) where
  -- one guest more
  pub summaries-next : (s : State) → slice_get states k ≡ Some s → summaries w 0 (take k states) ++ summary_line w k s.cells s.psw ≡ summaries w 0 (take (k + 1) states)
  summaries-next s is =
      let within = slice_get_within states k s is in
      let len : 0 + length (take k states) ≡ k = (let whole = length-take-le k states (omega (arith, within)) in omega (arith, whole)) in
      sym (ap (summaries w 0) (take_more states k s within ∙ ap (λ x. take k states ++ x ∷ []) (get_or_from_slice_get states k s s is))
      ∙ summaries-split w 0 (take k states) (s ∷ [])
      ∙ ap (λ i. summaries w 0 (take k states) ++ (summary_line w i s.cells s.psw ++ [])) len
      ∙ ap (λ t. summaries w 0 (take k states) ++ t) (append-nil (summary_line w k s.cells s.psw)))

  -- and what is left behind so many
  pub summaries-rest : k ≤ length states → summaries w 0 (take k states) ++ summaries w k (drop k states) ≡ summaries w 0 states
  summaries-rest within =
      let len : 0 + length (take k states) ≡ k = (let whole = length-take-le k states within in omega (arith, whole)) in
      ap (λ i. summaries w 0 (take k states) ++ summaries w i (drop k states)) (sym len)
      ∙ sym (summaries-split w 0 (take k states) (drop k states)) ∙ ap (summaries w 0) (take-append-drop k states)

-- Kinds that were pushed with their answers, and those that are left.
use Rattle.std.proofs.Common.{◌≡◌, ℕ, suc, ◌+◌, ◌<◌, ◌≤◌, List, ◌∷◌, ◌++◌, length, get_or, drop, drop-cons, sym, ap, ap₂, ◌∙◌, append_assoc, arith}
use Rattle.std.proofs.lemmas.List.{append-nil, drop_all}
use Rattle.pg_type.specs.declared.kind.Kind.{Kind}
use Rattle.pg_cert.specs.declared.report.Mark.{Mark}
use Rattle.pg_report.specs.Verdicts.{answer_text, answers_text}

pub answers_over : (kinds : List Kind) (marks : List Mark) (i : ℕ) (now all : List ℕ) → length kinds ≤ i → now ++ answers_text (drop i kinds) (drop i marks) ≡ all → now ≡ all
unfolding answers_text
answers_over kinds marks i now all l h =
    sym (ap (λ ks. now ++ answers_text ks (drop i marks)) (drop_all i kinds l) ∙ append-nil now) ∙ h

pub answers_more : (kinds : List Kind) (marks : List Mark) (i : ℕ) (default kind : Kind) (mark : Mark) (now next all : List ℕ) → i < length kinds → i < length marks →
    kind ≡ get_or kinds i default → mark ≡ get_or marks i mark → next ≡ now ++ answer_text kind mark → now ++ answers_text (drop i kinds) (drop i marks) ≡ all →
    next ++ answers_text (drop (i + 1) kinds) (drop (i + 1) marks) ≡ all
unfolding answers_text
answers_more kinds marks i default kind mark now next all lk lm ek em e h =
    let step : suc i ≡ i + 1 = omega arith in
    let rest : List ℕ = answers_text (drop (i + 1) kinds) (drop (i + 1) marks) in
    let of_kinds : drop i kinds ≡ kind ∷ drop (i + 1) kinds =
    drop-cons kinds i default lk ∙ ap₂ (λ (x : Kind) (n : ℕ). x ∷ drop n kinds) (sym ek) step in
    let of_marks : drop i marks ≡ mark ∷ drop (i + 1) marks =
    drop-cons marks i mark lm ∙ ap₂ (λ (x : Mark) (n : ℕ). x ∷ drop n marks) (sym em) step in
    ap (λ t. t ++ rest) e ∙ append_assoc now (answer_text kind mark) rest
    ∙ ap (λ t. now ++ t) (sym (ap₂ answers_text of_kinds of_marks)) ∙ h

-- Laying tokens out, step by step.
use Rattle.std.proofs.Common.{◌≡◌, ℕ, zero, suc, ◌+◌, ◌-◌, ◌<◌, Bool, List, [], ◌∷◌, ◌++◌, length, drop, get_or, append_assoc, arith, ap, subst, sym, ◌∙◌}
use Rattle.std.specs.Prelude.{All}
use Rattle.std.proofs.lemmas.List.{drop_more}
use Rattle.std.proofs.lemmas.List.Elements.{All-cons}
use Rattle.pg_lang_token.specs.declared.tok.Tok.{Tok}
use Rattle.pg_lang_print.specs.Numbers.{FitsNumber}
use Rattle.pg_lang_print.specs.Layout.{token_text, ends_line, open_behind, indent, lead, line_end, layout}

-- two spaces more, and one brace fewer is left
pub indent-next : (text : List ℕ) (left : ℕ) → 0 < left → ((text ++ 32 ∷ []) ++ 32 ∷ []) ++ indent (left - 1) ≡ text ++ indent left
unfolding indent
indent-next text zero some = absurd (omega arith)
indent-next text (suc n) some =
    let e : suc n - 1 ≡ n = omega arith in
    rw e (append_assoc (text ++ 32 ∷ []) (32 ∷ []) (indent n) ∙ append_assoc text (32 ∷ []) (32 ∷ indent n))

-- a number more that fits
pub fits_next : (toks : List Tok) (i : ℕ) (d : Tok) → i < length toks → FitsNumber (get_or toks i d) → All FitsNumber (drop (i + 1) toks) → All FitsNumber (drop i toks)
fits_next toks i d lt fits rest = subst (All FitsNumber) (sym (drop_more toks i d lt)) (All-cons FitsNumber (get_or toks i d) (drop (i + 1) toks) fits rest)

nested : (x a b c d : List ℕ) → (((x ++ a) ++ b) ++ c) ++ d ≡ x ++ (((a ++ b) ++ c) ++ d)
nested x a b c d = simp append_assoc

-- a token more is laid out
pub layout_next : (text whole : List ℕ) (toks : List Tok) (i : ℕ) (t : Tok) (begins : Bool) (n : ℕ) → i < length toks → t ≡ get_or toks i t → text ++ layout begins n (drop i toks) ≡ whole →
    (((text ++ lead begins n t) ++ token_text t) ++ line_end (ends_line t)) ++ layout (ends_line t) (open_behind n t) (drop (i + 1) toks) ≡ whole
unfolding layout
layout_next text whole toks i t begins n lt e h =
    let split : drop i toks ≡ t ∷ drop (i + 1) toks = drop_more toks i t lt ∙ ap (λ u. u ∷ drop (i + 1) toks) (sym e) in
    nested text (lead begins n t) (token_text t) (line_end (ends_line t)) (layout (ends_line t) (open_behind n t) (drop (i + 1) toks))
    ∙ ap (λ z. text ++ layout begins n z) (sym split) ∙ h

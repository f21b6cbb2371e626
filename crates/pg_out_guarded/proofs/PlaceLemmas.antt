-- Places, one token after another.
use Rattle.std.proofs.Common.{◌≡◌, ℕ, ◌+◌, ◌<◌, Bool, List, ◌∷◌, ◌++◌, length, drop, get_or, append_assoc, ap, sym, ◌∙◌}
use Rattle.std.proofs.lemmas.List.{drop_more}
use Rattle.pg_lang_token.specs.declared.tok.Tok.{Tok}
use Rattle.pg_text.specs.declared.place.Span.{Span}
use Rattle.pg_out_guarded.specs.Places.{is_pattern, place_here, body_places}

-- a token more is passed
pub places-next : (places whole : List ℕ) (toks : List (Tok × Span)) (i : ℕ) (t : Tok × Span) (behind : Bool) → i < length toks → t ≡ get_or toks i t →
    places ++ body_places behind (drop i toks) ≡ whole → (places ++ place_here behind t.1) ++ body_places (is_pattern t.0) (drop (i + 1) toks) ≡ whole
unfolding body_places
places-next places whole toks i t behind l e h =
    let split : drop i toks ≡ t ∷ drop (i + 1) toks = drop_more toks i t l ∙ ap (λ u. u ∷ drop (i + 1) toks) (sym e) in
    append_assoc places (place_here behind t.1) (body_places (is_pattern t.0) (drop (i + 1) toks))
    ∙ ap (λ z. places ++ body_places behind z) (sym split) ∙ h

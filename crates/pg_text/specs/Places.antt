-- What holds of the tokens of each text.
use Rattle.std.specs.Prelude.{ℕ, ◌<◌, ◌≤◌, List, [], ◌∷◌}
use Rattle.pg_lang_token.specs.declared.tok.Tok.{Tok}
use Rattle.pg_text.specs.declared.place.Span.{Span}

-- places one behind another, from a byte on up to an end, of at least one byte each
abbrev pub InOrder : (start end : ℕ) → List (Tok × Span) → Type 0
InOrder start end [] = start ≤ end
InOrder start end (t ∷ ts) = (start ≤ t.1.from) × (t.1.from < t.1.to) × InOrder t.1.to end ts

-- Behind which braces of a text guards are put.
use Rattle.std.specs.Prelude.{ℕ, Bool, true, false, List, [], ◌∷◌, ◌++◌}
use Rattle.pg_lang_token.specs.declared.tok.Tok.{Tok}
use Rattle.pg_lang_token.specs.declared.tok.Tok.TheVariants.{Word, Number, Pattern, Sign}
use Rattle.pg_text.specs.declared.place.Span.{Span}

abbrev pub is_pattern : Tok → Bool
is_pattern (Word bytes) = false
is_pattern (Number value) = false
is_pattern (Pattern bytes) = true
is_pattern (Sign s) = false

-- the place behind a token, where that token stands behind a pattern
abbrev pub place_here : Bool → Span → List ℕ
place_here true at = at.to ∷ []
place_here false at = []

-- the places behind the braces that open bodies: patterns stand in front of these braces alone. `behind` says whether one stands in
-- front of the first token
unfoldable pub body_places : (behind : Bool) → List (Tok × Span) → List ℕ
body_places behind [] = []
body_places behind (t ∷ ts) = place_here behind t.1 ++ body_places (is_pattern t.0) ts

-- those of the bodies with a mark
unfoldable pub chosen : List Bool → List ℕ → List ℕ
chosen [] places = []
chosen (mark ∷ marks) [] = []
chosen (true ∷ marks) (place ∷ places) = place ∷ chosen marks places
chosen (false ∷ marks) (place ∷ places) = chosen marks places

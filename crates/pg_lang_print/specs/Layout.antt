-- How the tokens of a description are laid out as text.
use Rattle.std.specs.Prelude.{ℕ, zero, suc, ◌+◌, ◌-◌, Bool, true, false, List, [], ◌∷◌, ◌++◌}
use Rattle.std.specs.Fmt.{decimal}
use Rattle.pg_lang_token.specs.declared.tok.Tok.{Tok}
use Rattle.pg_lang_token.specs.declared.tok.Tok.TheVariants.{Word, Number, Pattern}
use Rattle.pg_lang_token.specs.declared.tok.Tok.TheVariants as tok
use Rattle.pg_lang_token.specs.declared.tok.Sign.{Sign}
use Rattle.pg_lang_token.specs.declared.tok.Sign.TheVariants.{OpenBrace, CloseBrace, OpenParen, CloseParen, OpenBracket, CloseBracket, Semicolon, Comma, Colon, Equals, DoubleEquals, Tilde, Plus, Minus, Star, Ampersand, Bar, Caret, LessThan, DoubleLess, DoubleGreater}
use Rattle.pg_ast.specs.declared.tree.Desc.{Desc}
use Rattle.pg_ast.specs.Tokens.{tokens_of}

-- a sign stands for itself
abbrev pub sign_text : Sign → List ℕ
sign_text OpenBrace = 123 ∷ []
sign_text CloseBrace = 125 ∷ []
sign_text OpenParen = 40 ∷ []
sign_text CloseParen = 41 ∷ []
sign_text OpenBracket = 91 ∷ []
sign_text CloseBracket = 93 ∷ []
sign_text Semicolon = 59 ∷ []
sign_text Comma = 44 ∷ []
sign_text Colon = 58 ∷ []
sign_text Equals = 61 ∷ []
sign_text DoubleEquals = 61 ∷ 61 ∷ []
sign_text Tilde = 126 ∷ []
sign_text Plus = 43 ∷ []
sign_text Minus = 45 ∷ []
sign_text Star = 42 ∷ []
sign_text Ampersand = 38 ∷ []
sign_text Bar = 124 ∷ []
sign_text Caret = 94 ∷ []
sign_text LessThan = 60 ∷ []
sign_text DoubleLess = 60 ∷ 60 ∷ []
sign_text DoubleGreater = 62 ∷ 62 ∷ []

-- a token: a word as it is, a number in decimal digits, a pattern in quotes, a sign as it is
abbrev pub token_text : Tok → List ℕ
token_text (Word bytes) = bytes
token_text (Number value) = decimal value
token_text (Pattern bytes) = 34 ∷ bytes ++ 34 ∷ []
token_text (tok.Sign s) = sign_text s

-- a line ends behind ';', '{' and '}'
abbrev pub ends_line : Tok → Bool
ends_line (tok.Sign Semicolon) = true
ends_line (tok.Sign OpenBrace) = true
ends_line (tok.Sign CloseBrace) = true
ends_line _ = false

-- the braces that are open behind a token, where so many are open in front of it
abbrev pub open_behind : ℕ → Tok → ℕ
open_behind n (tok.Sign OpenBrace) = n + 1
open_behind n (tok.Sign CloseBrace) = n - 1
open_behind n _ = n

-- the braces that a line is moved in for, by its first token: '}' is moved in as the line of its '{' is
abbrev pub braces_at : ℕ → Tok → ℕ
braces_at n (tok.Sign CloseBrace) = n - 1
braces_at n _ = n

-- two spaces for each brace
unfoldable pub indent : ℕ → List ℕ
indent zero = []
indent (suc braces) = 32 ∷ 32 ∷ indent braces

-- what stands in front of a token: the spaces that its line begins with, or the one space behind the token before
abbrev pub lead : Bool → ℕ → Tok → List ℕ
lead true n t = indent (braces_at n t)
lead false n t = 32 ∷ []

-- what stands behind a token: LF, where a line ends
abbrev pub line_end : Bool → List ℕ
line_end true = 10 ∷ []
line_end false = []

-- tokens, where a line begins or not and so many braces are open
unfoldable pub layout : Bool → ℕ → List Tok → List ℕ
layout begins n [] = []
layout begins n (t ∷ ts) = lead begins n t ++ token_text t ++ line_end (ends_line t) ++ layout (ends_line t) (open_behind n t) ts

-- the text of a description
unfoldable pub printed : Desc → List ℕ
printed d = layout true 0 (tokens_of d)

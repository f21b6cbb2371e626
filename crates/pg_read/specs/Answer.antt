-- What the answer to a text says.
use Rattle.std.specs.Prelude.{◌≡◌, ℕ, ◌≤◌, ◌<◌, map, List, length, slice_index, Result, Ok, Err, Some, ◌⊎◌}
use Rattle.pg_lang_token.specs.declared.tok.Tok.{Tok}
use Rattle.pg_text.specs.declared.place.Span.{Span}
use Rattle.pg_text.specs.declared.place.TextFault.{TextFault}
use Rattle.pg_text.specs.declared.place.TextFault.TheVariants.{BadByte, BadNumber, BadWord, BadPattern, Memory as NoMemory}
use Rattle.pg_text.specs.Cutting.{cut, tokens_in}
use Rattle.pg_ast.specs.declared.tree.Desc.{Desc}
use Rattle.pg_ast.specs.Tokens.{tokens_of}
use Rattle.pg_read.specs.declared.fault.DescFault.{DescFault}
use Rattle.pg_read.specs.declared.fault.DescFault.TheVariants.{Long, Token, Grammar, Deep, Memory}
use Rattle.pg_read.specs.Fronts.{IsWrongAt, EndsEarly, IsDeepAt}

-- a text is cut into tokens up to a fault at this place
abbrev pub IsFaultAt : Result (List (Tok × Span)) TextFault → ℕ → Type 0
IsFaultAt (Ok ts) place = ⊥
IsFaultAt (Err (BadByte at)) place = at ≡ place
IsFaultAt (Err (BadNumber at)) place = at ≡ place
IsFaultAt (Err (BadWord at)) place = at ≡ place
IsFaultAt (Err (BadPattern at)) place = at ≡ place
IsFaultAt (Err NoMemory) place = ⊥

-- the fault of a text whose tokens have this fault
abbrev pub token_fault : TextFault → DescFault
token_fault (BadByte at) = Token at
token_fault (BadNumber at) = Token at
token_fault (BadWord at) = Token at
token_fault (BadPattern at) = Token at
token_fault NoMemory = Memory

-- the tokens, without their places
abbrev pub toks : List (Tok × Span) → List Tok
toks ts = map (λ t. t.0) ts

-- the place of the token at k: where it begins
abbrev pub place_of : List (Tok × Span) → ℕ → ℕ
place_of ts k = slice_index (map (λ t. t.1.from) ts) k

-- the token at this place is wrong
pub record IsWrongThere (ts : List (Tok × Span)) (place : ℕ) : Type 0 where
  pub at : ℕ
  pub wrong : IsWrongAt (toks ts) at
  pub place_is : place_of ts at ≡ place

-- the token at this place is too deep
pub record IsDeepThere (ts : List (Tok × Span)) (place : ℕ) : Type 0 where
  pub at : ℕ
  pub deep : IsDeepAt (toks ts) at
  pub place_is : place_of ts at ≡ place

-- a text of this length has tokens that go wrong at this place: at one of them, or at the end
abbrev pub IsGrammarAt : Result (List (Tok × Span)) TextFault → (end place : ℕ) → Type 0
IsGrammarAt (Ok ts) end place = IsWrongThere ts place ⊎ (EndsEarly (toks ts) × (place ≡ end))
IsGrammarAt (Err f) end place = ⊥

-- a text has tokens of which the one at this place is too deep
abbrev pub IsTooDeepAt : Result (List (Tok × Span)) TextFault → ℕ → Type 0
IsTooDeepAt (Ok ts) place = IsDeepThere ts place
IsTooDeepAt (Err f) place = ⊥

-- the most bytes of a description
abbrev pub most_desc_bytes : ℕ
most_desc_bytes = 1048576

-- an answer is the one that the text asks for, unless memory ran out
abbrev pub IsAnswer : List ℕ → Result Desc DescFault → Type 0
IsAnswer text (Ok d) = (length text ≤ most_desc_bytes) × (tokens_in text ≡ Some (tokens_of d))
IsAnswer text (Err Long) = most_desc_bytes < length text
IsAnswer text (Err (Token place)) = (length text ≤ most_desc_bytes) × IsFaultAt (cut text) place
IsAnswer text (Err (Grammar place)) = (length text ≤ most_desc_bytes) × IsGrammarAt (cut text) (length text) place
IsAnswer text (Err (Deep place)) = (length text ≤ most_desc_bytes) × IsTooDeepAt (cut text) place
IsAnswer text (Err Memory) = Unit {0}

-- A text with guards put in.
use Rattle.std.specs.Prelude.{◌≡◌, ℕ, ◌-◌, Bool, false, if◌then◌else◌, List, [], ◌∷◌, ◌++◌, take, drop, codes, Option, None, Some, Result, Ok, Err, slice_get}
use Rattle.pg_lang_token.specs.declared.tok.Tok.{Tok}
use Rattle.pg_text.specs.declared.place.Span.{Span}
use Rattle.pg_text.specs.declared.place.TextFault.{TextFault}
use Rattle.pg_text.specs.Cutting.{is_blank, cut}
use Rattle.pg_ast.specs.declared.tree.Desc.{Desc}
use Rattle.pg_read.specs.Answer.{IsAnswer}
use Rattle.pg_out_guarded.specs.Places.{body_places, chosen}

-- a space, where something stands behind a place and it is no blank
abbrev pub gap : Option ℕ → List ℕ
gap None = []
gap (Some byte) = if is_blank byte then [] else 32 ∷ []

-- what is put at a place of a text
unfoldable pub guard_at : List ℕ → ℕ → List ℕ
guard_at text place = codes " if mode { trap; }" ++ gap (slice_get text place)

-- the bytes of a text from one place up to another
abbrev pub between : List ℕ → ℕ → ℕ → List ℕ
between text from to = take (to - from) (drop from text)

-- a text from a place on, with guards put in at these places behind it, which ascend: nothing else is changed
unfoldable pub with_guards : List ℕ → ℕ → List ℕ → List ℕ
with_guards text at [] = drop at text
with_guards text at (place ∷ places) = between text at place ++ guard_at text place ++ with_guards text place places

-- a text that has these tokens, with guards behind the braces of the bodies with a mark
abbrev pub guarded_by : List Bool → List ℕ → Result (List (Tok × Span)) TextFault → Option (List ℕ)
guarded_by marks text (Ok tokens) = Some (with_guards text 0 (chosen marks (body_places false tokens)))
guarded_by marks text (Err fault) = None

-- a text with guards behind the braces of the bodies with a mark, where it has tokens
abbrev pub text_with_guards : List Bool → List ℕ → Option (List ℕ)
text_with_guards marks text = guarded_by marks text (cut text)

-- the guards cannot be put into the text: then it would not read as the description
abbrev pub CannotKeep : List Bool → List ℕ → Desc → Type 0
CannotKeep marks text d = (new : List ℕ) → text_with_guards marks text ≡ Some new → ¬ IsAnswer new (Ok d)

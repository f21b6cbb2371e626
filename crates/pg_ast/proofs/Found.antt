-- What a constructor's test finds at run time is what the definitions find.
use Rattle.std.proofs.Common.{◌≡◌, ℕ, Bool, true, false, List, Option, None, Some, IsSome, IfSome, IsTrue, ◌↔◌, sym, refl}
use Rattle.std.specs.List.{list_all}
use Rattle.pg_lang_token.specs.Words.{is_name, is_pattern_byte}
use Rattle.pg_ast.specs.declared.name.Name.{Name as Names}
use Rattle.pg_ast.specs.declared.name.PatternText.{PatternText}
use Rattle.pg_ast.specs.Reading.{name_when, name_of, pattern_when, pattern_of}
use Rattle.pg_ast.proofs.ExprReads.{name_of-bytes}
use Rattle.pg_ast.proofs.DescReads.{pattern_of-bytes}

name_when-none : (w : List ℕ) (b : Bool) (e : is_name w ≡ b) → ¬ IsTrue (is_name w) → name_when w b e ≡ None
name_when-none w true e h = absurd (h e)
name_when-none w false e h = refl

pub name_of-none : (w : List ℕ) → ¬ IsTrue (is_name w) → name_of w ≡ None
unfolding name_of
name_of-none w h = name_when-none w (is_name w) refl h

-- what Name::try_new ensures says that it answers name_of
pub name_of-found : (r : Option Names) (w : List ℕ) → (IsSome r ↔ IsTrue (is_name w)) → IfSome r (λ n. n.bytes ≡ w) → r ≡ name_of w
name_of-found (Some n) w some bytes = cc (name_of-bytes n)
name_of-found None w some bytes = sym (name_of-none w (λ h. let no = some.1 h in cc))

pattern_when-none : (w : List ℕ) (b : Bool) (e : list_all is_pattern_byte w ≡ b) → ¬ IsTrue (list_all is_pattern_byte w) → pattern_when w b e ≡ None
pattern_when-none w true e h = absurd (h e)
pattern_when-none w false e h = refl

pub pattern_of-none : (w : List ℕ) → ¬ IsTrue (list_all is_pattern_byte w) → pattern_of w ≡ None
unfolding pattern_of
pattern_of-none w h = pattern_when-none w (list_all is_pattern_byte w) refl h

-- what PatternText::try_new ensures says that it answers pattern_of
pub pattern_of-found : (r : Option PatternText) (w : List ℕ) → (IsSome r ↔ IsTrue (list_all is_pattern_byte w)) → IfSome r (λ p. p.bytes ≡ w) → r ≡ pattern_of w
pattern_of-found (Some p) w some bytes = cc (pattern_of-bytes p)
pattern_of-found None w some bytes = sym (pattern_of-none w (λ h. let no = some.1 h in cc))

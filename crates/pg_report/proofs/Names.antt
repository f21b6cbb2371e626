-- Names are short.
use Rattle.std.proofs.Common.{◌≡◌, ℕ, ◌≤◌, min, true, ◌&&◌, not, nat_le, List, [], ◌∷◌, length, take, ap, ◌∙◌, arith}
use Rattle.std.proofs.lemmas.List.{take_min}
use Rattle.std.proofs.lemmas.Bool.{and_parts}
use Rattle.std.specs.Prelude.{IsTrue}
use Rattle.std.specs.List.{list_all}
use Rattle.pg_type.specs.declared.kind.Kind.{Kind}
use Rattle.pg_type.specs.declared.kind.Kind.TheVariants.{Privileged, Control, ModeDep, Location, Bound, UControl, ULocation, UBound}
use Rattle.pg_cert.specs.Lines.{kind_text}
use Rattle.pg_lang_token.specs.Words.{most_name_bytes, is_name, is_word, is_letter, is_word_byte, is_reserved}

-- a word has at most 32 bytes
length-word : (w : List ℕ) → is_word w ≡ true → length w ≤ most_name_bytes
length-word [] h = omega arith
length-word (c ∷ cs) h =
    let rest = (and_parts (is_letter c && list_all is_word_byte cs) (nat_le (length (c ∷ cs)) most_name_bytes) h).1 in
    grind (arith, rest)

pub length-name : (w : List ℕ) → IsTrue (is_name w) → length w ≤ most_name_bytes
length-name w h = length-word w (and_parts (is_word w) (not (is_reserved w)) h).0

-- the word of a kind has at most 10 bytes
pub kind_is_short : (kind : Kind) → length (kind_text kind) ≤ 10
kind_is_short Privileged = omega arith
kind_is_short Control = omega arith
kind_is_short ModeDep = omega arith
kind_is_short Location = omega arith
kind_is_short Bound = omega arith
kind_is_short UControl = omega arith
kind_is_short ULocation = omega arith
kind_is_short UBound = omega arith

-- as many bytes as are wanted, where there are so many
pub take-within : (n m : ℕ) (xs : List ℕ) → n ≡ min (length xs) m → take n xs ≡ take m xs
take-within n m xs h =
    let turned : n ≡ min m (length xs) = omega (arith, h) in
    ap (λ k. take k xs) turned ∙ take_min m xs

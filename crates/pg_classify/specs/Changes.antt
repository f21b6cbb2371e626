-- Changes that are tried of two states.
use Rattle.std.specs.Prelude.{ℕ, ◌==◌, if◌then◌else◌, Option, None, Some}
use Rattle.pg_classify.specs.declared.words.Words.{Words}
use Rattle.pg_classify.specs.declared.words.Words.TheVariants.{Same, Moved, Only, With}

-- where the word of an address stands after a change, and which it then is; none where it is gone
abbrev pub word_after : Words → ℕ → ℕ → Option (ℕ × ℕ)
word_after Same at word = Some (at, word)
word_after (Moved from to) at word = if at == from then Some (to, word) else (if at == to then None else Some (at, word))
word_after (Only kept) at word = if at == kept then Some (at, word) else None
word_after (With place new) at word = Some (at, if at == place then new else word)

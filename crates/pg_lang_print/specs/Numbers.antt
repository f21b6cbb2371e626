-- The numbers of a description.
use Rattle.std.specs.Prelude.{◌<◌, ◌^◌, All}
use Rattle.pg_lang_token.specs.declared.tok.Tok.{Tok}
use Rattle.pg_lang_token.specs.declared.tok.Tok.TheVariants.{Word, Number, Pattern, Sign}
use Rattle.pg_ast.specs.declared.tree.Desc.{Desc}
use Rattle.pg_ast.specs.Tokens.{tokens_of}

-- a number token is below 2 ^ 64; of other tokens nothing is said
abbrev pub FitsNumber : Tok → Type 0
FitsNumber (Word bytes) = Unit {0}
FitsNumber (Number value) = value < 2 ^ 64
FitsNumber (Pattern bytes) = Unit {0}
FitsNumber (Sign s) = Unit {0}

-- each number of a description is below 2 ^ 64
abbrev pub NumbersFit : Desc → Type 0
NumbersFit d = All FitsNumber (tokens_of d)

-- The arguments of commands: their rules, their values, and what they hold once their words were taken.
use Rattle.std.specs.Prelude.{◌≡◌, ◌≤◌, ◌<◌, ◌⊎◌, ◌^◌, ℕ, List, [], ◌∷◌, length, Option, Some, None, true, is_some, option_and_then, unwrap_or}
use Rattle.std.specs.Option.{option_map_or}
use Rattle.std.specs.Str.Parse.{IsNumeral, digits_value, without_leading_plus}
use Rattle.clap.specs.Lexer.{usize_max}
use Rattle.clap.specs.Walk.{Row, Rule, Text, all_of, first_of, one_of}
use Rattle.clap.specs.Simple.{new_rule}
use Rattle.clap.specs.declared.builder.value_parser.ValueParser.{ValueParser}
use Rattle.clap.specs.declared.builder.value_parser.ValueParser.TheVariants.{Unsigned}
use Rattle.pg_cli_table.specs.declared.synopsis.Range.{Range}
use Rattle.pg_cli_table.specs.Synopses.{Argument, File, FileOption, Files, Number, NumberOption, OptionalNumber}

-- ---- rules

-- a text in its place, which has to be there
abbrev pub place : Text → Rule
place name = record (new_rule name) { required = true }

-- a text after `--name`
abbrev pub option : Text → Rule
option name = record (new_rule name) { long = Some name }

-- the numbers of a range
abbrev pub numbers : Range → ValueParser
numbers range = Unsigned range.least range.most

abbrev pub rule : Argument → Rule
rule (File name) = place name
rule (Files name) = record (place name) { range = Some (record { start_inclusive = 1; end_inclusive = usize_max }) }
rule (Number name range) = record (place name) { parser = Some (numbers range) }
rule (FileOption name value) = record (option name) { required = true }
rule (NumberOption name value range) = record (option name) { required = true; parser = Some (numbers range) }
rule (OptionalNumber name value range) = record (option name) { parser = Some (numbers range) }

-- ---- values

-- the number that a text writes in decimal digits
abbrev pub number_of : Text → ℕ
number_of text = digits_value 10 (without_leading_plus text)

-- all the values of an argument, and none where the words have none
abbrev pub texts_of : Text → List Row → List Text
texts_of id rows = unwrap_or (all_of id rows) []

-- what is made of the value of an argument, where it has one
abbrev pub with_text : {X : Type 0} → Text → List Row → (Text → Option X) → Option X
with_text id rows make = option_and_then make (first_of id rows)

abbrev pub with_number : {X : Type 0} → Text → List Row → (ℕ → Option X) → Option X
with_number id rows make = option_and_then (λ text. make (number_of text)) (one_of id rows)

-- the number that the argument gives, and else the other
abbrev pub number_or : Text → ℕ → List Row → ℕ
number_or id other rows = option_map_or number_of (one_of id rows) other

-- ---- what they hold

-- the argument has a value
abbrev pub HasText : Text → List Row → Type 0
HasText id rows = is_some (first_of id rows) ≡ true

-- it has one value at least
abbrev pub HasTexts : Text → List Row → Type 0
HasTexts id rows = 1 ≤ length (texts_of id rows)

-- the value of an argument is a number that 64 bits hold
pub record IsNumber (id : Text) (rows : List Row) : Type 0 where
  pub text : Text
  pub is_value : one_of id rows ≡ Some text
  pub is_numeral : IsNumeral 10 (without_leading_plus text)
  pub fits : number_of text < 2 ^ 64

-- and lies in the range
pub record HasNumber (id : Text) (range : Range) (rows : List Row) : Type 0 where
  pub number : IsNumber id rows
  pub is_least : range.least ≤ number_of number.text
  pub is_most : number_of number.text ≤ range.most

-- the argument has no value, or one that is a number
abbrev pub MayBeNumber : Text → List Row → Type 0
MayBeNumber id rows = (one_of id rows ≡ None) ⊎ IsNumber id rows

-- the argument has no value, or a number of the range
abbrev pub MayHaveNumber : Text → Range → List Row → Type 0
MayHaveNumber id range rows = (one_of id rows ≡ None) ⊎ HasNumber id range rows

-- what an argument holds
abbrev pub Holds : Argument → List Row → Type 0
Holds (File name) = HasText name
Holds (Files name) = HasTexts name
Holds (Number name range) = HasNumber name range
Holds (FileOption name value) = HasText name
Holds (NumberOption name value range) = HasNumber name range
Holds (OptionalNumber name value range) = MayHaveNumber name range

abbrev pub HoldAll : List Argument → List Row → Type 0
HoldAll [] rows = Unit {0}
HoldAll (a ∷ more) rows = Holds a rows × HoldAll more rows

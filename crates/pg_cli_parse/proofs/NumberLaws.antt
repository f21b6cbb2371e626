-- The number that an argument gives: it is the one that its text writes, and lies in the range of the argument.
use Rattle.std.proofs.Common.{◌≡◌, ◌∙◌, ◌<◌, ◌≤◌, ◌^◌, ap, sym, refl, ℕ, List, Option, Some, None, inl, inr, unwrap_or}
use Rattle.std.specs.Prelude.{Err, Ok, Result, option_map}
use Rattle.std.specs.Str.Parse.{IsNumeral, ParsesUnsigned, without_leading_plus}
use Rattle.clap.specs.Matches.{ReadsOne}
use Rattle.clap.specs.Values.{IsUnsignedIn}
use Rattle.clap.specs.Walk.{Row, Text, one_of}
use Rattle.pg_cli_table.specs.declared.synopsis.Range.{Range}
use Rattle.pg_cli_parse.specs.Arguments.{HasNumber, IsNumber, MayBeNumber, MayHaveNumber, number_of, number_or}

-- a text that passed the parser of a range is a number of it
pub passed_number : (id : Text) (range : Range) (rows : List Row) (t : Text) → one_of id rows ≡ Some t → IsUnsignedIn range.least range.most t
    → HasNumber id range rows
passed_number id range rows t is passed = record {
  number = record { text = t; is_value = is; is_numeral = passed.0; fits = passed.1 };
  is_least = passed.2;
  is_most = passed.3;
}

-- ---- what `clap` reads

reads : (E : Type 0) (G : List ℕ → Result ℕ E → Type 0) (t : Text) (r : Option ℕ) → ReadsOne G t r → ((x : Result ℕ E) → G t x → ParsesUnsigned 64 10 t x)
    → IsNumeral 10 (without_leading_plus t) → number_of t < 2 ^ 64 → r ≡ Some (number_of t)
reads E G t (Some n) read parses numeral fits = ap (λ x. Some x) (parses (Ok n) read).1
reads E G t None read parses numeral fits = absurd (parses (Err read.0) read.1 (numeral, fits))

-- a typed getter reads the number that the text writes
pub reads_number : (E : Type 0) (G : List ℕ → Result ℕ E → Type 0) (id : Text) (rows : List Row) (r : Option ℕ)
    → ((t : Text) (x : Result ℕ E) → G t x → ParsesUnsigned 64 10 t x) → ((t : Text) → one_of id rows ≡ Some t → ReadsOne G t r)
    → IsNumber id rows → option_map number_of (one_of id rows) ≡ r
reads_number E G id rows r parses there h =
    ap (option_map number_of) h.is_value ∙ sym (reads E G h.text r (there h.text h.is_value) (parses h.text) h.is_numeral h.fits)

-- and where the argument may be left out, the number that it gives or the other
pub reads_number_or : (E : Type 0) (G : List ℕ → Result ℕ E → Type 0) (id : Text) (rows : List Row) (r : Option ℕ) (other : ℕ)
    → ((t : Text) (x : Result ℕ E) → G t x → ParsesUnsigned 64 10 t x) → (one_of id rows ≡ None → r ≡ None)
    → ((t : Text) → one_of id rows ≡ Some t → ReadsOne G t r) → MayBeNumber id rows → number_or id other rows ≡ unwrap_or r other
reads_number_or E G id rows r other parses absent there (inl none) = rw (none, absent none) refl
reads_number_or E G id rows r other parses absent there (inr h) =
    rw (h.is_value, reads E G h.text r (there h.text h.is_value) (parses h.text) h.is_numeral h.fits) refl

-- ---- its range

pub number_between : (id : Text) (range : Range) (rows : List Row) (n : ℕ) → HasNumber id range rows → option_map number_of (one_of id rows) ≡ Some n
    → (range.least ≤ n) × (n ≤ range.most)
number_between id range rows n h is =
    let same : number_of h.number.text ≡ n = ap (λ o. unwrap_or o n) (sym (ap (option_map number_of) h.number.is_value) ∙ is) in
    rw (← same) (h.is_least, h.is_most)

-- an argument that may be left out gives a number
pub may_be_number : (id : Text) (range : Range) (rows : List Row) → MayHaveNumber id range rows → MayBeNumber id rows
may_be_number id range rows (inl none) = inl none
may_be_number id range rows (inr h) = inr h.number

-- which lies in the range where the other does
pub number_or_between : (id : Text) (range : Range) (other : ℕ) (rows : List Row) (n : ℕ) → MayHaveNumber id range rows → number_or id other rows ≡ n
    → range.least ≤ other → other ≤ range.most → (range.least ≤ n) × (n ≤ range.most)
number_or_between id range other rows n (inl none) is low high =
    let same : other ≡ n = rw none at is in
    rw (← same) (low, high)
number_or_between id range other rows n (inr h) is low high =
    let same : number_of h.number.text ≡ n = rw h.number.is_value at is in
    rw (← same) (h.is_least, h.is_most)

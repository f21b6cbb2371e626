-- What the arguments of a command hold is something to ask for, but where one that runs images is named with too many.
use Rattle.std.proofs.Common.{◌≡◌, ◌⊎◌, ap, inl, inr, refl, subst, sym, true, true≢false, List, length, Option, Some, None, codes}
use Rattle.std.specs.Prelude.{option_and_then, option_map}
use Rattle.std.specs.Option.{is_some}
use Rattle.std.proofs.lemmas.Bool.{cases_lt, le-leb, lt-leb}
use Rattle.clap.specs.Walk.{Row, Text, first_of}
use Rattle.pg_cli_table.specs.declared.ask.Request.TheVariants as request
use Rattle.pg_cli_table.specs.declared.names.CommandName.{CommandName}
use Rattle.pg_cli_table.specs.declared.names.CommandName.TheVariants.{Asm, Bare, Check, Disasm, Gen, Hcheck, Hybrid, Migrate, Nest, Print, Replay, Resume, Run, Save, Verify}
use Rattle.pg_cli_table.specs.declared.run.RunWords.{RunWords}
use Rattle.pg_cli_parse.specs.Arguments.{HasText, number_or, with_number}
use Rattle.pg_cli_parse.specs.Asked.{RunsImages, asked_of}
use Rattle.pg_cli_parse.specs.Entered.{HoldsRows}
use Rattle.pg_cli_parse.specs.Run.{HasTooManyImages, image_names, most_images, run_of, slice_unsaid, with_images}

-- an argument that has a text has this one
text_of : (id : Text) (rows : List Row) → HasText id rows → (t : Text) × (first_of id rows ≡ Some t)
text_of id rows has = go (first_of id rows) has
  where
    go : (o : Option Text) → is_some o ≡ true → (t : Text) × (o ≡ Some t)
    go None e = absurd (true≢false (sym e))
    go (Some t) e = (t, refl)

-- ---- each command

-- the command runs images, and its arguments name too many
abbrev pub AsksTooMuch : CommandName → List Row → Type 0
AsksTooMuch command rows = RunsImages command × HasTooManyImages rows

pub all_ask : (command : CommandName) (rows : List Row) → HoldsRows command rows → (is_some (asked_of command rows) ≡ true) ⊎ AsksTooMuch command rows
all_ask Bare rows h =
    inl (rw ((text_of _ rows h.0).1, (text_of _ rows h.1.0).1, h.1.1.0.number.is_value, h.1.1.1.0.number.is_value) refl)
all_ask Check rows h = inl (rw ((text_of _ rows h.0).1, (text_of _ rows h.1.0).1) refl)
all_ask Verify rows h = inl (rw ((text_of _ rows h.0).1, (text_of _ rows h.1.0).1) refl)
all_ask Replay rows h = inl (rw ((text_of _ rows h.0).1, (text_of _ rows h.1.0).1) refl)
all_ask Run rows h = elim (cases_lt most_images (length (image_names rows))) [
  | inl many ↦ inr (inl refl, many)
  | inr few ↦ inl (rw (
    (text_of _ rows h.0).1,
    (text_of _ rows h.1.0).1,
    le-leb _ _ few,
    h.1.1.1.0.number.is_value,
    h.1.1.1.1.0.number.is_value,
  ) refl)
]
all_ask Print rows h = inl (rw (text_of _ rows h.0).1 refl)
all_ask Gen rows h = inl (rw (h.0.number.is_value, h.1.0.number.is_value, (text_of _ rows h.1.1.0).1) refl)
all_ask Migrate rows h = inl (rw ((text_of _ rows h.0).1, (text_of _ rows h.1.0).1, (text_of _ rows h.1.1.0).1) refl)
all_ask Hcheck rows h = inl (rw ((text_of _ rows h.0).1, (text_of _ rows h.1.0).1) refl)
all_ask Hybrid rows h = elim (cases_lt most_images (length (image_names rows))) [
  | inl many ↦ inr (inr refl, many)
  | inr few ↦ inl (rw (
    (text_of _ rows h.0).1,
    (text_of _ rows h.1.0).1,
    le-leb _ _ few,
    h.1.1.1.0.number.is_value,
    h.1.1.1.1.0.number.is_value,
  ) refl)
]
all_ask Nest rows h = inl (rw (
  (text_of _ rows h.0).1,
  (text_of _ rows h.1.0).1,
  (text_of _ rows h.1.1.0).1,
  h.1.1.1.0.number.is_value,
  h.1.1.1.1.0.number.is_value,
  h.1.1.1.1.1.0.number.is_value,
) refl)
all_ask Asm rows h = inl (rw ((text_of _ rows h.0).1, (text_of _ rows h.1.0).1, h.1.1.0.number.is_value) refl)
all_ask Disasm rows h = inl (rw ((text_of _ rows h.0).1, (text_of _ rows h.1.0).1, h.1.1.0.number.is_value) refl)
all_ask Save rows h = inl (rw (
  (text_of _ rows h.0).1,
  (text_of _ rows h.1.0).1,
  (text_of _ rows h.1.1.0).1,
  (text_of _ rows h.1.1.1.0).1,
  h.1.1.1.1.0.number.is_value,
  h.1.1.1.1.1.0.number.is_value,
) refl)
all_ask Resume rows h =
    inl (rw ((text_of _ rows h.0).1, (text_of _ rows h.1.0).1, (text_of _ rows h.1.1.0).1, h.1.1.1.0.number.is_value) refl)

-- of too many images nothing is made
no_words : (rows : List Row) → HasTooManyImages rows → run_of rows ≡ None
no_words rows many = go (first_of (codes "DESC") rows) (first_of (codes "CERT") rows)
  where
    go : (desc cert : Option Text)
        → option_and_then {T = Text} {U = RunWords} (λ (d : Text). option_and_then (λ (c : Text). with_images rows (λ images.
        with_number (codes "grant") rows (λ g. with_number (codes "steps") rows (λ n.
        Some (record { desc = d; cert = c; images = images; grant = g; steps = n; slice = number_or (codes "slice") slice_unsaid rows }))))) cert) desc ≡ None
    go None cert = refl
    go (Some x) None = refl
    go (Some x) (Some y) = rw (lt-leb _ _ many) refl

-- and nothing is asked for
pub too_many_asks_nothing : (command : CommandName) (rows : List Row) → RunsImages command → HasTooManyImages rows → asked_of command rows ≡ None
too_many_asks_nothing command rows (inl is) many =
    subst (λ c. asked_of c rows ≡ None) (sym is) (ap (option_map request.Run) (no_words rows many))
too_many_asks_nothing command rows (inr is) many =
    subst (λ c. asked_of c rows ≡ None) (sym is) (ap (option_map request.Hybrid) (no_words rows many))

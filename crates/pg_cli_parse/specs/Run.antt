-- The command `run DESC CERT IMAGE.. --grant G --steps N [--slice K]`.
use Rattle.std.specs.Prelude.{◌<◌, ℕ, List, length, Option, Some, None, codes, cond, nat_le}
use Rattle.clap.specs.Walk.{Row, Text}
use Rattle.pg_cli_parse.specs.Arguments.{number_or, texts_of, with_number, with_text}
use Rattle.pg_cli_table.specs.declared.run.RunWords.{RunWords}

-- how many steps a guest does before the next has its turn, where the words do not say it
abbrev pub slice_unsaid : ℕ
slice_unsaid = 1000

-- how many images may be named
abbrev pub most_images : ℕ
most_images = 8

-- the names of the images
abbrev pub image_names : List Row → List Text
image_names = texts_of (codes "IMAGE")

-- more images are named than may be
abbrev pub HasTooManyImages : List Row → Type 0
HasTooManyImages rows = most_images < length (image_names rows)

-- what is made of the names of the images, where they are no more than may be
abbrev pub with_images : {X : Type 0} → List Row → (List Text → Option X) → Option X
with_images rows make = cond (nat_le (length (image_names rows)) most_images) (make (image_names rows)) None

-- what the arguments ask for
abbrev pub run_of : List Row → Option RunWords
run_of rows = with_text (codes "DESC") rows (λ desc. with_text (codes "CERT") rows (λ cert. with_images rows (λ images.
    with_number (codes "grant") rows (λ grant. with_number (codes "steps") rows (λ steps. Some (record {
      desc = desc;
      cert = cert;
      images = images;
      grant = grant;
      steps = steps;
      slice = number_or (codes "slice") slice_unsaid rows;
    }))))))

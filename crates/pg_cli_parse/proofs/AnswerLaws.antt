-- What the words ask for, by whether the line has a fault at them.
use Rattle.std.proofs.Common.{◌≡◌, ◌≢◌, ◌∙◌, ◌⊎◌, ap, sym, subst, refl, Bool, true, false, true≢false, List, [], ◌∷◌, Option, Some, None, inl, inr}
use Rattle.std.specs.Prelude.{◌↔◌, Err, IsErrOf, Ok, Result, option_and_then}
use Rattle.std.specs.Option.{is_some}
use Rattle.clap.specs.Walk.{Row, Text}
use Rattle.clap.specs.Simple.{subcommand_of}
use Rattle.clap.specs.Kinds.{IsAmong, Kinds}
use Rattle.clap.specs.Faults.{fault_of}
use Rattle.clap.specs.declared.error.kind.ErrorKind.{ErrorKind}
use Rattle.clap.specs.declared.error.kind.ErrorKind.TheVariants.{OutOfMemory}
use Rattle.pg_cli_parse.specs.Asked.{NamesTooManyImages, RunsImages, asked_of, named_as, request_of, unless_fault}
use Rattle.pg_cli_parse.specs.Entered.{HoldsCommand}
use Rattle.pg_cli_parse.specs.Run.{HasTooManyImages}
use Rattle.pg_cli_parse.proofs.AskLaws.{AsksTooMuch, all_ask, too_many_asks_nothing}
use Rattle.pg_cli_parse.proofs.EnteredLaws.{asks_of}
use Rattle.pg_cli_parse.proofs.LineLaws.{line_holds, named_by}
use Rattle.pg_cli_parse.proofs.RowLaws.{fault_absurd}
use Rattle.pg_cli_parse.specs.Line.{line}
use Rattle.pg_cli_table.specs.Commands.{synopsis}
use Rattle.pg_cli_table.specs.declared.ask.Request.{Request}
use Rattle.pg_cli_table.specs.declared.names.CommandName.{CommandName}
use Rattle.pg_cli_table.specs.declared.ask.Fault.{Fault}
use Rattle.pg_cli_table.specs.declared.ask.Fault.TheVariants.{Memory, Refused}

-- without a fault the command that was named says it
pub asks_by_name : (words : List Text) → fault_of line words ≡ [] → request_of words ≡ named_as (subcommand_of line words)
unfolding request_of
asks_by_name words none = ap (λ (ks : Kinds). unless_fault ks (named_as (subcommand_of line words))) none

hidden : {X : Type 0} (ks : Kinds) (asked : Option X) → ks ≢ [] → unless_fault ks asked ≡ None
hidden [] asked some = absurd (some refl)
hidden (k ∷ ks) asked some = refl

-- and with a fault nothing is asked for
pub asks_nothing : (words : List Text) → fault_of line words ≢ [] → request_of words ≡ None
unfolding request_of
asks_nothing words some = hidden (fault_of line words) (named_as (subcommand_of line words)) some

-- what a command that was named holds is something to ask for, or asks too much
holds_request : (entered : Option (Text × List Row)) (held : HoldsCommand entered)
    → (is_some (named_as entered) ≡ true) ⊎ AsksTooMuch held.command held.rows
holds_request entered held =
    let asks = asks_of entered held in
    elim (all_ask held.command held.rows held.holds) [
      | inl some ↦ inl (ap is_some asks ∙ some)
      | inr much ↦ inr much
    ]

-- of too many images a command that runs them asks for nothing
images_refused : (entered : Option (Text × List Row)) (command : CommandName) (rows : List Row) → RunsImages command →
    entered ≡ Some ((synopsis command).name, rows) → HasTooManyImages rows → named_as entered ≡ None
images_refused entered command rows runs is many =
    ap named_as is ∙ ap (option_and_then (λ c. asked_of c rows)) (named_by command) ∙ too_many_asks_nothing command rows runs many

hides_nothing : {X : Type 0} (ks : Kinds) (asked : Option X) → asked ≡ None → unless_fault ks asked ≡ None
hides_nothing [] asked none = none
hides_nothing (k ∷ ks) asked none = refl

too_many_ask_nothing : (words : List Text) → NamesTooManyImages words → request_of words ≡ None
unfolding request_of
too_many_ask_nothing words many =
    hides_nothing (fault_of line words) (named_as (subcommand_of line words)) (images_refused (subcommand_of line words) many.command many.rows many.runs many.is_named many.are_too_many)

has_fault : (ks : Kinds) → (ks ≡ []) ⊎ (ks ≢ [])
has_fault [] = inl refl
has_fault (k ∷ ks) = inr (λ e. fault_absurd k ks e)

nothing_without_fault : (words : List Text) → request_of words ≡ None → fault_of line words ≡ [] → NamesTooManyImages words
nothing_without_fault words nothing none =
    let held = line_holds words none in
    elim (holds_request (subcommand_of line words) held) [
      | inl some ↦ absurd (true≢false (sym (ap is_some (asks_by_name words none) ∙ some) ∙ ap is_some nothing))
      | inr much ↦ record {
        command = held.command;
        rows = held.rows;
        runs = much.0;
        is_named = held.is_entered;
        are_too_many = much.1;
      }
    ]

-- nothing is asked for exactly where the line has a fault, or a command that runs images is named with too many
pub nothing_at_fault : (words : List Text) → (request_of words ≡ None) ↔ ((fault_of line words ≢ []) ⊎ NamesTooManyImages words)
nothing_at_fault words = (
  (λ nothing. elim (has_fault (fault_of line words)) [
    | inl none ↦ inr (nothing_without_fault words nothing none)
    | inr some ↦ inl some
  ]),
  (λ why. elim why [
    | inl some ↦ asks_nothing words some
    | inr many ↦ too_many_ask_nothing words many
  ]),
)

abbrev wants_memory : Result Request Fault → Bool
wants_memory (Ok asked) = false
wants_memory (Err Memory) = true
wants_memory (Err Refused) = false

-- a failure that is not out of memory has a fault
pub refusal_has_fault : (kinds : Kinds) (kind : ErrorKind) (why : Fault) → (kind ≡ OutOfMemory) ⊎ IsAmong kind kinds → (kind ≡ OutOfMemory → why ≡ Memory)
    → IsErrOf {T = Request} (Err why) Refused → kinds ≢ []
refusal_has_fault kinds kind why (inl ran_out) memory refused none =
    absurd (true≢false (sym (ap (λ (x : Fault). wants_memory (Err x)) (memory ran_out)) ∙ ap wants_memory refused))
refusal_has_fault kinds kind why (inr among) memory refused none = subst (IsAmong kind) none among

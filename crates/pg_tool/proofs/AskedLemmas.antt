-- A command line: what its words ask for is carried out, or they are refused.
use Rattle.std.proofs.Common.{◌≡◌, ◌≢◌, ℕ, List, Option, Some, None, refl, sym, subst}
use Rattle.pg_edge.specs.Shelf.{Files}
use Rattle.pg_cli_parse.specs.Asked.{request_of}
use Rattle.pg_cli_table.specs.declared.ask.Request.{Request}
use Rattle.pg_cli_table.specs.declared.ask.Fault.{Fault}
use Rattle.pg_cli_table.specs.declared.ask.Fault.TheVariants as fault
use Rattle.pg_cmd_base.specs.declared.status.Status.{Status}
use Rattle.pg_cmd_base.specs.declared.status.Status.TheVariants as status
use Rattle.pg_cmd_base.specs.Answering.{Stops}
use Rattle.pg_cmd_base.specs.Commands.{Command, Carries}
use Rattle.pg_cmd_base.specs.World.{World, IsUntouched, SavesOnly}
use Rattle.pg_cmd_base.proofs.CarryLemmas.{carries-stopped}
use Rattle.pg_tool.specs.Asking.{no_command, command_of, command_or_none, command_for, stop_of_words}

pub carries-asked : (words : List (List ℕ)) (asked : Request) (old new : World) (given : Status) → request_of words ≡ Some asked → Carries (command_of asked) old new given →
    Carries (command_for words) old new given
unfolding command_for
carries-asked words asked old new given is h = subst (λ o. Carries (command_or_none o) old new given) (sym is) h

pub saves-asked : (words : List (List ℕ)) (asked : Request) (was now : Option Files) → request_of words ≡ Some asked → SavesOnly (command_of asked).saved was now →
    SavesOnly (command_for words).saved was now
unfolding command_for
saves-asked words asked was now is h = subst (λ o. SavesOnly (command_or_none o).saved was now) (sym is) h

-- words of which nothing is made
pub carries-words : (words : List (List ℕ)) (f : Fault) (old new : World) (given : Status) → (f ≡ fault.Refused → request_of words ≡ None) →
    Stops (stop_of_words f) old.out new.out given → IsUntouched old new → Carries (command_for words) old new given
unfolding command_for
carries-words words fault.Refused old new given none told same =
    subst (λ o. Carries (command_or_none o) old new given) (sym (none refl))
    (carries-stopped no_command (λ (x : ⊥). x) old new (stop_of_words fault.Refused) given refl told same)
carries-words words fault.Memory old new given none told same =
    carries-stopped (command_for words) (λ (x : (command_for words).Work). x) old new (stop_of_words fault.Memory) given tt told same

-- no file is read for words that are refused, so none is misread
pub misread_words : (words : List (List ℕ)) (old new : World) → Carries (command_for words) old new status.ReadFault → request_of words ≢ None
unfolding command_for
misread_words words old new h none =
    let refused : Carries no_command old new status.ReadFault = subst (λ o. Carries (command_or_none o) old new status.ReadFault) none h in
    refused.by_class.is_due

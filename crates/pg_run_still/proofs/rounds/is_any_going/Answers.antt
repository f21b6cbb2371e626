use Rattle.std.proofs.Common.{◌≡◌, None}
use Rattle.std.proofs.lemmas.List.Elements.{All-nil}
use Rattle.pg_run_still.specs.declared.rounds.Rest.{Rest}
use Rattle.pg_run_still.proofs.rounds.is_any_going.Goals as goal

abbrev Found : Rest → Type 0
Found rest = rest.still ≡ None → ⊥

pub loop-rest-init : goal.loop-rest-init
loop-rest-init c = record { none = All-nil Found }

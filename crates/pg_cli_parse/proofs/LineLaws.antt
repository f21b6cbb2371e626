-- What a command of the line holds where its words have no fault.
use Rattle.std.proofs.Common.{◌≡◌, ◌∷◌, sym, refl, cond, Bool, true, false, true≢false, List, [], map, Option, Some, None}
use Rattle.std.specs.Prelude.{find, option_map}
use Rattle.std.specs.Option.{is_some, option_map_or}
use Rattle.std.specs.List.{list_all}
use Rattle.clap.specs.Walk.{Text, answers_to, nothing_held, rows_after, stop_after}
use Rattle.clap.specs.Simple.{App, Shape, argument_words, built, entered, is_simple, label_of, names_of, rows_at, subcommand_of}
use Rattle.clap.specs.Faults.{entered_fault, fault_of, is_simple_and_free, level_fault}
use Rattle.clap.proofs.OnLiterals.{clap_on_literals}
use Rattle.pg_cli_table.specs.Commands.{commands, named, synopsis}
use Rattle.pg_cli_table.specs.declared.names.CommandName.{CommandName}
use Rattle.pg_cli_table.specs.declared.names.CommandName.TheVariants.{Asm, Bare, Check, Disasm, Gen, Hcheck, Hybrid, Migrate, Nest, Print, Replay, Resume, Run, Save, Verify}
use Rattle.pg_cli_parse.specs.Line.{line}
use Rattle.pg_cli_parse.specs.Entered.{HoldsCommand}
use Rattle.pg_cli_parse.proofs.LeafLaws.{command_met}
use Rattle.pg_cli_parse.proofs.SynopsisLaws.{are_apart, both, built_of, synopsis_holds}

-- the line is one of which clap's model gives the matches and the faults
pub line_simple : is_simple_and_free line ≡ true
unfolding clap_on_literals
line_simple = refl

pub line_plain : is_simple line ≡ true
unfolding clap_on_literals
line_plain = refl

-- ---- the table

-- no two commands have one name
pub named_by : (command : CommandName) → named commands (synopsis command).name ≡ Some command
named_by Bare = refl
named_by Check = refl
named_by Verify = refl
named_by Replay = refl
named_by Run = refl
named_by Print = refl
named_by Gen = refl
named_by Migrate = refl
named_by Hcheck = refl
named_by Hybrid = refl
named_by Nest = refl
named_by Asm = refl
named_by Disasm = refl
named_by Save = refl
named_by Resume = refl

-- no two arguments of a command have one name
abbrev has_own_names : CommandName → Bool
has_own_names command = are_apart (built_of (synopsis command)).rules

all_apart : list_all has_own_names commands ≡ true
all_apart = refl

-- ---- the whole line

-- the commands as they are built
abbrev built_all : List CommandName → List Shape
built_all = map (λ command. built_of (synopsis command))

-- the command that a test finds
found_holds : (cs : List CommandName) (test : Shape → Bool) (words : List Text) → list_all has_own_names cs ≡ true
    → option_map_or (λ s. level_fault s [] nothing_held words false []) (find test (built_all cs)) [] ≡ []
    → is_some (option_map (λ s. rows_at s words) (find test (built_all cs))) ≡ true
    → HoldsCommand (option_map (λ s. rows_at s words) (find test (built_all cs)))
found_holds [] test words apart none there = absurd (true≢false (sym there))
found_holds (c ∷ more) test words apart none there =
    let parts = both _ _ apart in
    go (test (built_of (synopsis c))) parts.0 none there (λ fine some. found_holds more test words parts.1 fine some)
  where
    go : (b : Bool) → has_own_names c ≡ true
        → option_map_or (λ x. level_fault x [] nothing_held words false []) (cond b (Some (built_of (synopsis c))) (find test (built_all more))) [] ≡ []
        → is_some (option_map (λ x. rows_at x words) (cond b (Some (built_of (synopsis c))) (find test (built_all more)))) ≡ true
        → (option_map_or (λ x. level_fault x [] nothing_held words false []) (find test (built_all more)) [] ≡ []
        → is_some (option_map (λ x. rows_at x words) (find test (built_all more))) ≡ true
        → HoldsCommand (option_map (λ x. rows_at x words) (find test (built_all more))))
        → HoldsCommand (option_map (λ x. rows_at x words) (cond b (Some (built_of (synopsis c))) (find test (built_all more))))
    go true own fine some rec = record {
      command = c;
      rows = rows_after (built_of (synopsis c)).rules [] words;
      is_entered = refl;
      is_named = named_by c;
      holds = synopsis_holds (synopsis c) words own fine;
    }
    go false own fine some rec = rec fine some

-- a line with them
abbrev with_all : Shape → App
with_all top = record { top = top; subs = built_all commands }

-- the command at which the walk stopped
entered_holds : (top : Shape) (stop : Option (Text × List Text)) → entered_fault (with_all top) stop ≡ [] → is_some (entered (with_all top) stop) ≡ true
    → HoldsCommand (entered (with_all top) stop)
entered_holds top None none there = absurd (true≢false (sym there))
entered_holds top (Some p) none there = found_holds commands (λ s. answers_to p.0 (label_of s)) p.1 all_apart none there

-- words with no fault name a command, and its arguments hold what it wants
pub line_holds : (words : List Text) → fault_of line words ≡ [] → HoldsCommand (subcommand_of line words)
line_holds words none =
    let stop = stop_after (built line).top.rules (names_of (built line)) (argument_words line words) in
    let met = command_met (built line).top (names_of (built line)) (argument_words line words) (is_some (entered (built line) stop)) (entered_fault (built line) stop) refl none in
    entered_holds (built line).top stop met.0 met.1

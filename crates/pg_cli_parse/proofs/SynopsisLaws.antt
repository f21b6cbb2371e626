-- A command with the arguments of a synopsis: where its words have no fault, each argument holds what it is to hold.
use Rattle.std.proofs.Common.{◌≡◌, ◌∙◌, ◌&&◌, ap, refl, sym, not, Bool, true, false, true≢false, cond, ℕ, List, [], ◌∷◌, map, Some, inl, inr}
use Rattle.std.specs.Prelude.{option_and_then}
use Rattle.std.specs.Str.{bytes_eq}
use Rattle.std.proofs.lemmas.Slice.Eq.{bytes_eq-Decides}
use Rattle.clap.specs.Walk.{Row, Rule, Text, arg_by_id, nothing_held, row_text, rows_after}
use Rattle.clap.specs.Simple.{Shape, built_leaf, filled, filled_from, index_after, inherited, with_index}
use Rattle.clap.specs.Faults.{level_fault}
use Rattle.clap.proofs.ValueTestLemmas.{accepts-Accepts}
use Rattle.pg_cli_table.specs.Synopses.{Argument, File, FileOption, Files, Number, NumberOption, OptionalNumber, Synopsis}
use Rattle.pg_cli_table.specs.declared.synopsis.Range.{Range}
use Rattle.pg_cli_parse.specs.Arguments.{HasNumber, HoldAll, Holds, MayHaveNumber, numbers, rule}
use Rattle.pg_cli_parse.specs.Line.{program, shape}
use Rattle.pg_cli_parse.proofs.RowLaws.{AreValued, IsValued}
use Rattle.pg_cli_parse.proofs.LeafLaws.{IsGiven, MayBeGiven, has_text, has_texts, leaf_given, leaf_may}
use Rattle.pg_cli_parse.proofs.NumberLaws.{passed_number}

-- the command as it is built
abbrev pub built_of : Synopsis → Shape
built_of s = built_leaf (inherited program (shape s))

-- the rule of an argument as it is built, where the next place has this number
abbrev built_rule : ℕ → Argument → Rule
built_rule i a = with_index i (filled (rule a))

-- ---- each rule is the one of its id

abbrev is_new : Text → List Rule → Bool
is_new id [] = true
is_new id (a ∷ more) = not (bytes_eq id a.id) && is_new id more

-- no two rules have one id
abbrev pub are_apart : List Rule → Bool
are_apart [] = true
are_apart (a ∷ more) = is_new a.id more && are_apart more

abbrev AreOwn : List Rule → List Rule → Type 0
AreOwn rules [] = Unit {0}
AreOwn rules (a ∷ more) = (arg_by_id rules a.id ≡ Some a) × AreOwn rules more

pub both : (a b : Bool) → (a && b) ≡ true → (a ≡ true) × (b ≡ true)
both true b e = (refl, e)
both false b e = absurd (true≢false (sym e))

not_true : (b : Bool) → not b ≡ true → b ≡ false
not_true true e = absurd (true≢false (sym e))
not_true false e = refl

behind : (x : Rule) (rules ys : List Rule) → is_new x.id ys ≡ true → AreOwn rules ys → AreOwn (x ∷ rules) ys
behind x rules [] new own = tt
behind x rules (y ∷ ys) new own =
    let parts = both _ _ new in (
      ap (λ b. cond b (Some x) (arg_by_id rules y.id)) (not_true _ parts.0) ∙ own.0,
      behind x rules ys parts.1 own.1,
    )

are_own : (rules : List Rule) → are_apart rules ≡ true → AreOwn rules rules
are_own [] apart = tt
are_own (a ∷ more) apart =
    let parts = both _ _ apart in (
      ap (λ b. cond b (Some a) (arg_by_id more a.id)) ((bytes_eq-Decides a.id a.id).1 refl),
      behind a more more parts.0 (are_own more parts.1),
    )

-- ---- each use of an argument gives it a value

valued : (rules : List Rule) (i : ℕ) (a : Argument) → arg_by_id rules (built_rule i a).id ≡ Some (built_rule i a) → IsValued rules (built_rule i a)
valued rules i (File name) own = record { own = own; action = refl; some = refl; takes = refl; defaults = refl }
valued rules i (Files name) own = record { own = own; action = refl; some = refl; takes = refl; defaults = refl }
valued rules i (Number name range) own = record { own = own; action = refl; some = refl; takes = refl; defaults = refl }
valued rules i (FileOption name value) own = record { own = own; action = refl; some = refl; takes = refl; defaults = refl }
valued rules i (NumberOption name value range) own = record { own = own; action = refl; some = refl; takes = refl; defaults = refl }
valued rules i (OptionalNumber name value range) own = record { own = own; action = refl; some = refl; takes = refl; defaults = refl }

all_valued : (rules : List Rule) (i : ℕ) (xs : List Argument) → AreOwn rules (filled_from i (map rule xs)) → AreValued rules (filled_from i (map rule xs))
all_valued rules i [] own = tt
all_valued rules i (a ∷ more) own = (valued rules i a own.0, all_valued rules (index_after i (rule a)) more own.1)

-- ---- what an argument holds

number_given : (name : Text) (range : Range) (i : ℕ) (rows : List Row) → IsGiven (built_rule i (Number name range)) rows → HasNumber name range rows
number_given name range i rows given = passed_number name range rows given.text given.is_one (accepts-Accepts false (numbers range) given.text given.passes)

number_named : (name value : Text) (range : Range) (i : ℕ) (rows : List Row) → IsGiven (built_rule i (NumberOption name value range)) rows
    → HasNumber name range rows
number_named name value range i rows given =
    passed_number name range rows given.text given.is_one (accepts-Accepts false (numbers range) given.text given.passes)

may_number : (name value : Text) (range : Range) (i : ℕ) (rows : List Row) → MayBeGiven (built_rule i (OptionalNumber name value range)) rows
    → MayHaveNumber name range rows
may_number name value range i rows (inl none) = inl (ap (option_and_then row_text) none)
may_number name value range i rows (inr given) =
    inr (passed_number name range rows given.text given.is_one (accepts-Accepts false (numbers range) given.text given.passes))

-- an argument holds what it is to hold, where it is given if it has to be
holds_one : (i : ℕ) (a : Argument) (rows : List Row) → MayBeGiven (built_rule i a) rows → ((built_rule i a).required ≡ true → IsGiven (built_rule i a) rows) → Holds a rows
holds_one i (File name) rows may given = has_text (built_rule i (File name)) rows (given refl)
holds_one i (Files name) rows may given = has_texts (built_rule i (Files name)) rows (given refl)
holds_one i (Number name range) rows may given = number_given name range i rows (given refl)
holds_one i (FileOption name value) rows may given = has_text (built_rule i (FileOption name value)) rows (given refl)
holds_one i (NumberOption name value range) rows may given = number_named name value range i rows (given refl)
holds_one i (OptionalNumber name value range) rows may given = may_number name value range i rows may

holds_all : (s : Shape) (words : List Text) → AreValued s.rules s.rules → level_fault s [] nothing_held words false [] ≡ [] → (i : ℕ) (xs : List Argument)
    → AreOwn s.rules (filled_from i (map rule xs)) → HoldAll xs (rows_after s.rules [] words)
holds_all s words fine none i [] own = tt
holds_all s words fine none i (a ∷ more) own = (
  holds_one i a _ (leaf_may s words fine none (built_rule i a) own.0) (λ required. leaf_given s words fine none (built_rule i a) own.0 required),
  holds_all s words fine none (index_after i (rule a)) more own.1,
)

-- the arguments of a command hold what they are to hold where its words have no fault
pub synopsis_holds : (s : Synopsis) (words : List Text) → are_apart (built_of s).rules ≡ true → level_fault (built_of s) [] nothing_held words false [] ≡ []
    → HoldAll s.arguments (rows_after (built_of s).rules [] words)
synopsis_holds s words apart none =
    let own = are_own (built_of s).rules apart in
    holds_all (built_of s) words (all_valued (built_of s).rules 1 s.arguments own) none 1 s.arguments own

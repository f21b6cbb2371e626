-- A command without subcommands that takes its words has a value of each argument that is required.
use Rattle.std.proofs.Common.{◌≡◌, ◌≤◌, ◌∙◌, ◌&&◌, ◌||◌, ◌⊎◌, ap, subst, sym, inl, inr, refl, cond, Bool, true, false, not, true≢false, List, [], ◌∷◌, length, Option, Some, None, arith, unwrap_or}
use Rattle.std.specs.Prelude.{find, fold, option_and_then, slice_get}
use Rattle.std.specs.Option.{option_map_or, is_some}
use Rattle.std.specs.List.{list_any}
use Rattle.std.specs.Str.{bytes_eq}
use Rattle.std.proofs.lemmas.Slice.Eq.{bytes_eq-Decides}
use Rattle.clap.specs.Facts.{explicit_source}
use Rattle.clap.specs.Values.{read_as}
use Rattle.clap.specs.Walk.{Names, Row, Rule, Text, arg_by_id, default_rows, finished, first_of, has_row, nothing_held, one_of, reading_by, row_text, rows_after, settled, walk, walk_from, with_default}
use Rattle.clap.specs.Simple.{Shape}
use Rattle.clap.specs.Takes.{is_given, value_passes}
use Rattle.clap.specs.Kinds.{Kinds, check_kinds}
use Rattle.clap.specs.Faults.{check_fault, level_fault, settle_fault, walk_fault}
use Rattle.pg_cli_parse.specs.Arguments.{HasText, texts_of}
use Rattle.pg_cli_parse.proofs.RowLaws.{AllFit, AreValued, Fits, IsValued, fault_absurd, no_fault}
use Rattle.pg_cli_parse.proofs.WalkLaws.{settle_fits, walk_fits}

-- ---- no argument has a default

adds_nothing : (rules : List Rule) (rows : List Row) (a : Rule) → IsValued rules a → with_default rows a ≡ rows
adds_nothing rules rows a s =
    ap (λ (texts : List Text). cond (has_row a.id rows) rows (default_rows a.id (reading_by a) texts rows)) s.defaults ∙ go (has_row a.id rows)
  where
    go : (b : Bool) → cond b rows rows ≡ rows
    go true = refl
    go false = refl

no_defaults : (rules xs : List Rule) (rows : List Row) → AreValued rules xs → fold with_default rows xs ≡ rows
no_defaults rules [] rows valued = refl
no_defaults rules (a ∷ xs) rows valued = no_defaults rules xs (with_default rows a) valued.1 ∙ adds_nothing rules rows a valued.0

-- ---- the last checks

check_passes : (help sub arg : Bool) → check_kinds help sub arg ≡ [] → (sub ≡ false) × (arg ≡ false)
check_passes true sub arg e = absurd (fault_absurd _ _ e)
check_passes false true arg e = absurd (fault_absurd _ _ e)
check_passes false false true e = absurd (fault_absurd _ _ e)
check_passes false false false e = (refl, refl)

none_missing : (negates missing : Bool) → (not (negates && false) && missing) ≡ false → missing ≡ false
none_missing true missing e = e
none_missing false missing e = e

required_given : (p : Rule → Bool) (xs : List Rule) (rows : List Row) (a : Rule) → find p xs ≡ Some a → list_any (λ x. x.required && not (is_given x.id rows)) xs ≡ false
    → a.required ≡ true → is_given a.id rows ≡ true
required_given p [] rows a found none required = absurd (true≢false (sym (ap is_some found)))
required_given p (x ∷ xs) rows a found none required = go (p x) found (λ rest. required_given p xs rows a rest (parts x.required (is_given x.id rows) _ none).1 required)
  where
    parts : (r g more : Bool) → ((r && not g) || more) ≡ false → (r ≡ true → g ≡ true) × (more ≡ false)
    parts true true more e = (λ h. refl, e)
    parts true false more e = absurd (true≢false e)
    parts false g more e = (λ h. absurd (true≢false (sym h)), e)

    go : (b : Bool) → cond b (Some x) (find p xs) ≡ Some a → (find p xs ≡ Some a → is_given a.id rows ≡ true) → is_given a.id rows ≡ true
    go true e rec =
        let same : x ≡ a = ap (λ o. unwrap_or o x) e in
        subst (λ (y : Rule). is_given y.id rows ≡ true) same ((parts x.required (is_given x.id rows) _ none).0 (ap (λ (y : Rule). y.required) same ∙ required))
    go false e rec = rec e

-- ---- the value of an argument

-- the argument has a value that passed its parser, and maybe more
pub record IsGiven (a : Rule) (rows : List Row) : Type 0 where
  pub text : Text
  pub more : List Text
  pub passes : value_passes a text ≡ true
  pub is_first : first_of a.id rows ≡ Some text
  pub is_one : one_of a.id rows ≡ Some (read_as (reading_by a) text)
  pub are_all : texts_of a.id rows ≡ text ∷ more

found_fits : (rules : List Rule) (id : Text) (rows : List Row) (r : Row) → AllFit rules rows → find (λ x. bytes_eq x.id id) rows ≡ Some r
    → Fits rules r × (bytes_eq r.id id ≡ true)
found_fits rules id [] r fits e = absurd (true≢false (sym (ap is_some e)))
found_fits rules id (x ∷ rows) r fits e = go (bytes_eq x.id id) refl e (λ rest. found_fits rules id rows r fits.1 rest)
  where
    go : (b : Bool) → bytes_eq x.id id ≡ b → cond b (Some x) (find (λ y. bytes_eq y.id id) rows) ≡ Some r
        → (find (λ y. bytes_eq y.id id) rows ≡ Some r → Fits rules r × (bytes_eq r.id id ≡ true)) → Fits rules r × (bytes_eq r.id id ≡ true)
    go true is e rec =
        let same : x ≡ r = ap (λ o. unwrap_or o x) e in
        subst (λ (y : Row). Fits rules y × (bytes_eq y.id id ≡ true)) same (fits.0, is)
    go false is e rec = rec e

-- the argument has no row, or a value that passed its parser
abbrev pub MayBeGiven : Rule → List Row → Type 0
MayBeGiven a rows = (find (λ r. bytes_eq r.id a.id) rows ≡ None) ⊎ IsGiven a rows

one_value : (rules : List Rule) (rows : List Row) (a : Rule) → arg_by_id rules a.id ≡ Some a → AllFit rules rows → MayBeGiven a rows
one_value rules rows a own fits = go (find (λ r. bytes_eq r.id a.id) rows) (λ r e. found_fits rules a.id rows r fits e) refl
  where
    go : (o : Option Row) → ((r : Row) → o ≡ Some r → Fits rules r × (bytes_eq r.id a.id ≡ true)) → find (λ r. bytes_eq r.id a.id) rows ≡ o → MayBeGiven a rows
    go None of is = inl is
    go (Some r) of is = inr (
        let got = of r refl in
        let same : r.id ≡ a.id = (bytes_eq-Decides r.id a.id).0 got.1 in
        let f = got.0 a (ap (arg_by_id rules) same ∙ own) in
        let first : slice_get r.values 0 ≡ Some f.first = ap (λ (vs : List Text). slice_get vs 0) f.are_values in
        record {
          text = f.first;
          more = f.more;
          passes = f.passes;
          is_first = ap (option_and_then (λ (x : Row). slice_get x.values 0)) is ∙ first;
          is_one = ap (option_and_then row_text) is ∙ ap (Rattle.std.specs.Prelude.option_map (read_as r.reading)) first ∙ ap (λ how. Some (read_as how f.first)) f.reading;
          are_all = ap (λ (o : Option Row). unwrap_or (Rattle.std.specs.Prelude.option_map (λ x. x.values) o) []) is ∙ f.are_values;
        })

given_value : (rows : List Row) (a : Rule) → MayBeGiven a rows → is_given a.id rows ≡ true → IsGiven a rows
given_value rows a (inl none) given = absurd (true≢false (sym given ∙ ap (λ o. option_map_or (λ (r : Row). explicit_source r.source) o false) none))
given_value rows a (inr value) given = value

-- so it has a text
pub has_text : (a : Rule) (rows : List Row) → IsGiven a rows → HasText a.id rows
has_text a rows g = ap is_some g.is_first

-- and its texts are one at least
pub has_texts : (a : Rule) (rows : List Row) → IsGiven a rows → 1 ≤ length (texts_of a.id rows)
has_texts a rows g = rw g.are_all (omega arith)

-- ---- all of a command

-- where a level of the parse has no fault, none of its parts has one
record IsSound (s : Shape) (names : Names) (words : List Text) (has : Bool) (below : Kinds) : Type 0 where
  words_pass : walk_fault s names (walk_from nothing_held) words ≡ []
  below_passes : below ≡ []
  last_passes : settle_fault s.rules s.args_override_self (walk s.rules names nothing_held words).held ≡ []
  is_checked : check_fault s (finished s.rules (walk s.rules names nothing_held words).held) has ≡ []

sound_level : (s : Shape) (names : Names) (words : List Text) (has : Bool) (below : Kinds) → level_fault s names nothing_held words has below ≡ []
    → IsSound s names words has below
sound_level s names words has below none =
    let p = no_fault _ _ none in
    let q = no_fault _ _ p.1 in
    let r = no_fault _ _ q.1 in
    record { words_pass = p.0; below_passes = q.0; last_passes = r.0; is_checked = (no_fault _ _ r.1).1 }

leaf_fits : (s : Shape) (words : List Text) → AreValued s.rules s.rules → IsSound s [] words false [] → AllFit s.rules (rows_after s.rules [] words)
leaf_fits s words valued sound =
    let end = (walk s.rules [] nothing_held words).held in
    let walked = walk_fits s (walk_from nothing_held) words valued sound.words_pass tt in
    let fits = settle_fits s.rules s.args_override_self end valued sound.last_passes walked in
    subst (AllFit s.rules) (sym (no_defaults s.rules s.rules (settled s.rules end).rows valued)) fits

-- each argument has no row, or a value that passed its parser
pub leaf_may : (s : Shape) (words : List Text) → AreValued s.rules s.rules → level_fault s [] nothing_held words false [] ≡ []
    → (a : Rule) → arg_by_id s.rules a.id ≡ Some a → MayBeGiven a (rows_after s.rules [] words)
leaf_may s words valued none a own =
    one_value s.rules (rows_after s.rules [] words) a own (leaf_fits s words valued (sound_level s [] words false [] none))

-- and a value, where it is required
pub leaf_given : (s : Shape) (words : List Text) → AreValued s.rules s.rules → level_fault s [] nothing_held words false [] ≡ []
    → (a : Rule) → arg_by_id s.rules a.id ≡ Some a → a.required ≡ true → IsGiven a (rows_after s.rules [] words)
leaf_given s words valued none a own required =
    let sound = sound_level s [] words false [] none in
    let rows = rows_after s.rules [] words in
    let checked = check_passes _ _ _ sound.is_checked in
    given_value rows a (leaf_may s words valued none a own) (required_given _ s.rules rows a own (none_missing s.subcommand_negates_reqs _ checked.1) required)

wanted : (needs has : Bool) → needs ≡ true → (not has && needs) ≡ false → has ≡ true
wanted needs true is e = refl
wanted needs false is e = absurd (true≢false (sym is ∙ e))

-- a level that wants a subcommand has met one, and there is no fault below
pub command_met : (s : Shape) (names : Names) (words : List Text) (has : Bool) (below : Kinds) → s.subcommand_required ≡ true
    → level_fault s names nothing_held words has below ≡ [] → (below ≡ []) × (has ≡ true)
command_met s names words has below needs none =
    let sound = sound_level s names words has below none in
    (sound.below_passes, wanted s.subcommand_required has needs (check_passes _ _ _ sound.is_checked).0)

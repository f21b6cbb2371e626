-- What the rows of a walk hold, where each use of an argument gives it a value.
use Rattle.std.proofs.Common.{◌≡◌, ◌∙◌, ◌++◌, ap, subst, sym, refl, cond, Bool, true, false, true≢false, ℕ, List, [], ◌∷◌, length, nat_lt, Some, unwrap_or}
use Rattle.std.specs.Prelude.{find}
use Rattle.std.specs.Option.{option_map_or}
use Rattle.std.specs.Str.{bytes_eq}
use Rattle.clap.specs.Facts.{unwrap_or_range}
use Rattle.clap.specs.Walk.{Row, Rule, Text, action_of, arg_by_id, at_row, more_values, reading_by, takes_values, used, used_as, values_or_missing, with_values, without}
use Rattle.clap.specs.Takes.{value_passes}
use Rattle.clap.specs.Kinds.{Kinds, or_else, range_kinds}
use Rattle.clap.specs.Faults.{action_fault, use_fault, values_fault}
use Rattle.clap.specs.declared.builder.action.ArgAction.{ArgAction}
use Rattle.clap.specs.declared.builder.action.ArgAction.TheVariants.{Append, Count, Help, HelpLong, HelpShort, Set, SetFalse, SetTrue, Version}
use Rattle.clap.specs.declared.error.kind.ErrorKind.{ErrorKind}
use Rattle.clap.specs.declared.parser.matches.ValueSource.TheVariants.{CommandLine}

-- ---- no fault in either of two steps

abbrev has_some : {X : Type 0} → List X → Bool
has_some [] = false
has_some (x ∷ xs) = true

cons≢nil : {X : Type 0} (x : X) (xs : List X) → x ∷ xs ≡ [] → ⊥
cons≢nil x xs e = true≢false (ap has_some e)

pub no_fault : (a b : Kinds) → or_else a b ≡ [] → (a ≡ []) × (b ≡ [])
no_fault [] b e = (refl, e)
no_fault (k ∷ ks) b e = absurd (cons≢nil k ks e)

pub fault_absurd : (k : ErrorKind) (ks : Kinds) → k ∷ ks ≡ [] → ⊥
fault_absurd k ks e = cons≢nil k ks e

-- ---- arguments with values

-- a use leaves its values in the argument's row, alone or after those of earlier uses
abbrev pub keeps_values : ArgAction → Bool
keeps_values Set = true
keeps_values Append = true
keeps_values _ = false

-- the argument is the one of its id, and each use gives it one value at least
pub record IsValued (rules : List Rule) (a : Rule) : Type 0 where
  pub own : arg_by_id rules a.id ≡ Some a
  pub action : keeps_values (action_of a) ≡ true
  pub some : nat_lt 0 (unwrap_or_range a.range).start_inclusive ≡ true
  pub takes : takes_values a ≡ true
  pub defaults : a.defaults ≡ []

abbrev pub AreValued : List Rule → List Rule → Type 0
AreValued rules [] = Unit {0}
AreValued rules (a ∷ more) = IsValued rules a × AreValued rules more

pub found_valued : (rules : List Rule) (p : Rule → Bool) (xs : List Rule) (a : Rule) → AreValued rules xs → find p xs ≡ Some a → IsValued rules a
found_valued rules p [] a h e = absurd (true≢false (sym (ap (λ o. Rattle.std.specs.Option.is_some o) e)))
found_valued rules p (x ∷ xs) a h e = go (p x) e (λ rest. found_valued rules p xs a h.1 rest)
  where
    go : (b : Bool) → cond b (Some x) (find p xs) ≡ Some a → (find p xs ≡ Some a → IsValued rules a) → IsValued rules a
    go true e rec = subst (IsValued rules) (ap (λ o. unwrap_or o x) e) h.0
    go false e rec = rec e

-- ---- rows

-- the row has a value, whose first passed the argument's parser
pub record IsFitting (a : Rule) (r : Row) : Type 0 where
  pub first : Text
  pub more : List Text
  pub are_values : r.values ≡ first ∷ more
  pub passes : value_passes a first ≡ true
  pub reading : r.reading ≡ reading_by a

abbrev pub Fits : List Rule → Row → Type 0
Fits rules r = (a : Rule) → arg_by_id rules r.id ≡ Some a → IsFitting a r

abbrev pub AllFit : List Rule → List Row → Type 0
AllFit rules [] = Unit {0}
AllFit rules (r ∷ rows) = Fits rules r × AllFit rules rows

both_fit : (rules : List Rule) (xs ys : List Row) → AllFit rules xs → AllFit rules ys → AllFit rules (xs ++ ys)
both_fit rules [] ys h g = g
both_fit rules (x ∷ xs) ys h g = (h.0, both_fit rules xs ys h.1 g)

at_row_fit : (rules : List Rule) (id : Text) (change : Row → List Row) (missing rows : List Row) → AllFit rules rows
    → ((r : Row) → Fits rules r → AllFit rules (change r)) → AllFit rules missing → AllFit rules (at_row id change missing rows)
at_row_fit rules id change missing [] h changed new = new
at_row_fit rules id change missing (r ∷ rows) h changed new = go (bytes_eq r.id id) (at_row_fit rules id change missing rows h.1 changed new)
  where
    go : (b : Bool) → AllFit rules (at_row id change missing rows) → AllFit rules (cond b (change r ++ rows) (r ∷ at_row id change missing rows))
    go true rec = both_fit rules (change r) rows (changed r h.0) h.1
    go false rec = (h.0, rec)

with_values_fit : (rules : List Rule) (a : Rule) (v : Text) (vs : List Text) (rows : List Row) → IsValued rules a → value_passes a v ≡ true → AllFit rules rows
    → AllFit rules (with_values a.id (reading_by a) CommandLine (v ∷ vs) rows)
with_values_fit rules a v vs rows s passes h = at_row_fit rules a.id (more_values CommandLine (v ∷ vs)) _ rows h
    (λ r fits. (
      λ b found. let old = fits b found in record {
        first = old.first;
        more = old.more ++ v ∷ vs;
        are_values = ap (λ xs. xs ++ v ∷ vs) old.are_values;
        passes = old.passes;
        reading = old.reading;
      },
      tt,
    )) (
      λ b found. let same : a ≡ b = ap (λ o. unwrap_or o a) (sym s.own ∙ found) in record {
        first = v;
        more = vs;
        are_values = refl;
        passes = subst (λ (x : Rule). value_passes x v ≡ true) same passes;
        reading = ap reading_by same;
      },
      tt,
    )

-- ---- one use

some_value : (least most : ℕ) (values : List Text) → nat_lt 0 least ≡ true → range_kinds least most (length values) ≡ []
    → (v : Text) × (vs : List Text) × (values ≡ v ∷ vs)
some_value least most [] some e = absurd (fault_absurd _ _ (rw some at e))
some_value least most (v ∷ vs) some e = (v, vs, refl)

passing : (a : Rule) (v : Text) (vs : List Text) → values_fault a (v ∷ vs) ≡ [] → value_passes a v ≡ true
passing a v vs e = go (value_passes a v) _ (no_fault _ _ e).0
  where
    go : (b : Bool) (k : ErrorKind) → cond b [] (k ∷ []) ≡ [] → b ≡ true
    go true k e = refl
    go false k e = absurd (fault_absurd _ _ e)

kept_fits : (rules : List Rule) (again : Bool) (a : Rule) (v : Text) (vs : List Text) (rows : List Row) (x : ArgAction) → IsValued rules a → keeps_values x ≡ true
    → action_fault x again a (v ∷ vs) rows ≡ [] → AllFit rules rows → AllFit rules (used_as x a.id (reading_by a) (v ∷ vs) rows)
kept_fits rules again a v vs rows Set s keeps none h = with_values_fit rules a v vs (without a.id rows) s (passing a v vs (no_fault _ _ none).1)
    (at_row_fit rules a.id (λ _. []) [] rows h (λ r fits. tt) tt)
kept_fits rules again a v vs rows Append s keeps none h = with_values_fit rules a v vs rows s (passing a v vs none) h
kept_fits rules again a v vs rows SetTrue s keeps none h = absurd (true≢false (sym keeps))
kept_fits rules again a v vs rows SetFalse s keeps none h = absurd (true≢false (sym keeps))
kept_fits rules again a v vs rows Count s keeps none h = absurd (true≢false (sym keeps))
kept_fits rules again a v vs rows Help s keeps none h = absurd (true≢false (sym keeps))
kept_fits rules again a v vs rows HelpShort s keeps none h = absurd (true≢false (sym keeps))
kept_fits rules again a v vs rows HelpLong s keeps none h = absurd (true≢false (sym keeps))
kept_fits rules again a v vs rows Version s keeps none h = absurd (true≢false (sym keeps))

-- a use with no fault leaves fitting rows
pub use_fits : (rules : List Rule) (again : Bool) (a : Rule) (values : List Text) (rows : List Row) → IsValued rules a
    → use_fault again a values rows ≡ [] → AllFit rules rows → AllFit rules (used a values rows)
use_fits rules again a values rows s none h =
    let parts = no_fault _ _ none in
    let first = some_value _ _ values s.some parts.0 in
    let fine = subst (λ (vs : List Text). action_fault (action_of a) again a (values_or_missing a vs) rows ≡ []) first.2 parts.1 in
    subst (λ (vs : List Text). AllFit rules (used_as (action_of a) a.id (reading_by a) (values_or_missing a vs) rows)) (sym first.2)
    (kept_fits rules again a first.0 first.1 rows (action_of a) s s.action fine h)

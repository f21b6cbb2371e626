-- A walk over words with no fault leaves fitting rows, where each use of an argument gives it a value.
use Rattle.std.proofs.Common.{◌≡◌, ◌&&◌, subst, sym, refl, cond, Bool, true, false, ℕ, zero, suc, List, [], ◌∷◌, length, Option, Some, None}
use Rattle.std.specs.Prelude.{fold, slice_get}
use Rattle.std.specs.Option.{option_map_or, is_some}
use Rattle.std.specs.Str.{bytes_eq, chars}
use Rattle.clap.specs.Lexer.{long_of, short_of}
use Rattle.clap.specs.Walk.{Held, Names, Outcome, Row, Rule, Step, Text, Waiting, Walk, after_flag, after_step, arg_by_id, arg_by_index, arg_by_long, arg_by_short, attached_value, bundle, bundle_met, bundle_step, done, has_long, has_short, idle, is_pending, long_met, long_or_other, long_word, next, option, option_met, option_word, plain, plain_word, positional, positional_held, pushed, reacted, refused, settled, settled_rows, short_met, short_or_plain, short_word, subcommand, subcommand_met, subcommand_or_other, takes_several, takes_values, to_positional, trailing, used, value, waits, walk, walk_from, walked, walked_from, word_met}
use Rattle.clap.specs.Simple.{Shape}
use Rattle.clap.specs.Kinds.{Kinds, or_else}
use Rattle.clap.specs.Faults.{bundle_fault, bundle_step_fault, flag_word_fault, flags_fault, long_fault, option_fault, other_fault, positional_fault, react_fault, settle_fault, short_fault, step_fault, stray_fault, turn_fault, use_fault, walk_fault, word_fault}
use Rattle.pg_cli_parse.proofs.RowLaws.{AllFit, AreValued, IsValued, found_valued, no_fault, use_fits}

-- ---- what is pending is used

settle_go : (c : List Rule) (again : Bool) (p : Option (Text × List Text)) (rows : List Row) → AreValued c c
    → option_map_or (λ q. option_map_or (λ a. use_fault again a q.1 rows) (arg_by_id c q.0) []) p [] ≡ []
    → AllFit c rows → AllFit c (settled_rows c p rows)
settle_go c again None rows valued none h = h
settle_go c again (Some p) rows valued none h = go (arg_by_id c p.0) (λ a e. found_valued c _ c a valued e) none
  where
    go : (o : Option Rule) → ((a : Rule) → o ≡ Some a → IsValued c a) → option_map_or (λ a. use_fault again a p.1 rows) o [] ≡ []
        → AllFit c (Rattle.clap.specs.Walk.used_by_id o p.1 rows)
    go None of fine = h
    go (Some a) of fine = use_fits c again a p.1 rows (of a refl) fine h

pub settle_fits : (c : List Rule) (again : Bool) (h : Held) → AreValued c c → settle_fault c again h ≡ [] → AllFit c h.rows → AllFit c (settled c h).rows
settle_fits c again h valued none fits = settle_go c again h.pending h.rows valued none fits

react_fits : (c : List Rule) (again : Bool) (a : Rule) (values : List Text) (h : Held) → AreValued c c → IsValued c a
    → react_fault c again a values h ≡ [] → AllFit c h.rows → AllFit c (reacted c a values h).rows
react_fits c again a values h valued of none fits =
    let parts = no_fault _ _ none in
    use_fits c again a values (settled c h).rows of parts.1 (settle_fits c again h valued parts.0 fits)

option_fits : (c : List Rule) (again : Bool) (a : Rule) (v : Option Text) (h : Held) → AreValued c c → IsValued c a
    → option_fault c again a v h ≡ [] → AllFit c h.rows → AllFit c (option_met c a v h).0.rows
option_fits c again a (Some v) h valued of none fits = react_fits c again a (v ∷ []) h valued of none fits
option_fits c again a None h valued of none fits = settle_fits c again h valued none fits

-- ---- a word that is a flag

long_go : (c : List Rule) (again : Bool) (o : Option Rule) (v : Option Text) (h : Held) → AreValued c c → ((a : Rule) → o ≡ Some a → IsValued c a)
    → long_fault c again o v h ≡ [] → AllFit c h.rows → AllFit c (long_met c o v h).0.rows
long_go c again None v h valued of none fits = fits
long_go c again (Some a) v h valued of none fits =
    let takes = (of a refl).takes in
    let fine : option_fault c again a v h ≡ [] = rw takes at none in
    let is : (long_met c (Some a) v h) ≡ option_met c a v h = rw takes refl in
    subst (λ (m : Held × Outcome). AllFit c m.0.rows) (sym is) (option_fits c again a v h valued (of a refl) fine fits)

flags_fit : (c : List Rule) (again : Bool) (k : ℕ) (flags : Text) (skip : ℕ) (so_far : Outcome) (h : Held) → AreValued c c
    → flags_fault c again k flags skip h ≡ [] → AllFit c h.rows → AllFit c (bundle_met c k flags skip so_far h).0.rows
unfolding flags_fault bundle_met
flags_fit c again zero flags skip so_far h valued none fits = fits
flags_fit c again (suc k) flags skip so_far h valued none fits =
    go (slice_get (chars flags) 0) skip none (λ more_flags more_skip outcome fine. flags_fit c again k more_flags more_skip outcome h valued fine fits)
  where
    short_go : (o : Option Rule) (rest : Text) (ask : Held → Kinds) (after : Held → Held × Outcome) → ((a : Rule) → o ≡ Some a → IsValued c a)
        → short_fault c again o rest h ask ≡ [] → AllFit c (short_met c o rest h after).0.rows
    short_go None rest ask after of fine = fits
    short_go (Some a) rest ask after of fine =
        let takes = (of a refl).takes in
        let fine2 : option_fault c again a (attached_value rest) h ≡ [] = rw takes at fine in
        let is : (short_met c (Some a) rest h after) ≡ option_met c a (attached_value rest) h = rw takes refl in
        subst (λ (m : Held × Outcome). AllFit c m.0.rows) (sym is) (option_fits c again a (attached_value rest) h valued (of a refl) fine2 fits)

    go : (o : Option ℕ) (skip : ℕ) → bundle_step_fault c again o flags skip h (flags_fault c again k) ≡ []
        → ((more_flags : Text) (more_skip : ℕ) (outcome : Outcome) → flags_fault c again k more_flags more_skip h ≡ [] → AllFit c (bundle_met c k more_flags more_skip outcome h).0.rows)
        → AllFit c (bundle_step c o flags skip so_far h (bundle_met c k)).0.rows
    go None skip fine rec = fits
    go (Some x) zero fine rec =
        short_go (arg_by_short c x) _ _ _ (λ a e. found_valued c _ c a valued e) fine
    go (Some x) (suc skip) fine rec = rec _ skip so_far fine

-- ---- a word

plain_rows : (c : List Rule) (waiting : Waiting) (word : Text) (h : Held) → AllFit c h.rows → AllFit c (plain_word c waiting word h).0.rows
plain_rows c idle word h fits = fits
plain_rows c positional word h fits = fits
plain_rows c (option id) word h fits = go (arg_by_id c id)
  where
    go : (o : Option Rule) → AllFit c (option_word o id word h).0.rows
    go None = fits
    go (Some a) = fits

after_rows : (c : List Rule) (waiting : Waiting) (word : Text) (h : Held) (o : Outcome) → AllFit c h.rows → AllFit c (after_flag c waiting word h o).0.rows
after_rows c waiting word h done fits = fits
after_rows c waiting word h (waits id) fits = fits
after_rows c waiting word h plain fits = plain_rows c waiting word h fits
after_rows c waiting word h refused fits = plain_rows c waiting word h fits

flag_word_fits : (c : List Rule) (again : Bool) (waiting : Waiting) (word : Text) (o : Option (Text × Option Text)) (h : Held) → AreValued c c
    → flag_word_fault c again o word h ≡ [] → AllFit c h.rows → AllFit c (long_or_other c waiting word o h).0.rows
flag_word_fits c again waiting word (Some p) h valued none fits =
    after_rows c waiting word _ _ (long_go c again (arg_by_long c p.0) p.1 h valued (λ a e. found_valued c _ c a valued e) none fits)
flag_word_fits c again waiting word None h valued none fits = go (short_of word) none
  where
    go : (o : Option Text) → option_map_or (λ flags. bundle_fault c again flags h) o [] ≡ [] → AllFit c (short_or_plain c waiting word o h).0.rows
    go None fine = plain_rows c waiting word h fits
    go (Some flags) fine = after_rows c waiting word _ _ (flags_fit c again (length flags) flags h.skip plain (record h { skip = 0 }) valued fine fits)

other_fits : (s : Shape) (waiting : Waiting) (position : ℕ) (word : Text) (h : Held) → AreValued s.rules s.rules
    → other_fault s None word h ≡ [] → AllFit s.rules h.rows → AllFit s.rules (subcommand_or_other s.rules None waiting position word h).0.rows
other_fits s waiting position word h valued none fits = go (bytes_eq word (45 ∷ 45 ∷ [])) none
  where
    go : (b : Bool) → cond b [] (flag_word_fault s.rules s.args_override_self (long_of word) word h) ≡ []
        → AllFit s.rules (cond b (h, trailing position) (long_or_other s.rules waiting word (long_of word) h)).0.rows
    go true fine = fits
    go false fine = flag_word_fits s.rules s.args_override_self waiting word (long_of word) h valued fine fits

word_fits : (s : Shape) (is_trailing : Bool) (waiting : Waiting) (position : ℕ) (word : Text) (h : Held) → AreValued s.rules s.rules
    → word_fault s [] is_trailing waiting word h ≡ [] → AllFit s.rules h.rows → AllFit s.rules (word_met s.rules [] is_trailing waiting position word h).0.rows
word_fits s true waiting position word h valued none fits = fits
word_fits s false idle position word h valued none fits = other_fits s idle position word h valued none fits
word_fits s false (option id) position word h valued none fits = other_fits s (option id) position word h valued none fits
word_fits s false positional position word h valued none fits = other_fits s positional position word h valued none fits

step_fits : (s : Shape) (word : Text) (w : Walk) (h : Held) (step : Step) → AreValued s.rules s.rules
    → step_fault s w.position h step ≡ [] → AllFit s.rules h.rows → AllFit s.rules (after_step s.rules word w h step).held.rows
step_fits s word w h (next waiting) valued none fits = fits
step_fits s word w h (trailing position) valued none fits = fits
step_fits s word w h (subcommand name) valued none fits = fits
step_fits s word w h value valued none fits = go (arg_by_index s.rules w.position) none
  where
    held : (a : Rule) (b : Bool) → cond b [] (settle_fault s.rules s.args_override_self h) ≡ []
        → AllFit s.rules (pushed a.id word (cond b h (settled s.rules h))).rows
    held a true fine = fits
    held a false fine = settle_fits s.rules s.args_override_self h valued fine fits

    go : (o : Option Rule) → option_map_or (λ a. positional_fault s.rules s.args_override_self a h) o (stray_fault s) ≡ []
        → AllFit s.rules (to_positional s.rules o word w h).held.rows
    go None fine = fits
    go (Some a) fine = held a (is_pending a h.pending && takes_several a) fine

turn_fits : (s : Shape) (w : Walk) (word : Text) → AreValued s.rules s.rules
    → turn_fault s [] w word ≡ [] → AllFit s.rules w.held.rows → AllFit s.rules (walked s.rules [] w word).held.rows
unfolding walked
turn_fits s w word valued none fits = go w.stopped none
  where
    go : (o : Option (Text × List Text))
        → cond (is_some o) [] (or_else (word_fault s [] w.is_trailing w.waiting word w.held)
        (step_fault s w.position (word_met s.rules [] w.is_trailing w.waiting w.position word w.held).0 (word_met s.rules [] w.is_trailing w.waiting w.position word w.held).1)) ≡ []
        → AllFit s.rules (walked_from s.rules [] o w word).held.rows
    go (Some p) fine = fits
    go None fine =
        let parts = no_fault _ _ fine in
        step_fits s word w _ _ valued parts.1 (word_fits s w.is_trailing w.waiting w.position word w.held valued parts.0 fits)

-- ---- all the words

pub walk_fits : (s : Shape) (w : Walk) (words : List Text) → AreValued s.rules s.rules
    → walk_fault s [] w words ≡ [] → AllFit s.rules w.held.rows → AllFit s.rules (fold (walked s.rules []) w words).held.rows
unfolding walk_fault
walk_fits s w [] valued none fits = fits
walk_fits s w (word ∷ rest) valued none fits =
    let parts = no_fault _ _ none in
    walk_fits s (walked s.rules [] w word) rest valued parts.1 (turn_fits s w word valued parts.0 fits)

-- The cells that are put line by line, and what is known of them behind line n.
use Rattle.std.proofs.Common.{◌≡◌, ◌⊎◌, inl, inr, ℕ, zero, suc, ◌+◌, ◌<◌, ◌≤◌, Bool, true, false, cond, List, [], ◌∷◌, length, set, drop, slice_get, Option, None, Some, unwrap_or, Result, Ok, Err, refl, ap, sym, subst, ◌∙◌, arith}
use Rattle.std.specs.Prelude.{◌==◌, replicate}
use Rattle.std.specs.Option.{option_map}
use Rattle.std.proofs.lemmas.Bool.{eqb-true}
use Rattle.std.proofs.lemmas.Option.{slice_get-map, slice_get_within}
use Rattle.std.proofs.lemmas.List.{length-set, length-map, length-replicate}
use Rattle.pg_ast.specs.declared.tree.Desc.{Desc}
use Rattle.pg_lang_valid.specs.Valid.{IsValid}
use Rattle.pg_asm.specs.declared.fault.AsmFault.{AsmFault}
use Rattle.pg_asm.specs.declared.fault.AsmFault.TheVariants.{Long, Token, Grammar, Name, Field, Label as LabelFault, Range, Place, Overlap, Memory}
use Rattle.pg_asm.specs.declared.mark.Mark.{Mark}
use Rattle.pg_asm.specs.Said.{Operand, Said, Blank, At, Label, Word, Instr}
use Rattle.pg_asm.specs.Sources.{place_behind, Labels, mark_of, instr_word, put_word, keep_cells, cells_behind, then_due, cells_from, filled, first_place, labels_of, none_given}
use Rattle.pg_asm.specs.Placed.{IsLine, takes_place, StandsAt, Takes, SaysInstr, SaysWord, IsPlaced, IsCell, IsImageOf, IsInstrLine, NamesNone, GivesOthers, UsesNone, GivesAgain, DoesNotFit, PassesSize, TakesAgain, spot_of, turn_of}
use Rattle.pg_asm.proofs.LinePlaces.{below-or, below-next, one-line, Left, left, none-left, place_at, place-is, stands}
use Rattle.pg_asm.proofs.LabelPlaces.{IsMark, AreLabels, next-at, gathered}
use Rattle.pg_asm.proofs.InstrPlaces.{Course, unnamed, others, unknown, unfit, worded_as, course, one-said, not-unnamed, not-others, not-unknown, not-unfit, says-fit}

-- what is wrong with lines, each of which has a form
abbrev pub IsLineFault : Desc → ℕ → List Said → AsmFault → Type 0
IsLineFault d size lines Long = ⊥
IsLineFault d size lines (Token place) = ⊥
IsLineFault d size lines (Grammar n) = ⊥
IsLineFault d size lines (Name n) = NamesNone d lines n
IsLineFault d size lines (Field n) = GivesOthers d lines n
IsLineFault d size lines (LabelFault n) = UsesNone lines n ⊎ GivesAgain lines n
IsLineFault d size lines (Range n) = DoesNotFit d lines n
IsLineFault d size lines (Place n) = PassesSize size lines n
IsLineFault d size lines (Overlap n) = TakesAgain lines n
IsLineFault d size lines Memory = ⊥

-- ---- a cell that is written

get-set_same : {X : Type 0} (xs : List X) (i : ℕ) (x y : X) → slice_get xs i ≡ Some y → slice_get (set xs i x) i ≡ Some x
get-set_same [] i x y h = absurd (cc h)
get-set_same (z ∷ xs) zero x y h = refl
get-set_same (z ∷ xs) (suc i) x y h = get-set_same xs i x y h

get-set_other : {X : Type 0} (xs : List X) (i a : ℕ) (x : X) → (a ≡ i → ⊥) → slice_get (set xs i x) a ≡ slice_get xs a
get-set_other [] i a x h = refl
get-set_other (z ∷ xs) zero zero x h = absurd (h refl)
get-set_other (z ∷ xs) zero (suc a) x h = refl
get-set_other (z ∷ xs) (suc i) zero x h = refl
get-set_other (z ∷ xs) (suc i) (suc a) x h = get-set_other xs i a x (λ e. h (ap suc e))

past-none : {X : Type 0} (xs : List X) (i : ℕ) → slice_get xs i ≡ None → length xs ≤ i
past-none [] i h = omega arith
past-none (x ∷ xs) zero h = absurd (cc h)
past-none (x ∷ xs) (suc i) h = omega (arith, past-none xs i h)

same-or : (a b : ℕ) → (a ≡ b) ⊎ (a ≡ b → ⊥)
same-or a b = by (below-or a b) (below-or b a)
  where
    by : (a < b) ⊎ (b ≤ a) → (b < a) ⊎ (a ≤ b) → (a ≡ b) ⊎ (a ≡ b → ⊥)
    by (inl less) k = inr (λ e. omega (arith, less, e))
    by (inr more) (inl less) = inr (λ e. omega (arith, less, e))
    by (inr more) (inr most) = inl (omega (arith, more, most))

-- ---- what is not wrong with line n

record NoWordFault (d : Desc) (lines : List Said) (n : ℕ) : Type 0 where
  unnamed : NamesNone d lines n → ⊥
  others : GivesOthers d lines n → ⊥
  unknown : UsesNone lines n → ⊥
  again : GivesAgain lines n → ⊥
  unfit : DoesNotFit d lines n → ⊥

-- nothing is wrong with it whose turn is before `turn`
record UpTo (d : Desc) (size : ℕ) (lines : List Said) (n turn : ℕ) : Type 0 where
  unnamed : 0 < turn → NamesNone d lines n → ⊥
  others : 1 < turn → GivesOthers d lines n → ⊥
  unknown : 2 < turn → UsesNone lines n → ⊥
  again : 2 < turn → GivesAgain lines n → ⊥
  unfit : 3 < turn → DoesNotFit d lines n → ⊥
  past : 4 < turn → PassesSize size lines n → ⊥
  taken : 5 < turn → TakesAgain lines n → ⊥

none-here : (d : Desc) (size : ℕ) (lines : List Said) (n turn : ℕ) → UpTo d size lines n turn → (g : AsmFault) → IsLineFault d size lines g → spot_of g ≡ n → turn_of g < turn → ⊥
none-here d size lines n turn u Long h at less = h
none-here d size lines n turn u (Token place) h at less = h
none-here d size lines n turn u (Grammar m) h at less = h
none-here d size lines n turn u (Name m) h at less = u.unnamed less (subst (NamesNone d lines) at h)
none-here d size lines n turn u (Field m) h at less = u.others less (subst (GivesOthers d lines) at h)
none-here d size lines n turn u (LabelFault m) (inl h) at less = u.unknown less (subst (UsesNone lines) at h)
none-here d size lines n turn u (LabelFault m) (inr h) at less = u.again less (subst (GivesAgain lines) at h)
none-here d size lines n turn u (Range m) h at less = u.unfit less (subst (DoesNotFit d lines) at h)
none-here d size lines n turn u (Place m) h at less = u.past less (subst (PassesSize size lines) at h)
none-here d size lines n turn u (Overlap m) h at less = u.taken less (subst (TakesAgain lines) at h)
none-here d size lines n turn u Memory h at less = h

turn-most : (g : AsmFault) → turn_of g < 6
turn-most Long = omega arith
turn-most (Token place) = omega arith
turn-most (Grammar m) = omega arith
turn-most (Name m) = omega arith
turn-most (Field m) = omega arith
turn-most (LabelFault m) = omega arith
turn-most (Range m) = omega arith
turn-most (Place m) = omega arith
turn-most (Overlap m) = omega arith
turn-most Memory = omega arith

not-instr : (lines : List Said) (n : ℕ) (said : Said) → IsLine lines n said → ((name : List ℕ) (operands : List Operand) → Instr name operands ≡ said → ⊥) → IsInstrLine lines n → ⊥
not-instr lines n said line other at = other at.name at.operands (one-line lines n (Instr at.name at.operands) said at.line line)

-- a line that is no instruction's, and gives no label again
plain : (d : Desc) (lines : List Said) (n : ℕ) (said : Said) → IsLine lines n said → ((name : List ℕ) (operands : List Operand) → Instr name operands ≡ said → ⊥) →
    (GivesAgain lines n → ⊥) → NoWordFault d lines n
plain d lines n said line other once = record {
  unnamed = λ f. not-instr lines n said line other f.at;
  others = λ f. not-instr lines n said line other f.at;
  unknown = λ f. not-instr lines n said line other f.at;
  again = once;
  unfit = λ f. not-instr lines n said line other f.at;
}

not-label : (lines : List Said) (n : ℕ) (said : Said) → IsLine lines n said → ((name : List ℕ) → Label name ≡ said → ⊥) → GivesAgain lines n → ⊥
not-label lines n said line other f = other f.name (one-line lines n (Label f.name) said f.line line)

-- a line that is an instruction's, and says a word
worded : (d : Desc) (lines : List Said) (labels : Labels) (n : ℕ) (name : List ℕ) (operands : List Operand) (word : ℕ) → IsValid d → AreLabels lines labels → IsLine lines n (Instr name operands) →
    SaysInstr d lines name operands word → NoWordFault d lines n
worded d lines labels n name operands word v are line s = record {
  unnamed = not-unnamed d lines n name operands s.instr line s.named;
  others = not-others d lines n name operands s.instr v line s.named s.fields;
  unknown = not-unknown lines n name operands s.numbers line s.stand;
  again = not-label lines n (Instr name operands) line (λ other e. cc e);
  unfit = not-unfit d lines labels n name operands s.instr s.numbers v are line s.named s.stand (says-fit d lines name operands word s);
}

not-taking : (lines : List Said) (n place : ℕ) (said : Said) → IsLine lines n said → takes_place said ≡ false → Takes lines n place → ⊥
not-taking lines n place said line none t =
    let e : true ≡ false = sym t.takes ∙ ap takes_place (one-line lines n t.said said t.line line) ∙ none in cc e

-- a line that says a word takes a place
says-takes : (d : Desc) (lines : List Said) (said : Said) (word : ℕ) → SaysWord d lines said word → takes_place said ≡ true
says-takes d lines Blank word s = absurd s
says-takes d lines (At k) word s = absurd s
says-takes d lines (Label name) word s = absurd s
says-takes d lines (Word x) word s = refl
says-takes d lines (Instr name operands) word s = refl

pub placed-takes : (d : Desc) (lines : List Said) (place word : ℕ) (p : IsPlaced d lines place word) → Takes lines p.n place
placed-takes d lines place word p = record { said = p.said; line = p.line; takes = says-takes d lines p.said word p.says; stands = p.stands }

-- ---- what is known behind the lines before line n

record Done (d : Desc) (size : ℕ) (lines : List Said) (n : ℕ) (cells : List (Option ℕ)) : Type 0 where
  len : length cells ≡ size
  back : (a w : ℕ) → slice_get cells a ≡ Some (Some w) → (p : IsPlaced d lines a w) × (p.n < n)
  put : (a w : ℕ) (p : IsPlaced d lines a w) → p.n < n → slice_get cells a ≡ Some (Some w)
  given : (m a : ℕ) → m < n → Takes lines m a → (w : ℕ) × (slice_get cells a ≡ Some (Some w))
  right : (g : AsmFault) → IsLineFault d size lines g → spot_of g < n → ⊥

record Faulty (d : Desc) (size : ℕ) (lines : List Said) (n : ℕ) (f : AsmFault) : Type 0 where
  there : IsLineFault d size lines f
  at : spot_of f ≡ n
  none : (g : AsmFault) → IsLineFault d size lines g → spot_of g ≡ n → turn_of g < turn_of f → ⊥

abbrev Behind : Desc → ℕ → List Said → ℕ → Result (List (Option ℕ)) AsmFault → Type 0
Behind d size lines n (Ok cells) = Done d size lines (n + 1) cells
Behind d size lines n (Err f) = Faulty d size lines n f

right-next : (d : Desc) (size : ℕ) (lines : List Said) (n : ℕ) → ((g : AsmFault) → IsLineFault d size lines g → spot_of g < n → ⊥) → UpTo d size lines n 6 →
    (g : AsmFault) → IsLineFault d size lines g → spot_of g < n + 1 → ⊥
right-next d size lines n right here g fault less = by (below-next (spot_of g) n less)
  where
    by : (spot_of g < n) ⊎ (spot_of g ≡ n) → ⊥
    by (inl before) = right g fault before
    by (inr same) = none-here d size lines n 6 here g fault same (turn-most g)

-- a line that takes no place, with which nothing is wrong
done-same : (d : Desc) (size : ℕ) (lines : List Said) (n : ℕ) (said : Said) (cells : List (Option ℕ)) → IsLine lines n said → takes_place said ≡ false → NoWordFault d lines n →
    Done d size lines n cells → Done d size lines (n + 1) cells
done-same d size lines n said cells line none fine k = record {
  len = k.len;
  back = λ a w h. let b = k.back a w h in (b.0, omega (arith, b.1));
  put = λ a w p less. by_put a w p (below-next p.n n less);
  given = λ m a less t. by_given m a t (below-next m n less);
  right = right-next d size lines n k.right (record {
    unnamed = λ e. fine.unnamed;
    others = λ e. fine.others;
    unknown = λ e. fine.unknown;
    again = λ e. fine.again;
    unfit = λ e. fine.unfit;
    past = λ e f. not-taking lines n f.place said line none f.takes;
    taken = λ e f. not-taking lines n f.place said line none f.takes;
  });
}
  where
    by_put : (a w : ℕ) (p : IsPlaced d lines a w) → (p.n < n) ⊎ (p.n ≡ n) → slice_get cells a ≡ Some (Some w)
    by_put a w p (inl less) = k.put a w p less
    by_put a w p (inr same) = absurd (not-taking lines n a said line none (subst (λ m. Takes lines m a) same (placed-takes d lines a w p)))

    by_given : (m a : ℕ) → Takes lines m a → (m < n) ⊎ (m ≡ n) → (w : ℕ) × (slice_get cells a ≡ Some (Some w))
    by_given m a t (inl less) = k.given m a less t
    by_given m a t (inr same) = absurd (not-taking lines n a said line none (subst (λ j. Takes lines j a) same t))

-- a line that says one word, put at its place
put-behind : (d : Desc) (size : ℕ) (lines : List Said) (n place : ℕ) (said : Said) (word : ℕ) (cells : List (Option ℕ)) → IsLine lines n said → StandsAt lines n place → SaysWord d lines said word →
    ((w : ℕ) → SaysWord d lines said w → word ≡ w) → NoWordFault d lines n → Done d size lines n cells → Behind d size lines n (put_word n place cells (Ok word))
put-behind d size lines n place said word cells line stand it_says only fine k = by (slice_get cells place) refl
  where
    takes : Takes lines n place
    takes = record { said = said; line = line; takes = says-takes d lines said word it_says; stands = stand }

    -- the line stands there alone
    here : (m a : ℕ) → m ≡ n → StandsAt lines m a → a ≡ place
    here m a same s = sym (place-is lines m a s) ∙ ap (place_at lines) same ∙ place-is lines n place stand

    upto : (turn : ℕ) → (4 < turn → PassesSize size lines n → ⊥) → (5 < turn → TakesAgain lines n → ⊥) → UpTo d size lines n turn
    upto turn past taken = record {
      unnamed = λ e. fine.unnamed;
      others = λ e. fine.others;
      unknown = λ e. fine.unknown;
      again = λ e. fine.again;
      unfit = λ e. fine.unfit;
      past = past;
      taken = taken;
    }

    within : (o : Option ℕ) → slice_get cells place ≡ Some o → PassesSize size lines n → ⊥
    within o e f =
        let at : f.place ≡ place = here n f.place refl f.takes.stands in
        omega (arith, at, f.past, k.len, slice_get_within cells place o e)

    by : (o : Option (Option ℕ)) → slice_get cells place ≡ o →
        Behind d size lines n (elim o [ None ↦ Err (Place n) | Some None ↦ Ok (set cells place (Some word)) | Some (Some earlier) ↦ Err (Overlap n) ])
    by None e = record {
      there = record { place = place; takes = takes; past = omega (arith, past-none cells place e, k.len) };
      at = refl;
      none = none-here d size lines n 4 (upto 4 (λ less f. omega (arith, less)) (λ less f. omega (arith, less)));
    }
    by (Some (Some earlier)) e =
        let b = k.back place earlier e in
        record {
          there = record { place = place; takes = takes; m = b.0.n; before = b.1; earlier = placed-takes d lines place earlier b.0 };
          at = refl;
          none = none-here d size lines n 5 (upto 5 (λ less. within (Some earlier) e) (λ less f. omega (arith, less)));
        }
    by (Some None) e = record {
      len = length-set cells place (Some word) ∙ k.len;
      back = λ a w h. by_back a w h (same-or a place);
      put = λ a w p less. by_put a w p (below-next p.n n less);
      given = λ m a less t. by_given m a t (below-next m n less);
      right = right-next d size lines n k.right (upto 6 (λ less. within None e) (λ less f. free f));
    }
      where
        new : List (Option ℕ)
        new = set cells place (Some word)

        -- no earlier line gave the cell
        not-given : (w : ℕ) → slice_get cells place ≡ Some (Some w) → ⊥
        not-given w h = let t : Some None ≡ Some (Some w) = sym e ∙ h in cc t

        free : TakesAgain lines n → ⊥
        free f =
            let at : f.place ≡ place = here n f.place refl f.takes.stands in
            let g = k.given f.m place f.before (subst (Takes lines f.m) at f.earlier) in
            not-given g.0 g.1

        stays : (a w : ℕ) → slice_get cells a ≡ Some (Some w) → slice_get new a ≡ Some (Some w)
        stays a w h = get-set_other cells place a (Some word) (λ same. not-given w (ap (slice_get cells) (sym same) ∙ h)) ∙ h

        by_back : (a w : ℕ) → slice_get new a ≡ Some (Some w) → (a ≡ place) ⊎ (a ≡ place → ⊥) → (p : IsPlaced d lines a w) × (p.n < n + 1)
        by_back a w h (inl same) =
            let t : Some (Some word) ≡ Some (Some w) = sym (get-set_same cells place (Some word) None e) ∙ ap (slice_get new) (sym same) ∙ h in
            let one : word ≡ w = cc t in
            (record { n = n; said = said; line = line; stands = subst (StandsAt lines n) (sym same) stand; says = subst (SaysWord d lines said) one it_says }, omega arith)
        by_back a w h (inr other) =
            let b = k.back a w (sym (get-set_other cells place a (Some word) other) ∙ h) in
            (b.0, omega (arith, b.1))

        by_put : (a w : ℕ) (p : IsPlaced d lines a w) → (p.n < n) ⊎ (p.n ≡ n) → slice_get new a ≡ Some (Some w)
        by_put a w p (inl less) = stays a w (k.put a w p less)
        by_put a w p (inr same) =
            let at : a ≡ place = here p.n a same p.stands in
            let it : p.said ≡ said = one-line lines n p.said said (ap (slice_get lines) (sym same) ∙ p.line) line in
            let one : word ≡ w = only w (subst (λ s. SaysWord d lines s w) it p.says) in
            ap (slice_get new) at ∙ get-set_same cells place (Some word) None e ∙ ap (λ x. Some (Some x)) one

        by_given : (m a : ℕ) → Takes lines m a → (m < n) ⊎ (m ≡ n) → (w : ℕ) × (slice_get new a ≡ Some (Some w))
        by_given m a t (inl less) = let g = k.given m a less t in (g.0, stays a g.0 g.1)
        by_given m a t (inr same) = (word, ap (slice_get new) (here m a same t.stands) ∙ get-set_same cells place (Some word) None e)

-- a line that gives a label first
given-once : (lines : List Said) (n : ℕ) (name : List ℕ) (first : Mark) → IsMark lines name first → first.line ≡ n → IsLine lines n (Label name) → GivesAgain lines n → ⊥
given-once lines n name first m at line f =
    let t : Label f.name ≡ Label name = one-line lines n (Label f.name) (Label name) f.line line in
    let same : f.name ≡ name = cc t in
    m.first f.m (omega (arith, f.before, at)) (subst (λ x. IsLine lines f.m (Label x)) same f.earlier)

-- a line that gives a label
label-behind : (d : Desc) (size : ℕ) (lines : List Said) (labels : Labels) (n : ℕ) (name : List ℕ) (cells : List (Option ℕ)) → AreLabels lines labels → IsLine lines n (Label name) → Done d size lines n cells →
    Behind d size lines n (keep_cells n cells (mark_of labels name))
label-behind d size lines labels n name cells are line k = by (mark_of labels name) refl
  where
    by_line : (first : Mark) → IsMark lines name first → (b : Bool) → (first.line == n) ≡ b → Behind d size lines n (cond b (Ok cells) (Err (LabelFault n)))
    by_line first m true e =
        let at : first.line ≡ n = eqb-true first.line n e in
        done-same d size lines n (Label name) cells line refl (plain d lines n (Label name) line (λ x os t. cc t) (given-once lines n name first m at line)) k
    by_line first m false e =
        let before : first.line < n = by_order (below-or first.line n) in
        record {
          there = inr (record { name = name; line = line; m = first.line; before = before; earlier = m.line });
          at = refl;
          none = none-here d size lines n 2 (record {
            unnamed = λ less f. not-instr lines n (Label name) line (λ x os t. cc t) f.at;
            others = λ less f. not-instr lines n (Label name) line (λ x os t. cc t) f.at;
            unknown = λ less f. omega (arith, less);
            again = λ less f. omega (arith, less);
            unfit = λ less f. omega (arith, less);
            past = λ less f. omega (arith, less);
            taken = λ less f. omega (arith, less);
          });
        }
      where
        by_order : (first.line < n) ⊎ (n ≤ first.line) → first.line < n
        by_order (inl less) = less
        by_order (inr more) = by_more (below-or n first.line)
          where
            by_more : (n < first.line) ⊎ (first.line ≤ n) → first.line < n
            by_more (inl less) = absurd (m.first n less line)
            by_more (inr most) = absurd (differ first.line n e (omega (arith, more, most)))
              where
                differ : (a b : ℕ) → (a == b) ≡ false → a ≡ b → ⊥
                differ a b h t = grind (arith, h, t)

    by : (o : Option Mark) → mark_of labels name ≡ o → Behind d size lines n (keep_cells n cells o)
    by None e = absurd (are.none name e n line)
    by (Some first) e = by_line first (are.some name first e) (first.line == n) refl

-- an instruction's line
instr-behind : (d : Desc) (size : ℕ) (lines : List Said) (labels : Labels) (n place : ℕ) (name : List ℕ) (operands : List Operand) (cells : List (Option ℕ)) → IsValid d → AreLabels lines labels →
    IsLine lines n (Instr name operands) → StandsAt lines n place → Done d size lines n cells → (r : Result ℕ AsmFault) → Course d lines n name operands r → Behind d size lines n (put_word n place cells r)
instr-behind d size lines labels n place name operands cells v are line stand k r (unnamed none) = record {
  there = record { at = record { name = name; operands = operands; line = line }; none = none };
  at = refl;
  none = λ g fault at less. omega (arith, less);
}
instr-behind d size lines labels n place name operands cells v are line stand k r (others i named other) = record {
  there = record { at = record { name = name; operands = operands; line = line }; instr = i; named = named; others = other };
  at = refl;
  none = none-here d size lines n 1 (record {
    unnamed = λ less. not-unnamed d lines n name operands i line named;
    others = λ less f. omega (arith, less);
    unknown = λ less f. omega (arith, less);
    again = λ less f. omega (arith, less);
    unfit = λ less f. omega (arith, less);
    past = λ less f. omega (arith, less);
    taken = λ less f. omega (arith, less);
  });
}
instr-behind d size lines labels n place name operands cells v are line stand k r (unknown i named letters some) = record {
  there = inl (record { at = record { name = name; operands = operands; line = line }; k = some.k; operand = some.operand; there = some.there; name = some.unknown.name; uses = some.unknown.is; none = some.unknown.none });
  at = refl;
  none = none-here d size lines n 2 (record {
    unnamed = λ less. not-unnamed d lines n name operands i line named;
    others = λ less. not-others d lines n name operands i v line named letters;
    unknown = λ less f. omega (arith, less);
    again = λ less f. omega (arith, less);
    unfit = λ less f. omega (arith, less);
    past = λ less f. omega (arith, less);
    taken = λ less f. omega (arith, less);
  });
}
instr-behind d size lines labels n place name operands cells v are line stand k r (unfit i named letters ns stands fits) = record {
  there = record { at = record { name = name; operands = operands; line = line }; instr = i; named = named; fields = letters; numbers = ns; stand = stands; unfit = fits };
  at = refl;
  none = none-here d size lines n 3 (record {
    unnamed = λ less. not-unnamed d lines n name operands i line named;
    others = λ less. not-others d lines n name operands i v line named letters;
    unknown = λ less. not-unknown lines n name operands ns line stands;
    again = λ less. not-label lines n (Instr name operands) line (λ other e. cc e);
    unfit = λ less f. omega (arith, less);
    past = λ less f. omega (arith, less);
    taken = λ less f. omega (arith, less);
  });
}
instr-behind d size lines labels n place name operands cells v are line stand k r (worded_as word s) =
    put-behind d size lines n place (Instr name operands) word cells line stand s (λ w t. one-said d lines labels name operands word w v are s t) (worded d lines labels n name operands word v are line s) k

line-behind : (d : Desc) (size first : ℕ) (saids : List Said) (labels : Labels) (n place : ℕ) (cells : List (Option ℕ)) (said : Said) → IsValid d → AreLabels (At first ∷ saids) labels → 0 < n →
    IsLine (At first ∷ saids) n said → place_at (At first ∷ saids) n ≡ place → Done d size (At first ∷ saids) n cells → Behind d size (At first ∷ saids) n (cells_behind d labels n place cells said)
line-behind d size first saids labels n place cells said v are some line at k = by said line
  where
    lines : List Said
    lines = At first ∷ saids

    stand : StandsAt (At first ∷ saids) n place
    stand = subst (StandsAt (At first ∷ saids) n) at (stands first saids n some)

    by : (s : Said) → IsLine (At first ∷ saids) n s → Behind d size (At first ∷ saids) n (cells_behind d labels n place cells s)
    by Blank line = done-same d size lines n Blank cells line refl (plain d lines n Blank line (λ x os t. cc t) (not-label lines n Blank line (λ x t. cc t))) k
    by (At j) line = done-same d size lines n (At j) cells line refl (plain d lines n (At j) line (λ x os t. cc t) (not-label lines n (At j) line (λ x t. cc t))) k
    by (Label name) line = label-behind d size lines labels n name cells are line k
    by (Word word) line =
        put-behind d size lines n place (Word word) word cells line stand refl (λ w e. e) (plain d lines n (Word word) line (λ x os t. cc t) (not-label lines n (Word word) line (λ x t. cc t))) k
    by (Instr name operands) line =
        instr-behind d size lines labels n place name operands cells v are line stand k (instr_word d labels n name operands) (course d first saids labels n name operands v are)

-- ---- behind all lines

-- the first fault of lines
pub record IsFirstOf (d : Desc) (size : ℕ) (lines : List Said) (f : AsmFault) : Type 0 where
  pub there : IsLineFault d size lines f
  pub none : (g : AsmFault) → IsLineFault d size lines g → (spot_of g < spot_of f) ⊎ ((spot_of g ≡ spot_of f) × (turn_of g < turn_of f)) → ⊥

-- the image of lines, with which nothing is wrong
pub record IsWhole (d : Desc) (size : ℕ) (lines : List Said) (cells : List (Option ℕ)) : Type 0 where
  pub image : IsImageOf d size lines (filled cells)
  pub right : (g : AsmFault) → IsLineFault d size lines g → ⊥

abbrev pub Ends : Desc → ℕ → List Said → Result (List (Option ℕ)) AsmFault → Type 0
Ends d size lines (Ok cells) = IsWhole d size lines cells
Ends d size lines (Err f) = IsFirstOf d size lines f

-- a fault stands on a line
fault-line : (d : Desc) (size : ℕ) (lines : List Said) (g : AsmFault) → IsLineFault d size lines g → (said : Said) × IsLine lines (spot_of g) said
fault-line d size lines Long h = absurd h
fault-line d size lines (Token place) h = absurd h
fault-line d size lines (Grammar m) h = absurd h
fault-line d size lines (Name m) h = (Instr h.at.name h.at.operands, h.at.line)
fault-line d size lines (Field m) h = (Instr h.at.name h.at.operands, h.at.line)
fault-line d size lines (LabelFault m) (inl h) = (Instr h.at.name h.at.operands, h.at.line)
fault-line d size lines (LabelFault m) (inr h) = (Label h.name, h.line)
fault-line d size lines (Range m) h = (Instr h.at.name h.at.operands, h.at.line)
fault-line d size lines (Place m) h = (h.takes.said, h.takes.line)
fault-line d size lines (Overlap m) h = (h.takes.said, h.takes.line)
fault-line d size lines Memory h = absurd h

whole : (d : Desc) (size : ℕ) (lines : List Said) (last : ℕ) (cells : List (Option ℕ)) → drop last lines ≡ [] → Done d size lines last cells → IsWhole d size lines cells
whole d size lines last cells end k = record {
  image = record {
    len = length-map cells (λ cell. unwrap_or cell 0) ∙ k.len;
    cell = λ a w. (λ h. held a w (slice_get cells a) refl (sym (slice_get-map (λ cell. unwrap_or cell 0) cells a) ∙ h), λ c. holds a w c.0 c.1);
    within = λ n a t. by_size n a t (below-or a size);
    once = λ m n a s t. by_order m n a s t (below-or m n) (below-or n m);
  };
  right = right;
}
  where
    there : (n : ℕ) (said : Said) → IsLine lines n said → n < last
    there n said line = by (below-or n last)
      where
        by : (n < last) ⊎ (last ≤ n) → n < last
        by (inl less) = less
        by (inr more) = absurd (none-left lines last n said end more line)

    right : (g : AsmFault) → IsLineFault d size lines g → ⊥
    right g h = let l = fault-line d size lines g h in k.right g h (there (spot_of g) l.0 l.1)

    by_size : (n a : ℕ) → Takes lines n a → (a < size) ⊎ (size ≤ a) → a < size
    by_size n a t (inl less) = less
    by_size n a t (inr more) = absurd (right (Place n) (record { place = a; takes = t; past = more }))

    by_order : (m n a : ℕ) → Takes lines m a → Takes lines n a → (m < n) ⊎ (n ≤ m) → (n < m) ⊎ (m ≤ n) → m ≡ n
    by_order m n a s t (inl less) o = absurd (right (Overlap n) (record { place = a; takes = t; m = m; before = less; earlier = s }))
    by_order m n a s t (inr more) (inl less) = absurd (right (Overlap m) (record { place = a; takes = s; m = n; before = less; earlier = t }))
    by_order m n a s t (inr more) (inr most) = omega (arith, more, most)

    held : (a w : ℕ) (o : Option (Option ℕ)) → slice_get cells a ≡ o → option_map (λ cell. unwrap_or cell 0) o ≡ Some w → (a < size) × IsCell d lines a w
    held a w None e h = absurd (cc h)
    held a w (Some None) e h =
        let none : 0 ≡ w = cc h in (
          omega (arith, slice_get_within cells a None e, k.len),
          inr (
            (λ n t.
                let g = k.given n a (there n t.said t.line) t in
                let u : Some None ≡ Some (Some g.0) = sym e ∙ g.1 in
                cc u),
            sym none,
          ),
        )
    held a w (Some (Some x)) e h =
        let same : x ≡ w = cc h in
        (omega (arith, slice_get_within cells a (Some x) e, k.len), inl (subst (IsPlaced d lines a) same (k.back a x e).0))

    gives : (a : ℕ) (o : Option ℕ) → slice_get cells a ≡ Some o → slice_get (filled cells) a ≡ Some (unwrap_or o 0)
    gives a o e = slice_get-map (λ cell. unwrap_or cell 0) cells a ∙ ap (option_map (λ cell. unwrap_or cell 0)) e

    holds : (a w : ℕ) → a < size → IsCell d lines a w → slice_get (filled cells) a ≡ Some w
    holds a w less (inl p) = gives a (Some w) (k.put a w p (there p.n p.said p.line))
    holds a w less (inr (gap, none)) = by (slice_get cells a) refl
      where
        by : (o : Option (Option ℕ)) → slice_get cells a ≡ o → slice_get (filled cells) a ≡ Some w
        by None e = absurd (omega (arith, past-none cells a e, k.len, less))
        by (Some None) e = gives a None e ∙ ap (λ x. Some x) (sym none)
        by (Some (Some x)) e = let b = k.back a x e in absurd (gap b.0.n (placed-takes d lines a x b.0))

ends-from : (d : Desc) (size first : ℕ) (saids : List Said) (labels : Labels) (n place : ℕ) (behind : List Said) (cells : List (Option ℕ)) → IsValid d → AreLabels (At first ∷ saids) labels → 0 < n →
    drop n (At first ∷ saids) ≡ behind → place_at (At first ∷ saids) n ≡ place → Done d size (At first ∷ saids) n cells → Ends d size (At first ∷ saids) (cells_from d labels n place behind cells)
unfolding cells_from
ends-from d size first saids labels n place [] cells v are some h at k = whole d size (At first ∷ saids) n cells h k
ends-from d size first saids labels n place (said ∷ behind) cells v are some h at k =
    by (cells_behind d labels n place cells said) (line-behind d size first saids labels n place cells said v are some l.line at k)
    (λ new done. ends-from d size first saids labels (n + 1) (place_behind said place) behind new v are (omega (arith, some)) l.rest (next-at (At first ∷ saids) n place said l.line at) done)
  where
    l : Left (At first ∷ saids) n said behind
    l = left (At first ∷ saids) n said behind h

    by : (r : Result (List (Option ℕ)) AsmFault) → Behind d size (At first ∷ saids) n r →
        ((new : List (Option ℕ)) → Done d size (At first ∷ saids) (n + 1) new → Ends d size (At first ∷ saids) (cells_from d labels (n + 1) (place_behind said place) behind new)) →
        Ends d size (At first ∷ saids) (then_due r (cells_from d labels (n + 1) (place_behind said place) behind))
    by (Ok new) done later = later new done
    by (Err f) fault later = record { there = fault.there; none = λ g h before. earlier g h before }
      where
        earlier : (g : AsmFault) → IsLineFault d size (At first ∷ saids) g → (spot_of g < spot_of f) ⊎ ((spot_of g ≡ spot_of f) × (turn_of g < turn_of f)) → ⊥
        earlier g h (inl less) = k.right g h (omega (arith, less, fault.at))
        earlier g h (inr (same, less)) = fault.none g h (same ∙ fault.at) less

-- what the two readings of lines come to
pub ended : (d : Desc) (size : ℕ) (saids : List Said) → IsValid d → Ends d size (At first_place ∷ saids) (cells_from d (labels_of saids) 1 first_place saids (none_given size))
ended d size saids v =
    ends-from d size first_place saids (labels_of saids) 1 first_place saids (none_given size) v (gathered saids) (omega arith) refl refl (record {
      len = length-replicate size None;
      back = λ a w h. absurd (nothing size a w h);
      put = λ a w p less. absurd (not_first p.n p.said (says-takes d (At first_place ∷ saids) p.said w p.says) p.line less);
      given = λ m a less t. absurd (not_first m t.said t.takes t.line less);
      right = λ g h less. unwritten g h less;
    })
  where
    nothing : (m a w : ℕ) → slice_get (replicate m None) a ≡ Some (Some w) → ⊥
    nothing zero a w h = cc h
    nothing (suc m) zero w h = cc h
    nothing (suc m) (suc a) w h = nothing m a w h

    not_first : (m : ℕ) (said : Said) → takes_place said ≡ true → IsLine (At first_place ∷ saids) m said → m < 1 → ⊥
    not_first zero said takes line less =
        let same : At first_place ≡ said = cc line in
        let e : false ≡ true = ap takes_place same ∙ takes in
        cc e
    not_first (suc m) said takes line less = omega (arith, less)

    -- no fault is on line 0
    begins : (m : ℕ) (said : Said) → IsLine (At first_place ∷ saids) m said → m < 1 → At first_place ≡ said
    begins zero said line less = cc line
    begins (suc m) said line less = absurd (omega (arith, less))

    unwritten : (g : AsmFault) → IsLineFault d size (At first_place ∷ saids) g → spot_of g < 1 → ⊥
    unwritten Long h less = h
    unwritten (Token place) h less = h
    unwritten (Grammar m) h less = h
    unwritten (Name m) h less = let e = begins m (Instr h.at.name h.at.operands) h.at.line less in cc e
    unwritten (Field m) h less = let e = begins m (Instr h.at.name h.at.operands) h.at.line less in cc e
    unwritten (LabelFault m) (inl h) less = let e = begins m (Instr h.at.name h.at.operands) h.at.line less in cc e
    unwritten (LabelFault m) (inr h) less = let e = begins m (Label h.name) h.line less in cc e
    unwritten (Range m) h less = let e = begins m (Instr h.at.name h.at.operands) h.at.line less in cc e
    unwritten (Place m) h less = not_first m h.takes.said h.takes.takes h.takes.line less
    unwritten (Overlap m) h less = not_first m h.takes.said h.takes.takes h.takes.line less
    unwritten Memory h less = h

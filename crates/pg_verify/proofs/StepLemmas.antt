-- One line more below the header of a finding that is open.
use Rattle.std.proofs.Common.{◌≡◌, ℕ, zero, suc, Bool, true, false, not, if◌then◌else◌, List, [], ◌∷◌, ◌++◌, map, Option, None, Some, Result, Ok, Err, is_none, refl, sym, ap, subst, ◌∙◌, ℤ, append_assoc}
use Rattle.std.specs.Prelude.{◌&&◌, nat_lt}
use Rattle.std.specs.Option.{option_and_then}
use Rattle.std.proofs.lemmas.Bool.{and_parts, not-true}
use Rattle.std.proofs.lemmas.List.{map-append}
use Rattle.std.proofs.lemmas.List.Elements.{All-push}
use Rattle.std.proofs.lemmas.Option.{same_Some}
use Rattle.pg_word.specs.declared.psw.Psw.{Psw}
use Rattle.pg_proof.specs.declared.step.ProofFault.{ProofFault}
use Rattle.pg_proof.specs.declared.step.Step.{Step}
use Rattle.pg_proof.specs.declared.step.Act.{Act}
use Rattle.pg_proof.specs.declared.step.Act.TheVariants as act
use Rattle.pg_proof.specs.State.{State as Log, begun, is_empty, with_clause}
use Rattle.pg_proof.specs.Refutation.{fault_of}
use Rattle.pg_proof.specs.Tight.{is_tight}
use Rattle.pg_proof.specs.Covered.{is_covered}
use Rattle.pg_proof.specs.Log.{after_act, after_acts_from, IsWorth, IsSpentFrom}
use Rattle.pg_cert.specs.declared.line.Heading.{Heading}
use Rattle.pg_cert.specs.declared.line.Found.{Found}
use Rattle.pg_cert.specs.declared.line.Line.{Line}
use Rattle.pg_cert.specs.declared.line.Line.TheVariants as line
use Rattle.pg_cert.specs.Texts.{act_line}
use Rattle.pg_cert.specs.Validity.{IsActUnder}
use Rattle.pg_cert_drawn.specs.Drawn.{Drawn, drawn, with_row}
use Rattle.pg_cert_drawn.proofs.DrawnLines.{drawn_lines, drawn_new, drawn_new-lines, IsRow, row_on}
use Rattle.pg_verify.specs.declared.fault.VerifyFault.{VerifyFault}
use Rattle.pg_verify.specs.Reader.{Pair, NoState, FirstSize, FirstState, SecondSize, BothStates}
use Rattle.pg_verify.specs.Taking.{then_take, where_valid, with_step, with_spent_step, is_worth, with_size, with_psw, as_first, as_second, with_cells}
use Rattle.pg_verify.proofs.Standing.{pair_lines, AreDrawn, IsRefuting, IsShowing, log_after, IsSpending}

-- ---- results

pub same_ok : {X : Type 0} (x y : X) → ◌≡◌ {A = Result X VerifyFault} (Ok x) (Ok y) → x ≡ y
same_ok x y e = cc

pub no_ok : {X : Type 0} {P : Type 0} (f : VerifyFault) (x : X) → ◌≡◌ {A = Result X VerifyFault} (Err f) (Ok x) → P
no_ok f x e = absurd (cc)

pub record Taken {X Y : Type 0} (r : Result X VerifyFault) (go : X → Result Y VerifyFault) (y : Y) : Type 0 where
  pub value : X
  pub was : r ≡ Ok value
  pub gives : go value ≡ Ok y

pub taken : {X Y : Type 0} (r : Result X VerifyFault) (go : X → Result Y VerifyFault) (y : Y) → then_take r go ≡ Ok y →
    Taken r go y
taken (Ok x) go y e = record { value = x; was = refl; gives = e }
taken (Err f) go y e = no_ok f y e

-- ---- logs

pub acts_more : (state log after : Log) (acts : List Act) (a : Act) → after_acts_from state acts ≡ Some log →
    after_act log a ≡ Some after → after_acts_from state (acts ++ a ∷ []) ≡ Some after
acts_more state log after [] a e f = ap (λ s. option_and_then (λ x. Some x) (after_act s a)) (same_Some state log e)
    ∙ ap (λ o. option_and_then (λ x. Some x) o) f
acts_more state log after (b ∷ acts) a e f = by (after_act state b) e (λ x h. acts_more x log after acts a h f)
  where
    by : (o : Option Log) → option_and_then (λ x. after_acts_from x acts) o ≡ Some log →
        ((x : Log) → after_acts_from x acts ≡ Some log → after_acts_from x (acts ++ a ∷ []) ≡ Some after) →
        option_and_then (λ x. after_acts_from x (acts ++ a ∷ [])) o ≡ Some after
    by None e rest = absurd (cc)
    by (Some x) e rest = rest x e

pub spent_more : (state : Log) (k : ℕ) (steps : List Step) (step : Step) → IsSpentFrom state k (map act.Add steps) →
    IsWorth (log_after state steps) step →
    IsSpentFrom state (suc k) (map act.Add (steps ++ step ∷ []))
spent_more state zero [] step h w = (w, tt)
spent_more state zero (s ∷ steps) step h w = absurd h
spent_more state (suc k) [] step h w = absurd h
spent_more state (suc k) (s ∷ steps) step h w = (h.0, spent_more (with_clause state s.lits) k steps step h.1 w)

pub log_after-more : (state : Log) (steps : List Step) (step : Step) →
    log_after state (steps ++ step ∷ []) ≡ with_clause (log_after state steps) step.lits
log_after-more state [] step = refl
log_after-more state (s ∷ steps) step = log_after-more (with_clause state s.lits) steps step

-- a step that is taken is valid
pub record IsAdded (log : Log) (step : Step) (after : Log) : Type 0 where
  pub valid : fault_of log.variables log.held step ≡ None
  pub after_is : with_clause log step.lits ≡ after

valid_taken : {X : Type 0} (n : ℕ) (o : Option ProofFault) (r : Result X VerifyFault) (x : X) →
    where_valid n o r ≡ Ok x → (o ≡ None) × (r ≡ Ok x)
valid_taken n None r x e = (refl, e)
valid_taken n (Some f) r x e = no_ok _ x e

pub step_added : (n : ℕ) (log : Log) (step : Step) (after : Log) → with_step n log step ≡ Ok after →
    IsAdded log step after
step_added n log step after e =
    let h = valid_taken n (fault_of log.variables log.held step) (Ok (with_clause log step.lits)) after e in
    record { valid = h.0; after_is = same_ok (with_clause log step.lits) after h.1 }

pub act_added : (log : Log) (step : Step) (after : Log) → IsAdded log step after →
    after_act log (act.Add step) ≡ Some after
act_added log step after h = ap
    (λ (o : Option ProofFault). if is_none o then Some (with_clause log step.lits) else None) h.valid
    ∙ ap (λ (x : Log). Some x) h.after_is

pub refuting_more : (heading : Heading) (clauses : List (List ℤ)) (log after : Log) (f : Found) (body : List Line)
    (a : Act) → after_act log a ≡ Some after → IsActUnder heading a →
    IsRefuting heading clauses log f body → IsRefuting heading clauses after f (body ++ act_line a ∷ [])
refuting_more heading clauses log after f body a e under h = record {
  acts = h.acts ++ a ∷ [];
  found_is = h.found_is;
  reached = acts_more (begun clauses) log after h.acts a h.reached e;
  under = All-push (IsActUnder heading) h.acts a h.under under;
  lines_are = ap (λ ls. ls ++ act_line a ∷ []) h.lines_are ∙ sym (map-append act_line h.acts (a ∷ []));
}

-- one that is worth its place
pub record IsSpentOn (budget count : ℕ) (log : Log) (step : Step) (after : Log) : Type 0 where
  pub worth : IsWorth log step
  pub after_is : with_clause log step.lits ≡ after

pub if_taken : {X : Type 0} (b : Bool) (x y : X) (f : VerifyFault) →
    ◌≡◌ {A = Result X VerifyFault} (if b then Ok x else Err f) (Ok y) → (b ≡ true) × (x ≡ y)
if_taken true x y f e = (refl, same_ok x y e)
if_taken false x y f e = no_ok f y e

worth_is : (log : Log) (step : Step) → fault_of log.variables log.held step ≡ None → is_worth log step ≡ true →
    IsWorth log step
worth_is log step valid h =
    let first = and_parts (not (is_empty step.lits))
    (is_tight log.variables log.held step && not (is_covered log.held step.lits)) h in
    let second = and_parts (is_tight log.variables log.held step) (not (is_covered log.held step.lits)) first.1 in
    record {
      valid = valid;
      some = not-true (is_empty step.lits) first.0;
      tight = second.0;
      fresh =
          not-true (is_covered log.held step.lits) second.1;
    }

pub step_spent : (n budget count : ℕ) (log : Log) (step : Step) (after : Log) →
    with_spent_step n budget count log step ≡ Ok after → IsSpentOn budget count log step after
step_spent n budget count log step after e =
    let worth : Bool = nat_lt count budget && is_worth log step in
    let h = valid_taken n (fault_of log.variables log.held step)
    (if worth then Ok (with_clause log step.lits) else Err _) after e in
    let g = if_taken worth (with_clause log step.lits) after _ h.1 in
    record { worth = worth_is log step h.0 (and_parts (nat_lt count budget) (is_worth log step) g.0).1; after_is = g.1 }

pub spending_more : (clauses : List (List ℤ)) (budget count : ℕ) (log after : Log) (f : Found) (body : List Line)
    (step : Step) → IsSpentOn budget count log step after →
    IsSpending clauses budget count log f body →
    IsSpending clauses budget (suc count) after f (body ++ line.Step step ∷ [])
spending_more clauses budget count log after f body step e h = record {
  steps = h.steps ++ step ∷ [];
  found_is = h.found_is;
  least = h.least;
  most = h.most;
  spent = spent_more (begun clauses) count h.steps step h.spent (subst (λ x. IsWorth x step) h.log_is e.worth);
  log_is = sym e.after_is ∙ ap (λ (x : Log). with_clause x step.lits) h.log_is
      ∙ sym (log_after-more (begun clauses) h.steps step);
  lines_are = ap (λ ls. ls ++ line.Step step ∷ []) h.lines_are ∙ sym (map-append line.Step h.steps (step ∷ []));
}

-- ---- states

-- a pair with one line more
pub record IsPairOn (p q : Pair) (l : Line) : Type 0 where
  pub drawn : AreDrawn q
  pub lines_are : pair_lines q ≡ pair_lines p ++ l ∷ []

pair_same : (p q r : Pair) (l : Line) → ◌≡◌ {A = Option Pair} (Some r) (Some q) → IsPairOn p r l → IsPairOn p q l
pair_same p q r l e h = subst (λ x. IsPairOn p x l) (same_Some r q e) h

none_pair : {P : Type 0} (q : Pair) → ◌≡◌ {A = Option Pair} None (Some q) → P
none_pair q e = absurd (cc)

pub size_on : (n : ℕ) (p q : Pair) → with_size n p ≡ Some q → AreDrawn p → IsPairOn p q (line.Size n)
size_on n NoState q e h = pair_same NoState q (FirstSize n) (line.Size n) e (record { drawn = tt; lines_are = refl })
size_on n (FirstSize m) q e h = none_pair q e
size_on n (FirstState s) q e h =
    pair_same (FirstState s) q (SecondSize s n) (line.Size n) e (record { drawn = h; lines_are = refl })
size_on n (SecondSize s m) q e h = none_pair q e
size_on n (BothStates s t) q e h = none_pair q e

pub psw_on : (psw : Psw) (p q : Pair) → with_psw psw p ≡ Some q → AreDrawn p → IsPairOn p q (line.Psw psw)
psw_on psw NoState q e h = none_pair q e
psw_on psw (FirstSize n) q e h =
    pair_same (FirstSize n) q (FirstState (drawn n psw)) (line.Psw psw) e
    (record { drawn = drawn_new n psw; lines_are = sym (drawn_new-lines n psw) })
psw_on psw (FirstState s) q e h = none_pair q e
psw_on psw (SecondSize s n) q e h =
    pair_same (SecondSize s n) q (BothStates s (drawn n psw)) (line.Psw psw) e (record {
      drawn = (h, drawn_new n psw);
      lines_are = ap (λ ls. drawn_lines s ++ ls) (sym (drawn_new-lines n psw))
          ∙ sym (append_assoc (drawn_lines s) (line.Size n ∷ []) (line.Psw psw ∷ []));
    })
psw_on psw (BothStates s t) q e h = none_pair q e

pub cells_on : (first : ℕ) (words : List ℕ) (p q : Pair) → IsRow first words → with_cells first words p ≡ Some q →
    AreDrawn p → IsPairOn p q (line.Cells first words)
cells_on first words NoState q row e h = none_pair q e
cells_on first words (FirstSize n) q row e h = none_pair q e
cells_on first words (FirstState s) q row e h = by (with_row first words s) refl e
  where
    by : (o : Option Drawn) → with_row first words s ≡ o → as_first o ≡ Some q →
        IsPairOn (FirstState s) q (line.Cells first words)
    by None f g = none_pair q g
    by (Some t) f g = let on = row_on s first words t row f h in pair_same (FirstState s) q (FirstState t)
        (line.Cells first words) g (record { drawn = on.drawn; lines_are = on.lines_are })
cells_on first words (SecondSize s n) q row e h = none_pair q e
cells_on first words (BothStates r s) q row e h = by (with_row first words s) refl e
  where
    by : (o : Option Drawn) → with_row first words s ≡ o → as_second r o ≡ Some q →
        IsPairOn (BothStates r s) q (line.Cells first words)
    by None f g = none_pair q g
    by (Some t) f g =
        let on = row_on s first words t row f h.1 in
        pair_same (BothStates r s) q (BothStates r t) (line.Cells first words) g
        (record {
          drawn = (h.0, on.drawn);
          lines_are = ap (λ ls. drawn_lines r ++ ls) on.lines_are
              ∙ sym (append_assoc (drawn_lines r) (drawn_lines s) (line.Cells first words ∷ []));
        })

pub showing_more : (p q : Pair) (l : Line) (f : Found) (body : List Line) → IsPairOn p q l → IsShowing p f body →
    IsShowing q f (body ++ l ∷ [])
showing_more p q l f body e h = record {
  found_is = h.found_is;
  drawn = e.drawn;
  lines_are = ap (λ ls. ls ++ l ∷ []) h.lines_are ∙ sym e.lines_are;
}

-- The lines of a log are taken, one after another.
use Rattle.std.proofs.Common.{◌≡◌, ℕ, zero, suc, ◌+◌, ◌<◌, Bool, true, not, if◌then◌else◌, List, [], ◌∷◌, map, Option, None, Some, is_none, Ok, Err, All, refl, ap, ◌∙◌, arith}
use Rattle.std.specs.Prelude.{◌&&◌, nat_lt}
use Rattle.std.specs.Option.{option_and_then}
use Rattle.std.proofs.lemmas.Bool.{lt-ltb, and_from, not_from_false}
use Rattle.std.proofs.lemmas.List.Elements.{All-head, All-tail}
use Rattle.std.proofs.lemmas.Option.{same_Some, cond_some}
use Rattle.pg_word.specs.Shape.{IsShape}
use Rattle.pg_ast.specs.declared.tree.Desc.{Desc}
use Rattle.pg_lang_meaning.specs.States.{shape_of}
use Rattle.pg_proof.specs.declared.step.ProofFault.{ProofFault}
use Rattle.pg_proof.specs.declared.step.Step.{Step}
use Rattle.pg_proof.specs.declared.step.Act.{Act}
use Rattle.pg_proof.specs.declared.step.Act.TheVariants as act
use Rattle.pg_proof.specs.State.{State as Log, is_empty, with_clause}
use Rattle.pg_proof.specs.Refutation.{fault_of}
use Rattle.pg_proof.specs.Tight.{is_tight}
use Rattle.pg_proof.specs.Covered.{is_covered}
use Rattle.pg_proof.specs.Removal.{after_removal}
use Rattle.pg_proof.specs.Log.{after_act, after_acts_from, IsWorth, IsSpentFrom}
use Rattle.pg_cert.specs.declared.cert.Family.{Family}
use Rattle.pg_cert.specs.declared.line.Heading.{Heading}
use Rattle.pg_cert.specs.declared.line.Line.TheVariants as line
use Rattle.pg_cert.specs.Texts.{act_line}
use Rattle.pg_cert.specs.Validity.{may_remove, IsActUnder}
use Rattle.pg_verify.specs.declared.fault.VerifyFault.TheVariants as fault
use Rattle.pg_verify.specs.Reader.{Open, Refuting, Spending, Mark, Progress}
use Rattle.pg_verify.specs.Taking.{then_take, misplaced, with_open, reopened, where_valid, is_worth, after_step, held_after, after_remove, after_form}
use Rattle.pg_verify.proofs.ReachLemmas.{spot, Fits, Reaches, reaches_none, reaches_cons}

none_of : (o : Option ProofFault) → is_none o ≡ true → o ≡ None
none_of None e = refl
none_of (Some f) e = cc

module _ (d : Desc) (numbers : IsShape (shape_of d)) (family : Family) (heading : Heading) (marks : List Mark) where
  abbrev removes : Bool
  removes = may_remove heading

  act_taken : (header n j : ℕ) (log after : Log) (a : Act) → after_act log a ≡ Some after → IsActUnder heading a →
      after_form (spot d family removes marks (Refuting header log) n j) (act_line a) ≡ Ok
      (spot d family removes marks (Refuting header after) n j)
  unfolding after_form after_step after_remove
  act_taken header n j log after (act.Add step) e under =
      let p : Progress = spot d family removes marks (Refuting header log) n j in
      let h = cond_some (is_none (fault_of log.variables log.held step)) (with_clause log step.lits) after e in
      ap (λ o. reopened p (then_take (where_valid n o (Ok (with_clause log step.lits)))
      (λ (x : Log). Ok (Refuting header x)))) (none_of (fault_of log.variables log.held step) h.0)
      ∙ ap (λ (x : Log). Ok (with_open p (Refuting header x))) h.1
  act_taken header n j log after (act.Remove ns) e under =
      let p : Progress = spot d family removes marks (Refuting header log) n j in
      ap (λ (b : Bool). reopened p (if b then then_take (held_after n (after_removal log ns))
      (λ (x : Log). Ok (Refuting header x)) else misplaced n)) under.0
      ∙ ap (λ o. reopened p (then_take (held_after n o) (λ (x : Log). Ok (Refuting header x)))) e

  pub record IsRefuted (final : Log) (ms : List Mark) (o : Open) : Type 0 where
    pub marks_are : ms ≡ marks
    pub header : ℕ
    pub is : o ≡ Refuting header final

  pub reaches_acts : (header n k : ℕ) (log final : Log) (acts : List Act) → after_acts_from log acts ≡ Some final →
      All (IsActUnder heading) acts → Fits d k (map act_line acts) →
      Reaches d family removes (spot d family removes marks (Refuting header log) n k) (map act_line acts)
      (IsRefuted final)
  reaches_acts header n k log final [] e under fits =
      reaches_none d numbers family removes marks (Refuting header log) n k (IsRefuted final)
      (record { marks_are = refl; header = header; is = ap (λ x. Refuting header x) (same_Some log final e) })
  reaches_acts header n k log final (a ∷ acts) e under fits =
      by (after_act log a) refl e (λ x j m h f. reaches_acts header m j x final acts h
      (All-tail (IsActUnder heading) a acts under) f)
    where
      by : (o : Option Log) → after_act log a ≡ o → option_and_then (λ x. after_acts_from x acts) o ≡ Some final →
          ((x : Log) (j m : ℕ) → after_acts_from x acts ≡ Some final → Fits d j (map act_line acts) →
          Reaches d family removes (spot d family removes marks (Refuting header x) m j) (map act_line acts)
          (IsRefuted final)) →
          Reaches d family removes (spot d family removes marks (Refuting header log) n k)
          (act_line a ∷ map act_line acts) (IsRefuted final)
      by None eo e rest = absurd (cc)
      by (Some x) eo e rest =
          reaches_cons d numbers family removes removes removes marks marks (Refuting header log) (Refuting header x) n
          k (act_line a) (map act_line acts) (IsRefuted final) fits
          (λ j. act_taken header (suc n) j log x a eo (All-head (IsActUnder heading) a acts under))
          (λ f. rest x _ (suc n) e f)

  worth_test : (log : Log) (step : Step) → IsWorth log step → is_worth log step ≡ true
  worth_test log step w =
      and_from (not (is_empty step.lits)) (is_tight log.variables log.held step && not (is_covered log.held step.lits))
      (not_from_false (is_empty step.lits) w.some)
      (and_from (is_tight log.variables log.held step) (not (is_covered log.held step.lits)) w.tight
      (not_from_false (is_covered log.held step.lits) w.fresh))

  spent_taken : (header n j budget count : ℕ) (log : Log) (step : Step) → count < budget → IsWorth log step →
      after_form (spot d family removes marks (Spending header budget count log) n j) (line.Step step) ≡ Ok
      (spot d family removes marks (Spending header budget (suc count) (with_clause log step.lits)) n j)
  unfolding after_form after_step
  spent_taken header n j budget count log step l w =
      let p : Progress = spot d family removes marks (Spending header budget count log) n j in
      let test : (nat_lt count budget && is_worth log step) ≡ true =
      and_from (nat_lt count budget) (is_worth log step) (lt-ltb count budget l) (worth_test log step w) in
      ap (λ o. reopened p (then_take
      (where_valid n o (if nat_lt count budget && is_worth log step then Ok (with_clause log step.lits) else Err
      (fault.BadSpent n))) (λ (x : Log). Ok (Spending header budget (suc count) x)))) w.valid
      ∙ ap (λ (b : Bool). reopened p
      (then_take (if b then Ok (with_clause log step.lits) else Err (fault.BadSpent n))
      (λ (x : Log). Ok (Spending header budget (suc count) x)))) test

  pub record IsAllSpent (budget : ℕ) (ms : List Mark) (o : Open) : Type 0 where
    pub marks_are : ms ≡ marks
    pub header : ℕ
    pub log : Log
    pub is : o ≡ Spending header budget budget log

  pub reaches_steps : (header n k budget count left : ℕ) (log : Log) (steps : List Step) →
      IsSpentFrom log left (map act.Add steps) → count + left ≡ budget → Fits d k (map line.Step steps) →
      Reaches d family removes (spot d family removes marks (Spending header budget count log) n k)
      (map line.Step steps) (IsAllSpent budget)
  reaches_steps header n k budget count zero log [] h e fits =
      let same : count ≡ budget = omega arith in
      reaches_none d numbers family removes marks (Spending header budget count log) n k (IsAllSpent budget)
      (record { marks_are = refl; header = header; log = log; is = ap (λ c. Spending header budget c log) same })
  reaches_steps header n k budget count zero log (s ∷ steps) h e fits = absurd h
  reaches_steps header n k budget count (suc left) log [] h e fits = absurd h
  reaches_steps header n k budget count (suc left) log (s ∷ steps) h e fits =
      reaches_cons d numbers family removes removes removes marks marks (Spending header budget count log)
      (Spending header budget (suc count) (with_clause log s.lits)) n k (line.Step s) (map line.Step steps)
      (IsAllSpent budget) fits
      (λ j. spent_taken header (suc n) j budget count log s (omega arith) h.0)
      (λ f. reaches_steps header (suc n) _ budget (suc count) left (with_clause log s.lits) steps h.1 (omega arith) f)

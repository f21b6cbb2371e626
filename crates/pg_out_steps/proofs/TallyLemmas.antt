-- Counts, step by step.
use Rattle.std.proofs.Common.{inl, inr, ◌⊎◌, eqb, get_or-set_same, get_or-set_other, ◌≡◌, ◌≢◌, ℕ, suc, ◌+◌, ◌<◌, ◌≤◌, ◌==◌, Bool, true, false, List, length, get_or, set, Option, None, Some, sym, ◌∙◌, ap, subst, arith}
use Rattle.std.specs.List.{sum_by}
use Rattle.std.proofs.lemmas.Bool.Decides.{eqb_tells}
use Rattle.std.proofs.lemmas.List.Sums.{sum_by-set, get_or-le-sum_by}
use Rattle.pg_word.specs.declared.cause.Cause.{Cause}
use Rattle.pg_word.specs.declared.cause.Cause.TheVariants.{Memory, Trap, NoPattern}
use Rattle.pg_ast.specs.declared.tree.Desc.{Desc}
use Rattle.pg_lang_meaning.specs.States.{State}
use Rattle.pg_lang_meaning.specs.Steps.{steps}
use Rattle.pg_hw.specs.Bursts.{one_if}
use Rattle.pg_interp.specs.declared.effect.Write.{Write}
use Rattle.pg_out_steps.specs.Counting.{among, is_number, is_none, is_cause, fetches, fetches_none, traps_by, IsTally, Counted}
use Rattle.pg_out_steps.specs.Tells.{Tells}
use Rattle.pg_out_steps.specs.declared.stepped.Stepped.{Stepped}
use Rattle.pg_out_steps.specs.declared.tally.Tally.{Tally}

among-next : (has : State → Bool) (d : Desc) (n : ℕ) (s : State) (b : Bool) → b ≡ has (steps d n s) → among has d n s + one_if b ≡ among has d (n + 1) s
unfolding among
among-next has d n s b is =
    let e : suc n ≡ n + 1 = omega arith in
    subst (λ m. among has d n s + one_if b ≡ among has d m s) e (ap (λ x. among has d n s + one_if x) is)

-- the counts of one step more
pub tally-next : (d : Desc) (n : ℕ) (s : State) (old new : Tally) (stores : List Write) (r : Stepped) → IsTally d n s old → Tells d (steps d n s) stores r → Counted old r new →
    IsTally d (n + 1) s new
tally-next d n s old new stores r h t c =
    let x = steps d n s in
    record {
      steps = c.steps ∙ ap (λ k. k + 1) h.steps;
      size = c.size ∙ h.size;
      instrs = λ k within.
          c.instrs k (subst (λ size. k < size) (sym h.size) within) ∙ ap (λ m. m + one_if (is_number k r.instr)) (h.instrs k within)
          ∙ among-next (fetches d k) d n s (is_number k r.instr) (ap (is_number k) t.instr);
      others = c.others ∙ ap (λ m. m + one_if (is_none r.instr)) h.others ∙ among-next (fetches_none d) d n s (is_none r.instr) (ap is_none t.instr);
      memory = c.memory ∙ ap (λ m. m + one_if (is_cause Memory r.cause)) h.memory
          ∙ among-next (traps_by d Memory) d n s (is_cause Memory r.cause) (ap (is_cause Memory) t.cause);
      trap = c.trap ∙ ap (λ m. m + one_if (is_cause Trap r.cause)) h.trap
          ∙ among-next (traps_by d Trap) d n s (is_cause Trap r.cause) (ap (is_cause Trap) t.cause);
      no_pattern = c.no_pattern ∙ ap (λ m. m + one_if (is_cause NoPattern r.cause)) h.no_pattern
          ∙ among-next (traps_by d NoPattern) d n s (is_cause NoPattern r.cause) (ap (is_cause NoPattern) t.cause);
    }

-- ---- one step more

-- an instruction is counted
pub counted-each : (xs : List ℕ) (i k : ℕ) → i < length xs → k < length xs → get_or (set xs i (get_or xs i 0 + 1)) k 0 ≡ get_or xs k 0 + one_if (i == k)
counted-each xs i k h within = by (eqb_tells i k)
  where
    by : ((eqb i k ≡ true) × (i ≡ k)) ⊎ ((eqb i k ≡ false) × (i ≢ k)) → get_or (set xs i (get_or xs i 0 + 1)) k 0 ≡ get_or xs k 0 + one_if (i == k)
    by (inl (test, same)) =
        let here : get_or (set xs i (get_or xs i 0 + 1)) i 0 ≡ get_or xs i 0 + one_if (i == k) = rw test (get_or-set_same xs i (get_or xs i 0 + 1) 0 h) in
        subst (λ j. get_or (set xs i (get_or xs i 0 + 1)) j 0 ≡ get_or xs j 0 + one_if (i == k)) same here
    by (inr (test, other)) =
        let there : get_or xs k 0 ≡ get_or xs k 0 + 0 = omega arith in
        rw test (get_or-set_other xs i k (get_or xs i 0 + 1) 0 (λ e. other (sym e)) ∙ there)

pub counted-sum : (xs : List ℕ) (i : ℕ) → i < length xs → sum_by (λ count. count) (set xs i (get_or xs i 0 + 1)) ≡ sum_by (λ count. count) xs + 1
counted-sum xs i h =
    let e = sum_by-set (λ (count : ℕ). count) xs i (get_or xs i 0 + 1) 0 h in
    omega (arith, e)

pub count-most : (xs : List ℕ) (i : ℕ) → i < length xs → get_or xs i 0 ≤ sum_by (λ count. count) xs
count-most xs i h = get_or-le-sum_by (λ (count : ℕ). count) xs i 0 h

-- a step traps by one cause at most
pub one-cause : (why : Option Cause) → one_if (is_cause Memory why) + one_if (is_cause Trap why) + one_if (is_cause NoPattern why) ≤ 1
one-cause None = omega arith
one-cause (Some Memory) = omega arith
one-cause (Some Trap) = omega arith
one-cause (Some NoPattern) = omega arith

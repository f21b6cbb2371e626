use Rattle.std.proofs.Common.{SFits, w32, rules, arith, sym, ap, subst, ◌∙◌, ℕ, ℤ, length, ◌<◌}
use Rattle.std.proofs.lemmas.Int.{to_z-of_z}
use Rattle.pg_cnf.specs.Literals.{IsLiteral}
use Rattle.pg_watch.specs.Trail.{value_of}
use Rattle.pg_watch.specs.Walks.{IsWalked}
use Rattle.pg_watch.specs.Watching.{IsAttached, IsSettled}
use Rattle.pg_watch.proofs.Short.{AreSet-short}
use Rattle.pg_watch.proofs.Removes.{IsIndex-keeps}
use Rattle.pg_watch.proofs.RunLemmas.{next_at, next_at_later, gone_literal, gone_false, Runs-more, Runs-step, Runs-keeps}
use Rattle.pg_watch.proofs.queue.run_queue.Goals as goal

pub walk_list-requires-clause-literal : goal.walk_list-requires-clause-literal
walk_list-requires-clause-literal c =
    let fits : SFits w32 c.negation_at-gone.result = search rules in
    let t = c.loop-head.trail in
    let lt : c.loop-head.head < length t.literals = omega (arith, c.loop-head-test.true, c.len.ensures.len) in
    let next = next_at t.variables t.literals c.loop-head.head c.loop-head.invariant.index.trail.set lt in
    simp to_z-of_z (subst (IsLiteral t.variables) (sym c.negation_at-gone.ensures) (gone_literal t.variables t.literals c.loop-head.head _ next))

pub walk_list-requires-clause-gone : goal.walk_list-requires-clause-gone
walk_list-requires-clause-gone c =
    let fits : SFits w32 c.negation_at-gone.result = search rules in
    let t = c.loop-head.trail in
    let lt : c.loop-head.head < length t.literals = omega (arith, c.loop-head-test.true, c.len.ensures.len) in
    let next = next_at t.variables t.literals c.loop-head.head c.loop-head.invariant.index.trail.set lt in
    simp to_z-of_z (ap (value_of t.literals) c.negation_at-gone.ensures ∙ gone_false t.variables t.literals c.loop-head.head _ next)

pub loop-head-smaller : goal.loop-head-smaller
loop-head-smaller c =
    let t = c.loop-head.trail in
    omega (
      arith,
      c.loop-head-test.true,
      c.len.ensures.len,
      c.walk_list.ensures.keeps.steps.extends.variables,
      AreSet-short t.variables t.literals c.loop-head.invariant.index.trail.set,
    )

pub loop-head-preserved : goal.loop-head-preserved
loop-head-preserved c =
    let fits : SFits w32 c.negation_at-gone.result = search rules in
    let i = c.loop-head.invariant in
    let s = c.loop-head.trail in let t = c.walk_list.new.trail in let h = c.loop-head.head in
    let cs = c.args.clauses.now in let ms = c.walk_list.new.index.lists in let qs = c.walk_list.new.index.pairs.items in
    let lt : h < length s.literals = omega (arith, c.loop-head-test.true, c.len.ensures.len) in
    let keeps = c.walk_list.ensures.keeps in
    let next = next_at_later s t h keeps.steps.trail.set keeps.steps.extends.literals lt in
    let walked = simp to_z-of_z at c.in-Ok-Quiet.ensures.walked in
    let settled : (k : ℕ) → k < length cs → IsAttached cs ms qs k → IsSettled cs t.literals qs c.negation_at-gone.result k =
    subst (IsWalked cs t.literals ms qs c.negation_at-gone.result) c.in-Ok-Quiet.field-0-is walked in
    record {
      index = IsIndex-keeps _ _ _ _ _ _ _ i.index keeps;
      runs = Runs-more _ _ _ _ _ _ _ _ _ _ _ _ _ i.runs (Runs-step cs s t _ ms _ qs h _ keeps lt next
          (subst (λ (z : ℤ). (k : ℕ) → k < length cs → IsAttached cs ms qs k → IsSettled cs t.literals qs z k) c.negation_at-gone.ensures settled));
    }

pub returns-in-Ok-Conflict-clause-runs : goal.returns-in-Ok-Conflict-clause-runs
returns-in-Ok-Conflict-clause-runs c =
    let i = c.loop-head.invariant in
    Runs-more _ _ _ _ _ _ _ _ _ _ _ _ _ i.runs (Runs-keeps _ _ _ _ _ _ _ _ c.walk_list.ensures.keeps i.runs.within)

pub returns-in-Err-clause-runs : goal.returns-in-Err-clause-runs
returns-in-Err-clause-runs c =
    let i = c.loop-head.invariant in
    Runs-more _ _ _ _ _ _ _ _ _ _ _ _ _ i.runs (Runs-keeps _ _ _ _ _ _ _ _ c.walk_list.ensures.keeps i.runs.within)

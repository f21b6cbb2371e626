use Rattle.std.proofs.Common.{subst, sym, ◌∙◌, List, ℕ, true, false}
use Rattle.pg_watch.specs.Trail.{Trail}
use Rattle.pg_watch.specs.Fixes.{AreOpen}
use Rattle.pg_watch.specs.Runs.{IsSpread, IsAllRun}
use Rattle.pg_watch.specs.Watched.{IsWatched}
use Rattle.pg_watch.proofs.WatchedLemmas.{after_run, after_back, cut-extends}
use Rattle.pg_watch.proofs.QuietLemmas.{nothing_left, when_quiet}
use Rattle.pg_watch.proofs.watches.Watches.draw.Goals as goal

pub invariant_of-self : goal.invariant_of-self
invariant_of-self c =
    let cs = c.self.inside.clauses in let u = c.propagate.new.trail in let fresh = c.self.inside.fresh.items in let i = c.propagate.new.head in
    let run = after_run cs _ u _ fresh _ _ _ _ _ i c.self.invariant c.propagate.ensures.runs in
    let spread : IsAllRun cs u.literals c.as_slice.result.now i = subst (IsSpread cs u.literals c.as_slice.result.now i) c.in-Ok-Quiet.field-0-is c.in-Ok-Quiet.ensures.spread in
    let left : AreOpen cs u.literals fresh = subst (λ (ks : List ℕ). AreOpen cs u.literals ks) c.as_slice.ensures.value spread.opened in
    c.release_each.ensures true i (when_quiet cs u _ fresh _ _ i run spread.whole left)

pub invariant_of-self-in-Ok-Conflict : goal.invariant_of-self-in-Ok-Conflict
invariant_of-self-in-Ok-Conflict c =
    c.release_each-in-Ok-Conflict.ensures false c.propagate.new.head (after_run _ _ _ _ _ _ _ _ _ _ _ c.self.invariant c.propagate.ensures.runs)

pub release_each-requires-clause-index : goal.release_each-requires-clause-index
release_each-requires-clause-index c = (after_run _ _ _ _ _ _ _ _ _ _ _ c.self.invariant c.propagate.ensures.runs).index

pub release_each-requires-in-Ok-Conflict-clause-index : goal.release_each-requires-in-Ok-Conflict-clause-index
release_each-requires-in-Ok-Conflict-clause-index c = (after_run _ _ _ _ _ _ _ _ _ _ _ c.self.invariant c.propagate.ensures.runs).index

pub invariant_of-self-in-Err : goal.invariant_of-self-in-Err
invariant_of-self-in-Err c =
    let cs = c.self.inside.clauses in let t = c.self.inside.trail in let u = c.propagate.new.trail in let fresh = c.self.inside.fresh.items in
    let back = after_back cs t u _ fresh _ c.propagate.new.index.lists _ c.propagate.new.index.pairs.items c.self.inside.head _ c.self.invariant c.propagate.ensures.runs in
    let same = c.cut.ensures ∙ cut-extends cs t u c.len-len.result c.self.invariant.index.trail c.propagate.ensures.runs.keeps.steps.extends c.len-len.ensures.len in
    subst (λ (v : Trail). IsWatched cs v false fresh c.propagate.new.index.lists c.propagate.new.index.pairs.items c.self.inside.head) (sym same) back

pub returns-in-Ok-Quiet-clause-end : goal.returns-in-Ok-Quiet-clause-end
returns-in-Ok-Quiet-clause-end c =
    let cs = c.self.inside.clauses in let u = c.propagate.new.trail in let fresh = c.self.inside.fresh.items in let i = c.propagate.new.head in
    let run = after_run cs _ u _ fresh _ _ _ _ _ i c.self.invariant c.propagate.ensures.runs in
    let spread : IsAllRun cs u.literals c.as_slice.result.now i = subst (IsSpread cs u.literals c.as_slice.result.now i) c.in-Ok-Quiet.field-0-is c.in-Ok-Quiet.ensures.spread in
    let left : AreOpen cs u.literals fresh = subst (λ (ks : List ℕ). AreOpen cs u.literals ks) c.as_slice.ensures.value spread.opened in
    nothing_left cs u _ fresh _ _ i run spread.whole left

use Rattle.std.proofs.Common.{w32, subst, arith, ℕ, length, ◌<◌, to_z, of_z}
use Rattle.pg_watch.specs.Places.{place_of}
use Rattle.pg_watch.specs.Watching.{list_at, entry_at}
use Rattle.pg_watch.specs.Visits.{HasStayed}
use Rattle.pg_watch.specs.Walks.{IsStepped, HasLeft}
use Rattle.pg_watch.proofs.WalkLemmas.{walking-stays, walking-leaves, walking-keeps}
use Rattle.pg_watch.proofs.walk.walk_list.Goals as goal

pub loop-at-preserved-in-Ok-Stays : goal.loop-at-preserved-in-Ok-Stays
loop-at-preserved-in-Ok-Stays c =
    let gone = to_z w32 (of_z w32 c.args.gone) in
    let ls = c.loop-at.index.lists in
    let lt : c.loop-at.at < length (list_at ls (place_of gone)) =
    subst (λ (p : ℕ). c.loop-at.at < length (list_at ls p)) c.loop-at.invariant.place (omega (arith, c.loop-at-test.true, c.count.ensures)) in
    let stayed : HasStayed c.args.clauses.now c.take_step.new.trail.literals ls c.take_step.new.index.lists c.take_step.new.index.pairs.items gone (entry_at ls (place_of gone) c.loop-at.at).clause =
    subst (IsStepped c.args.clauses.now c.take_step.new.trail.literals ls c.take_step.new.index.lists c.take_step.new.index.pairs.items gone c.loop-at.at)
    c.in-Ok-Stays.field-0-is c.in-Ok-Stays.ensures.stepped in
    record {
      place = c.loop-at.invariant.place;
      walking = walking-stays _ _ _ _ _ _ _ _ _ _ gone c.loop-at.at c.loop-at.invariant.walking c.take_step.ensures.keeps lt stayed;
    }

pub loop-at-preserved : goal.loop-at-preserved
loop-at-preserved c =
    let gone = to_z w32 (of_z w32 c.args.gone) in
    let ls = c.loop-at.index.lists in
    let lt : c.loop-at.at < length (list_at ls (place_of gone)) =
    subst (λ (p : ℕ). c.loop-at.at < length (list_at ls p)) c.loop-at.invariant.place (omega (arith, c.loop-at-test.true, c.count.ensures)) in
    let left : HasLeft ls c.take_step.new.index.lists (place_of gone) c.loop-at.at =
    subst (IsStepped c.args.clauses.now c.take_step.new.trail.literals ls c.take_step.new.index.lists c.take_step.new.index.pairs.items gone c.loop-at.at)
    c.in-Ok-Leaves.field-0-is c.in-Ok-Leaves.ensures.stepped in
    record {
      place = c.loop-at.invariant.place;
      walking = walking-leaves _ _ _ _ _ _ _ _ _ _ gone c.loop-at.at c.loop-at.invariant.walking c.take_step.ensures.keeps lt left;
    }

pub returns-in-Ok-Ends-clause-keeps : goal.returns-in-Ok-Ends-clause-keeps
returns-in-Ok-Ends-clause-keeps c = walking-keeps _ _ _ _ _ _ _ _ _ _ _ _ c.loop-at.invariant.walking c.take_step.ensures.keeps

pub returns-in-Err-clause-keeps : goal.returns-in-Err-clause-keeps
returns-in-Err-clause-keeps c = walking-keeps _ _ _ _ _ _ _ _ _ _ _ _ c.loop-at.invariant.walking c.take_step.ensures.keeps

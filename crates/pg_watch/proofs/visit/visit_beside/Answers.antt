use Rattle.std.proofs.Common.{SFits, w32, rules, refl, sym, subst, List, ℤ, arith}
use Rattle.std.proofs.lemmas.Int.{to_z-of_z}
use Rattle.pg_cnf.specs.Literals.{AreLiterals}
use Rattle.std.specs.Prelude.{Contains}
use Rattle.pg_watch.specs.Watching.{Keeps}
use Rattle.pg_watch.specs.declared.lists.Watch.{Watch}
use Rattle.pg_watch.specs.declared.index.Pair.{Pair}
use Rattle.pg_watch.proofs.Steps.{AreClauses-at}
use Rattle.pg_watch.proofs.Tables.{place_of-lt}
use Rattle.pg_watch.proofs.Keeps.{Keeps-trail, Keeps-same}
use Rattle.pg_watch.proofs.Moves.{Keeps-move, IsMove}
use Rattle.pg_watch.proofs.VisitLemmas.{literal_there, literal_of_pair}
use Rattle.pg_watch.proofs.visit.visit_beside.Goals as goal

pub value-requires : goal.value-requires
value-requires c =
    let fits : SFits w32 c.args.other = c.ranges.other in
    simp to_z-of_z (literal_of_pair _ _ c.args.place _ c.args.other c.requires.index.right c.requires.place c.requires.pair c.requires.other)

pub open_literal-requires : goal.open_literal-requires
open_literal-requires c =
    subst (AreLiterals c.args.trail.now.variables) (sym c.clause.ensures)
    (AreClauses-at c.args.trail.now.variables c.args.clauses.now c.args.place c.requires.index.right c.requires.place).within

pub watch-requires-clause-place : goal.watch-requires-clause-place
watch-requires-clause-place c =
    let fits : SFits w32 c.in-Some.next = search rules in
    let there = subst (λ (xs : List ℤ). Contains xs c.in-Some.next) c.clause.ensures c.in-Some.ensures.there in
    let own = literal_there _ _ c.args.place c.in-Some.next c.requires.index.right c.requires.place there in
    simp to_z-of_z (omega (arith, place_of-lt c.args.trail.now.variables c.in-Some.next own, c.requires.index.lists_long))

pub returns-in-None-clause-keeps : goal.returns-in-None-clause-keeps
returns-in-None-clause-keeps c = Keeps-trail _ _ _ _ _ c.follow.ensures.steps

pub returns-in-Ok-clause-keeps : goal.returns-in-Ok-clause-keeps
returns-in-Ok-clause-keeps c =
    let fits : SFits w32 c.in-Some.next = search rules in
    let fits_other : SFits w32 c.args.other = c.ranges.other in
    let cs = c.args.clauses.now in let t = c.args.trail.now in let ls = c.args.index.now.lists in let ps = c.args.index.now.pairs.items in
    let there = subst (λ (xs : List ℤ). Contains xs c.in-Some.next) c.clause.ensures c.in-Some.ensures.there in
    let own = literal_there _ _ c.args.place c.in-Some.next c.requires.index.right c.requires.place there in
    let lists = simp to_z-of_z at c.in-Ok.ensures.lists in
    let pairs = simp to_z-of_z at c.in-Ok.ensures.pairs in
    let other = simp to_z-of_z at c.in-Some.ensures.other in
    let m : IsMove cs t.literals ls c.watch.new.self.lists ps c.watch.new.self.pairs.items c.args.place c.args.gone c.args.other c.in-Some.next = record {
      clause = c.requires.place;
      paired = omega (arith, c.requires.place, c.requires.index.pairs_long);
      place = omega (arith, place_of-lt t.variables c.in-Some.next own, c.requires.index.lists_long);
      lists = lists;
      pairs = pairs;
      old = c.requires.other;
      old_pair = c.requires.pair;
      next_there = there;
      next_other = other;
      next_open = c.in-Some.ensures.not_false;
    } in
    Keeps-move cs t.literals ls _ ps _ c.args.place c.args.gone c.args.other c.in-Some.next m t refl c.requires.index.trail

pub returns-in-Err-clause-keeps : goal.returns-in-Err-clause-keeps
returns-in-Err-clause-keeps c =
    let cs = c.args.clauses.now in let t = c.args.trail.now in let ls = c.args.index.now.lists in let ps = c.args.index.now.pairs.items in
    subst (λ (ms : List (List Watch)). Keeps cs t t ls ms ps c.watch.new.self.pairs.items) (sym c.in-Err.ensures.same_lists)
    (subst (λ (qs : List Pair). Keeps cs t t ls ls ps qs) (sym c.in-Err.ensures.same_pairs) (Keeps-same cs t ls ps c.requires.index.trail))

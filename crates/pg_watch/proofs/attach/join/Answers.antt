use Rattle.std.proofs.Common.{SFits, w32, rules, arith, sym, subst, List}
use Rattle.std.proofs.lemmas.Int.{to_z-of_z}
use Rattle.pg_watch.specs.declared.lists.Watch.{Watch}
use Rattle.pg_watch.specs.declared.index.Pair.{Pair}
use Rattle.pg_watch.specs.Watching.{IsIndex}
use Rattle.pg_watch.specs.Joins.{KeepsOthers}
use Rattle.pg_watch.proofs.JoinLemmas.{first_lt, half_joined, whole_joined}
use Rattle.pg_watch.proofs.attach.join.Goals as goal

pub push-requires : goal.push-requires
push-requires c =
    let fits : SFits w32 c.args.pair.first = search rules in
    let place = simp to_z-of_z at c.place_of.ensures in
    omega (arith, place, first_lt _ _ _ _ c.args.place c.args.pair.first c.requires.index c.requires.place c.requires.pair.first)

pub watch-requires-clause-place : goal.watch-requires-clause-place
watch-requires-clause-place c =
    let fits : SFits w32 c.args.pair.first = search rules in
    let fits_second : SFits w32 c.args.pair.second = search rules in
    let place = simp to_z-of_z at c.place_of.ensures in
    let more = simp to_z-of_z at c.in-Ok.ensures.ok in
    let half = half_joined _ c.args.trail.now _ _ _ c.args.place _ c.args.pair c.requires.index c.requires.place c.requires.pair place more in
    simp to_z-of_z (first_lt _ _ _ _ c.args.place c.args.pair.second half.index c.requires.place c.requires.pair.second)

pub returns-in-Ok-watch-clause-index : goal.returns-in-Ok-watch-clause-index
returns-in-Ok-watch-clause-index c =
    let fits : SFits w32 c.args.pair.first = search rules in
    let fits_second : SFits w32 c.args.pair.second = search rules in
    let place = simp to_z-of_z at c.place_of.ensures in
    let more = simp to_z-of_z at c.in-Ok.ensures.ok in
    let lists = simp to_z-of_z at c.in-Ok-watch.ensures.lists in
    let pairs = simp to_z-of_z at c.in-Ok-watch.ensures.pairs in
    (whole_joined _ c.args.trail.now _ _ _ _ _ c.args.place _ c.args.pair c.requires.index c.requires.place c.requires.pair place more lists pairs).index

pub returns-in-Ok-watch-clause-others : goal.returns-in-Ok-watch-clause-others
returns-in-Ok-watch-clause-others c =
    let fits : SFits w32 c.args.pair.first = search rules in
    let fits_second : SFits w32 c.args.pair.second = search rules in
    let place = simp to_z-of_z at c.place_of.ensures in
    let more = simp to_z-of_z at c.in-Ok.ensures.ok in
    let lists = simp to_z-of_z at c.in-Ok-watch.ensures.lists in
    let pairs = simp to_z-of_z at c.in-Ok-watch.ensures.pairs in
    (whole_joined _ c.args.trail.now _ _ _ _ _ c.args.place _ c.args.pair c.requires.index c.requires.place c.requires.pair place more lists pairs).others

pub returns-in-Ok-watch-clause-attached : goal.returns-in-Ok-watch-clause-attached
returns-in-Ok-watch-clause-attached c = λ yes.
    let fits : SFits w32 c.args.pair.first = search rules in
    let fits_second : SFits w32 c.args.pair.second = search rules in
    let place = simp to_z-of_z at c.place_of.ensures in
    let more = simp to_z-of_z at c.in-Ok.ensures.ok in
    let lists = simp to_z-of_z at c.in-Ok-watch.ensures.lists in
    let pairs = simp to_z-of_z at c.in-Ok-watch.ensures.pairs in
    (whole_joined _ c.args.trail.now _ _ _ _ _ c.args.place _ c.args.pair c.requires.index c.requires.place c.requires.pair place more lists pairs).attached

pub returns-in-Err-watch-clause-index : goal.returns-in-Err-watch-clause-index
returns-in-Err-watch-clause-index c =
    let fits : SFits w32 c.args.pair.first = search rules in
    let fits_second : SFits w32 c.args.pair.second = search rules in
    let place = simp to_z-of_z at c.place_of.ensures in
    let more = simp to_z-of_z at c.in-Ok.ensures.ok in
    let half = half_joined c.args.clauses.now c.args.trail.now _ c.push.new.self _ c.args.place _ c.args.pair c.requires.index c.requires.place c.requires.pair place more in
    subst (λ (ms : List (List Watch)). IsIndex c.args.clauses.now c.args.trail.now ms c.watch.new.self.pairs.items) (sym c.in-Err-watch.ensures.same_lists)
    (subst (λ (qs : List Pair). IsIndex c.args.clauses.now c.args.trail.now c.push.new.self qs) (sym c.in-Err-watch.ensures.same_pairs) half.index)

pub returns-in-Err-watch-clause-others : goal.returns-in-Err-watch-clause-others
returns-in-Err-watch-clause-others c =
    let fits : SFits w32 c.args.pair.first = search rules in
    let fits_second : SFits w32 c.args.pair.second = search rules in
    let place = simp to_z-of_z at c.place_of.ensures in
    let more = simp to_z-of_z at c.in-Ok.ensures.ok in
    let cs = c.args.clauses.now in let ls = c.args.index.now.lists in let ps = c.args.index.now.pairs.items in
    let half = half_joined cs c.args.trail.now ls c.push.new.self ps c.args.place _ c.args.pair c.requires.index c.requires.place c.requires.pair place more in
    subst (λ (ms : List (List Watch)). KeepsOthers cs ls ms ps c.watch.new.self.pairs.items c.args.place) (sym c.in-Err-watch.ensures.same_lists)
    (subst (λ (qs : List Pair). KeepsOthers cs ls c.push.new.self ps qs c.args.place) (sym c.in-Err-watch.ensures.same_pairs) half.others)

use Rattle.std.proofs.Common.{SFits, w32, subst}
use Rattle.std.proofs.lemmas.Int.{to_z-of_z}
use Rattle.pg_watch.specs.Visits.{IsVisited, HasStayed, HasMoved}
use Rattle.pg_watch.proofs.Removes.{step_moved, step_stayed}
use Rattle.pg_watch.proofs.walk.take_step.Goals as goal

pub returns-in-Ok-Stays-clause-stepped : goal.returns-in-Ok-Stays-clause-stepped
returns-in-Ok-Stays-clause-stepped c =
    let fits : SFits w32 c.args.gone = c.ranges.gone in
    let cs = c.args.clauses.now in let zs = c.visit_clause.new.trail.literals in let qs = c.visit_clause.new.index.pairs.items in
    let ls = c.args.index.now.lists in let ms = c.visit_clause.new.index.lists in
    let visited = simp to_z-of_z at c.in-Ok-Stays.ensures.visited in
    let stayed : HasStayed cs zs ls ms qs c.args.gone c.watch-watch.result.clause =
    subst (IsVisited cs zs ls ms qs c.args.gone c.watch-watch.result.clause) c.in-Ok-Stays.field-0-is visited in
    let place = simp to_z-of_z at c.place_of-place.ensures in
    step_stayed cs zs ls ms qs c.args.gone c.place_of-place.result c.args.at c.watch-watch.result c.requires.at place c.watch-watch.ensures stayed

pub returns-in-Ok-Moved-clause-keeps : goal.returns-in-Ok-Moved-clause-keeps
returns-in-Ok-Moved-clause-keeps c =
    let fits : SFits w32 c.args.gone = c.ranges.gone in
    let cs = c.args.clauses.now in let zs = c.visit_clause.new.trail.literals in let qs = c.visit_clause.new.index.pairs.items in
    let ls = c.args.index.now.lists in let ms = c.visit_clause.new.index.lists in
    let visited = simp to_z-of_z at c.in-Ok-Moved.ensures.visited in
    let moved : HasMoved ls ms qs c.args.gone c.watch-watch.result.clause =
    subst (IsVisited cs zs ls ms qs c.args.gone c.watch-watch.result.clause) c.in-Ok-Moved.field-0-is visited in
    let place = simp to_z-of_z at c.place_of-place.ensures in
    (step_moved cs c.args.trail.now c.visit_clause.new.trail ls ms c.remove.new.self c.args.index.now.pairs.items qs c.args.gone c.place_of-place.result c.args.at
    c.watch-watch.result c.remove.result c.requires.index c.requires.literal c.visit_clause.ensures.keeps c.requires.at place c.watch-watch.ensures moved c.remove.ensures).keeps

pub returns-in-Ok-Moved-clause-stepped : goal.returns-in-Ok-Moved-clause-stepped
returns-in-Ok-Moved-clause-stepped c =
    let fits : SFits w32 c.args.gone = c.ranges.gone in
    let cs = c.args.clauses.now in let zs = c.visit_clause.new.trail.literals in let qs = c.visit_clause.new.index.pairs.items in
    let ls = c.args.index.now.lists in let ms = c.visit_clause.new.index.lists in
    let visited = simp to_z-of_z at c.in-Ok-Moved.ensures.visited in
    let moved : HasMoved ls ms qs c.args.gone c.watch-watch.result.clause =
    subst (IsVisited cs zs ls ms qs c.args.gone c.watch-watch.result.clause) c.in-Ok-Moved.field-0-is visited in
    let place = simp to_z-of_z at c.place_of-place.ensures in
    (step_moved cs c.args.trail.now c.visit_clause.new.trail ls ms c.remove.new.self c.args.index.now.pairs.items qs c.args.gone c.place_of-place.result c.args.at
    c.watch-watch.result c.remove.result c.requires.index c.requires.literal c.visit_clause.ensures.keeps c.requires.at place c.watch-watch.ensures moved c.remove.ensures).left

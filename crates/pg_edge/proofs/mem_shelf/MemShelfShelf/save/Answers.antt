use Rattle.std.proofs.Common.{rules, ◌≡◌, length, ap, ◌∙◌}
use Rattle.std.proofs.lemmas.List.{with_items_is}
use Rattle.pg_edge.specs.MemFile.{all_shown}
use Rattle.pg_edge.specs.ShelfView.{next_call, with_content, files_left}
use Rattle.pg_edge.proofs.ShelfLemmas.{Saves-whole, Saves-front}
use Rattle.pg_edge.proofs.mem_shelf.MemShelfShelf.save.Goals as goal

pub returns-then-save_to-clause-answer : goal.returns-then-save_to-clause-answer
returns-then-save_to-clause-answer c =
    let shelf = c.args.self.now in
    let as_long : length c.save_to.new.files ≡ c.self.inside.files.len = search rules in
    let saved : all_shown c.save_to.new.files ≡ with_content shelf.files c.args.name.now c.args.bytes.now = search rules in
    Saves-whole shelf.files _ c.args.name.now c.args.bytes.now _ (search rules) (ap all_shown (with_items_is c.self.inside.files c.save_to.new.files as_long) ∙ saved)

pub returns-clause-answer : goal.returns-clause-answer
returns-clause-answer c =
    let shelf = c.args.self.now in
    let as_long : length c.save_to.new.files ≡ c.self.inside.files.len = search rules in
    let left : all_shown c.save_to.new.files ≡ files_left shelf.files shelf.room (next_call shelf) c.args.name.now c.args.bytes.now = search rules in
    Saves-front shelf.files _ shelf.room (next_call shelf) c.args.name.now c.args.bytes.now _ (ap all_shown (with_items_is c.self.inside.files c.save_to.new.files as_long) ∙ left)

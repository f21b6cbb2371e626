use Rattle.std.proofs.Common.{◌≡◌, ℕ, ◌+◌, ◌-◌, ◌*◌, ◌/◌, ◌%◌, ◌<◌, take, ap, ◌∙◌, arith}
use Rattle.std.specs.Prelude.{nat_lt}
use Rattle.std.specs.List.{prefix_len}
use Rattle.pg_word.specs.Sparse.{address_at}
use Rattle.pg_image.specs.Lines.{line_cells}
use Rattle.pg_cert.proofs.RowLemmas.{cells_in_row, first_shown, row_fits, row_length}
use Rattle.pg_cert.proofs.rows.first_row.Goals as goal

pub words_of-requires-clause-in_row : goal.words_of-requires-clause-in_row
words_of-requires-clause-in_row c =
    let cells = c.args.cells.now in
    let address : ℕ = address_at cells 0 in
    let first : ℕ = address - address % 8 in
    let count : ℕ = c.count_before-count.result in
    let upper : address < first + line_cells = omega arith in
    let e : c.from.result + c.from-2.result ≡ first + line_cells = omega (arith, c.from.ensures, c.from-2.ensures) in
    let count_is : count ≡ prefix_len (λ cell. nat_lt cell.0 (first + line_cells)) cells = c.count_before-count.ensures ∙ ap (λ end. prefix_len (λ cell. nat_lt cell.0 end) cells) e in
    cells_in_row c.args.size cells c.requires.listed c.requires.within c.requires.some first count (omega arith) upper count_is

pub returns-clause-rows : goal.returns-clause-rows
returns-clause-rows c =
    let cells = c.args.cells.now in
    let address : ℕ = address_at cells 0 in
    let first : ℕ = address - address % 8 in
    let count : ℕ = c.count_before-count.result in
    let upper : address < first + line_cells = omega arith in
    let whole : first ≡ line_cells * (address / 8) = omega arith in
    let e : c.from.result + c.from-2.result ≡ first + line_cells = omega (arith, c.from.ensures, c.from-2.ensures) in
    let count_is : count ≡ prefix_len (λ cell. nat_lt cell.0 (first + line_cells)) cells = c.count_before-count.ensures ∙ ap (λ end. prefix_len (λ cell. nat_lt cell.0 end) cells) e in
    first_shown c.args.size cells c.requires.listed c.requires.within c.requires.some first count (omega arith) upper count_is (address / 8) whole c.words_of.result.items c.words_of.ensures

pub returns-clause-shown : goal.returns-clause-shown
returns-clause-shown c =
    let cells = c.args.cells.now in
    let address : ℕ = address_at cells 0 in
    let first : ℕ = address - address % 8 in
    let within : address < c.args.size = c.requires.within 0 (0, 0) c.requires.some in
    let count = row_length c.args.size first (take c.count_before-count.result cells) c.words_of.result.items c.words_of.ensures in
    omega (arith, count)

pub returns-clause-fit : goal.returns-clause-fit
returns-clause-fit c =
    let cells = c.args.cells.now in
    let address : ℕ = address_at cells 0 in
    row_fits c.args.size (address - address % 8) c.count_before-count.result cells c.words_of.result.items c.words_of.ensures

-- What follows of a line that is in range.
use Rattle.std.proofs.Common.{◌^◌, ◌%◌, Bool, length, get_or}
use Rattle.std.specs.Prelude.{◌==◌, ◌&&◌, not, nat_lt, nat_le}
use Rattle.std.specs.List.{list_any, list_all}
use Rattle.std.proofs.lemmas.Bool.{and_parts, ltb-true}
use Rattle.std.proofs.lemmas.List.Sums.{AllPass-from_list_all}
use Rattle.pg_word.specs.declared.shape.Shape.{Shape}
use Rattle.pg_image.specs.Lines.{line_cells}
use Rattle.pg_cert.specs.declared.line.Line.{Line}
use Rattle.pg_cert.specs.declared.line.Line.TheVariants.{First, Header, Step, Remove, Size, Psw, Cells, End}
use Rattle.pg_cert.specs.Lines.{most_number, is_line, IsLine, DoWordsFit}

pub words_fit : (shape : Shape) (line : Line) → IsLine shape line → DoWordsFit shape.w line
unfolding is_line
words_fit shape (First heading) h = tt
words_fit shape (Header name kind found) h = tt
words_fit shape (Step step) h = tt
words_fit shape (Remove removed) h = tt
words_fit shape (Size n) h = tt
words_fit shape (Psw psw) h = tt
words_fit shape (Cells first words) h =
    let count : Bool = nat_le 1 (length words) && nat_le (length words) line_cells in
    let some : Bool = list_any (λ x. not (x == 0)) words in
    let fit : Bool = list_all (λ x. nat_lt x (2 ^ shape.w)) words in
    let place : Bool = nat_le first most_number && (first % line_cells == 0) in
    let fits = (and_parts some fit (and_parts count (some && fit) (and_parts place (count && (some && fit)) h).1).1).1 in
    let each = AllPass-from_list_all (λ x. nat_lt x (2 ^ shape.w)) words fits in
    λ k d l. ltb-true (get_or words k d) (2 ^ shape.w) (each k d l)
words_fit shape End h = tt

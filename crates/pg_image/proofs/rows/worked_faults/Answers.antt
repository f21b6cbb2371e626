use Rattle.std.proofs.Common.{refl}
use Rattle.pg_image.specs.Images.{image_due, lines_of, foreign_place, parts_of, is_address, is_word, rows_from, any_given, first_fault, cells_of}
use Rattle.pg_image.proofs.rows.worked_faults.Goals as goal

pub returns-clause-token : goal.returns-clause-token
unfolding image_due lines_of foreign_place parts_of is_address is_word rows_from any_given first_fault cells_of
returns-clause-token c = refl

pub returns-clause-grammar : goal.returns-clause-grammar
unfolding image_due lines_of foreign_place parts_of is_address is_word rows_from any_given first_fault cells_of
returns-clause-grammar c = refl

pub returns-clause-no_word : goal.returns-clause-no_word
unfolding image_due lines_of foreign_place parts_of is_address is_word rows_from any_given first_fault cells_of
returns-clause-no_word c = refl

pub returns-clause-address : goal.returns-clause-address
unfolding image_due lines_of foreign_place parts_of is_address is_word rows_from any_given first_fault cells_of
returns-clause-address c = refl

pub returns-clause-overlap : goal.returns-clause-overlap
unfolding image_due lines_of foreign_place parts_of is_address is_word rows_from any_given first_fault cells_of
returns-clause-overlap c = refl

pub returns-clause-address_first : goal.returns-clause-address_first
unfolding image_due lines_of foreign_place parts_of is_address is_word rows_from any_given first_fault cells_of
returns-clause-address_first c = refl

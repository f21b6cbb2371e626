use Rattle.std.proofs.Common.{refl}
use Rattle.pg_image.specs.Images.{image_due, lines_of, foreign_place, parts_of, is_address, is_word, rows_from, any_given, first_fault, cells_of}
use Rattle.pg_image.proofs.rows.worked_images.Goals as goal

pub returns-clause-empty : goal.returns-clause-empty
unfolding image_due lines_of foreign_place parts_of is_address is_word rows_from any_given first_fault cells_of
returns-clause-empty c = refl

pub returns-clause-one : goal.returns-clause-one
unfolding image_due lines_of foreign_place parts_of is_address is_word rows_from any_given first_fault cells_of
returns-clause-one c = refl

pub returns-clause-two : goal.returns-clause-two
unfolding image_due lines_of foreign_place parts_of is_address is_word rows_from any_given first_fault cells_of
returns-clause-two c = refl

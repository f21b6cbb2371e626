use Rattle.std.proofs.Common.{refl}
use Rattle.std.specs.Fmt.{digits}
use Rattle.pg_image.specs.Lines.{size_text, psw_text, words_text, cells_text, cells_shown, lines_before, state_text}
use Rattle.pg_text.specs.Printing.{hex_text}
use Rattle.pg_cert.specs.Lines.{line_parts, line_text, is_line}
use Rattle.pg_cert.specs.Reading.{read_number, read_parts}
use Rattle.pg_cert.specs.Parsing.{is_first, said}
use Rattle.pg_move.specs.Texts.{steps_text, saved_text}
use Rattle.pg_move.specs.Reading.{cut_lines, is_version, after_own, after_form, after_said, after_saved_line, read_lines, saved_due}
use Rattle.pg_move.proofs.laws.worked_texts.Goals as goal

pub returns-clause-three_steps : goal.returns-clause-three_steps
unfolding saved_text steps_text digits size_text psw_text words_text cells_text cells_shown lines_before state_text hex_text
returns-clause-three_steps c = refl

pub returns-clause-another_version : goal.returns-clause-another_version
unfolding saved_due read_lines cut_lines after_saved_line after_said after_own is_version said read_parts is_first is_line line_text line_parts
returns-clause-another_version c = refl

pub returns-clause-nothing : goal.returns-clause-nothing
unfolding saved_due read_lines cut_lines
returns-clause-nothing c = refl

pub returns-clause-foreign : goal.returns-clause-foreign
unfolding saved_due read_lines cut_lines after_saved_line after_said after_own is_version said read_parts is_first is_line line_text line_parts
returns-clause-foreign c = refl

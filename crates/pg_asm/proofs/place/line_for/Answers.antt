use Rattle.std.proofs.Common.{ℕ, ap, subst}
use Rattle.pg_word.specs.declared.shape.Shape.{Shape}
use Rattle.pg_image.specs.Images.{content, parts_of}
use Rattle.pg_asm.specs.Said.{said_of}
use Rattle.pg_asm.specs.Lines.{IsLineOf}
use Rattle.pg_asm.proofs.place.line_for.Goals as goal

pub returns : goal.returns
returns c =
    let P : ℕ → Type 0 = λ w. IsLineOf w (said_of w (parts_of (content c.args.line.now))) c.line_of.result in
    subst P (ap (λ (s : Shape). s.w) c.shape.ensures.numbers) c.line_of.ensures

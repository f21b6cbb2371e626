use Rattle.std.proofs.Common.{◌≡◌, ◌+◌, ◌^◌, ◌&&◌, false, true, length, drop, get_or, sym, ap, ◌∙◌, arith}
use Rattle.std.specs.Prelude.{nat_lt}
use Rattle.pg_asm.specs.Words.{fit}
use Rattle.pg_asm.proofs.FieldLemmas.{fit-lengths, fit-fails, fit-goes_on, fit-end}
use Rattle.pg_asm.proofs.fields.fit.Goals as goal

pub returns-then-fields-values : goal.returns-then-fields-values
returns-then-fields-values c = fit-lengths c.args.fields.now c.args.values.now (λ e. omega (arith, e))

pub returns-then-not-fits : goal.returns-then-not-fits
returns-then-not-fits c =
    fit-fails c.args.fields.now c.args.values.now c.loop-k.k (record { letter = 0; width = 0; low = 0 }) _ (omega arith) (omega arith) (sym c.fits.ensures ∙ c.if-not-fits.true) c.loop-k.invariant

pub loop-k-preserved : goal.loop-k-preserved
loop-k-preserved c =
    fit-goes_on c.args.fields.now c.args.values.now c.loop-k.k (record { letter = 0; width = 0; low = 0 }) _ (omega arith) (omega arith) (sym c.fits.ensures ∙ c.if-not-fits.false) c.loop-k.invariant

pub returns : goal.returns
returns c = sym (fit-end c.args.fields.now c.args.values.now c.loop-k.k (omega arith) (omega arith)) ∙ c.loop-k.invariant

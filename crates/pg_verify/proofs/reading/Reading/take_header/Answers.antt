use Rattle.std.proofs.Common.{arith, ap}
use Rattle.pg_cert.specs.Verdicts.{kind_count}
use Rattle.pg_verify.specs.Reader.{Progress}
use Rattle.pg_verify.proofs.reading.Reading.take_header.Goals as goal

pub place-requires-clause-place : goal.place-requires-clause-place
place-requires-clause-place c =
    let told = c.in-Some.ensures in
    omega (arith, told.within, ap (λ (p : Progress). kind_count p.family) c.self.view_is, ap kind_count c.close.ensures.family)

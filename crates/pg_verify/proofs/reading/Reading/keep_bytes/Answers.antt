use Rattle.std.proofs.Common.{arith, ap}
use Rattle.pg_verify.specs.Reader.{Progress}
use Rattle.pg_verify.proofs.FeedLemmas.{bytes_kept}
use Rattle.pg_verify.proofs.reading.Reading.keep_bytes.Goals as goal

pub returns-clause-told : goal.returns-clause-told
returns-clause-told c =
    let told = c.in_ok-extend_from_slice.ensures in
    bytes_kept c.args.self.now _ c.args.bytes.now _ c.self.view_is told.items c.requires.plain
    (omega (arith, c.requires.within, ap (λ (p : Progress). p.fed) c.self.view_is))

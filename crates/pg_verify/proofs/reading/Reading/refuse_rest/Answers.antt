use Rattle.std.proofs.Common.{ap}
use Rattle.pg_verify.specs.Reader.{Progress}
use Rattle.pg_verify.proofs.FeedLemmas.{rest_told}
use Rattle.pg_verify.proofs.reading.Reading.refuse_rest.Goals as goal

pub returns-in-Ok : goal.returns-in-Ok
returns-in-Ok c =
    let told = c.in-Ok.ensures in
    let after = c.replace-line.ensures.after in
    let items = c.new.ensures.items in
    let value = c.replace-line.ensures.value in
    let slice = c.as_slice.ensures.value in
    λ _. rest_told c.args.self.now _ c.take_whole.new.self _ _ _ c.self.view_is (cc) (cc) c.requires.some told.told told.lines (ap (λ (p : Progress). p.lines) c.self-2.view_is)

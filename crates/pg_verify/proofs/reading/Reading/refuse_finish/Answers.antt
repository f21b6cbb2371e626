use Rattle.std.proofs.Common.{ap, sym, subst, ◌∙◌, refl}
use Rattle.std.specs.Prelude.{◌≢◌, []}
use Rattle.pg_verify.specs.Reader.{Progress}
use Rattle.pg_verify.proofs.FeedLemmas.{finished_rest, finished_early, finished_whole, some_bytes, none_left}
use Rattle.pg_verify.proofs.reading.Reading.refuse_finish.Goals as goal

pub returns-then-not-is_empty-clause-fault : goal.returns-then-not-is_empty-clause-fault
returns-then-not-is_empty-clause-fault c =
    let rest = c.self.inside.rest in
    let some = some_bytes rest.len rest.items c.is_empty.result rest.ok.0 c.is_empty.ensures c.if-not-is_empty.true in
    let at = ap (λ (p : Progress). p.rest) c.self.view_is in
    λ n. finished_rest c.args.self.now c.args.self.now.rest c.refuse_rest.result refl (subst (λ xs. xs ≢ []) at some) (c.refuse_rest.ensures n)

pub returns-then-not-is_ended-clause-fault : goal.returns-then-not-is_ended-clause-fault
returns-then-not-is_ended-clause-fault c =
    let rest = c.self.inside.rest in
    let none = none_left rest.len rest.items c.is_empty.result rest.ok.0 c.is_empty.ensures c.if-not-is_empty.false in
    λ n. finished_early c.args.self.now _ c.refuse_end.result (sym (ap (λ (p : Progress). p.rest) c.self.view_is) ∙ none) (sym (ap (λ (p : Progress). p.opened) c.self.view_is))
    (sym c.is_ended.ensures ∙ c.if-not-is_ended.true) (c.refuse_end.ensures n)

pub returns-clause-whole : goal.returns-clause-whole
returns-clause-whole c =
    let rest = c.self.inside.rest in
    let none = none_left rest.len rest.items c.is_empty.result rest.ok.0 c.is_empty.ensures c.if-not-is_empty.false in
    λ _. finished_whole c.args.self.now _ (sym (ap (λ (p : Progress). p.rest) c.self.view_is) ∙ none) (sym (ap (λ (p : Progress). p.opened) c.self.view_is))
    (sym c.is_ended.ensures ∙ c.if-not-is_ended.false)

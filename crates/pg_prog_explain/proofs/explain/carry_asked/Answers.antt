use Rattle.std.proofs.Common.{inl, inr}
use Rattle.pg_prog_explain.specs.Explaining.{explain_words}
use Rattle.pg_prog_explain.proofs.explain.carry_asked.Goals as goal

pub returns-then-request-clause-taken : goal.returns-then-request-clause-taken
returns-then-request-clause-taken g c = λ hw.
    inr (record { words = explain_words c.args.request.now; files = c.carry_json.ensures.files; leaves = c.carry_json.ensures.leaves hw })

pub returns-else-request-clause-taken : goal.returns-else-request-clause-taken
returns-else-request-clause-taken g c = λ hw.
    inl (record { words = explain_words c.args.request.now; given = c.carry.result; is = c.code.ensures; carries = c.carry.ensures.carries hw })

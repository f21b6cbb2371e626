use Rattle.std.proofs.Common.{◌≡◌, ◌+◌, ◌<◌, ◌∷◌, true, false, length, get_or, map, Some, drop, take, subst, sym, ap, ◌∙◌, arith}
use Rattle.std.proofs.lemmas.List.{drop_more, length-take-le, get_or-take}
use Rattle.pg_proof.specs.State.{variables_of}
use Rattle.pg_proof.specs.Numbering.{adds_empty, with_kept, AreUsed, AreNeeded}
use Rattle.pg_proof.specs.Trimmed.{step_count}
use Rattle.pg_proof.proofs.GivenLemmas.{given_log}
use Rattle.pg_proof.proofs.DraftLemmas.{valid_take, earlier_take}
use Rattle.pg_proof.proofs.TrimLemmas.{picked_end}
use Rattle.pg_proof.proofs.trimming.picked.Goals as goal

pub end_of-end-requires : goal.end_of-end-requires
end_of-end-requires c = (given_log c.args.cnf.now.clauses c.args.acts.now c.requires.closed).ends

pub used_clauses-requires-clause-earlier : goal.used_clauses-requires-clause-earlier
used_clauses-requires-clause-earlier c =
    rw c.len-question.ensures
    (earlier_take (c.end_of-end.result + 1) (length c.args.cnf.now.clauses) c.args.acts.now (given_log c.args.cnf.now.clauses c.args.acts.now c.requires.closed).earlier)

pub kept_before-requires-clause-valid : goal.kept_before-requires-clause-valid
kept_before-requires-clause-valid c =
    valid_take (c.end_of-end.result + 1) (variables_of c.args.cnf.now.clauses) c.args.acts.now (map Some c.args.cnf.now.clauses)
    (given_log c.args.cnf.now.clauses c.args.acts.now c.requires.closed).valid

pub kept_before-requires-clause-earlier : goal.kept_before-requires-clause-earlier
kept_before-requires-clause-earlier c =
    earlier_take (c.end_of-end.result + 1) (length c.args.cnf.now.clauses) c.args.acts.now (given_log c.args.cnf.now.clauses c.args.acts.now c.requires.closed).earlier

pub returns : goal.returns
returns c =
    let question = c.args.cnf.now.clauses in let acts = c.args.acts.now in let k = c.end_of-end.result in let act = c.index-log-end.result in
    let flags = c.in_ok-used.used in let made = c.in_ok-made.field-0.made.items in let numbers = c.in_ok-made.field-0.numbers.items in
    let given = given_log question acts c.requires.closed in
    let lt : k < length acts = c.end_of-end.ensures.within in
    let within : k < length (take (k + 1) acts) = rw (length-take-le (k + 1) acts (omega arith)) (omega arith) in
    let empty : adds_empty act ≡ true = ap adds_empty (c.index-log-end.is ∙ get_or-take (k + 1) acts k act (omega arith)) ∙ c.end_of-end.ensures.empty act in
    picked_end question flags acts made c.keep.new.made.items numbers k act lt
    (drop_more (take (k + 1) acts) k act within ∙ ap (λ a. a ∷ drop (k + 1) (take (k + 1) acts)) (sym c.index-log-end.is)) empty
    (valid_take (k + 1) (variables_of question) acts (map Some question) given.valid)
    (subst (λ n. AreUsed flags n (take (k + 1) acts)) c.len-question.ensures c.in_ok-used.ensures.used)
    (ap (λ n. get_or flags (n + step_count (take (k + 1) acts)) false) (sym c.len-question.ensures) ∙ c.in_ok-used.ensures.last)
    (earlier_take (k + 1) (length question) acts given.earlier)
    (subst (λ n. AreNeeded flags (n + step_count (take (k + 1) acts)) n (take (k + 1) acts)) c.len-question.ensures c.in_ok-used.ensures.needed)
    c.in_ok-made.ensures
    (c.in_ok-keep.ensures.made ∙ ap (λ q. with_kept q flags numbers made act) c.len-question.ensures)

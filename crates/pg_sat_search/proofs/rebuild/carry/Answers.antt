use Rattle.std.proofs.Common.{◌≡◌, ◌∙◌, ◌+◌, ◌-◌, ◌++◌, ◌∷◌, ◌<◌, ℕ, ℤ, List, [], Some, arith, length, sym, ap, subst, get_or, append_assoc}
use Rattle.std.proofs.lemmas.List.{length-append}
use Rattle.std.proofs.lemmas.Option.{slice_get-get_or, get_or_from_slice_get}
use Rattle.pg_cnf.specs.Literals.{IsClause}
use Rattle.pg_cnf.proofs.LiteralLemmas.{IsClause-more}
use Rattle.pg_sat_search.specs.Held.{first_numbers}
use Rattle.pg_sat_search.proofs.HeldLemmas.{held_clause, carried}
use Rattle.pg_sat_search.proofs.rebuild.carry.Goals as goal

pub clause_of-requires : goal.clause_of-requires
clause_of-requires c =
    let held = c.args.held.now in
    let cnf = c.args.cnf.now in
    let few = cnf.few_variables in
    let at : c.args.place + 1 - 1 ≡ c.args.place = omega arith in
    subst (IsClause 2147483647) (sym (c.clause.ensures ∙ ap (λ (k : ℕ). get_or held.watches.clauses k []) at))
    (IsClause-more cnf.variables 2147483647 (get_or held.watches.clauses c.args.place []) (omega (arith, few))
    (held_clause cnf.clauses cnf.variables c.args.steps.now held.watches.clauses held.numbers.items c.args.place c.requires.held c.requires.place))

pub push-requires-clause-room : goal.push-requires-clause-room
push-requires-clause-room c =
    omega (arith, c.requires.few, c.requires.room, c.requires.place, c.requires.held.few)

pub push-requires-clause-clause : goal.push-requires-clause-clause
push-requires-clause-clause c =
    let held = c.args.held.now in
    let cnf = c.args.cnf.now in
    let at : c.args.place + 1 - 1 ≡ c.args.place = omega arith in
    let same : c.in_ok-clause.clause ≡ get_or held.watches.clauses c.args.place [] =
    c.in_ok-clause.ensures ∙ c.clause.ensures ∙ ap (λ (k : ℕ). get_or held.watches.clauses k []) at in
    subst (λ (n : ℕ). IsClause n c.in_ok-clause.clause) (sym c.requires.variables)
    (subst (IsClause cnf.variables) (sym same)
    (held_clause cnf.clauses cnf.variables c.args.steps.now held.watches.clauses held.numbers.items c.args.place c.requires.held c.requires.place))

pub returns-clause-made : goal.returns-clause-made
returns-clause-made c =
    let held = c.args.held.now in
    let made = c.args.made.now in
    let cnf = c.args.cnf.now in
    let first = first_numbers (length cnf.clauses) in
    let at : c.args.place + 1 - 1 ≡ c.args.place = omega arith in
    let number = c.index-number.result.now in
    let clause = c.in_ok-clause.clause in
    let same : clause ≡ get_or held.watches.clauses c.args.place [] =
    c.in_ok-clause.ensures ∙ c.clause.ensures ∙ ap (λ (k : ℕ). get_or held.watches.clauses k []) at in
    let lt : c.args.place < length held.numbers.items = omega (arith, c.requires.place, c.requires.held.as_many) in
    let there : number ≡ get_or held.numbers.items c.args.place 0 =
    sym (get_or_from_slice_get held.numbers.items c.args.place number 0
    (slice_get-get_or held.numbers.items c.args.place number lt ∙ ap Some (sym c.index-number.ensures))) in
    carried cnf.clauses cnf.variables c.args.steps.now held.watches.clauses (cnf.clauses ++ made.clauses.clauses) (cnf.clauses ++ c.push.new.self.clauses)
    held.numbers.items (first ++ made.numbers.items) (first ++ c.push-2.new.self.items) clause number c.args.place
    c.requires.held c.requires.made c.requires.place (omega (arith, c.requires.room, length-append cnf.clauses made.clauses.clauses)) same there
    (ap (λ (xs : List (List ℤ)). cnf.clauses ++ xs) c.in_ok-push.ensures.clauses ∙ sym (append_assoc cnf.clauses made.clauses.clauses (clause ∷ [])))
    (ap (λ (ns : List ℕ). first ++ ns) c.in_ok-push-2.ensures.items ∙ sym (append_assoc first made.numbers.items (number ∷ [])))

use Rattle.std.proofs.Common.{◌∙◌, length, subst, sym, ap}
use Rattle.pg_vec.specs.There.{AreThere}
use Rattle.pg_symex.specs.Exprs.{literal_bits}
use Rattle.pg_symex.proofs.LeafLaws.{length-literal, literal-there}
use Rattle.pg_ask.proofs.CodeSteps.{size_step, leaves_made}
use Rattle.pg_vec.proofs.Kept.{front_then, there_later, all_there_later}
use Rattle.pg_ask.proofs.ThereLaws.{bit_there}
use Rattle.pg_circuit.specs.Values.{IsThere}
use Rattle.pg_ask.proofs.fits.size.Goals as goal

pub lt-requires-clause-left : goal.lt-requires-clause-left
lt-requires-clause-left c = c.requires.n.there

pub and-requires-clause-left : goal.and-requires-clause-left
and-requires-clause-left c = there_later c.args.circuit.now.nodes c.lt.new.circuit.nodes c.args.so_far c.lt.ensures.kept.front c.requires.so_far

pub and-requires-clause-right : goal.and-requires-clause-right
and-requires-clause-right c = subst (IsThere (length c.lt.new.circuit.nodes)) (sym c.not.ensures) (subst (IsThere (length c.lt.new.circuit.nodes)) (sym c.bit_0.ensures) (bit_there _ c.in_ok-few.few c.in_ok-few.ensures.worth.there c.in_ok-few.ensures.worth.wide))

pub lt-requires-2-clause-right : goal.lt-requires-2-clause-right
lt-requires-2-clause-right c = all_there_later c.args.circuit.now.nodes c.and.new.circuit.nodes c.args.n.now (front_then c.args.circuit.now.nodes c.lt.new.circuit.nodes c.and.new.circuit.nodes c.lt.ensures.kept.front c.and.ensures.kept.front) c.requires.n.there

pub and-requires-2-clause-left : goal.and-requires-2-clause-left
and-requires-2-clause-left c = there_later c.and.new.circuit.nodes c.lt-2.new.circuit.nodes c.in_ok-enough.enough c.lt-2.ensures.kept.front c.in_ok-enough.ensures.there

pub and-requires-2-clause-right : goal.and-requires-2-clause-right
and-requires-2-clause-right c = subst (IsThere (length c.lt-2.new.circuit.nodes)) (sym c.not-2.ensures) (subst (IsThere (length c.lt-2.new.circuit.nodes)) (sym c.bit_0-2.ensures) (bit_there _ c.in_ok-many.many c.in_ok-many.ensures.worth.there c.in_ok-many.ensures.worth.wide))

pub returns-clause-there : goal.returns-clause-there
returns-clause-there c = leaves_made c.and-2.result c.args.circuit.now.nodes c.and-2.new.circuit.nodes (front_then c.args.circuit.now.nodes c.lt-2.new.circuit.nodes c.and-2.new.circuit.nodes (front_then c.args.circuit.now.nodes c.and.new.circuit.nodes c.lt-2.new.circuit.nodes (front_then c.args.circuit.now.nodes c.lt.new.circuit.nodes c.and.new.circuit.nodes c.lt.ensures.kept.front c.and.ensures.kept.front) c.lt-2.ensures.kept.front) c.and-2.ensures.kept.front) c.and-2.ensures.there

pub lt-requires-clause-right : goal.lt-requires-clause-right
lt-requires-clause-right c =
    let least = c.in_ok-least.ensures ∙ ap (literal_bits 2) (c.from-width.ensures ∙ c.width.ensures.width) in
    subst (AreThere (length c.args.circuit.now.nodes)) (sym least) (literal-there (length c.args.n.now) 2 (length c.args.circuit.now.nodes) c.args.circuit.now.circuit.begun)

pub lt-requires-clause-same_width : goal.lt-requires-clause-same_width
lt-requires-clause-same_width c =
    let least = c.in_ok-least.ensures ∙ ap (literal_bits 2) (c.from-width.ensures ∙ c.width.ensures.width) in
    sym (ap length least ∙ length-literal (length c.args.n.now) 2)

pub lt-requires-2-clause-left : goal.lt-requires-2-clause-left
lt-requires-2-clause-left c =
    let most = c.in_ok-most.ensures ∙ ap (λ q. literal_bits q c.from-width.result) c.from.ensures ∙ ap (literal_bits c.args.q) (c.from-width.ensures ∙ c.width.ensures.width) in
    subst (AreThere (length c.and.new.circuit.nodes)) (sym most) (literal-there (length c.args.n.now) c.args.q (length c.and.new.circuit.nodes) c.and.new.circuit.circuit.begun)

pub lt-requires-2-clause-same_width : goal.lt-requires-2-clause-same_width
lt-requires-2-clause-same_width c =
    let most = c.in_ok-most.ensures ∙ ap (λ q. literal_bits q c.from-width.result) c.from.ensures ∙ ap (literal_bits c.args.q) (c.from-width.ensures ∙ c.width.ensures.width) in
    ap length most ∙ length-literal (length c.args.n.now) c.args.q

pub returns-clause-made : goal.returns-clause-made
returns-clause-made c =
    size_step c.and-2.result c.args.q (length c.args.n.now) c.args.circuit.now.nodes _ _ _ _ c.args.so_far c.in_ok-enough.enough c.bit_0.result c.not.result c.bit_0-2.result c.not-2.result c.args.n.now c.in_ok-least.least c.in_ok-few.few c.in_ok-most.most c.in_ok-many.many
    (c.in_ok-least.ensures ∙ ap (literal_bits 2) (c.from-width.ensures ∙ c.width.ensures.width)) c.in_ok-few.ensures.made c.bit_0.ensures c.not.ensures c.in_ok-enough.ensures.made
    (c.in_ok-most.ensures ∙ ap (λ q. literal_bits q c.from-width.result) c.from.ensures ∙ ap (literal_bits c.args.q) (c.from-width.ensures ∙ c.width.ensures.width)) c.in_ok-many.ensures.made c.bit_0-2.ensures c.not-2.ensures c.and-2.ensures.made

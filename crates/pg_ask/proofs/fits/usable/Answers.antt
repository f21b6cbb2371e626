use Rattle.std.proofs.Common.{◌∙◌, length, subst, sym, ap}
use Rattle.pg_vec.specs.There.{AreThere}
use Rattle.pg_vec.proofs.Kept.{front_then, all_there_later}
use Rattle.pg_symex.specs.Exprs.{literal_bits}
use Rattle.pg_symex.proofs.LeafLaws.{length-literal, literal-there}
use Rattle.pg_ask.proofs.CodeSteps.{usable_step, leaves_bits}
use Rattle.pg_ask.proofs.FitsLaws.{usable-is}
use Rattle.pg_ask.proofs.ThereLaws.{bit_there}
use Rattle.pg_circuit.specs.Values.{IsThere}
use Rattle.pg_ask.proofs.fits.usable.Goals as goal

pub sub-requires-clause-left : goal.sub-requires-clause-left
sub-requires-clause-left c = c.requires.n.there

pub sub-requires-clause-right : goal.sub-requires-clause-right
sub-requires-clause-right c = c.requires.l.there

pub sub-requires-clause-same_width : goal.sub-requires-clause-same_width
sub-requires-clause-same_width c = sym c.requires.l.wide

pub lt-requires-clause-left : goal.lt-requires-clause-left
lt-requires-clause-left c = all_there_later c.args.circuit.now.nodes c.sub.new.circuit.nodes c.args.n.now c.sub.ensures.kept.front c.requires.n.there

pub lt-requires-clause-right : goal.lt-requires-clause-right
lt-requires-clause-right c = all_there_later c.args.circuit.now.nodes c.sub.new.circuit.nodes c.args.l.now c.sub.ensures.kept.front c.requires.l.there

pub lt-requires-clause-same_width : goal.lt-requires-clause-same_width
lt-requires-clause-same_width c = sym c.requires.l.wide

pub mux-requires-clause-choice : goal.mux-requires-clause-choice
mux-requires-clause-choice c = subst (IsThere (length c.lt.new.circuit.nodes)) (sym c.bit_0.ensures) (bit_there _ c.in_ok-past.past c.in_ok-past.ensures.worth.there c.in_ok-past.ensures.worth.wide)

pub mux-requires-clause-right : goal.mux-requires-clause-right
mux-requires-clause-right c = all_there_later c.sub.new.circuit.nodes c.lt.new.circuit.nodes c.in_ok-room.room c.lt.ensures.kept.front c.in_ok-room.ensures.worth.there

pub lt-requires-2-clause-left : goal.lt-requires-2-clause-left
lt-requires-2-clause-left c = all_there_later c.args.circuit.now.nodes c.mux.new.circuit.nodes c.args.b.now (front_then c.args.circuit.now.nodes c.lt.new.circuit.nodes c.mux.new.circuit.nodes (front_then c.args.circuit.now.nodes c.sub.new.circuit.nodes c.lt.new.circuit.nodes c.sub.ensures.kept.front c.lt.ensures.kept.front) c.mux.ensures.kept.front) c.requires.b.there

pub lt-requires-2-clause-right : goal.lt-requires-2-clause-right
lt-requires-2-clause-right c = c.in_ok-cells.ensures.worth.there

pub mux-requires-2-clause-choice : goal.mux-requires-2-clause-choice
mux-requires-2-clause-choice c = subst (IsThere (length c.lt-2.new.circuit.nodes)) (sym c.bit_0-2.ensures) (bit_there _ c.in_ok-less.less c.in_ok-less.ensures.worth.there c.in_ok-less.ensures.worth.wide)

pub mux-requires-2-clause-right : goal.mux-requires-2-clause-right
mux-requires-2-clause-right c = all_there_later c.mux.new.circuit.nodes c.lt-2.new.circuit.nodes c.in_ok-cells.cells c.lt-2.ensures.kept.front c.in_ok-cells.ensures.worth.there

pub mux-requires-clause-left : goal.mux-requires-clause-left
mux-requires-clause-left c =
    let n = c.args.n.now in
    let none = c.in_ok-none.ensures ∙ ap (literal_bits 0) (c.from.ensures ∙ c.width.ensures.width) in
    subst (AreThere (length c.lt.new.circuit.nodes)) (sym none) (literal-there (length n) 0 (length c.lt.new.circuit.nodes) c.lt.new.circuit.circuit.begun)

pub mux-requires-clause-same_width : goal.mux-requires-clause-same_width
mux-requires-clause-same_width c =
    let none = c.in_ok-none.ensures ∙ ap (literal_bits 0) (c.from.ensures ∙ c.width.ensures.width) in
    ap length none ∙ length-literal (length c.args.n.now) 0 ∙ sym c.in_ok-room.ensures.worth.wide

pub lt-requires-2-clause-same_width : goal.lt-requires-2-clause-same_width
lt-requires-2-clause-same_width c =
    let none = c.in_ok-none.ensures ∙ ap (literal_bits 0) (c.from.ensures ∙ c.width.ensures.width) in
    c.requires.b.wide ∙ sym (c.in_ok-cells.ensures.worth.wide ∙ ap length none ∙ length-literal (length c.args.n.now) 0)

pub mux-requires-2-clause-left : goal.mux-requires-2-clause-left
mux-requires-2-clause-left c =
    let f2 = front_then c.args.circuit.now.nodes c.sub.new.circuit.nodes c.lt.new.circuit.nodes c.sub.ensures.kept.front c.lt.ensures.kept.front in
    let f3 = front_then c.args.circuit.now.nodes c.lt.new.circuit.nodes c.mux.new.circuit.nodes f2 c.mux.ensures.kept.front in
    let f4 = front_then c.args.circuit.now.nodes c.mux.new.circuit.nodes c.lt-2.new.circuit.nodes f3 c.lt-2.ensures.kept.front in
    all_there_later c.args.circuit.now.nodes c.lt-2.new.circuit.nodes c.args.b.now f4 c.requires.b.there

pub mux-requires-2-clause-same_width : goal.mux-requires-2-clause-same_width
mux-requires-2-clause-same_width c =
    let none = c.in_ok-none.ensures ∙ ap (literal_bits 0) (c.from.ensures ∙ c.width.ensures.width) in
    c.requires.b.wide ∙ sym (c.in_ok-cells.ensures.worth.wide ∙ ap length none ∙ length-literal (length c.args.n.now) 0)

pub returns-clause-made : goal.returns-clause-made
returns-clause-made c =
    usable_step c.mux-2.result c.args.circuit.now.nodes _ _ _ _ _ c.args.l.now c.args.b.now c.args.n.now c.in_ok-room.room c.in_ok-past.past c.in_ok-none.none c.in_ok-cells.cells c.in_ok-less.less c.bit_0.result c.bit_0-2.result c.in_ok-room.ensures.made c.in_ok-past.ensures.made
    (c.in_ok-none.ensures ∙ ap (literal_bits 0) (c.from.ensures ∙ c.width.ensures.width)) c.bit_0.ensures c.in_ok-cells.ensures.made c.in_ok-less.ensures.made c.bit_0-2.ensures c.mux-2.ensures.made

pub returns-clause-there : goal.returns-clause-there
returns-clause-there c =
    let n = c.requires.n in
    leaves_bits c.mux-2.result c.args.circuit.now.nodes _ _ (length c.args.n.now) _ n.is_width
    (usable-is c.args.circuit.now.nodes (length c.args.n.now) c.args.l.now c.args.b.now c.args.n.now c.args.circuit.now.circuit c.requires.l.there c.requires.b.there n.there c.requires.l.wide c.requires.b.wide n.wide) (returns-clause-made c)

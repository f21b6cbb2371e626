use Rattle.std.proofs.Common.{◌∷◌, ◌<◌, ◌+◌, ◌-◌, ◌^◌, ◌∙◌, drop, length, refl, sym, ap, subst, rules, arith}
use Rattle.std.proofs.lemmas.List.{drop_more, drop_all}
use Rattle.pg_circuit.specs.declared.node.Gate.{Gate}
use Rattle.pg_ast.specs.declared.tree.Stmt.TheVariants.{Let, Pc, Mode, Rel, Bound}
use Rattle.pg_vec.proofs.Kept.{front_same, front_then, there_later}
use Rattle.pg_symex.specs.EntryView.{entry_as}
use Rattle.pg_symex.specs.RunView.{run_as}
use Rattle.pg_symex.specs.Stmts.{let_made, assign_p, assign_mode, assign_l, assign_b, block_made, else_made, stmt_made}
use Rattle.std.specs.Option.{option_map}
use Rattle.std.proofs.Common.{map}
use Rattle.pg_symex.proofs.StmtEquations as mades
use Rattle.pg_symex.proofs.ExprForms.{bits-later}
use Rattle.pg_symex.proofs.AccessLaws.{bit_0-there}
use Rattle.pg_symex.proofs.StmtSteps.{let_typed, pc_width, mode_width, rel_width, bound_width, store_widths, typed_of, width_later, taken_bits, taken_ready, lets_same, done_form, assigned_step, if_fares, block_later}
use Rattle.pg_symex.proofs.FormSteps.{let_step, trap_done, store_done, if_form}
use Rattle.pg_symex.proofs.BlockSteps.{outer_lets, block_ready, block_lets, else_ready, arm_ready, way_begins, way_first, way_next, way_ends, way_stops, block_done, if_done, if_count, item_counts}
use Rattle.pg_symex.specs.Calls.{expr_cost}
use Rattle.pg_symex.proofs.ExprSteps.{writes_same}
use Rattle.pg_symex.proofs.WriteCounts.{block_done_writes}
use Rattle.pg_symex.proofs.StmtCosts.{few_nodes, few_adds, few_one, let_most, pc_most, mode_most, rel_most, bound_most, trap_most, if_most, store_first, store_value, store_last, if_last, arms_first, arms_second, arms_third, arms_last}
use Rattle.pg_symex.proofs.stmts.+stmts.Goals as goal

pub stmt-take-requires-clause-typed : goal.stmt-take-requires-clause-typed
stmt-take-requires-clause-typed t c = let_typed (entry_as c.args.at.now) c.args.s.now c.args.run.now c.in-Let.name c.in-Let.e c.in-Let.is c.requires.typed

pub stmt-returns-in_ok-bits-in-Let-clause-made : goal.stmt-returns-in_ok-bits-in-Let-clause-made
stmt-returns-in_ok-bits-in-Let-clause-made t c =
    done_form (entry_as c.args.at.now) c.args.s.now (Let c.in-Let.name c.in-Let.e) c.in-Let.e c.args.c.now.nodes c.take.new.c.nodes c.take.new.c.nodes c.args.t.now c.take.new.t c.take.new.t c.args.run.now c.take.new.run (record c.take.new.run { lets = c.push.new.self }) c.in_ok-bits-in-Let.bits (λ x q. let_made c.in-Let.name.bytes x q) c.push.result c.in-Let.is
    (mades.made-let c.in-Let.name c.in-Let.e (entry_as c.args.at.now) (run_as c.args.c.now.nodes c.args.t.now c.args.run.now)) c.in_ok-bits-in-Let.ensures.taken (let_step c.take.new.c.nodes c.take.new.t c.take.new.run c.as_bytes.result.now c.in-Let.name.bytes c.in_ok-bits-in-Let.bits c.push.new.self c.push.result c.as_bytes.ensures c.push.ensures) refl

pub stmt-take-requires-in-Store-clause-typed : goal.stmt-take-requires-in-Store-clause-typed
stmt-take-requires-in-Store-clause-typed t c = typed_of (entry_as c.args.at.now) c.args.run.now c.in-Store.a _ ((store_widths (entry_as c.args.at.now) c.args.s.now c.args.run.now c.in-Store.a c.in-Store.e c.in-Store.is c.requires.typed).0)

pub stmt-take-requires-in-Store-2-clause-ready : goal.stmt-take-requires-in-Store-2-clause-ready
stmt-take-requires-in-Store-2-clause-ready t c = (taken_ready (entry_as c.args.at.now) c.in-Store.a c.args.c.now.nodes c.take-in-Store.new.c.nodes c.args.t.now c.take-in-Store.new.t c.args.run.now c.take-in-Store.new.run c.in_ok-address-in-Store.address c.requires.ready c.in_ok-address-in-Store.ensures.taken)

pub stmt-take-requires-in-Store-2-clause-typed : goal.stmt-take-requires-in-Store-2-clause-typed
stmt-take-requires-in-Store-2-clause-typed t c = typed_of (entry_as c.args.at.now) c.take-in-Store.new.run c.in-Store.e _ (width_later (entry_as c.args.at.now) c.args.run.now c.take-in-Store.new.run c.in-Store.e _ (lets_same c.in_ok-address-in-Store.ensures.taken) ((store_widths (entry_as c.args.at.now) c.args.s.now c.args.run.now c.in-Store.a c.in-Store.e c.in-Store.is c.requires.typed).1))

pub stmt-store-requires-clause-ready : goal.stmt-store-requires-clause-ready
stmt-store-requires-clause-ready t c = taken_ready (entry_as c.args.at.now) c.in-Store.e c.take-in-Store.new.c.nodes c.take-in-Store-2.new.c.nodes c.take-in-Store.new.t c.take-in-Store-2.new.t c.take-in-Store.new.run c.take-in-Store-2.new.run c.in_ok-value-in-Store.value (taken_ready (entry_as c.args.at.now) c.in-Store.a c.args.c.now.nodes c.take-in-Store.new.c.nodes c.args.t.now c.take-in-Store.new.t c.args.run.now c.take-in-Store.new.run c.in_ok-address-in-Store.address c.requires.ready c.in_ok-address-in-Store.ensures.taken) c.in_ok-value-in-Store.ensures.taken

pub stmt-store-requires-clause-address : goal.stmt-store-requires-clause-address
stmt-store-requires-clause-address t c = bits-later c.take-in-Store.new.c.nodes c.take-in-Store-2.new.c.nodes _ c.in_ok-address-in-Store.address c.in_ok-value-in-Store.ensures.taken.value.front (taken_bits (entry_as c.args.at.now) c.in-Store.a c.args.c.now.nodes c.take-in-Store.new.c.nodes c.args.t.now c.take-in-Store.new.t c.args.run.now c.take-in-Store.new.run c.in_ok-address-in-Store.address _ c.in_ok-address-in-Store.ensures.taken ((store_widths (entry_as c.args.at.now) c.args.s.now c.args.run.now c.in-Store.a c.in-Store.e c.in-Store.is c.requires.typed).0))

pub stmt-store-requires-clause-value : goal.stmt-store-requires-clause-value
stmt-store-requires-clause-value t c = taken_bits (entry_as c.args.at.now) c.in-Store.e c.take-in-Store.new.c.nodes c.take-in-Store-2.new.c.nodes c.take-in-Store.new.t c.take-in-Store-2.new.t c.take-in-Store.new.run c.take-in-Store-2.new.run c.in_ok-value-in-Store.value _ c.in_ok-value-in-Store.ensures.taken (width_later (entry_as c.args.at.now) c.args.run.now c.take-in-Store.new.run c.in-Store.e _ (lets_same c.in_ok-address-in-Store.ensures.taken) ((store_widths (entry_as c.args.at.now) c.args.s.now c.args.run.now c.in-Store.a c.in-Store.e c.in-Store.is c.requires.typed).1))

pub stmt-returns-in_ok-value-in-Store-clause-made : goal.stmt-returns-in_ok-value-in-Store-clause-made
stmt-returns-in_ok-value-in-Store-clause-made t c =
    store_done (entry_as c.args.at.now) c.args.s.now c.in-Store.a c.in-Store.e c.args.c.now.nodes c.take-in-Store.new.c.nodes c.take-in-Store-2.new.c.nodes c.store.new.c.nodes c.args.t.now c.take-in-Store.new.t c.take-in-Store-2.new.t c.store.new.t c.args.run.now c.take-in-Store.new.run c.take-in-Store-2.new.run c.store.new.run c.in_ok-address-in-Store.address c.in_ok-value-in-Store.value c.store.result c.in-Store.is c.in_ok-address-in-Store.ensures.taken c.in_ok-value-in-Store.ensures.taken c.store.ensures.made c.store.ensures.view

pub stmt-take-requires-in-Pc-clause-typed : goal.stmt-take-requires-in-Pc-clause-typed
stmt-take-requires-in-Pc-clause-typed t c = typed_of (entry_as c.args.at.now) c.args.run.now c.in-Pc.e _ (pc_width (entry_as c.args.at.now) c.args.s.now c.args.run.now c.in-Pc.e c.in-Pc.is c.requires.typed)

pub stmt-assign-requires-clause-live : goal.stmt-assign-requires-clause-live
stmt-assign-requires-clause-live t c = (taken_ready (entry_as c.args.at.now) c.in-Pc.e c.args.c.now.nodes c.take-in-Pc.new.c.nodes c.args.t.now c.take-in-Pc.new.t c.args.run.now c.take-in-Pc.new.run c.in_ok-bits-in-Pc.bits c.requires.ready c.in_ok-bits-in-Pc.ensures.taken).run.flow.live

pub stmt-assign-requires-clause-register : goal.stmt-assign-requires-clause-register
stmt-assign-requires-clause-register t c = (taken_ready (entry_as c.args.at.now) c.in-Pc.e c.args.c.now.nodes c.take-in-Pc.new.c.nodes c.args.t.now c.take-in-Pc.new.t c.args.run.now c.take-in-Pc.new.run c.in_ok-bits-in-Pc.bits c.requires.ready c.in_ok-bits-in-Pc.ensures.taken).run.next.p.there

pub stmt-assign-requires-clause-same_width : goal.stmt-assign-requires-clause-same_width
stmt-assign-requires-clause-same_width t c = (taken_bits (entry_as c.args.at.now) c.in-Pc.e c.args.c.now.nodes c.take-in-Pc.new.c.nodes c.args.t.now c.take-in-Pc.new.t c.args.run.now c.take-in-Pc.new.run c.in_ok-bits-in-Pc.bits _ c.in_ok-bits-in-Pc.ensures.taken (pc_width (entry_as c.args.at.now) c.args.s.now c.args.run.now c.in-Pc.e c.in-Pc.is c.requires.typed)).wide ∙ sym (taken_ready (entry_as c.args.at.now) c.in-Pc.e c.args.c.now.nodes c.take-in-Pc.new.c.nodes c.args.t.now c.take-in-Pc.new.t c.args.run.now c.take-in-Pc.new.run c.in_ok-bits-in-Pc.bits c.requires.ready c.in_ok-bits-in-Pc.ensures.taken).run.next.p.wide

pub stmt-returns-in_ok-bits-in-Pc-clause-made : goal.stmt-returns-in_ok-bits-in-Pc-clause-made
stmt-returns-in_ok-bits-in-Pc-clause-made t c =
    done_form (entry_as c.args.at.now) c.args.s.now (Pc c.in-Pc.e) c.in-Pc.e c.args.c.now.nodes c.take-in-Pc.new.c.nodes c.assign.new.c.nodes c.args.t.now c.take-in-Pc.new.t c.take-in-Pc.new.t c.args.run.now c.take-in-Pc.new.run (record c.take-in-Pc.new.run { next = record c.take-in-Pc.new.run.next { p = c.assign.new.register } }) c.in_ok-bits-in-Pc.bits (λ x q. assign_p x q) c.assign.result c.in-Pc.is
    (mades.made-pc c.in-Pc.e (entry_as c.args.at.now) (run_as c.args.c.now.nodes c.args.t.now c.args.run.now)) c.in_ok-bits-in-Pc.ensures.taken (assigned_step c.take-in-Pc.new.c.nodes c.assign.new.c.nodes c.take-in-Pc.new.t c.take-in-Pc.new.run c.in_ok-bits-in-Pc.bits c.take-in-Pc.new.run.next.p c.assign.new.register (λ b. record c.take-in-Pc.new.run.next { p = b }) c.assign.result c.assign.ensures.made) refl

pub stmt-take-requires-in-Mode-clause-typed : goal.stmt-take-requires-in-Mode-clause-typed
stmt-take-requires-in-Mode-clause-typed t c = typed_of (entry_as c.args.at.now) c.args.run.now c.in-Mode.e _ (mode_width (entry_as c.args.at.now) c.args.s.now c.args.run.now c.in-Mode.e c.in-Mode.is c.requires.typed)

pub stmt-assign-requires-in-Mode-clause-live : goal.stmt-assign-requires-in-Mode-clause-live
stmt-assign-requires-in-Mode-clause-live t c = (taken_ready (entry_as c.args.at.now) c.in-Mode.e c.args.c.now.nodes c.take-in-Mode.new.c.nodes c.args.t.now c.take-in-Mode.new.t c.args.run.now c.take-in-Mode.new.run c.in_ok-bits-in-Mode.bits c.requires.ready c.in_ok-bits-in-Mode.ensures.taken).run.flow.live

pub stmt-assign-requires-in-Mode-clause-register : goal.stmt-assign-requires-in-Mode-clause-register
stmt-assign-requires-in-Mode-clause-register t c = (taken_ready (entry_as c.args.at.now) c.in-Mode.e c.args.c.now.nodes c.take-in-Mode.new.c.nodes c.args.t.now c.take-in-Mode.new.t c.args.run.now c.take-in-Mode.new.run c.in_ok-bits-in-Mode.bits c.requires.ready c.in_ok-bits-in-Mode.ensures.taken).run.next.mode.there

pub stmt-assign-requires-in-Mode-clause-same_width : goal.stmt-assign-requires-in-Mode-clause-same_width
stmt-assign-requires-in-Mode-clause-same_width t c = (taken_bits (entry_as c.args.at.now) c.in-Mode.e c.args.c.now.nodes c.take-in-Mode.new.c.nodes c.args.t.now c.take-in-Mode.new.t c.args.run.now c.take-in-Mode.new.run c.in_ok-bits-in-Mode.bits _ c.in_ok-bits-in-Mode.ensures.taken (mode_width (entry_as c.args.at.now) c.args.s.now c.args.run.now c.in-Mode.e c.in-Mode.is c.requires.typed)).wide ∙ sym (taken_ready (entry_as c.args.at.now) c.in-Mode.e c.args.c.now.nodes c.take-in-Mode.new.c.nodes c.args.t.now c.take-in-Mode.new.t c.args.run.now c.take-in-Mode.new.run c.in_ok-bits-in-Mode.bits c.requires.ready c.in_ok-bits-in-Mode.ensures.taken).run.next.mode.wide

pub stmt-returns-in_ok-bits-in-Mode-clause-made : goal.stmt-returns-in_ok-bits-in-Mode-clause-made
stmt-returns-in_ok-bits-in-Mode-clause-made t c =
    done_form (entry_as c.args.at.now) c.args.s.now (Mode c.in-Mode.e) c.in-Mode.e c.args.c.now.nodes c.take-in-Mode.new.c.nodes c.assign-in-Mode.new.c.nodes c.args.t.now c.take-in-Mode.new.t c.take-in-Mode.new.t c.args.run.now c.take-in-Mode.new.run (record c.take-in-Mode.new.run { next = record c.take-in-Mode.new.run.next { mode = c.assign-in-Mode.new.register } }) c.in_ok-bits-in-Mode.bits (λ x q. assign_mode x q) c.assign-in-Mode.result c.in-Mode.is
    (mades.made-mode c.in-Mode.e (entry_as c.args.at.now) (run_as c.args.c.now.nodes c.args.t.now c.args.run.now)) c.in_ok-bits-in-Mode.ensures.taken (assigned_step c.take-in-Mode.new.c.nodes c.assign-in-Mode.new.c.nodes c.take-in-Mode.new.t c.take-in-Mode.new.run c.in_ok-bits-in-Mode.bits c.take-in-Mode.new.run.next.mode c.assign-in-Mode.new.register (λ b. record c.take-in-Mode.new.run.next { mode = b }) c.assign-in-Mode.result c.assign-in-Mode.ensures.made) refl

pub stmt-take-requires-in-Rel-clause-typed : goal.stmt-take-requires-in-Rel-clause-typed
stmt-take-requires-in-Rel-clause-typed t c = typed_of (entry_as c.args.at.now) c.args.run.now c.in-Rel.e _ (rel_width (entry_as c.args.at.now) c.args.s.now c.args.run.now c.in-Rel.e c.in-Rel.is c.requires.typed)

pub stmt-assign-requires-in-Rel-clause-live : goal.stmt-assign-requires-in-Rel-clause-live
stmt-assign-requires-in-Rel-clause-live t c = (taken_ready (entry_as c.args.at.now) c.in-Rel.e c.args.c.now.nodes c.take-in-Rel.new.c.nodes c.args.t.now c.take-in-Rel.new.t c.args.run.now c.take-in-Rel.new.run c.in_ok-bits-in-Rel.bits c.requires.ready c.in_ok-bits-in-Rel.ensures.taken).run.flow.live

pub stmt-assign-requires-in-Rel-clause-register : goal.stmt-assign-requires-in-Rel-clause-register
stmt-assign-requires-in-Rel-clause-register t c = (taken_ready (entry_as c.args.at.now) c.in-Rel.e c.args.c.now.nodes c.take-in-Rel.new.c.nodes c.args.t.now c.take-in-Rel.new.t c.args.run.now c.take-in-Rel.new.run c.in_ok-bits-in-Rel.bits c.requires.ready c.in_ok-bits-in-Rel.ensures.taken).run.next.l.there

pub stmt-assign-requires-in-Rel-clause-same_width : goal.stmt-assign-requires-in-Rel-clause-same_width
stmt-assign-requires-in-Rel-clause-same_width t c = (taken_bits (entry_as c.args.at.now) c.in-Rel.e c.args.c.now.nodes c.take-in-Rel.new.c.nodes c.args.t.now c.take-in-Rel.new.t c.args.run.now c.take-in-Rel.new.run c.in_ok-bits-in-Rel.bits _ c.in_ok-bits-in-Rel.ensures.taken (rel_width (entry_as c.args.at.now) c.args.s.now c.args.run.now c.in-Rel.e c.in-Rel.is c.requires.typed)).wide ∙ sym (taken_ready (entry_as c.args.at.now) c.in-Rel.e c.args.c.now.nodes c.take-in-Rel.new.c.nodes c.args.t.now c.take-in-Rel.new.t c.args.run.now c.take-in-Rel.new.run c.in_ok-bits-in-Rel.bits c.requires.ready c.in_ok-bits-in-Rel.ensures.taken).run.next.l.wide

pub stmt-returns-in_ok-bits-in-Rel-clause-made : goal.stmt-returns-in_ok-bits-in-Rel-clause-made
stmt-returns-in_ok-bits-in-Rel-clause-made t c =
    done_form (entry_as c.args.at.now) c.args.s.now (Rel c.in-Rel.e) c.in-Rel.e c.args.c.now.nodes c.take-in-Rel.new.c.nodes c.assign-in-Rel.new.c.nodes c.args.t.now c.take-in-Rel.new.t c.take-in-Rel.new.t c.args.run.now c.take-in-Rel.new.run (record c.take-in-Rel.new.run { next = record c.take-in-Rel.new.run.next { l = c.assign-in-Rel.new.register } }) c.in_ok-bits-in-Rel.bits (λ x q. assign_l x q) c.assign-in-Rel.result c.in-Rel.is
    (mades.made-rel c.in-Rel.e (entry_as c.args.at.now) (run_as c.args.c.now.nodes c.args.t.now c.args.run.now)) c.in_ok-bits-in-Rel.ensures.taken (assigned_step c.take-in-Rel.new.c.nodes c.assign-in-Rel.new.c.nodes c.take-in-Rel.new.t c.take-in-Rel.new.run c.in_ok-bits-in-Rel.bits c.take-in-Rel.new.run.next.l c.assign-in-Rel.new.register (λ b. record c.take-in-Rel.new.run.next { l = b }) c.assign-in-Rel.result c.assign-in-Rel.ensures.made) refl

pub stmt-take-requires-in-Bound-clause-typed : goal.stmt-take-requires-in-Bound-clause-typed
stmt-take-requires-in-Bound-clause-typed t c = typed_of (entry_as c.args.at.now) c.args.run.now c.in-Bound.e _ (bound_width (entry_as c.args.at.now) c.args.s.now c.args.run.now c.in-Bound.e c.in-Bound.is c.requires.typed)

pub stmt-assign-requires-in-Bound-clause-live : goal.stmt-assign-requires-in-Bound-clause-live
stmt-assign-requires-in-Bound-clause-live t c = (taken_ready (entry_as c.args.at.now) c.in-Bound.e c.args.c.now.nodes c.take-in-Bound.new.c.nodes c.args.t.now c.take-in-Bound.new.t c.args.run.now c.take-in-Bound.new.run c.in_ok-bits-in-Bound.bits c.requires.ready c.in_ok-bits-in-Bound.ensures.taken).run.flow.live

pub stmt-assign-requires-in-Bound-clause-register : goal.stmt-assign-requires-in-Bound-clause-register
stmt-assign-requires-in-Bound-clause-register t c = (taken_ready (entry_as c.args.at.now) c.in-Bound.e c.args.c.now.nodes c.take-in-Bound.new.c.nodes c.args.t.now c.take-in-Bound.new.t c.args.run.now c.take-in-Bound.new.run c.in_ok-bits-in-Bound.bits c.requires.ready c.in_ok-bits-in-Bound.ensures.taken).run.next.b.there

pub stmt-assign-requires-in-Bound-clause-same_width : goal.stmt-assign-requires-in-Bound-clause-same_width
stmt-assign-requires-in-Bound-clause-same_width t c = (taken_bits (entry_as c.args.at.now) c.in-Bound.e c.args.c.now.nodes c.take-in-Bound.new.c.nodes c.args.t.now c.take-in-Bound.new.t c.args.run.now c.take-in-Bound.new.run c.in_ok-bits-in-Bound.bits _ c.in_ok-bits-in-Bound.ensures.taken (bound_width (entry_as c.args.at.now) c.args.s.now c.args.run.now c.in-Bound.e c.in-Bound.is c.requires.typed)).wide ∙ sym (taken_ready (entry_as c.args.at.now) c.in-Bound.e c.args.c.now.nodes c.take-in-Bound.new.c.nodes c.args.t.now c.take-in-Bound.new.t c.args.run.now c.take-in-Bound.new.run c.in_ok-bits-in-Bound.bits c.requires.ready c.in_ok-bits-in-Bound.ensures.taken).run.next.b.wide

pub stmt-returns-in_ok-bits-in-Bound-clause-made : goal.stmt-returns-in_ok-bits-in-Bound-clause-made
stmt-returns-in_ok-bits-in-Bound-clause-made t c =
    done_form (entry_as c.args.at.now) c.args.s.now (Bound c.in-Bound.e) c.in-Bound.e c.args.c.now.nodes c.take-in-Bound.new.c.nodes c.assign-in-Bound.new.c.nodes c.args.t.now c.take-in-Bound.new.t c.take-in-Bound.new.t c.args.run.now c.take-in-Bound.new.run (record c.take-in-Bound.new.run { next = record c.take-in-Bound.new.run.next { b = c.assign-in-Bound.new.register } }) c.in_ok-bits-in-Bound.bits (λ x q. assign_b x q) c.assign-in-Bound.result c.in-Bound.is
    (mades.made-bound c.in-Bound.e (entry_as c.args.at.now) (run_as c.args.c.now.nodes c.args.t.now c.args.run.now)) c.in_ok-bits-in-Bound.ensures.taken (assigned_step c.take-in-Bound.new.c.nodes c.assign-in-Bound.new.c.nodes c.take-in-Bound.new.t c.take-in-Bound.new.run c.in_ok-bits-in-Bound.bits c.take-in-Bound.new.run.next.b c.assign-in-Bound.new.register (λ b. record c.take-in-Bound.new.run.next { b = b }) c.assign-in-Bound.result c.assign-in-Bound.ensures.made) refl

pub stmt-returns-in-Trap-clause-made : goal.stmt-returns-in-Trap-clause-made
stmt-returns-in-Trap-clause-made t c = trap_done (entry_as c.args.at.now) c.args.s.now c.args.c.now.nodes c.trap.new.c.nodes c.args.t.now c.args.run.now c.trap.new.run c.trap.result c.in-Trap.is c.trap.ensures.made

pub stmt-take-requires-in-If-clause-typed : goal.stmt-take-requires-in-If-clause-typed
stmt-take-requires-in-If-clause-typed t c = typed_of (entry_as c.args.at.now) c.args.run.now c.in-If.test _ ((if_fares (entry_as c.args.at.now) c.args.s.now c.args.run.now c.in-If.test c.in-If.held c.in-If.other c.in-If.is c.requires.typed).test)

pub stmt-arms-requires : goal.stmt-arms-requires
stmt-arms-requires t c =
    let f = (if_fares (entry_as c.args.at.now) c.args.s.now c.args.run.now c.in-If.test c.in-If.held c.in-If.other c.in-If.is c.requires.typed) in
    let ready = taken_ready (entry_as c.args.at.now) c.in-If.test c.args.c.now.nodes c.take-in-If.new.c.nodes c.args.t.now c.take-in-If.new.t c.args.run.now c.take-in-If.new.run c.in_ok-bits-in-If.bits c.requires.ready c.in_ok-bits-in-If.ensures.taken in
    let bits = taken_bits (entry_as c.args.at.now) c.in-If.test c.args.c.now.nodes c.take-in-If.new.c.nodes c.args.t.now c.take-in-If.new.t c.args.run.now c.take-in-If.new.run c.in_ok-bits-in-If.bits _ c.in_ok-bits-in-If.ensures.taken f.test in
    let there = bit_0-there (length c.take-in-If.new.c.nodes) c.in_ok-bits-in-If.bits bits in
    let held = block_later _ c.args.run.now c.take-in-If.new.run (lets_same c.in_ok-bits-in-If.ensures.taken) f.held_fares in
    let other = block_later _ c.args.run.now c.take-in-If.new.run (lets_same c.in_ok-bits-in-If.ensures.taken) f.other_fares in
    let count = if_count c.args.s.now c.in-If.test c.in-If.held c.as_slice.result.now c.in-If.other c.in-If.is c.as_slice.ensures in
    (omega (arith, count), search (rules, ready, there, held, other, c.as_slice.ensures, c.bit_0.ensures))

pub stmt-returns-in_ok-bits-in-If-clause-made : goal.stmt-returns-in_ok-bits-in-If-clause-made
stmt-returns-in_ok-bits-in-If-clause-made t c =
    if_form (entry_as c.args.at.now) c.args.s.now c.in-If.test c.in-If.held c.as_slice.result.now c.in-If.other c.args.c.now.nodes c.take-in-If.new.c.nodes c.arms.new.c.nodes c.args.t.now c.take-in-If.new.t c.arms.new.t c.args.run.now c.take-in-If.new.run c.arms.new.run c.in_ok-bits-in-If.bits c.bit_0.result c.arms.result c.in-If.is c.as_slice.ensures c.bit_0.ensures c.in_ok-bits-in-If.ensures.taken c.arms.ensures.made

pub arms-block-requires : goal.arms-block-requires
arms-block-requires t c =
    let ready = (arm_ready (entry_as c.args.at.now) c.args.c.now.nodes c.and-2.new.circuit.nodes c.args.t.now c.args.run.now c.in_ok-first.first c.requires.ready (front_then c.args.c.now.nodes c.and.new.circuit.nodes c.and-2.new.circuit.nodes c.and.ensures.kept.front c.and-2.ensures.kept.front) c.and-2.new.circuit.circuit (there_later c.and.new.circuit.nodes c.and-2.new.circuit.nodes c.in_ok-first.first c.and-2.ensures.kept.front c.in_ok-first.ensures.there)) in
    let held = block_later _ c.args.run.now (record c.args.run.now { guards = record c.args.run.now.guards { live = c.in_ok-first.first } }) refl c.requires.held in
    (omega arith, search (rules, ready, held))

pub arms-otherwise-requires : goal.arms-otherwise-requires
arms-otherwise-requires t c =
    let ready = (arm_ready (entry_as c.args.at.now) c.block.new.c.nodes c.block.new.c.nodes c.block.new.t c.block.new.run c.in_ok-second.second (block_ready (entry_as c.args.at.now) c.args.held.now c.and-2.new.circuit.nodes c.block.new.c.nodes c.args.t.now c.block.new.t (record c.args.run.now { guards = record c.args.run.now.guards { live = c.in_ok-first.first } }) c.block.new.run (arm_ready (entry_as c.args.at.now) c.args.c.now.nodes c.and-2.new.circuit.nodes c.args.t.now c.args.run.now c.in_ok-first.first c.requires.ready (front_then c.args.c.now.nodes c.and.new.circuit.nodes c.and-2.new.circuit.nodes c.and.ensures.kept.front c.and-2.ensures.kept.front) c.and-2.new.circuit.circuit (there_later c.and.new.circuit.nodes c.and-2.new.circuit.nodes c.in_ok-first.first c.and-2.ensures.kept.front c.in_ok-first.ensures.there)) (block_later _ c.args.run.now (record c.args.run.now { guards = record c.args.run.now.guards { live = c.in_ok-first.first } }) refl c.requires.held) c.in_ok-block.ensures.made) (front_same c.block.new.c.nodes) c.block.new.c.circuit (there_later c.and-2.new.circuit.nodes c.block.new.c.nodes c.in_ok-second.second c.block.ensures.kept c.in_ok-second.ensures.there)) in
    let other = (block_later _ c.args.run.now (record c.block.new.run { guards = record c.block.new.run.guards { live = c.in_ok-second.second } }) (block_lets (entry_as c.args.at.now) c.args.held.now c.and-2.new.circuit.nodes c.block.new.c.nodes c.args.t.now c.block.new.t (record c.args.run.now { guards = record c.args.run.now.guards { live = c.in_ok-first.first } }) c.block.new.run c.in_ok-block.ensures.made) c.requires.other) in
    (omega arith, search (rules, ready, other))

pub arms-or-requires-clause-left : goal.arms-or-requires-clause-left
arms-or-requires-clause-left t c = there_later c.block.new.c.nodes c.otherwise.new.c.nodes c.block.new.run.guards.live c.otherwise.ensures.kept (block_ready (entry_as c.args.at.now) c.args.held.now c.and-2.new.circuit.nodes c.block.new.c.nodes c.args.t.now c.block.new.t (record c.args.run.now { guards = record c.args.run.now.guards { live = c.in_ok-first.first } }) c.block.new.run (arm_ready (entry_as c.args.at.now) c.args.c.now.nodes c.and-2.new.circuit.nodes c.args.t.now c.args.run.now c.in_ok-first.first c.requires.ready (front_then c.args.c.now.nodes c.and.new.circuit.nodes c.and-2.new.circuit.nodes c.and.ensures.kept.front c.and-2.ensures.kept.front) c.and-2.new.circuit.circuit (there_later c.and.new.circuit.nodes c.and-2.new.circuit.nodes c.in_ok-first.first c.and-2.ensures.kept.front c.in_ok-first.ensures.there)) (block_later _ c.args.run.now (record c.args.run.now { guards = record c.args.run.now.guards { live = c.in_ok-first.first } }) refl c.requires.held) c.in_ok-block.ensures.made).run.flow.live

pub arms-or-requires-clause-right : goal.arms-or-requires-clause-right
arms-or-requires-clause-right t c = (else_ready (entry_as c.args.at.now) c.args.other.now c.block.new.c.nodes c.otherwise.new.c.nodes c.block.new.t c.otherwise.new.t (record c.block.new.run { guards = record c.block.new.run.guards { live = c.in_ok-second.second } }) c.otherwise.new.run (arm_ready (entry_as c.args.at.now) c.block.new.c.nodes c.block.new.c.nodes c.block.new.t c.block.new.run c.in_ok-second.second (block_ready (entry_as c.args.at.now) c.args.held.now c.and-2.new.circuit.nodes c.block.new.c.nodes c.args.t.now c.block.new.t (record c.args.run.now { guards = record c.args.run.now.guards { live = c.in_ok-first.first } }) c.block.new.run (arm_ready (entry_as c.args.at.now) c.args.c.now.nodes c.and-2.new.circuit.nodes c.args.t.now c.args.run.now c.in_ok-first.first c.requires.ready (front_then c.args.c.now.nodes c.and.new.circuit.nodes c.and-2.new.circuit.nodes c.and.ensures.kept.front c.and-2.ensures.kept.front) c.and-2.new.circuit.circuit (there_later c.and.new.circuit.nodes c.and-2.new.circuit.nodes c.in_ok-first.first c.and-2.ensures.kept.front c.in_ok-first.ensures.there)) (block_later _ c.args.run.now (record c.args.run.now { guards = record c.args.run.now.guards { live = c.in_ok-first.first } }) refl c.requires.held) c.in_ok-block.ensures.made) (front_same c.block.new.c.nodes) c.block.new.c.circuit (there_later c.and-2.new.circuit.nodes c.block.new.c.nodes c.in_ok-second.second c.block.ensures.kept c.in_ok-second.ensures.there)) (block_later _ c.args.run.now (record c.block.new.run { guards = record c.block.new.run.guards { live = c.in_ok-second.second } }) (block_lets (entry_as c.args.at.now) c.args.held.now c.and-2.new.circuit.nodes c.block.new.c.nodes c.args.t.now c.block.new.t (record c.args.run.now { guards = record c.args.run.now.guards { live = c.in_ok-first.first } }) c.block.new.run c.in_ok-block.ensures.made) c.requires.other) c.in_ok-otherwise.ensures.made).run.flow.live

pub arms-returns-clause-made : goal.arms-returns-clause-made
arms-returns-clause-made t c =
    if_done (block_made (map stmt_made c.args.held.now)) (else_made (option_map (map stmt_made) c.args.other.now)) (entry_as c.args.at.now) c.args.test c.in_ok-first.first c.in_ok-second.second c.in_ok-live.live c.not-not_test.result c.args.c.now.nodes c.and.new.circuit.nodes c.and-2.new.circuit.nodes c.block.new.c.nodes c.otherwise.new.c.nodes c.or.new.circuit.nodes c.args.t.now c.block.new.t c.otherwise.new.t c.args.run.now c.block.new.run c.otherwise.new.run
    c.in_ok-first.ensures.made c.not-not_test.ensures c.in_ok-second.ensures.made c.in_ok-block.ensures.made c.in_ok-otherwise.ensures.made c.in_ok-live.ensures.made

pub block-truncate-requires : goal.block-truncate-requires
block-truncate-requires t c = let room = (outer_lets (entry_as c.args.at.now) c.args.stmts.now c.args.c.now.nodes c.in_order.new.c.nodes c.args.t.now c.in_order.new.t c.args.run.now c.in_order.new.run c.in_ok-in_order.ensures.made).0 in omega (arith, room, c.len-outer.ensures)

pub block-returns-clause-made : goal.block-returns-clause-made
block-returns-clause-made t c =
    block_done (entry_as c.args.at.now) c.args.stmts.now c.args.c.now.nodes c.in_order.new.c.nodes c.args.t.now c.in_order.new.t c.args.run.now c.in_order.new.run c.truncate.new.self (c.truncate.ensures ∙ ap (λ k. drop (length c.in_order.new.run.lets - k) c.in_order.new.run.lets) c.len-outer.ensures ∙ (outer_lets (entry_as c.args.at.now) c.args.stmts.now c.args.c.now.nodes c.in_order.new.c.nodes c.args.t.now c.in_order.new.t c.args.run.now c.in_order.new.run c.in_ok-in_order.ensures.made).1) c.in_ok-in_order.ensures.made

pub in_order-loop-s-init : goal.in_order-loop-s-init
in_order-loop-s-init t c = way_begins (entry_as c.args.at.now) c.args.stmts.now c.args.c.now.nodes c.args.t.now c.args.run.now c.requires.ready c.requires.typed

pub in_order-stmt-requires : goal.in_order-stmt-requires
in_order-stmt-requires t c =
    let i = c.loop-s.s-index in
    let ss = c.args.stmts.now in
    let s = c.s-item.result in
    let here = drop_more ss i s c.loop-s-test.true ∙ ap (λ x. x ∷ drop (i + 1) ss) (sym c.s-item.is) in
    let first = way_first (entry_as c.args.at.now) ss _ s _ c.args.c.now.nodes c.loop-s.c.nodes c.args.t.now c.loop-s.t c.args.run.now c.loop-s.run here c.loop-s.invariant in
    let ready = c.loop-s.invariant.ready in
    (omega (arith, item_counts ss i s s c.loop-s-test.true c.s-item.is), search (rules, first, ready))

pub in_order-returns-in_err-stmt-clause-kept : goal.in_order-returns-in_err-stmt-clause-kept
in_order-returns-in_err-stmt-clause-kept t c = front_then c.args.c.now.nodes c.loop-s.c.nodes c.stmt.new.c.nodes c.loop-s.invariant.front c.stmt.ensures.kept

pub in_order-loop-s-preserved : goal.in_order-loop-s-preserved
in_order-loop-s-preserved t c =
    let i = c.loop-s.s-index in
    let ss = c.args.stmts.now in
    let s = c.s-item.result in
    let here = drop_more ss i s c.loop-s-test.true ∙ ap (λ x. x ∷ drop (i + 1) ss) (sym c.s-item.is) in
    way_next (entry_as c.args.at.now) ss _ s _ c.args.c.now.nodes c.loop-s.c.nodes c.stmt.new.c.nodes c.args.t.now c.loop-s.t c.stmt.new.t c.args.run.now c.loop-s.run c.stmt.new.run here c.loop-s.invariant c.in_ok-stmt.ensures.made c.stmt.ensures.kept c.stmt.ensures.few

pub in_order-returns-clause-made : goal.in_order-returns-clause-made
in_order-returns-clause-made t c = way_ends (entry_as c.args.at.now) c.args.stmts.now _ c.args.c.now.nodes c.loop-s.c.nodes c.args.t.now c.loop-s.t c.args.run.now c.loop-s.run (drop_all c.loop-s.s-index c.args.stmts.now c.loop-s-test.false) c.loop-s.invariant

-- ---- what is added

pub stmt-returns-in_err-bits-in-Let-clause-few : goal.stmt-returns-in_err-bits-in-Let-clause-few
stmt-returns-in_err-bits-in-Let-clause-few t c = few_adds c.args.t.now.writes _ c.args.c.now.nodes c.take.new.c.nodes (expr_cost c.in-Let.e) _ (omega (arith, let_most c.args.s.now c.in-Let.name c.in-Let.e c.in-Let.is)) c.take.ensures.kept

pub stmt-returns-in_ok-bits-in-Let-clause-few : goal.stmt-returns-in_ok-bits-in-Let-clause-few
stmt-returns-in_ok-bits-in-Let-clause-few t c = few_adds c.args.t.now.writes _ c.args.c.now.nodes c.take.new.c.nodes (expr_cost c.in-Let.e) _ (omega (arith, let_most c.args.s.now c.in-Let.name c.in-Let.e c.in-Let.is)) c.take.ensures.kept

pub stmt-returns-in_err-address-in-Store-clause-few : goal.stmt-returns-in_err-address-in-Store-clause-few
stmt-returns-in_err-address-in-Store-clause-few t c = store_first c.args.t.now.writes _ c.args.c.now.nodes c.take-in-Store.new.c.nodes c.args.s.now c.in-Store.a c.in-Store.e c.in-Store.is c.take-in-Store.ensures.kept

pub stmt-returns-in_err-value-in-Store-clause-few : goal.stmt-returns-in_err-value-in-Store-clause-few
stmt-returns-in_err-value-in-Store-clause-few t c = store_value c.args.t.now.writes c.take-in-Store.new.t.writes _ c.args.c.now.nodes c.take-in-Store.new.c.nodes c.take-in-Store-2.new.c.nodes c.args.s.now c.in-Store.a c.in-Store.e c.in-Store.is (writes_same c.in_ok-address-in-Store.ensures.taken.made) c.take-in-Store.ensures.kept c.take-in-Store-2.ensures.kept

pub stmt-returns-in_ok-value-in-Store-clause-few : goal.stmt-returns-in_ok-value-in-Store-clause-few
stmt-returns-in_ok-value-in-Store-clause-few t c = store_last c.args.t.now.writes c.take-in-Store.new.t.writes _ c.args.c.now.nodes c.take-in-Store.new.c.nodes c.take-in-Store-2.new.c.nodes c.store.new.c.nodes c.args.s.now c.in-Store.a c.in-Store.e c.in-Store.is (writes_same c.in_ok-address-in-Store.ensures.taken.made) c.take-in-Store.ensures.kept c.take-in-Store-2.ensures.kept c.store.ensures.kept

pub stmt-returns-in_err-bits-in-Pc-clause-few : goal.stmt-returns-in_err-bits-in-Pc-clause-few
stmt-returns-in_err-bits-in-Pc-clause-few t c = few_adds c.args.t.now.writes _ c.args.c.now.nodes c.take-in-Pc.new.c.nodes (expr_cost c.in-Pc.e) _ (omega (arith, pc_most c.args.s.now c.in-Pc.e c.in-Pc.is)) c.take-in-Pc.ensures.kept

pub stmt-returns-in_ok-bits-in-Pc-clause-few : goal.stmt-returns-in_ok-bits-in-Pc-clause-few
stmt-returns-in_ok-bits-in-Pc-clause-few t c = few_one c.args.t.now.writes _ c.args.c.now.nodes c.take-in-Pc.new.c.nodes c.assign.new.c.nodes (expr_cost c.in-Pc.e) (2 ^ 15) _ (omega (arith, pc_most c.args.s.now c.in-Pc.e c.in-Pc.is)) c.take-in-Pc.ensures.kept c.assign.ensures.kept

pub stmt-returns-in_err-bits-in-Mode-clause-few : goal.stmt-returns-in_err-bits-in-Mode-clause-few
stmt-returns-in_err-bits-in-Mode-clause-few t c = few_adds c.args.t.now.writes _ c.args.c.now.nodes c.take-in-Mode.new.c.nodes (expr_cost c.in-Mode.e) _ (omega (arith, mode_most c.args.s.now c.in-Mode.e c.in-Mode.is)) c.take-in-Mode.ensures.kept

pub stmt-returns-in_ok-bits-in-Mode-clause-few : goal.stmt-returns-in_ok-bits-in-Mode-clause-few
stmt-returns-in_ok-bits-in-Mode-clause-few t c = few_one c.args.t.now.writes _ c.args.c.now.nodes c.take-in-Mode.new.c.nodes c.assign-in-Mode.new.c.nodes (expr_cost c.in-Mode.e) (2 ^ 15) _ (omega (arith, mode_most c.args.s.now c.in-Mode.e c.in-Mode.is)) c.take-in-Mode.ensures.kept c.assign-in-Mode.ensures.kept

pub stmt-returns-in_err-bits-in-Rel-clause-few : goal.stmt-returns-in_err-bits-in-Rel-clause-few
stmt-returns-in_err-bits-in-Rel-clause-few t c = few_adds c.args.t.now.writes _ c.args.c.now.nodes c.take-in-Rel.new.c.nodes (expr_cost c.in-Rel.e) _ (omega (arith, rel_most c.args.s.now c.in-Rel.e c.in-Rel.is)) c.take-in-Rel.ensures.kept

pub stmt-returns-in_ok-bits-in-Rel-clause-few : goal.stmt-returns-in_ok-bits-in-Rel-clause-few
stmt-returns-in_ok-bits-in-Rel-clause-few t c = few_one c.args.t.now.writes _ c.args.c.now.nodes c.take-in-Rel.new.c.nodes c.assign-in-Rel.new.c.nodes (expr_cost c.in-Rel.e) (2 ^ 15) _ (omega (arith, rel_most c.args.s.now c.in-Rel.e c.in-Rel.is)) c.take-in-Rel.ensures.kept c.assign-in-Rel.ensures.kept

pub stmt-returns-in_err-bits-in-Bound-clause-few : goal.stmt-returns-in_err-bits-in-Bound-clause-few
stmt-returns-in_err-bits-in-Bound-clause-few t c = few_adds c.args.t.now.writes _ c.args.c.now.nodes c.take-in-Bound.new.c.nodes (expr_cost c.in-Bound.e) _ (omega (arith, bound_most c.args.s.now c.in-Bound.e c.in-Bound.is)) c.take-in-Bound.ensures.kept

pub stmt-returns-in_ok-bits-in-Bound-clause-few : goal.stmt-returns-in_ok-bits-in-Bound-clause-few
stmt-returns-in_ok-bits-in-Bound-clause-few t c = few_one c.args.t.now.writes _ c.args.c.now.nodes c.take-in-Bound.new.c.nodes c.assign-in-Bound.new.c.nodes (expr_cost c.in-Bound.e) (2 ^ 15) _ (omega (arith, bound_most c.args.s.now c.in-Bound.e c.in-Bound.is)) c.take-in-Bound.ensures.kept c.assign-in-Bound.ensures.kept

pub stmt-returns-in-Trap-clause-few : goal.stmt-returns-in-Trap-clause-few
stmt-returns-in-Trap-clause-few t c = few_nodes c.args.t.now.writes _ c.args.c.now.nodes c.trap.new.c.nodes 1 _ (omega (arith, trap_most c.args.s.now c.in-Trap.is)) c.trap.ensures.kept

pub stmt-returns-in_err-bits-in-If-clause-few : goal.stmt-returns-in_err-bits-in-If-clause-few
stmt-returns-in_err-bits-in-If-clause-few t c = few_adds c.args.t.now.writes _ c.args.c.now.nodes c.take-in-If.new.c.nodes (expr_cost c.in-If.test) _ (omega (arith, if_most c.args.s.now c.in-If.test c.in-If.held c.in-If.other c.in-If.is)) c.take-in-If.ensures.kept

pub stmt-returns-in_ok-bits-in-If-clause-few : goal.stmt-returns-in_ok-bits-in-If-clause-few
stmt-returns-in_ok-bits-in-If-clause-few t c = if_last c.args.t.now.writes c.take-in-If.new.t.writes c.args.c.now.nodes c.take-in-If.new.c.nodes c.arms.new.c.nodes c.args.s.now c.in-If.test c.in-If.held c.as_slice.result.now c.in-If.other c.in-If.is c.as_slice.ensures (writes_same c.in_ok-bits-in-If.ensures.taken.made) c.take-in-If.ensures.kept c.arms.ensures.few

pub arms-returns-in_err-block-clause-few : goal.arms-returns-in_err-block-clause-few
arms-returns-in_err-block-clause-few t c = arms_first c.args.t.now.writes c.args.c.now.nodes c.and.new.circuit.nodes c.and-2.new.circuit.nodes c.block.new.c.nodes c.args.held.now c.args.other.now c.and.ensures.kept c.and-2.ensures.kept c.block.ensures.few

pub arms-returns-in_err-otherwise-clause-few : goal.arms-returns-in_err-otherwise-clause-few
arms-returns-in_err-otherwise-clause-few t c = arms_third c.args.t.now.writes _ _ c.args.c.now.nodes c.otherwise.new.c.nodes (arms_second c.args.t.now.writes c.block.new.t.writes c.args.c.now.nodes c.and.new.circuit.nodes c.and-2.new.circuit.nodes c.block.new.c.nodes c.otherwise.new.c.nodes c.args.held.now c.args.other.now c.and.ensures.kept c.and-2.ensures.kept c.block.ensures.few (block_done_writes c.args.held.now (entry_as c.args.at.now) c.and-2.new.circuit.nodes c.block.new.c.nodes c.args.t.now c.block.new.t (record c.args.run.now { guards = record c.args.run.now.guards { live = c.in_ok-first.first } }) c.block.new.run c.in_ok-block.ensures.made) c.otherwise.ensures.few)

pub arms-returns-in_err-live-clause-few : goal.arms-returns-in_err-live-clause-few
arms-returns-in_err-live-clause-few t c = arms_last c.args.t.now.writes _ _ c.args.c.now.nodes c.otherwise.new.c.nodes c.or.new.circuit.nodes (arms_second c.args.t.now.writes c.block.new.t.writes c.args.c.now.nodes c.and.new.circuit.nodes c.and-2.new.circuit.nodes c.block.new.c.nodes c.otherwise.new.c.nodes c.args.held.now c.args.other.now c.and.ensures.kept c.and-2.ensures.kept c.block.ensures.few (block_done_writes c.args.held.now (entry_as c.args.at.now) c.and-2.new.circuit.nodes c.block.new.c.nodes c.args.t.now c.block.new.t (record c.args.run.now { guards = record c.args.run.now.guards { live = c.in_ok-first.first } }) c.block.new.run c.in_ok-block.ensures.made) c.otherwise.ensures.few) c.or.ensures.kept

pub arms-returns-clause-few : goal.arms-returns-clause-few
arms-returns-clause-few t c = arms_last c.args.t.now.writes _ _ c.args.c.now.nodes c.otherwise.new.c.nodes c.or.new.circuit.nodes (arms_second c.args.t.now.writes c.block.new.t.writes c.args.c.now.nodes c.and.new.circuit.nodes c.and-2.new.circuit.nodes c.block.new.c.nodes c.otherwise.new.c.nodes c.args.held.now c.args.other.now c.and.ensures.kept c.and-2.ensures.kept c.block.ensures.few (block_done_writes c.args.held.now (entry_as c.args.at.now) c.and-2.new.circuit.nodes c.block.new.c.nodes c.args.t.now c.block.new.t (record c.args.run.now { guards = record c.args.run.now.guards { live = c.in_ok-first.first } }) c.block.new.run c.in_ok-block.ensures.made) c.otherwise.ensures.few) c.or.ensures.kept

pub in_order-returns-in_err-stmt-clause-few : goal.in_order-returns-in_err-stmt-clause-few
in_order-returns-in_err-stmt-clause-few t c =
    let i = c.loop-s.s-index in
    let ss = c.args.stmts.now in
    let s = c.s-item.result in
    let here = drop_more ss i s c.loop-s-test.true ∙ ap (λ x. x ∷ drop (i + 1) ss) (sym c.s-item.is) in
    way_stops (entry_as c.args.at.now) ss _ s _ c.args.c.now.nodes c.loop-s.c.nodes c.stmt.new.c.nodes c.args.t.now c.loop-s.t c.args.run.now c.loop-s.run here c.loop-s.invariant c.stmt.ensures.few

pub arms-and-requires-2-clause-left : goal.arms-and-requires-2-clause-left
arms-and-requires-2-clause-left t c = there_later _ _ c.args.run.now.guards.live c.and.ensures.kept.front c.requires.ready.run.flow.live

pub arms-and-requires-2-clause-right : goal.arms-and-requires-2-clause-right
arms-and-requires-2-clause-right t c = subst (λ (g : Gate). g.number < length c.and.new.circuit.nodes) (sym c.not-not_test.ensures) (there_later _ _ c.args.test c.and.ensures.kept.front c.requires.test)

pub arms-returns-in_err-second-clause-kept : goal.arms-returns-in_err-second-clause-kept
arms-returns-in_err-second-clause-kept t c = front_then _ _ _ c.and.ensures.kept.front c.and-2.ensures.kept.front

pub arms-returns-in_err-block-clause-kept : goal.arms-returns-in_err-block-clause-kept
arms-returns-in_err-block-clause-kept t c = front_then _ _ _ (front_then _ _ _ c.and.ensures.kept.front c.and-2.ensures.kept.front) c.block.ensures.kept

pub arms-returns-in_err-otherwise-clause-kept : goal.arms-returns-in_err-otherwise-clause-kept
arms-returns-in_err-otherwise-clause-kept t c = front_then _ _ _ (front_then _ _ _ (front_then _ _ _ c.and.ensures.kept.front c.and-2.ensures.kept.front) c.block.ensures.kept) c.otherwise.ensures.kept

pub arms-returns-in_err-live-clause-kept : goal.arms-returns-in_err-live-clause-kept
arms-returns-in_err-live-clause-kept t c = front_then _ _ _ (front_then _ _ _ (front_then _ _ _ (front_then _ _ _ c.and.ensures.kept.front c.and-2.ensures.kept.front) c.block.ensures.kept) c.otherwise.ensures.kept) c.or.ensures.kept.front

pub arms-returns-clause-kept : goal.arms-returns-clause-kept
arms-returns-clause-kept t c = front_then _ _ _ (front_then _ _ _ (front_then _ _ _ (front_then _ _ _ c.and.ensures.kept.front c.and-2.ensures.kept.front) c.block.ensures.kept) c.otherwise.ensures.kept) c.or.ensures.kept.front

pub stmt-returns-in_err-value-in-Store-clause-kept : goal.stmt-returns-in_err-value-in-Store-clause-kept
stmt-returns-in_err-value-in-Store-clause-kept t c = front_then _ _ _ c.take-in-Store.ensures.kept.front c.take-in-Store-2.ensures.kept.front

pub stmt-assign-requires-clause-bits : goal.stmt-assign-requires-clause-bits
stmt-assign-requires-clause-bits t c = c.in_ok-bits-in-Pc.ensures.taken.value.are_bits.there

pub stmt-assign-requires-in-Mode-clause-bits : goal.stmt-assign-requires-in-Mode-clause-bits
stmt-assign-requires-in-Mode-clause-bits t c = c.in_ok-bits-in-Mode.ensures.taken.value.are_bits.there

pub stmt-assign-requires-in-Rel-clause-bits : goal.stmt-assign-requires-in-Rel-clause-bits
stmt-assign-requires-in-Rel-clause-bits t c = c.in_ok-bits-in-Rel.ensures.taken.value.are_bits.there

pub stmt-assign-requires-in-Bound-clause-bits : goal.stmt-assign-requires-in-Bound-clause-bits
stmt-assign-requires-in-Bound-clause-bits t c = c.in_ok-bits-in-Bound.ensures.taken.value.are_bits.there

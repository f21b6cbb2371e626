use Rattle.std.proofs.Common.{◌≡◌, ◌+◌, ◌∙◌, sym, ap, slice_index, slice_set, arith}
use Rattle.pg_word.specs.Psw.{cause_number, packed_trap, unpacked}
use Rattle.pg_lang_meaning.specs.States.{State, shape_of}
use Rattle.pg_hw.specs.Machinery.{Machinery}
use Rattle.pg_routine.specs.Granting.{guest_at}
use Rattle.pg_routine.proofs.GrantLaws.{guest-length, guest-cell, guest-set}
use Rattle.pg_routine.proofs.KeepLemmas.{trapped-still, trapped-loads, trapped-stores}
use Rattle.pg_routine.proofs.StoreLemmas.{PokedWithin-one}
use Rattle.pg_routine.proofs.routine.trap.Goals as goal

pub returns-clause-grant : goal.returns-clause-grant
returns-clause-grant g c =
    let old = (g.H.Hardware.machinery c.args.hw.now).state in
    let some = guest-length old.cells c.args.base c.args.size c.requires.within in
    let w = packed_trap (shape_of c.args.m.now.desc) c.args.psw.now (cause_number c.args.cause) in
    record {
      state = ap (λ (h : Machinery). h.state) c.poke.ensures.poked
          ∙ ap (λ k. let t : State = record old { cells = slice_set old.cells (c.args.base + 0) k } in t)
          (c.pack_trap-word.ensures.word ∙ ap (λ s. packed_trap s c.args.psw.now c.number.result) c.shape-shape.ensures.numbers
          ∙ ap (packed_trap (shape_of c.args.m.now.desc) c.args.psw.now) c.number.ensures.number)
          ∙ ap (λ cs. let t : State = record old { cells = cs } in t)
          (sym (guest-set old.cells c.args.base c.args.size 0 w c.requires.within (omega (arith, some, c.requires.guest.size_least))));
      tally = PokedWithin-one 8 _ _ (omega arith) (ap (λ (h : Machinery). h.tally) c.poke.ensures.poked);
      bottom = ap (λ (h : Machinery). h.bottom) c.poke.ensures.poked;
    }

pub returns-clause-psw : goal.returns-clause-psw
returns-clause-psw g c =
    let old = (g.H.Hardware.machinery c.args.hw.now).state in
    let some = guest-length old.cells c.args.base c.args.size c.requires.within in
    c.unpack-loaded.ensures.psw
    ∙ ap (λ s. unpacked s.a c.peek.result) c.shape-shape.ensures.numbers
    ∙ ap (unpacked c.args.m.now.desc.address)
    (sym (guest-cell old.cells c.args.base c.args.size 1 c.peek.result (omega (arith, some, c.requires.guest.size_least)) c.peek.ensures))

pub returns-clause-still : goal.returns-clause-still
returns-clause-still g c is =
    let cells = (g.H.Hardware.machinery c.args.hw.now).state.cells in
    let d = c.args.m.now.desc in
    let guest = guest_at cells c.args.base c.args.size c.args.psw.now in
    let some = guest-length cells c.args.base c.args.size c.requires.within in
    let loads : unpacked d.address (slice_index guest.cells 1) ≡ c.args.psw.now = sym (returns-clause-psw g c) ∙ c.swaps_nothing-still.ensures.loads is in
    let held : slice_index guest.cells 0 ≡ c.peek-2.result = guest-cell cells c.args.base c.args.size 0 c.peek-2.result (omega (arith, some, c.requires.guest.size_least)) c.peek-2.ensures in
    trapped-still d guest (cause_number c.args.cause) loads (held ∙ c.swaps_nothing-still.ensures.stores is ∙ c.pack_trap-word.ensures.word ∙ ap (λ s. packed_trap s c.args.psw.now c.number.result) c.shape-shape.ensures.numbers
    ∙ ap (packed_trap (shape_of d) c.args.psw.now) c.number.ensures.number)

pub returns-clause-moves : goal.returns-clause-moves
returns-clause-moves g c is same =
    let cells = (g.H.Hardware.machinery c.args.hw.now).state.cells in
    let d = c.args.m.now.desc in
    let guest = guest_at cells c.args.base c.args.size c.args.psw.now in
    let some = guest-length cells c.args.base c.args.size c.requires.within in
    let held : slice_index guest.cells 0 ≡ c.peek-2.result = guest-cell cells c.args.base c.args.size 0 c.peek-2.result (omega (arith, some, c.requires.guest.size_least)) c.peek-2.ensures in
    c.swaps_nothing-still.ensures.swaps is (returns-clause-psw g c ∙ trapped-loads d guest (cause_number c.args.cause) same)
    (sym held ∙ trapped-stores d guest (cause_number c.args.cause) (omega (arith, some, c.requires.guest.size_least)) same ∙ sym (c.pack_trap-word.ensures.word ∙ ap (λ s. packed_trap s c.args.psw.now c.number.result) c.shape-shape.ensures.numbers
    ∙ ap (packed_trap (shape_of d) c.args.psw.now) c.number.ensures.number))

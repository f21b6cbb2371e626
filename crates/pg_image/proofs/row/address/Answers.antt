use Rattle.std.proofs.Common.{unwrap_or, ap, sym, ◌∙◌, refl}
use Rattle.pg_image.proofs.Words.{address_is, address_number}
use Rattle.pg_image.proofs.row.address.Goals as goal

pub slice_bounds-dec_number-count : goal.slice_bounds-dec_number-count
slice_bounds-dec_number-count c = (address_is c.args.part.now c.requires).long

pub unwrap-requires : goal.unwrap-requires
unwrap-requires c = rw (c.dec_number.ensures, address_number c.args.part.now c.requires) refl

pub returns : goal.returns
returns c =
    let same = sym c.unwrap.ensures ∙ c.dec_number.ensures ∙ address_number c.args.part.now c.requires in
    ap (λ o. unwrap_or o 0) same

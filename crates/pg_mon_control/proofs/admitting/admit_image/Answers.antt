use Rattle.std.proofs.Common.{◌≡◌, ℕ, Option, None, Some, refl, ap, sym, subst, arith, length}
use Rattle.pg_word.specs.declared.shape.Shape.{Shape}
use Rattle.pg_word.specs.Psw.{power_on_psw}
use Rattle.pg_lang_meaning.specs.States.{State}
use Rattle.pg_alloc.specs.Fit.{free_base}
use Rattle.pg_alloc.proofs.FitLemmas.{free_base-full}
use Rattle.pg_mon_control.specs.Admitting.{keeping, GrantMade, StateTaken}
use Rattle.pg_mon_control.proofs.LoadLemmas.{power_on-whole}
use Rattle.pg_mon_control.proofs.AdmitLemmas.{admits, admits-stands, image-admitted, placed-fits, placed-within, taken-beside}
use Rattle.pg_mon_control.proofs.admitting.admit_image.Goals as goal

pub returns-then-image-shape-clause-no_room : goal.returns-then-image-shape-clause-no_room
returns-then-image-shape-clause-no_room g c = λ e.
    let d = c.args.m.now.desc in
    let q = ap (λ (s : Shape). s.q) c.shape.ensures.numbers in
    free_base-full d.size c.args.granted.now.grants (length c.args.image.now) (omega (arith, q, c.if-image-shape.true))

pub put_words-requires-clause-addressable : goal.put_words-requires-clause-addressable
put_words-requires-clause-addressable g c =
    let d = c.args.m.now.desc in
    let first = subst (λ q. free_base q c.args.granted.now.grants (length c.args.image.now) ≡ Some c.in-Ok.base) c.requires.owned.storage c.in-Ok.ensures.first in
    let fits = placed-fits d c.args.granted.now.grants (length c.args.image.now) c.in-Ok.base c.args.m.now.valid first in
    omega (arith, fits)

pub put_words-requires-clause-within : goal.put_words-requires-clause-within
put_words-requires-clause-within g c =
    let d = c.args.m.now.desc in
    let first = subst (λ q. free_base q c.args.granted.now.grants (length c.args.image.now) ≡ Some c.in-Ok.base) c.requires.owned.storage c.in-Ok.ensures.first in
    placed-within d _ _ _ c.args.granted.now.grants (length c.args.image.now) c.in-Ok.base c.requires.stands first

pub returns-clause-admitted : goal.returns-clause-admitted
returns-clause-admitted g c = λ current.
    let image = c.args.image.now in
    let m = c.args.m.now in
    let before = keeping m c.args.granted.now c.args.guests.now None in
    let after = keeping m c.place.new.granted c.place.new.guests None in
    let old = g.H.Hardware.machinery c.args.hw.now in
    let new = g.H.Hardware.machinery c.put_words.new.hw in
    let first = subst (λ q. free_base q c.args.granted.now.grants (length image) ≡ Some c.in-Ok.base) c.requires.owned.storage c.in-Ok.ensures.first in
    let placed : GrantMade (length image) c.in-Ok.base before after = record { first = first; granted = c.in-Ok.ensures.granted; machine = refl; current = refl } in
    subst (λ (s : State). StateTaken s (keeping m c.args.granted.now c.args.guests.now current) (keeping m c.place.new.granted c.place.new.guests current) old new) (sym (power_on-whole image))
    (taken-beside _ m c.args.granted.now c.place.new.granted c.args.guests.now c.place.new.guests current old new
    (admits (record { cells = image; psw = power_on_psw (length image) }) before after old new c.in-Ok.base
    (image-admitted image image c.power_on.result before after old new c.in-Ok.base refl c.power_on.ensures c.requires.owned c.requires.stands c.requires.least
    c.requires.words placed c.in-Ok.ensures.guests c.put_words.ensures.put)))

pub returns-clause-stands : goal.returns-clause-stands
returns-clause-stands g c = λ current stands.
    let image = c.args.image.now in
    let m = c.args.m.now in
    let before = keeping m c.args.granted.now c.args.guests.now current in
    let after = keeping m c.place.new.granted c.place.new.guests current in
    let old = g.H.Hardware.machinery c.args.hw.now in
    let new = g.H.Hardware.machinery c.put_words.new.hw in
    let first = subst (λ q. free_base q c.args.granted.now.grants (length image) ≡ Some c.in-Ok.base) c.requires.owned.storage c.in-Ok.ensures.first in
    let placed : GrantMade (length image) c.in-Ok.base before after = record { first = first; granted = c.in-Ok.ensures.granted; machine = refl; current = refl } in
    admits-stands (record { cells = image; psw = power_on_psw (length image) }) before after old new c.in-Ok.base
    (image-admitted image image c.power_on.result before after old new c.in-Ok.base refl c.power_on.ensures c.requires.owned stands c.requires.least
    c.requires.words placed c.in-Ok.ensures.guests c.put_words.ensures.put)

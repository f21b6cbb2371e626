-- What several puts one after another do: the same as one put of all their pieces.
use Rattle.std.proofs.Common.{◌≡◌, ℕ, ◌+◌, ◌≤◌, min, List, [], ◌++◌, length, take, Option, Some, None, Result, Ok, Err, refl, sym, ◌∙◌, ap, arith}
use Rattle.std.proofs.lemmas.List.{append-nil, append_assoc, take-append-le, take_min}
use Rattle.std.proofs.Math.Seq.{take-append-add}
use Rattle.pg_edge.proofs.CountLaws.{Rose-earlier}
use Rattle.pg_edge.proofs.ToldLaws.{BothTold-then}
use Rattle.pg_edge.specs.Told.{BothTold}
use Rattle.pg_edge.specs.Sink.{Puts, Adds, AddsFront}

-- ---- the bytes so far

pub Adds-nil : (told : Option (List ℕ)) → BothTold told told (Adds [])
Adds-nil None = tt
Adds-nil (Some bytes) = sym (append-nil bytes)

pub Adds-append : (was mid now : Option (List ℕ)) (first next : List ℕ) → BothTold was mid (Adds first) → BothTold mid now (Adds next) → BothTold was now (Adds (first ++ next))
Adds-append was mid now first next =
    BothTold-then was mid now (Adds first) (Adds next) (Adds (first ++ next)) (λ a b c first_put next_put. next_put ∙ ap (λ bytes. bytes ++ next) first_put ∙ append_assoc a first next)

-- a front of a piece is one of the piece with more behind it
front-longer : (n : ℕ) (piece rest : List ℕ) → take n piece ≡ take (min n (length piece)) (piece ++ rest)
front-longer n piece rest =
    let short : min n (length piece) ≤ length piece = omega arith in
    sym (take-append-le (min n (length piece)) piece rest short ∙ take_min n piece)

AddsFront-after : (first next was mid now : List ℕ) → Adds first was mid → AddsFront next mid now → AddsFront (first ++ next) was now
AddsFront-after first next was mid now a b =
    (length first + b.0, b.1 ∙ ap (λ bytes. bytes ++ take b.0 next) a ∙ append_assoc was first (take b.0 next) ∙ ap (λ bytes. was ++ bytes) (sym (take-append-add first next b.0)))

pub AddsFront-append : (was mid now : Option (List ℕ)) (first next : List ℕ) → BothTold was mid (Adds first) → BothTold mid now (AddsFront next) → BothTold was now (AddsFront (first ++ next))
AddsFront-append was mid now first next =
    BothTold-then was mid now (Adds first) (AddsFront next) (AddsFront (first ++ next)) (AddsFront-after first next)

AddsFront-longer : (was now : Option (List ℕ)) (piece rest : List ℕ) → BothTold was now (AddsFront piece) → BothTold was now (AddsFront (piece ++ rest))
AddsFront-longer None None piece rest a = tt
AddsFront-longer None (Some now) piece rest a = a
AddsFront-longer (Some was) None piece rest a = a
AddsFront-longer (Some was) (Some now) piece rest a =
    (min a.0 (length piece), a.1 ∙ ap (λ bytes. was ++ bytes) (front-longer a.0 piece rest))

-- ---- puts one after another

-- nothing put is the empty piece put
pub Puts-none : {T E : Type 0} (told : Option (List ℕ)) (faults : ℕ) (done : T) → Puts {E = E} told told faults faults [] (Ok done)
Puts-none told faults done = record { whole = Adds-nil told; front = tt; later = omega arith; quiet = refl; cause = tt }

-- after a put that went through comes another, which may fail
pub Puts-then : {T U D E : Type 0} (was mid now : Option (List ℕ)) (before between after : ℕ) (first next : List ℕ) (done : T) (result : Result U E) → Puts {E = D} was mid before between first (Ok done) → Puts mid now between after next result → Puts was now before after (first ++ next) result
Puts-then was mid now before between after first next done (Ok x) a b = record {
  whole = Adds-append was mid now first next a.whole b.whole;
  front = tt;
  later = omega arith;
  quiet = b.quiet ∙ a.quiet;
  cause = tt;
}
Puts-then was mid now before between after first next done (Err e) a b = record {
  whole = tt;
  front = AddsFront-append was mid now first next a.whole b.front;
  later = omega arith;
  quiet = tt;
  cause = Rose-earlier before between after a.later b.cause;
}

-- after a put that failed nothing more is put
pub Puts-stopped : {T U D E : Type 0} (was now : Option (List ℕ)) (before after : ℕ) (piece rest : List ℕ) (fault : D) (error : E) → Puts {T = T} was now before after piece (Err fault) → Puts {T = U} was now before after (piece ++ rest) (Err error)
Puts-stopped was now before after piece rest fault error a = record {
  whole = tt;
  front = AddsFront-longer was now piece rest a.front;
  later = a.later;
  quiet = tt;
  cause = a.cause;
}

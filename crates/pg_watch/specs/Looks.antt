-- What is seen of a clause when its literals are looked through in order.
use Rattle.std.specs.Prelude.{Bool, true, false, ℤ, List, [], ◌∷◌, Option, None, Some}
use Rattle.pg_watch.specs.declared.look.Look.{Look}
use Rattle.pg_watch.specs.declared.look.Look.TheVariants.{Open, Unit, Falsified}
use Rattle.pg_watch.specs.Trail.{value_of, IsFalsified, IsUnit, IsOpen}

-- what is seen is so
abbrev pub IsSeen : List ℤ → List ℤ → Look → Type 0
IsSeen set clause Open = IsOpen set clause
IsSeen set clause (Unit z) = IsUnit set clause z
IsSeen set clause Falsified = IsFalsified set clause

-- at the end, where one literal that is not false was met, or none
abbrev pub looked : Option ℤ → Look
looked None = Falsified
looked (Some z) = Unit z

-- at a literal with a value
abbrev pub look_step : Option Bool → ℤ → Option ℤ → (Option ℤ → Look) → Look
look_step (Some true) y found go = Open
look_step (Some false) y found go = go found
look_step None y None go = go (Some y)
look_step None y (Some z) go = Open

abbrev pub look_from : List ℤ → Option ℤ → List ℤ → Look
look_from set found [] = looked found
look_from set found (y ∷ ys) = look_step (value_of set y) y found (λ f. look_from set f ys)

-- Steps of a command, one after another: each has faults of its own, and the first that refuses answers.
use Rattle.std.specs.Prelude.{◌≡◌, ◌⊎◌, Result, Ok, Err}

-- how a step comes out: with a value to go on with, refused for a reason of its own, or by a read that failed
pub data Outcome (E X : Type 0) : Type 0 where
  Came : X → Outcome E X
  Refused : E → Outcome E X
  Misread : Outcome E X

-- which outcomes a step may have
abbrev pub Step : Type 0 → Type 0 → Type 1
Step E X = Outcome E X → Type 0

-- a step that reads no file
abbrev pub Settles : {E X : Type 0} → (Result X E → Type 0) → Step E X
Settles due (Came x) = due (Ok x)
Settles due (Refused e) = due (Err e)
Settles due Misread = ⊥

-- a step that comes to this value, and is never refused
abbrev pub Gives : {E X : Type 0} → X → Step E X
Gives x (Came y) = y ≡ x
Gives x (Refused e) = ⊥
Gives x Misread = ⊥

-- a step whose reasons are told as those of another kind
abbrev pub As : {D E X : Type 0} → (D → E) → Step D X → Step E X
As lift step (Came x) = step (Came x)
As lift step (Refused e) = (d : _) × step (Refused d) × (e ≡ lift d)
As lift step Misread = step Misread

-- a step, and behind it another one, which goes on with what the first gave; only where the first came to a value does the
-- second begin
abbrev pub Then : {E X Y : Type 0} → Step E X → (X → Step E Y) → Step E Y
Then first next (Came y) = (x : _) × first (Came x) × next x (Came y)
Then first next (Refused e) = first (Refused e) ⊎ ((x : _) × first (Came x) × next x (Refused e))
Then first next Misread = first Misread ⊎ ((x : _) × first (Came x) × next x Misread)

-- what is known of how a step came out, as an outcome
abbrev pub settled : {E X : Type 0} → Result X E → Outcome E X
settled (Ok x) = Came x
settled (Err e) = Refused e

-- a step comes to one thing at most, beside a read that may fail
abbrev pub IsOne : {E X : Type 0} → Step E X → Type 0
IsOne {E = E} {X = X} step = (a b : Result X E) → step (settled a) → step (settled b) → a ≡ b

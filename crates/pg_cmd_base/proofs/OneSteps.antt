-- Steps that come to one thing, where no function says which.
use Rattle.std.proofs.Common.{◌≡◌, ℕ, ◌<◌, ◌≤◌, nat_lt, Bool, true, false, List, length, Option, Some, None, IsSomeAnd, Result, Ok, Err, inl, inr, refl, sym, ◌∙◌, ap, subst}
use Rattle.std.proofs.lemmas.Bool.{lt-ltb, le-ltb}
use Rattle.pg_edge.specs.Shelf.{Files}
use Rattle.pg_cmd_base.specs.Steps.{Step, Gives, As, Then, settled, IsOne}
use Rattle.pg_cmd_base.specs.FileSteps.{FileFault, Absent, Faulty, FromFile}
use Rattle.pg_cmd_base.proofs.OnlySteps.{lifted, faulty}

pub one-gives : {E X : Type 0} (x : X) → IsOne {E = E} (Gives x)
one-gives x (Ok a) (Ok b) h k = ap (λ z. Ok z) (h ∙ sym k)
one-gives x (Ok a) (Err e) h k = absurd k
one-gives x (Err e) b h k = absurd h

-- ---- reasons told as those of another kind

pub one-as : {D E X : Type 0} (lift : D → E) (step : Step D X) → IsOne step → IsOne (As lift step)
one-as lift step one (Ok a) (Ok b) h k = ap (lifted lift) (one (Ok a) (Ok b) h k)
one-as lift step one (Ok a) (Err e) h k = ap (lifted lift) (one (Ok a) (Err k.0) h k.1) ∙ ap (λ z. Err z) (sym k.2)
one-as lift step one (Err e) (Ok b) h k = ap (λ z. Err z) h.2 ∙ ap (lifted lift) (one (Err h.0) (Ok b) h.1 k)
one-as lift step one (Err e) (Err f) h k = ap (λ z. Err z) h.2 ∙ ap (lifted lift) (one (Err h.0) (Err k.0) h.1 k.1) ∙ ap (λ z. Err z) (sym k.2)

-- ---- one step behind another

abbrev value_or : {E X : Type 0} → X → Result X E → X
value_or x (Ok y) = y
value_or x (Err e) = x

abbrev reason_or : {E X : Type 0} → E → Result X E → E
reason_or e (Ok x) = e
reason_or e (Err f) = f

-- the value of a step that is one
one-value : {E X : Type 0} (step : Step E X) (a b : X) → IsOne step → step (settled (Ok a)) → step (settled (Ok b)) → a ≡ b
one-value step a b one h k = ap (value_or a) (one (Ok a) (Ok b) h k)

-- a step that is one does not both come to a value and refuse
one-never : {E X P : Type 0} (step : Step E X) (a : X) (e : E) → IsOne step → step (settled (Ok a)) → step (settled (Err e)) → P
one-never step a e one h k = absurd (let no : Ok a ≡ Err e = one (Ok a) (Err e) h k in cc)

pub one-then : {E X Y : Type 0} (first : Step E X) (next : X → Step E Y) → IsOne first → ((x : X) → IsOne (next x)) → IsOne (Then first next)
one-then first next one others (Ok a) (Ok b) h k =
    others k.0 (Ok a) (Ok b) (subst (λ x. next x (settled (Ok a))) (one-value first h.0 k.0 one h.1 k.1) h.2) k.2
one-then first next one others (Ok a) (Err e) h (inl k) = one-never first h.0 e one h.1 k
one-then first next one others (Ok a) (Err e) h (inr k) =
    others k.0 (Ok a) (Err e) (subst (λ x. next x (settled (Ok a))) (one-value first h.0 k.0 one h.1 k.1) h.2) k.2
one-then first next one others (Err e) (Ok b) (inl h) k = one-never first k.0 e one k.1 h
one-then first next one others (Err e) (Ok b) (inr h) k =
    others k.0 (Err e) (Ok b) (subst (λ x. next x (settled (Err e))) (one-value first h.0 k.0 one h.1 k.1) h.2) k.2
one-then first next one others (Err e) (Err f) (inl h) (inl k) = ap (λ z. Err z) (ap (reason_or e) (one (Err e) (Err f) h k))
one-then first next one others (Err e) (Err f) (inl h) (inr k) = one-never first k.0 e one k.1 h
one-then first next one others (Err e) (Err f) (inr h) (inl k) = one-never first h.0 f one h.1 k
one-then first next one others (Err e) (Err f) (inr h) (inr k) =
    others k.0 (Err e) (Err f) (subst (λ x. next x (settled (Err e))) (one-value first h.0 k.0 one h.1 k.1) h.2) k.2

-- ---- a file

-- how a file is read, by what it holds and whether that is too long
abbrev IsReadAs : {E X : Type 0} → E → (List ℕ → Result X E → Type 0) → Option (List ℕ) → Bool → Result X (FileFault E) → Type 0
IsReadAs long reads None longer a = a ≡ Err Absent
IsReadAs long reads (Some bytes) true a = a ≡ Err (Faulty long)
IsReadAs {E = E} {X = X} long reads (Some bytes) false a = (r : Result X E) × reads bytes r × (a ≡ faulty r)

abbrev is_longer : ℕ → Option (List ℕ) → Bool
is_longer limit None = false
is_longer limit (Some bytes) = nat_lt limit (length bytes)

read-within : {E X : Type 0} (limit : ℕ) (long : E) (reads : List ℕ → Result X E → Type 0) (o : Option (List ℕ)) (bytes : List ℕ) (r : Result X E) → o ≡ Some bytes →
    length bytes ≤ limit → reads bytes r → IsReadAs long reads o (is_longer limit o) (faulty r)
read-within limit long reads o bytes r is within h =
    subst (λ x. IsReadAs long reads x (is_longer limit x) (faulty r)) (sym is)
    (subst (λ b. IsReadAs long reads (Some bytes) b (faulty r)) (sym (le-ltb limit (length bytes) within)) (r, h, refl))

read-longer : {E X : Type 0} (limit : ℕ) (long : E) (reads : List ℕ → Result X E → Type 0) (o : Option (List ℕ)) → IsSomeAnd o (λ bytes. limit < length bytes) →
    IsReadAs long reads o (is_longer limit o) (Err (Faulty long))
read-longer limit long reads None h = absurd h
read-longer limit long reads (Some bytes) h = subst (λ b. IsReadAs long reads (Some bytes) b (Err (Faulty long))) (sym (lt-ltb limit (length bytes) h)) refl

read-as : {E X : Type 0} (files : Files) (name : List ℕ) (limit : ℕ) (long : E) (reads : List ℕ → Result X E → Type 0) (a : Result X (FileFault E)) →
    FromFile (Some files) name limit long reads (settled a) → IsReadAs long reads (files name) (is_longer limit (files name)) a
read-as files name limit long reads (Ok x) h = read-within limit long reads (files name) h.0 (Ok x) h.1.holds h.1.within h.2
read-as files name limit long reads (Err Absent) h = subst (λ o. IsReadAs long reads o (is_longer limit o) (Err Absent)) (sym h) refl
read-as files name limit long reads (Err (Faulty e)) (inl h) =
    subst (λ x. IsReadAs long reads (files name) (is_longer limit (files name)) (Err (Faulty x))) (sym h.1) (read-longer limit long reads (files name) h.0)
read-as files name limit long reads (Err (Faulty e)) (inr h) = read-within limit long reads (files name) h.0 (Err e) h.1.holds h.1.within h.2

read-one : {E X : Type 0} (long : E) (reads : List ℕ → Result X E → Type 0) (o : Option (List ℕ)) (longer : Bool) (a b : Result X (FileFault E)) →
    ((bytes : List ℕ) (r s : Result X E) → reads bytes r → reads bytes s → r ≡ s) → IsReadAs long reads o longer a → IsReadAs long reads o longer b → a ≡ b
read-one long reads None longer a b one h k = h ∙ sym k
read-one long reads (Some bytes) true a b one h k = h ∙ sym k
read-one long reads (Some bytes) false a b one h k = h.2 ∙ ap faulty (one bytes h.0 k.0 h.1 k.1) ∙ sym k.2

-- where bytes are read as one thing
pub one-file : {E X : Type 0} (files : Files) (name : List ℕ) (limit : ℕ) (long : E) (reads : List ℕ → Result X E → Type 0) →
    ((bytes : List ℕ) (r s : Result X E) → reads bytes r → reads bytes s → r ≡ s) → IsOne (FromFile (Some files) name limit long reads)
one-file files name limit long reads one a b h k =
    read-one long reads (files name) (is_longer limit (files name)) a b one (read-as files name limit long reads a h) (read-as files name limit long reads b k)

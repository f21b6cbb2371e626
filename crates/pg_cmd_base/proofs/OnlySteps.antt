-- Steps that come to one thing: what a step of told files comes to is computed, so that it is no more than one.
use Rattle.std.proofs.Common.{◌≡◌, ℕ, ◌<◌, ◌≤◌, cond, nat_lt, List, length, Option, Some, None, IsSomeAnd, Result, Ok, Err, inl, inr, sym, ◌∙◌, ap}
use Rattle.std.proofs.lemmas.Bool.{lt-ltb, le-ltb}
use Rattle.pg_edge.specs.Shelf.{Files}
use Rattle.pg_cmd_base.specs.Steps.{Step, Settles, Gives, As, Then, settled, IsOne}
use Rattle.pg_cmd_base.specs.FileSteps.{FileFault, Absent, Faulty, FromFile}

-- a step that comes to this and nothing else, but that a read may fail
abbrev pub Only : {E X : Type 0} → Step E X → Result X E → Type 0
Only {E = E} {X = X} step answer = (due : Result X E) → step (settled due) → answer ≡ due

pub one-of : {E X : Type 0} (step : Step E X) (answer : Result X E) → Only step answer → IsOne step
one-of step answer only a b h k = sym (only a h) ∙ only b k

-- ---- one step

pub only-settles : {E X : Type 0} (due : Result X E → Type 0) (answer : Result X E) → ((r : Result X E) → due r → answer ≡ r) → Only (Settles due) answer
only-settles due answer only (Ok x) h = only (Ok x) h
only-settles due answer only (Err e) h = only (Err e) h

pub only-gives : {E X : Type 0} (x : X) → Only {E = E} (Gives x) (Ok x)
only-gives x (Ok y) h = ap (λ z. Ok z) (sym h)
only-gives x (Err e) h = absurd h

-- ---- reasons told as those of another kind

abbrev pub lifted : {D E X : Type 0} → (D → E) → Result X D → Result X E
lifted lift (Ok x) = Ok x
lifted lift (Err d) = Err (lift d)

pub only-as : {D E X : Type 0} (lift : D → E) (step : Step D X) (answer : Result X D) → Only step answer → Only (As lift step) (lifted lift answer)
only-as lift step answer only (Ok x) h = ap (lifted lift) (only (Ok x) h)
only-as lift step answer only (Err e) h = ap (lifted lift) (only (Err h.0) h.1) ∙ ap (λ z. Err z) (sym h.2)

-- ---- one step behind another

abbrev pub bind : {E X Y : Type 0} → Result X E → (X → Result Y E) → Result Y E
bind (Ok x) go = go x
bind (Err why) go = Err why

pub only-then : {E X Y : Type 0} (first : Step E X) (next : X → Step E Y) (answer : Result X E) (go : X → Result Y E) → Only first answer →
    ((x : X) → Only (next x) (go x)) → Only (Then first next) (bind answer go)
only-then first next answer go one others (Ok y) h = ap (λ a. bind a go) (one (Ok h.0) h.1) ∙ others h.0 (Ok y) h.2
only-then first next answer go one others (Err e) (inl h) = ap (λ a. bind a go) (one (Err e) h)
only-then first next answer go one others (Err e) (inr h) = ap (λ a. bind a go) (one (Ok h.0) h.1) ∙ others h.0 (Err e) h.2

-- ---- a file

abbrev pub faulty : {E X : Type 0} → Result X E → Result X (FileFault E)
faulty (Ok x) = Ok x
faulty (Err e) = Err (Faulty e)

abbrev pub file_answer : {E X : Type 0} → ℕ → E → (List ℕ → Result X E) → Option (List ℕ) → Result X (FileFault E)
file_answer limit long read None = Err Absent
file_answer limit long read (Some bytes) = cond (nat_lt limit (length bytes)) (Err (Faulty long)) (faulty (read bytes))

file-long : {E X : Type 0} (limit : ℕ) (long : E) (read : List ℕ → Result X E) (o : Option (List ℕ)) → IsSomeAnd o (λ bytes. limit < length bytes) →
    file_answer limit long read o ≡ Err (Faulty long)
file-long limit long read None h = absurd h
file-long limit long read (Some bytes) h = ap (λ b. cond b (Err (Faulty long)) (faulty (read bytes))) (lt-ltb limit (length bytes) h)

file-within : {E X : Type 0} (limit : ℕ) (long : E) (read : List ℕ → Result X E) (o : Option (List ℕ)) (bytes : List ℕ) (due : Result X E) → o ≡ Some bytes →
    length bytes ≤ limit → read bytes ≡ due → file_answer limit long read o ≡ faulty due
file-within limit long read o bytes due holds within is =
    ap (file_answer limit long read) holds ∙ ap (λ b. cond b (Err (Faulty long)) (faulty (read bytes))) (le-ltb limit (length bytes) within) ∙ ap faulty is

pub only-file : {E X : Type 0} (files : Files) (name : List ℕ) (limit : ℕ) (long : E) (reads : List ℕ → Result X E → Type 0) (read : List ℕ → Result X E) →
    ((bytes : List ℕ) → length bytes ≤ limit → (due : Result X E) → reads bytes due → read bytes ≡ due) →
    Only (FromFile (Some files) name limit long reads) (file_answer limit long read (files name))
only-file files name limit long reads read only (Ok x) h = file-within limit long read (files name) h.0 (Ok x) h.1.holds h.1.within (only h.0 h.1.within (Ok x) h.2)
only-file files name limit long reads read only (Err Absent) h = ap (file_answer limit long read) h
only-file files name limit long reads read only (Err (Faulty e)) (inl h) = file-long limit long read (files name) h.0 ∙ ap (λ z. Err (Faulty z)) (sym h.1)
only-file files name limit long reads read only (Err (Faulty e)) (inr h) =
    file-within limit long read (files name) h.0 (Err e) h.1.holds h.1.within (only h.0 h.1.within (Err e) h.2)

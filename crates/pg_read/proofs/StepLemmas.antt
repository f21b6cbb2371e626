-- Where a step stops, what it is a part of stops too.
use Rattle.std.proofs.Common.{◌≡◌, List, Option, None, Err}
use Rattle.pg_lang_token.specs.declared.tok.Tok.{Tok}
use Rattle.pg_read.specs.declared.fault.Stop.{Stop}
use Rattle.pg_read.specs.declared.fault.Stop.TheVariants.{Unread, Memory}
use Rattle.pg_read.specs.Steps.{IsStepDue}
use Rattle.pg_read.specs.Whole.{IsAllDue}

pub due-stop : {A B : Type 0} (f : Stop) (x : Option (A × List Tok)) (y : Option (B × List Tok)) (us vs : List Tok) → (x ≡ None → y ≡ None) → IsStepDue {A = A} (Err f) x us → IsStepDue {A = B} (Err f) y vs
due-stop Unread x y us vs h e = h e
due-stop Memory x y us vs h e = tt

pub all_due-stop : {A B : Type 0} (f : Stop) (x : Option (A × List Tok)) (y : Option B) (us : List Tok) → (x ≡ None → y ≡ None) → IsStepDue {A = A} (Err f) x us → IsAllDue {A = B} (Err f) y
all_due-stop Unread x y us h e = h e
all_due-stop Memory x y us h e = tt

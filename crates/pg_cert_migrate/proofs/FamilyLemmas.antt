-- What is answered of a whole text that is fed.
use Rattle.std.proofs.Common.{◌≡◌, ◌≢◌, ℕ, ◌≤◌, Bool, true, List, [], ◌∷◌, ◌++◌, length, take, drop, refl, sym, ap, ◌∙◌, subst, cond, arith}
use Rattle.std.specs.Prelude.{◌==◌, Result, Ok, Err}
use Rattle.std.proofs.lemmas.List.{take-append-drop}
use Rattle.std.proofs.lemmas.Bool.{le-ltb, eqb-true}
use Rattle.pg_ast.specs.declared.tree.Desc.{Desc}
use Rattle.pg_cert.specs.declared.cert.Family.{Family}
use Rattle.pg_cert.specs.declared.report.Report.{Report}
use Rattle.pg_verify.specs.declared.fault.VerifyFault.{VerifyFault}
use Rattle.pg_verify.specs.declared.fault.VerifyFault.TheVariants as fault
use Rattle.pg_verify.specs.Reader.{Reader}
use Rattle.pg_verify.specs.Taking.{then_take}
use Rattle.pg_verify.specs.Feeding.{most_bytes, fed, finished, IsAnswer, begun, verified, verified_whole}
use Rattle.pg_verify.proofs.ReachLemmas.{fed-append}

pub answered_after : (begin after : Reader) (r : Result Report VerifyFault) → begin ≡ after → IsAnswer (then_take after finished) r → IsAnswer (then_take begin finished) r
answered_after begin after r e h = subst (λ x. IsAnswer (then_take x finished) r) (sym e) h

pub refused_before : (begin : Reader) (f : VerifyFault) → (f ≢ fault.Memory → begin ≡ Err f) → IsAnswer (then_take begin finished) (Err f)
refused_before begin f due = λ n. ap (λ r. then_take r finished) (due n)

pub whole_answered : (d : Desc) (family : Family) (bytes : List ℕ) (r : Result Report VerifyFault) → length bytes ≤ most_bytes →
    IsAnswer (then_take (fed (begun d family) bytes) finished) r → IsAnswer (verified_whole d family bytes) r
unfolding verified
whole_answered d family bytes r l h =
    subst (λ x. IsAnswer x r) (sym (ap (λ b. cond b (Err fault.Long) (verified d family bytes)) (le-ltb most_bytes (length bytes) l))) h

-- bytes are fed as their front is, and then the others
pub then_rest : (now next : Reader) (left piece rest : List ℕ) → left ≡ piece ++ rest → then_take now (λ p. fed p piece) ≡ next →
    then_take now (λ p. fed p left) ≡ then_take next (λ p. fed p rest)
then_rest (Ok p) next left piece rest e h = ap (fed p) e ∙ fed-append p piece rest ∙ ap (λ r. then_take r (λ q. fed q rest)) h
then_rest (Err f) next left piece rest e h = ap (λ r. then_take r (λ q. fed q rest)) h

-- where no byte is left, nothing more is due
pub none_left : (now : Reader) (left : List ℕ) → left ≡ [] → then_take now (λ p. fed p left) ≡ now
unfolding fed
none_left (Ok p) left e = ap (fed p) e
none_left (Err f) left e = refl

-- what the test of a loop says that ends
pub no_byte : (left : List ℕ) (b : Bool) → b ≡ (length left == 0) → b ≡ true → left ≡ []
no_byte [] b e f = refl
no_byte (c ∷ cs) b e f = absurd (omega (arith, eqb-true (length (c ∷ cs)) 0 (sym e ∙ f)))

-- the two parts of bytes that are cut
pub cut_at : (left front back : List ℕ) (n : ℕ) → front ≡ take n left → back ≡ drop n left → left ≡ front ++ back
cut_at left front back n f b = sym (ap (λ x. x ++ back) f ∙ ap (λ x. take n left ++ x) b ∙ take-append-drop n left)

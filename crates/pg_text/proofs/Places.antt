-- The places of a text's tokens are in order.
use Rattle.std.proofs.Common.{◌≡◌, ℕ, zero, suc, ◌+◌, ◌-◌, ◌<◌, ◌≤◌, List, [], ◌∷◌, ◌++◌, length, Option, Some, None, Ok, subst, refl, arith}
use Rattle.pg_lang_token.specs.declared.tok.Tok.{Tok}
use Rattle.pg_text.specs.declared.place.Span.{Span}
use Rattle.pg_text.specs.declared.piece.Piece.{Piece}
use Rattle.pg_text.specs.Cutting.{front, placed, cut_from, cut}
use Rattle.pg_text.specs.Places.{InOrder}
use Rattle.pg_text.proofs.Fronts.{Takes, front_takes}
use Rattle.pg_text.proofs.CutSteps.{before_ok, then_ok, ok_is}

earlier : (start later end : ℕ) (ts : List (Tok × Span)) → start ≤ later → InOrder later end ts → InOrder start end ts
earlier start later end [] le h = omega arith
earlier start later end (t ∷ ts) le h = (omega arith, h.1, h.2)

-- a piece's token in front
in_front : (place len end : ℕ) (tok : Option Tok) (ts : List (Tok × Span)) → 0 < len → InOrder (place + len) end ts → InOrder place end (placed place (record { tok = tok; len = len }) ++ ts)
in_front place len end None ts some h = earlier place (place + len) end ts (omega arith) h
in_front place len end (Some t) ts some h = (omega arith, omega arith, h)

-- the tokens behind k bytes of a piece before
in_order : (k place start end : ℕ) (text : List ℕ) (ts : List (Tok × Span)) → k ≤ length text → start ≡ place + k → end ≡ place + length text → cut_from k place text ≡ Ok ts → InOrder start end ts
unfolding cut_from
in_order k place start end [] ts le s e h = subst (InOrder start end) (ok_is [] ts h) (omega arith)
in_order (suc k) place start end (b ∷ bs) ts le s e h = in_order k (place + 1) start end bs ts (omega arith) (omega arith) (omega arith) h
in_order zero place start end (b ∷ bs) ts le s e h =
    let piece = then_ok place (front place (b ∷ bs)) (λ k. cut_from k (place + 1) bs) ts h in
    let p : Piece = piece.0 in
    let takes : (0 < p.len) × (p.len ≤ length (b ∷ bs)) = subst (Takes (length (b ∷ bs))) piece.1 (front_takes place b bs) in
    let rest = before_ok (placed place p) (cut_from (p.len - 1) (place + 1) bs) ts piece.2 in
    let later : InOrder (place + p.len) end rest.0 = in_order (p.len - 1) (place + 1) (place + p.len) end bs rest.0 (omega (arith, takes.1)) (omega (arith, takes.0)) (omega arith) rest.1 in
    let here : InOrder place end (placed place p ++ rest.0) = in_front place p.len end p.tok rest.0 takes.0 later in
    let at : place ≡ start = omega arith in
    subst (λ n. InOrder n end ts) at (subst (InOrder place end) rest.2 here)

-- the tokens of a text
pub cut_in_order : (text : List ℕ) (ts : List (Tok × Span)) → cut text ≡ Ok ts → InOrder 0 (length text) ts
unfolding cut
cut_in_order text ts h = in_order 0 0 0 (length text) text ts (omega arith) refl (omega arith) h

-- Bytes that are fed, cut behind each LF.
use Rattle.std.proofs.Common.{◌≡◌, ◌≢◌, ℕ, suc, ◌+◌, ◌-◌, ◌<◌, ◌≤◌, Bool, true, false, List, [], ◌∷◌, ◌++◌, length, take, drop, get_or, position, None, Some, refl, sym, ap, subst, ◌∙◌, arith, length-append, length-drop, append_assoc, cond, ◌⊎◌, inl, inr}
use Rattle.std.specs.Prelude.{◌==◌, not, nat_lt, Result, Ok, Err, OnOk}
use Rattle.std.specs.List.{All, position_or_len}
use Rattle.std.proofs.lemmas.List.{length-take-le, get_or-take, take_more, take-append-drop, take-append-le, take_all}
use Rattle.std.proofs.lemmas.List.Elements.{All-from_get_or, All-nil, All-cons}
use Rattle.std.proofs.lemmas.List.Quantifiers.{position-Some}
use Rattle.std.proofs.lemmas.Bool.{eqb-true, eqb-false, eq-eqb, cases_Bool, ltb-false, le-ltb, true≢false}
use Rattle.pg_verify.specs.declared.fault.VerifyFault.{VerifyFault}
use Rattle.pg_verify.specs.declared.fault.VerifyFault.TheVariants as fault
use Rattle.pg_ast.specs.declared.tree.Desc.{Desc}
use Rattle.pg_cert.specs.declared.cert.Family.{Family}
use Rattle.pg_cert.specs.declared.report.Report.{Report}
use Rattle.pg_verify.specs.Reader.{Open, Fresh, Between, Refuting, Showing, Spending, Ended, Progress, Reader}
use Rattle.pg_verify.specs.Taking.{then_take, after_line}
use Rattle.pg_verify.specs.Feeding.{most_bytes, fed, fed_byte, taken_byte, ended_line, or_misplaced, without_end, at_end, at_rest, finished, IsReportOf, IsReported, IsAnswer, begun, verified, verified_whole}
use Rattle.pg_verify.specs.Seen.{IsTold, is_ended}
use Rattle.pg_verify.proofs.Standing.{Keeps}
use Rattle.pg_verify.proofs.KeepLemmas.{line_kept}
use Rattle.pg_verify.proofs.ReachLemmas.{fed-append, fed_body, end_byte}

-- ---- what an answer says

pub told_kept : {A : Type 0} (p q : Progress) (bytes : List ℕ) (r : Result A VerifyFault) → IsTold (after_line p bytes) q r → OnOk r (Keeps (record p { lines = suc p.lines }) q)
told_kept p q bytes (Ok a) h = line_kept p q bytes h
told_kept p q bytes (Err f) h = tt

pub OnOk-weaker : {A E P Q : Type 0} (r : Result A E) → (P → Q) → OnOk r P → OnOk r Q
OnOk-weaker (Ok a) f h = f h
OnOk-weaker (Err e) f h = tt

pub told_same : {X A : Type 0} (due other : Result X VerifyFault) (x : X) (r : Result A VerifyFault) → other ≡ due → IsTold due x r → IsTold other x r
told_same due other x r e h = subst (λ d. IsTold d x r) (sym e) h

-- ---- one line

-- bytes with one LF, at their end, end the line that they go on with
pub whole_line : (p : Progress) (piece : List ℕ) → piece ≡ take (length piece - 1) piece ++ 10 ∷ [] → All (λ c. c ≢ 10) (take (length piece - 1) piece) → p.fed + length piece ≤ most_bytes →
    fed p piece ≡ after_line (record p { fed = p.fed + length piece; rest = [] }) (p.rest ++ piece)
unfolding fed
whole_line p piece ends once room =
    let body : List ℕ = take (length piece - 1) piece in
    let len : length piece ≡ length body + 1 = ap length ends ∙ length-append body (10 ∷ []) in
    let before : Progress = record p { fed = p.fed + length body; rest = p.rest ++ body } in
    let below : p.fed + length body ≢ most_bytes = omega arith in
    let whole : suc (p.fed + length body) ≡ p.fed + length piece = omega arith in
    ap (fed p) ends ∙ fed-append p body (10 ∷ [])
    ∙ ap (λ r. then_take r (λ q. fed q (10 ∷ []))) (fed_body p body once (omega arith))
    ∙ ap (λ r. then_take r (λ q. fed q [])) (end_byte before below)
    ∙ then_ok (after_line (record before { fed = suc before.fed; rest = [] }) (before.rest ++ 10 ∷ []))
    ∙ ap (λ n. after_line (record p { fed = n; rest = [] }) ((p.rest ++ body) ++ 10 ∷ [])) whole
    ∙ ap (λ bs. after_line (record p { fed = p.fed + length piece; rest = [] }) bs) (append_assoc p.rest body (10 ∷ []) ∙ ap (λ bs. p.rest ++ bs) (sym ends))
  where
    then_ok : (r : Reader) → then_take r (λ q. Ok q) ≡ r
    then_ok (Ok q) = refl
    then_ok (Err f) = refl

pub rest_refused : (p q : Progress) (rest : List ℕ) (n : ℕ) → rest ≢ [] → after_line (record p { rest = [] }) rest ≡ Ok q → n ≡ p.lines + 1 → ended_line p rest ≡ Err (fault.Grammar n)
rest_refused p q [] n some e k = absurd (some refl)
rest_refused p q (c ∷ cs) n some e k =
    let next : suc p.lines ≡ n = omega arith in
    ap (or_misplaced (suc p.lines)) e ∙ ap (λ m. Err (fault.Grammar m)) next

-- ---- lines, one after another

-- where the first LF stands, bytes before it have none
pub piece_ends : (bytes : List ℕ) (n : ℕ) → position (λ c. c == 10) bytes ≡ Some n → take (n + 1) bytes ≡ take n bytes ++ 10 ∷ []
piece_ends bytes n e =
    let at = position-Some (λ c. c == 10) bytes n 0 e in
    take_more bytes n 0 at.0 ∙ ap (λ (c : ℕ). take n bytes ++ c ∷ []) (eqb-true (get_or bytes n 0) 10 at.1)

pub piece_once : (bytes : List ℕ) (n : ℕ) → position (λ c. c == 10) bytes ≡ Some n → All (λ c. c ≢ 10) (take n bytes)
piece_once bytes n e =
    let at = position-Some (λ c. c == 10) bytes n 0 e in
    All-from_get_or (λ c. c ≢ 10) (take n bytes) 0 (λ k l.
    let below : k < n = omega (arith, length-take-le n bytes (omega (arith, at.0))) in
    let other : get_or bytes k 0 ≡ 10 → ⊥ = eqb-false (get_or bytes k 0) 10 (at.2 k below) in
    λ same. other (sym (get_or-take n bytes k 0 below) ∙ same))

no_end : (bytes : List ℕ) → length bytes ≤ position_or_len (λ c. c == 10) bytes → All (λ c. c ≢ 10) bytes
no_end [] h = All-nil (λ c. c ≢ 10)
no_end (c ∷ cs) h = by (cases_Bool (c == 10)) (λ l. no_end cs l)
  where
    by : ((c == 10) ≡ true) ⊎ ((c == 10) ≡ false) → (length cs ≤ position_or_len (λ x. x == 10) cs → All (λ x. x ≢ 10) cs) → All (λ x. x ≢ 10) (c ∷ cs)
    by (inl e) rest =
        let none : position_or_len (λ x. x == 10) (c ∷ cs) ≡ 0 = ap (λ b. cond (not b) (1 + position_or_len (λ x. x == 10) cs) 0) e in
        absurd (omega arith)
    by (inr e) rest =
        let more : position_or_len (λ x. x == 10) (c ∷ cs) ≡ 1 + position_or_len (λ x. x == 10) cs = ap (λ b. cond (not b) (1 + position_or_len (λ x. x == 10) cs) 0) e in
        All-cons (λ x. x ≢ 10) c cs (eqb-false c 10 e) (rest (omega arith))

-- where no LF stands, all bytes are plain
pub all_plain : (bytes : List ℕ) → position (λ c. c == 10) bytes ≡ None → All (λ c. c ≢ 10) bytes
all_plain bytes e = by (cases_Bool (nat_lt (position_or_len (λ c. c == 10) bytes) (length bytes)))
  where
    by : (nat_lt (position_or_len (λ c. c == 10) bytes) (length bytes) ≡ true) ⊎ (nat_lt (position_or_len (λ c. c == 10) bytes) (length bytes) ≡ false) → All (λ c. c ≢ 10) bytes
    by (inl t) =
        let wrong : Some (position_or_len (λ c. c == 10) bytes) ≡ None = sym (ap (λ b. cond b (Some (position_or_len (λ c. c == 10) bytes)) None) t) ∙ e in absurd (cc)
    by (inr f) = no_end bytes (ltb-false (position_or_len (λ c. c == 10) bytes) (length bytes) f)

-- how far bytes have been fed: what is left of them leads where all of them do
pub record IsFedSoFar (begin now : Progress) (bytes left : List ℕ) : Type 0 where
  pub leads : fed begin bytes ≡ fed now left
  pub count : now.fed + length left ≡ begin.fed + length bytes
  pub room : now.lines + length now.rest ≤ now.fed

pub IsFedSoFar-begun : (p : Progress) (bytes : List ℕ) → p.lines + length p.rest ≤ p.fed → IsFedSoFar p p bytes bytes
IsFedSoFar-begun p bytes h = record { leads = refl; count = refl; room = h }

split_fed : (p : Progress) (left : List ℕ) (n : ℕ) → fed p left ≡ then_take (fed p (take n left)) (λ q. fed q (drop n left))
split_fed p left n = ap (fed p) (sym (take-append-drop n left)) ∙ fed-append p (take n left) (drop n left)

pub IsFedSoFar-next : (begin p q : Progress) (bytes left : List ℕ) (n : ℕ) → n ≤ length left → fed p (take n left) ≡ Ok q → q.fed ≡ p.fed + n → q.lines + length q.rest ≤ q.fed →
    IsFedSoFar begin p bytes left → IsFedSoFar begin q bytes (drop n left)
IsFedSoFar-next begin p q bytes left n l e f room h = record {
  leads = h.leads ∙ split_fed p left n ∙ ap (λ r. then_take r (λ x. fed x (drop n left))) e;
  count = omega (arith, length-drop n left, h.count, f);
  room = room;
}

pub fed_refused : (begin p : Progress) (bytes left : List ℕ) (n : ℕ) (f : VerifyFault) → fed p (take n left) ≡ Err f → IsFedSoFar begin p bytes left → fed begin bytes ≡ Err f
fed_refused begin p bytes left n f e h = h.leads ∙ split_fed p left n ∙ ap (λ r. then_take r (λ x. fed x (drop n left))) e

-- bytes past the limit are refused
pub fed_too_far : (p q : Progress) (bytes : List ℕ) (n : ℕ) → n < length bytes → fed p (take n bytes) ≡ Ok q → q.fed ≡ most_bytes → fed p bytes ≡ Err fault.Long
unfolding fed fed_byte
fed_too_far p q bytes n l e full = split_fed p bytes n ∙ ap (λ r. then_take r (λ x. fed x (drop n bytes))) e ∙ by (drop n bytes) (omega (arith, length-drop n bytes))
  where
    by : (rest : List ℕ) → 0 < length rest → fed q rest ≡ Err fault.Long
    by [] m = absurd (omega arith)
    by (c ∷ cs) m = ap (λ (b : Bool). then_take (cond b (Err fault.Long) (taken_byte (record q { fed = suc q.fed }) c)) (λ after. fed after cs)) (eq-eqb q.fed most_bytes full)

-- ---- what functions leave, where `v` is what they found

pub bytes_kept : (p v : Progress) (bytes rest : List ℕ) → v ≡ p → rest ≡ v.rest ++ bytes → All (λ c. c ≢ 10) bytes → v.fed + length bytes ≤ most_bytes →
    fed p bytes ≡ Ok (record v { fed = v.fed + length bytes; rest = rest })
bytes_kept p v bytes rest e kept plain room =
    ap (λ x. fed x bytes) (sym e) ∙ fed_body v bytes plain room ∙ ap (λ bs. Ok (record v { fed = v.fed + length bytes; rest = bs })) (sym kept)

pub piece_told : {A : Type 0} (p v q : Progress) (piece line none : List ℕ) (r : Result A VerifyFault) → v ≡ p → line ≡ v.rest ++ piece → none ≡ [] →
    piece ≡ take (length piece - 1) piece ++ 10 ∷ [] → All (λ c. c ≢ 10) (take (length piece - 1) piece) → v.fed + length piece ≤ most_bytes →
    IsTold (after_line (record v { fed = v.fed + length piece; rest = none }) line) q r → IsTold (fed p piece) q r
piece_told p v q piece line none r e joined empty ends once room h =
    let same : fed p piece ≡ after_line (record v { fed = v.fed + length piece; rest = none }) line =
    ap (λ x. fed x piece) (sym e) ∙ whole_line v piece ends once room
    ∙ ap (λ bs. after_line (record v { fed = v.fed + length piece; rest = bs }) (v.rest ++ piece)) (sym empty)
    ∙ ap (λ bs. after_line (record v { fed = v.fed + length piece; rest = none }) bs) (sym joined) in
    subst (λ due. IsTold due q r) (sym same) h

pub rest_told : (p v q : Progress) (line none : List ℕ) (n : ℕ) → v ≡ p → none ≡ [] → line ≡ v.rest → p.rest ≢ [] →
    after_line (record v { rest = none }) line ≡ Ok q → q.lines ≡ v.lines + 1 → n ≡ q.lines → ended_line p p.rest ≡ Err (fault.Grammar n)
rest_told p v q line none n e empty is some told next same =
    let from : after_line (record p { rest = [] }) p.rest ≡ Ok q =
    ap (λ (x : Progress). after_line (record x { rest = [] }) x.rest) (sym e) ∙ ap (λ bs. after_line (record v { rest = bs }) v.rest) (sym empty)
    ∙ ap (λ bs. after_line (record v { rest = none }) bs) (sym is) ∙ told in
    rest_refused p q p.rest n some from (same ∙ next ∙ ap (λ (x : Progress). x.lines + 1) e)

-- ---- the end

pub finished_rest : (p : Progress) (rest : List ℕ) (f : VerifyFault) → p.rest ≡ rest → rest ≢ [] → ended_line p rest ≡ Err f → finished p ≡ Err f
unfolding finished
finished_rest p [] f is some e = absurd (some refl)
finished_rest p (c ∷ cs) f is some e = ap (at_rest p) is ∙ e

pub finished_early : (p : Progress) (o : Open) (f : VerifyFault) → p.rest ≡ [] → p.opened ≡ o → is_ended o ≡ false → without_end p ≡ Err f → finished p ≡ Err f
unfolding finished
finished_early p o f none is not_yet e = ap (at_rest p) none ∙ ap (at_end p) is ∙ by o not_yet
  where
    by : (o : Open) → is_ended o ≡ false → at_end p o ≡ Err f
    by Fresh h = e
    by Between h = e
    by (Refuting header log) h = e
    by (Showing header pair) h = e
    by (Spending header budget count log) h = e
    by Ended h = absurd (let wrong : true ≡ false = h in cc)

pub finished_whole : (p : Progress) (o : Open) → p.rest ≡ [] → p.opened ≡ o → is_ended o ≡ true → finished p ≡ Ok p
unfolding finished
finished_whole p o none is e = ap (at_rest p) none ∙ ap (at_end p) is ∙ by o e
  where
    by : (o : Open) → is_ended o ≡ true → at_end p o ≡ Ok p
    by Fresh h = absurd (let wrong : false ≡ true = h in cc)
    by Between h = absurd (let wrong : false ≡ true = h in cc)
    by (Refuting header log) h = absurd (let wrong : false ≡ true = h in cc)
    by (Showing header pair) h = absurd (let wrong : false ≡ true = h in cc)
    by (Spending header budget count log) h = absurd (let wrong : false ≡ true = h in cc)
    by Ended h = refl

pub reported : (due : Reader) (p : Progress) (report : Report) → due ≡ Ok p → IsReportOf p report → IsReported due report
reported due p report e h = subst (λ r. IsReported r report) (sym e) h

pub no_bytes : (xs : List ℕ) → length xs ≡ 0 → xs ≡ []
no_bytes [] e = refl
no_bytes (x ∷ xs) e = absurd (omega arith)

-- ---- the first piece of bytes

pub piece_front : (bytes : List ℕ) (n : ℕ) → n < length bytes → take (length (take (n + 1) bytes) - 1) (take (n + 1) bytes) ≡ take n bytes
piece_front bytes n l =
    let len : length (take (n + 1) bytes) - 1 ≡ n = omega (arith, length-take-le (n + 1) bytes (omega arith)) in
    ap (λ k. take k (take (n + 1) bytes)) len ∙ ap (take n) (take_more bytes n 0 l)
    ∙ take-append-le n (take n bytes) (get_or bytes n 0 ∷ []) (omega (arith, length-take-le n bytes (omega arith)))
    ∙ take_all n (take n bytes) (omega (arith, length-take-le n bytes (omega arith)))

pub front_ends : (bytes piece : List ℕ) (n : ℕ) → position (λ c. c == 10) bytes ≡ Some n → piece ≡ take (n + 1) bytes → piece ≡ take (length piece - 1) piece ++ 10 ∷ []
front_ends bytes piece n e is =
    let at = position-Some (λ c. c == 10) bytes n 0 e in
    subst (λ xs. xs ≡ take (length xs - 1) xs ++ 10 ∷ []) (sym is) (piece_ends bytes n e ∙ ap (λ xs. xs ++ 10 ∷ []) (sym (piece_front bytes n at.0)))

pub front_once : (bytes piece : List ℕ) (n : ℕ) → position (λ c. c == 10) bytes ≡ Some n → piece ≡ take (n + 1) bytes → All (λ c. c ≢ 10) (take (length piece - 1) piece)
front_once bytes piece n e is =
    let at = position-Some (λ c. c == 10) bytes n 0 e in
    subst (λ xs. All (λ c. c ≢ 10) (take (length xs - 1) xs)) (sym is) (subst (All (λ c. c ≢ 10)) (sym (piece_front bytes n at.0)) (piece_once bytes n e))

-- ---- bytes up to the limit

pub near_refused : (p v : Progress) (bytes near : List ℕ) (n : ℕ) (f : VerifyFault) → v ≡ p → near ≡ take n bytes → fed v near ≡ Err f → fed p bytes ≡ Err f
near_refused p v bytes near n f e is told =
    ap (λ x. fed x bytes) (sym e) ∙ split_fed v bytes n ∙ ap (λ r. then_take r (λ x. fed x (drop n bytes))) (ap (fed v) (sym is) ∙ told)

pub far_refused : (p v q : Progress) (bytes near : List ℕ) (n : ℕ) → v ≡ p → near ≡ take n bytes → n < length bytes → fed v near ≡ Ok q → q.fed ≡ most_bytes → fed p bytes ≡ Err fault.Long
far_refused p v q bytes near n e is l told full = ap (λ x. fed x bytes) (sym e) ∙ fed_too_far v q bytes n l (ap (fed v) (sym is) ∙ told) full

pub some_bytes : (n : ℕ) (xs : List ℕ) (b : Bool) → n ≡ length xs → b ≡ (n == 0) → b ≡ false → xs ≢ []
some_bytes n xs b len test isnt e =
    let none : n ≡ 0 = len ∙ ap length e in
    let wrong : true ≡ false = sym (eq-eqb n 0 none) ∙ sym test ∙ isnt in absurd (true≢false wrong)

pub none_left : (n : ℕ) (xs : List ℕ) (b : Bool) → n ≡ length xs → b ≡ (n == 0) → b ≡ true → xs ≡ []
none_left n xs b len test is = no_bytes xs (omega (arith, eqb-true n 0 (sym test ∙ is), len))

-- ---- whole texts

pub answered_after : (begin after : Reader) (r : Result Report VerifyFault) → begin ≡ after → IsAnswer (then_take after finished) r → IsAnswer (then_take begin finished) r
answered_after begin after r e h = subst (λ x. IsAnswer (then_take x finished) r) (sym e) h

pub refused_before : (begin : Reader) (f : VerifyFault) → (f ≢ fault.Memory → begin ≡ Err f) → IsAnswer (then_take begin finished) (Err f)
refused_before begin f due = λ n. ap (λ r. then_take r finished) (due n)

pub whole_answered : (d : Desc) (family : Family) (bytes : List ℕ) (r : Result Report VerifyFault) → length bytes ≤ most_bytes →
    IsAnswer (then_take (fed (begun d family) bytes) finished) r → IsAnswer (verified_whole d family bytes) r
unfolding verified
whole_answered d family bytes r l h =
    subst (λ x. IsAnswer x r) (sym (ap (λ b. cond b (Err fault.Long) (verified d family bytes)) (le-ltb most_bytes (length bytes) l))) h

-- A file that is handed over part by part to a verifier: what is handed over, and what is made of it.
use Rattle.std.proofs.Common.{◌≡◌, ◌≢◌, ℕ, suc, ◌+◌, ◌<◌, ◌≤◌, Bool, true, false, nat_lt, if◌then◌else◌, List, [], ◌∷◌, ◌++◌, length, take, drop, Option, None, Some, IsSomeAnd, Ok, Err, inl, inr, refl, sym, ap, subst, ◌∙◌, arith, length-append}
use Rattle.std.specs.Result.{IsOk}
use Rattle.std.proofs.lemmas.Bool.{eq-eqb, ltb-true, ltb-false}
use Rattle.std.proofs.lemmas.List.{take-append-drop, take_all, length-take}
use Rattle.std.proofs.Math.Seq.{take-add}
use Rattle.pg_ast.specs.declared.tree.Desc.{Desc}
use Rattle.pg_edge.specs.Shelf.{Files, HoldsFile, HoldsLonger, HasSize, IsPart, HoldsPart}
use Rattle.pg_cert.specs.declared.cert.Family.{Family}
use Rattle.pg_cert.specs.declared.report.Report.{Report}
use Rattle.pg_report.specs.declared.line.RefusalLine.TheVariants.{Certificate}
use Rattle.pg_report.specs.declared.line.CertificateLine.{CertificateLine}
use Rattle.pg_report.specs.declared.line.CertificateLine.TheVariants as told_line
use Rattle.pg_verify.specs.declared.fault.VerifyFault.{VerifyFault}
use Rattle.pg_verify.specs.declared.fault.VerifyFault.TheVariants as fault
use Rattle.pg_verify.specs.Reader.{Progress, Reader}
use Rattle.pg_verify.specs.Taking.{then_take}
use Rattle.pg_verify.specs.Feeding.{most_bytes, begun, taken_byte, fed_byte, fed, finished, verified, IsAnswer}
use Rattle.pg_verify.proofs.ReachLemmas.{fed-append}
use Rattle.pg_verify.proofs.SpellLemmas.{IsRead, none_read, bytes_read}
use Rattle.pg_cmd_base.specs.declared.refusal.Refusal.TheVariants.{Line}
use Rattle.pg_cmd_base.specs.declared.refusal.Stop.{Stop}
use Rattle.pg_cmd_base.specs.declared.refusal.Stop.TheVariants as stop
use Rattle.pg_cmd_base.specs.Answering.{Comes}
use Rattle.pg_verify.proofs.SpellLemmas.{taken_texts_spell}
use Rattle.pg_cmd_certs.specs.Certificates.{told_of_verifying, IsCertificate, CertTextDue, CertDue}
use Rattle.pg_cmd_base.specs.FileSteps.{Faulty, HoldsWithin, FromFile}
use Rattle.pg_cmd_certs.specs.Parts.{HoldsUpTo, HoldsFront, IsFed, IsStopOf}
use Rattle.pg_cmd_base.specs.Steps.{Refused}

-- ---- parts of a file

-- the bytes so far and the part behind them are the bytes so far
part_behind : (content bytes part : List ℕ) (at : ℕ) → at ≡ length bytes → take (length bytes) content ≡ bytes → IsPart content at part → take (length (bytes ++ part)) content ≡ bytes ++ part
part_behind content bytes part at counted front is =
    ap (λ n. take n content) (length-append bytes part)
    ∙ take-add (length bytes) (length part) content
    ∙ ap (λ xs. xs ++ take (length part) (drop (length bytes) content)) front
    ∙ ap (λ n. bytes ++ take (length part) (drop n content)) (sym counted)
    ∙ ap (λ xs. bytes ++ xs) is.front

front_none : (told : Option Files) (name : List ℕ) (limit : ℕ) → HoldsUpTo told name limit → HoldsFront told name []
front_none None name limit h = tt
front_none (Some files) name limit h = by (files name) h
  where
    by : (o : Option (List ℕ)) → IsSomeAnd o (λ bytes. length bytes ≤ limit) → IsSomeAnd o (λ bytes. take 0 bytes ≡ [])
    by None h = absurd h
    by (Some content) h = refl

front_more : (told : Option Files) (name bytes part : List ℕ) (at : ℕ) → at ≡ length bytes → HoldsFront told name bytes → HoldsPart told name at part → HoldsFront told name (bytes ++ part)
front_more None name bytes part at counted h k = tt
front_more (Some files) name bytes part at counted h k = by (files name) h k
  where
    by : (o : Option (List ℕ)) → IsSomeAnd o (λ content. take (length bytes) content ≡ bytes) → IsSomeAnd o (λ content. IsPart content at part) →
        IsSomeAnd o (λ content. take (length (bytes ++ part)) content ≡ bytes ++ part)
    by None h k = absurd h
    by (Some content) h k = part_behind content bytes part at counted h k

not_below : (a b : ℕ) → (a < b → ⊥) → b ≤ a
not_below a b none = by (nat_lt a b) refl
  where
    by : (less : Bool) → nat_lt a b ≡ less → b ≤ a
    by true e = absurd (none (ltb-true a b e))
    by false e = ltb-false a b e

-- an empty part is behind the last byte
whole : (told : Option Files) (name bytes : List ℕ) (at : ℕ) → at ≡ length bytes → HoldsFront told name bytes → HoldsPart told name at [] → HoldsFile told name bytes
whole None name bytes at counted h k = tt
whole (Some files) name bytes at counted h k = by (files name) h k
  where
    by : (o : Option (List ℕ)) → IsSomeAnd o (λ content. take (length bytes) content ≡ bytes) → IsSomeAnd o (λ content. IsPart content at []) → o ≡ Some bytes
    by None h k = absurd h
    by (Some content) h k =
        let short : length content ≤ length bytes = subst (λ n. length content ≤ n) counted (not_below at (length content) (λ l. let some = k.some l in omega (arith, some))) in
        ap (λ xs. Some xs) (sym (take_all (length bytes) content short) ∙ h)

-- a part of no byte
pub no_bytes : (part : List ℕ) → length part ≡ 0 → part ≡ []
no_bytes [] e = refl
no_bytes (c ∷ cs) e = absurd (omega arith)

-- ---- what was handed over

pub none_fed : (d : Desc) (family : Family) (told : Option Files) (name : List ℕ) → HoldsUpTo told name most_bytes → IsFed d family told name 0 (Ok (begun d family))
unfolding fed
none_fed d family told name h = record { bytes = []; front = front_none told name most_bytes h; counted = refl; is_fed = refl }

pub more_fed : (d : Desc) (family : Family) (told : Option Files) (name part : List ℕ) (at : ℕ) (reader next : Reader) → IsFed d family told name at reader → HoldsPart told name at part →
    then_take reader (λ p. fed p part) ≡ next → IsFed d family told name (at + length part) next
more_fed d family told name part at reader next h k e = record {
  bytes = h.bytes ++ part;
  front = front_more told name h.bytes part at h.counted h.front k;
  counted = ap (λ n. n + length part) h.counted ∙ sym (length-append h.bytes part);
  is_fed = sym e ∙ ap (λ r. then_take r (λ p. fed p part)) h.is_fed ∙ sym (fed-append (begun d family) h.bytes part);
}

-- as many bytes were read as were handed over, and no more than there may be
read_of : (d : Desc) (family : Family) (bytes : List ℕ) (p : Progress) → fed (begun d family) bytes ≡ Ok p → IsRead d family bytes p
read_of d family bytes p e = bytes_read d family bytes [] (begun d family) p e (none_read d family)

pub fed_within : (d : Desc) (family : Family) (told : Option Files) (name : List ℕ) (at : ℕ) (p : Progress) → IsFed d family told name at (Ok p) → at ≤ most_bytes
fed_within d family told name at p h =
    let read = read_of d family h.bytes p (sym h.is_fed) in
    let most = read.within in
    let counted = h.counted in
    omega (arith, most, counted)

-- ---- all of it

-- the whole file, and what a text of it comes to
record IsAllFed (d : Desc) (family : Family) (told : Option Files) (name : List ℕ) (reader : Reader) : Type 0 where
  bytes : List ℕ
  held : HoldsWithin told name most_bytes bytes
  is : then_take reader finished ≡ verified d family bytes

all_fed : (d : Desc) (family : Family) (told : Option Files) (name : List ℕ) (at : ℕ) (p : Progress) → IsFed d family told name at (Ok p) → HoldsPart told name at [] → IsAllFed d family told name (Ok p)
unfolding verified
all_fed d family told name at p h k =
    let read = read_of d family h.bytes p (sym h.is_fed) in
    record {
      bytes = h.bytes;
      held = record { holds = whole told name h.bytes at h.counted h.front k; within = read.within };
      is = ap (λ r. then_take r finished) h.is_fed;
    }

pub answer_ok : (due : Reader) (report : Report) → IsAnswer due (Ok report) → (d : Desc) (family : Family) (bytes : List ℕ) → due ≡ verified d family bytes → IsCertificate d family bytes report
answer_ok (Ok p) report h d family bytes e =
    record { progress = p; taken = sym e; kept = h; spelled = taken_texts_spell d family bytes p (sym e) }
answer_ok (Err f) report h d family bytes e = absurd h

-- lack of memory is not told
pub told_known : (d : Desc) (f : VerifyFault) (line : CertificateLine) → told_of_verifying d f ≡ Some line → f ≢ fault.Memory
told_known d f line e m = absurd (let no : None ≡ Some line = sym (ap (told_of_verifying d) m) ∙ e in cc)

-- a certificate that was read to its end
pub all_came : (d : Desc) (family : Family) (told : Option Files) (name : List ℕ) (at : ℕ) (reader : Reader) (p : Progress) (report : Report) (before after : ℕ) → reader ≡ Ok p → IsFed d family told name at reader → HoldsPart told name at [] →
    IsAnswer (then_take reader finished) (Ok report) → Comes (λ (r : Report). r) (CertDue d family told name) before after (Ok report)
unfolding CertDue
all_came d family told name at reader p report before after ok h k answer =
    let all : IsAllFed d family told name (Ok p) = all_fed d family told name at p (subst (λ r. IsFed d family told name at r) ok h) k in
    (all.bytes, all.held, answer_ok (then_take reader finished) report answer d family all.bytes (ap (λ r. then_take r finished) ok ∙ all.is))

-- ---- refused

-- bytes that are refused are so whatever comes behind
refused_front : (d : Desc) (family : Family) (bytes rest : List ℕ) (f : VerifyFault) → fed (begun d family) bytes ≡ Err f → verified d family (bytes ++ rest) ≡ Err f
unfolding verified
refused_front d family bytes rest f e =
    ap (λ r. then_take r finished) (fed-append (begun d family) bytes rest ∙ ap (λ r. then_take r (λ p. fed p rest)) e)

-- a byte past the limit
past_limit : (p : Progress) (c : ℕ) (cs : List ℕ) → p.fed ≡ most_bytes → fed p (c ∷ cs) ≡ Err fault.Long
unfolding fed fed_byte
past_limit p c cs e = ap (λ (b : Bool). then_take (if b then Err fault.Long else taken_byte (record p { fed = suc p.fed }) c) (λ q. fed q cs)) (eq-eqb p.fed most_bytes e)

abbrev Faults : Desc → Family → Option Files → List ℕ → CertificateLine → Type 0
Faults d family told name line = FromFile told name most_bytes told_line.Long (CertTextDue d family) (Refused (Faulty line))

nothing_fed : (p : Progress) → fed p [] ≡ Ok p
unfolding fed
nothing_fed p = refl

verified_is : (d : Desc) (family : Family) (bytes : List ℕ) → verified d family bytes ≡ then_take (fed (begun d family) bytes) finished
unfolding verified
verified_is d family bytes = refl

-- where nothing is told of the file: its bytes within the limit are refused so, or it is too long
untold_refused : (d : Desc) (family : Family) (name bytes : List ℕ) (f : VerifyFault) (line : CertificateLine) → fed (begun d family) bytes ≡ Err f → told_of_verifying d f ≡ Some line → Faults d family None name line
untold_refused d family name bytes f line e t = by (fed (begun d family) (take most_bytes bytes)) refl (drop most_bytes bytes) refl
  where
    split : fed (begun d family) bytes ≡ then_take (fed (begun d family) (take most_bytes bytes)) (λ q. fed q (drop most_bytes bytes))
    split = ap (λ bs. fed (begun d family) bs) (sym (take-append-drop most_bytes bytes)) ∙ fed-append (begun d family) (take most_bytes bytes) (drop most_bytes bytes)

    by : (r : Reader) → fed (begun d family) (take most_bytes bytes) ≡ r → (rest : List ℕ) → drop most_bytes bytes ≡ rest → Faults d family None name line
    by (Err g) er rest es =
        let same : Err g ≡ Err f = sym (ap (λ r. then_take r (λ q. fed q (drop most_bytes bytes))) er) ∙ sym split ∙ e in
        inr (
          take most_bytes bytes,
          record { holds = tt; within = omega (arith, length-take most_bytes bytes) },
          record { fault = f; first = verified_is d family (take most_bytes bytes) ∙ ap (λ r. then_take r finished) er ∙ same; told = t },
        )
    by (Ok q) er [] es = absurd (let no : Ok q ≡ Err f = sym (ap (λ bs. fed q bs) es ∙ nothing_fed q) ∙ sym (ap (λ r. then_take r (λ x. fed x (drop most_bytes bytes))) er) ∙ sym split ∙ e in cc)
    by (Ok q) er (c ∷ cs) es =
        let read = read_of d family (take most_bytes bytes) q er in
        let longer : length (take most_bytes bytes) + suc (length cs) ≡ length bytes =
        ap (λ bs. length (take most_bytes bytes) + length bs) (sym es) ∙ sym (length-append (take most_bytes bytes) (drop most_bytes bytes)) ∙ ap length (take-append-drop most_bytes bytes) in
        let fed_is = read.fed_is in
        let full : q.fed ≡ most_bytes = omega (arith, longer, fed_is, length-take most_bytes bytes) in
        let long : Err fault.Long ≡ Err f =
        sym (ap (λ bs. fed q bs) es ∙ past_limit q c cs full) ∙ sym (ap (λ r. then_take r (λ x. fed x (drop most_bytes bytes))) er) ∙ sym split ∙ e in
        let same : fault.Long ≡ f = cc in
        let is : Some told_line.Long ≡ Some line = ap (told_of_verifying d) same ∙ t in
        let line_is : line ≡ told_line.Long = cc in
        inl (tt, line_is)

-- where the file is told, and is not too long
told_refused : (d : Desc) (family : Family) (files : Files) (name bytes : List ℕ) (f : VerifyFault) (line : CertificateLine) → HoldsUpTo (Some files) name most_bytes → HoldsFront (Some files) name bytes →
    fed (begun d family) bytes ≡ Err f → told_of_verifying d f ≡ Some line → Faults d family (Some files) name line
told_refused d family files name bytes f line up front e t = by (files name) refl up front
  where
    by : (o : Option (List ℕ)) → files name ≡ o → IsSomeAnd o (λ content. length content ≤ most_bytes) → IsSomeAnd o (λ content. take (length bytes) content ≡ bytes) → Faults d family (Some files) name line
    by None eo up front = absurd up
    by (Some content) eo up front =
        let parts : bytes ++ drop (length bytes) content ≡ content = ap (λ bs. bs ++ drop (length bytes) content) (sym front) ∙ take-append-drop (length bytes) content in
        inr (
          content,
          record { holds = eo; within = up },
          record { fault = f; first = ap (λ bs. verified d family bs) (sym parts) ∙ refused_front d family bytes (drop (length bytes) content) f e; told = t },
        )

fault_due : (d : Desc) (family : Family) (told : Option Files) (name bytes : List ℕ) (f : VerifyFault) (line : CertificateLine) → HoldsUpTo told name most_bytes → HoldsFront told name bytes →
    fed (begun d family) bytes ≡ Err f → told_of_verifying d f ≡ Some line → Faults d family told name line
fault_due d family None name bytes f line up front e t = untold_refused d family name bytes f line e t
fault_due d family (Some files) name bytes f line up front e t = told_refused d family files name bytes f line up front e t

-- a certificate of which a part was refused
pub part_stops : (d : Desc) (family : Family) (told : Option Files) (name part : List ℕ) (at : ℕ) (reader : Reader) (f : VerifyFault) (why : Stop) (before after : ℕ) → HoldsUpTo told name most_bytes → IsFed d family told name at reader →
    HoldsPart told name at part → (f ≢ fault.Memory → then_take reader (λ p. fed p part) ≡ Err f) → IsStopOf d f why → Comes (λ (r : Report). r) (CertDue d family told name) before after (Err why)
unfolding CertDue
part_stops d family told name part at reader f (stop.Refused why) before after up h k due told_as =
    let e : fed (begun d family) (h.bytes ++ part) ≡ Err f =
    fed-append (begun d family) h.bytes part ∙ sym (ap (λ r. then_take r (λ p. fed p part)) h.is_fed) ∙ due (told_known d f told_as.0 told_as.1) in
    (Faulty told_as.0, fault_due d family told name (h.bytes ++ part) f told_as.0 up (front_more told name h.bytes part at h.counted h.front k) e told_as.1, told_as.2)
part_stops d family told name part at reader f stop.ReadFault before after up h k due told_as = absurd told_as
part_stops d family told name part at reader f stop.Memory before after up h k due told_as = tt

-- one that was refused at its end
pub end_stops : (d : Desc) (family : Family) (told : Option Files) (name : List ℕ) (at : ℕ) (reader : Reader) (p : Progress) (f : VerifyFault) (why : Stop) (before after : ℕ) → reader ≡ Ok p → IsFed d family told name at reader →
    HoldsPart told name at [] → IsAnswer (then_take reader finished) (Err f) → IsStopOf d f why → Comes (λ (r : Report). r) (CertDue d family told name) before after (Err why)
unfolding CertDue
end_stops d family told name at reader p f (stop.Refused why) before after ok h k answer told_as =
    let all : IsAllFed d family told name (Ok p) = all_fed d family told name at p (subst (λ r. IsFed d family told name at r) ok h) k in
    let e : verified d family all.bytes ≡ Err f = sym (ap (λ r. then_take r finished) ok ∙ all.is) ∙ answer (told_known d f told_as.0 told_as.1) in
    (Faulty told_as.0, inr (all.bytes, all.held, record { fault = f; first = e; told = told_as.1 }), told_as.2)
end_stops d family told name at reader p f stop.ReadFault before after ok h k answer told_as = absurd told_as
end_stops d family told name at reader p f stop.Memory before after ok h k answer told_as = tt

-- ---- the same of a verifier that has refused nothing

pub ok_within : (d : Desc) (family : Family) (told : Option Files) (name : List ℕ) (at : ℕ) (reader : Reader) → IsFed d family told name at reader → IsOk reader → at ≤ most_bytes
ok_within d family told name at (Ok p) h ok = fed_within d family told name at p h
ok_within d family told name at (Err f) h ok = absurd (cc)

pub ok_came : (d : Desc) (family : Family) (told : Option Files) (name : List ℕ) (at : ℕ) (reader : Reader) (report : Report) (before after : ℕ) → IsOk reader → IsFed d family told name at reader → HoldsPart told name at [] →
    IsAnswer (then_take reader finished) (Ok report) → Comes (λ (r : Report). r) (CertDue d family told name) before after (Ok report)
ok_came d family told name at (Ok p) report before after ok h k answer = all_came d family told name at (Ok p) p report before after refl h k answer
ok_came d family told name at (Err f) report before after ok h k answer = absurd (cc)

pub ok_stops : (d : Desc) (family : Family) (told : Option Files) (name : List ℕ) (at : ℕ) (reader : Reader) (f : VerifyFault) (why : Stop) (before after : ℕ) → IsOk reader → IsFed d family told name at reader → HoldsPart told name at [] →
    IsAnswer (then_take reader finished) (Err f) → IsStopOf d f why → Comes (λ (r : Report). r) (CertDue d family told name) before after (Err why)
ok_stops d family told name at (Ok p) f why before after ok h k answer told_as = end_stops d family told name at (Ok p) p f why before after refl h k answer told_as
ok_stops d family told name at (Err g) f why before after ok h k answer told_as = absurd (cc)

-- ---- the size

pub size_fits : (told : Option Files) (name : List ℕ) (size : ℕ) → HasSize told name size → size ≤ most_bytes → HoldsUpTo told name most_bytes
size_fits None name size h l = tt
size_fits (Some files) name size h l = by (files name) h
  where
    by : (o : Option (List ℕ)) → IsSomeAnd o (λ bytes. size ≡ length bytes) → IsSomeAnd o (λ bytes. length bytes ≤ most_bytes)
    by None h = absurd h
    by (Some content) h = subst (λ n. n ≤ most_bytes) h l

size_longer : (told : Option Files) (name : List ℕ) (size : ℕ) → HasSize told name size → most_bytes < size → HoldsLonger told name most_bytes
size_longer None name size h l = tt
size_longer (Some files) name size h l = by (files name) h
  where
    by : (o : Option (List ℕ)) → IsSomeAnd o (λ bytes. size ≡ length bytes) → IsSomeAnd o (λ bytes. most_bytes < length bytes)
    by None h = absurd h
    by (Some content) h = subst (λ n. most_bytes < n) h l

pub size_stops : (d : Desc) (family : Family) (told : Option Files) (name : List ℕ) (size : ℕ) → HasSize told name size → most_bytes < size →
    CertDue d family told name (Refused (Line (Certificate told_line.Long)))
unfolding CertDue
size_stops d family told name size h l = (Faulty told_line.Long, inl (size_longer told name size h l, refl), refl)

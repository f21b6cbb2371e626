-- Puts one after another, of which one may find no memory; and findings one after another.
use Rattle.std.proofs.Common.{◌≡◌, ℕ, zero, suc, ◌+◌, ◌-◌, ◌/◌, ◌%◌, ◌<◌, ◌≤◌, ◌^◌, List, [], ◌++◌, length, get_or, Option, Some, None, Result, Ok, Err, refl, sym, ◌∙◌, ap, ap₂, arith}
use Rattle.std.specs.Prelude.{slice_get}
use Rattle.std.proofs.lemmas.Option.{get_or_from_slice_get, slice_get-get_or}
use Rattle.std.proofs.lemmas.List.{append-nil, append_assoc}
use Rattle.pg_edge.specs.Told.{BothTold}
use Rattle.pg_edge.specs.Sink.{Puts, AddsFront}
use Rattle.pg_edge.proofs.CountLaws.{Rose-earlier}
use Rattle.pg_edge.proofs.PutsLaws.{Adds-nil, Adds-append, AddsFront-append, Puts-stopped}
use Rattle.pg_ast.specs.declared.tree.Desc.{Desc}
use Rattle.pg_lang_valid.specs.Twice.{instr_names}
use Rattle.pg_type.specs.declared.kind.Kind.{Kind}
use Rattle.pg_type.specs.declared.kind.Kind.TheVariants.{Privileged}
use Rattle.pg_cert.specs.declared.cert.Family.{Family}
use Rattle.pg_cert.specs.declared.report.Mark.{Mark}
use Rattle.pg_cert.specs.declared.report.Mark.TheVariants.{Refuted}
use Rattle.pg_cert.specs.Texts.{name_of, instr_of, kind_of}
use Rattle.pg_cert.specs.Verdicts.{kinds_of}
use Rattle.pg_report.specs.declared.replay.ReplayFault.{ReplayFault}
use Rattle.pg_report.specs.declared.replay.ReplayFault.TheVariants.{Failed, Memory}
use Rattle.pg_report.specs.Replays.{PutsOrStarves, replayed_at, replayed_text, replays_before}
use Rattle.pg_report.proofs.Verdicts.{name_read}

-- ---- puts one after another

-- nothing put is the empty piece put
pub nothing_starves : {T : Type 0} (told : Option (List ℕ)) (faults : ℕ) (done : T) → PutsOrStarves told told faults faults [] (Ok done)
nothing_starves told faults done = record { whole = Adds-nil told; front = tt; later = omega arith; quiet = λ no. refl; cause = λ h. absurd (cc h) }

-- a put that went through
pub put_whole : {T U E : Type 0} (was now : Option (List ℕ)) (before after : ℕ) (piece : List ℕ) (x : T) (y : U) →
    Puts {E = E} was now before after piece (Ok x) → PutsOrStarves was now before after piece (Ok y)
put_whole was now before after piece x y p = record { whole = p.whole; front = tt; later = p.later; quiet = λ no. p.quiet; cause = λ h. absurd (cc h) }

-- and one that failed
pub put_failed : {T U E : Type 0} (was now : Option (List ℕ)) (before after : ℕ) (piece : List ℕ) (fault : E) →
    Puts {T = T} was now before after piece (Err fault) → PutsOrStarves {T = U} was now before after piece (Err Failed)
put_failed was now before after piece fault p = record { whole = tt; front = p.front; later = p.later; quiet = λ no. absurd (no refl); cause = λ h. p.cause }

-- no memory, before anything was put
pub starved : {T : Type 0} (told : Option (List ℕ)) (faults : ℕ) → PutsOrStarves {T = T} told told faults faults [] (Err Memory)
starved told faults = record { whole = tt; front = none told; later = omega arith; quiet = λ no. refl; cause = λ h. absurd (cc h) }
  where
    none : (t : Option (List ℕ)) → BothTold t t (AddsFront [])
    none None = tt
    none (Some bytes) = (0, sym (append-nil bytes))

-- after a piece that went through comes another, which may not
pub starves_then : {T U : Type 0} (was mid now : Option (List ℕ)) (before between after : ℕ) (first next : List ℕ) (done : T) (result : Result U ReplayFault) →
    PutsOrStarves was mid before between first (Ok done) → PutsOrStarves mid now between after next result → PutsOrStarves was now before after (first ++ next) result
starves_then was mid now before between after first next done (Ok x) a b = record {
  whole = Adds-append was mid now first next a.whole b.whole;
  front = tt;
  later = omega (arith, a.later, b.later);
  quiet = λ no. b.quiet (λ h. absurd (cc h)) ∙ a.quiet (λ h. absurd (cc h));
  cause = λ h. absurd (cc h);
}
starves_then was mid now before between after first next done (Err e) a b = record {
  whole = tt;
  front = AddsFront-append was mid now first next a.whole b.front;
  later = omega (arith, a.later, b.later);
  quiet = λ no. b.quiet no ∙ a.quiet (λ h. absurd (cc h));
  cause = λ h. Rose-earlier before between after a.later (b.cause h);
}

-- a front of a piece is one of the piece with more behind it
front_longer : (was now : Option (List ℕ)) (piece rest : List ℕ) → BothTold was now (AddsFront piece) → BothTold was now (AddsFront (piece ++ rest))
front_longer was now piece rest f =
    let failed : Puts {T = Unit {0}} was now 0 (2 ^ 64 - 1) piece (Err Failed) = record { whole = tt; front = f; later = omega arith; quiet = tt; cause = omega arith } in
    let more : Puts {T = Unit {0}} was now 0 (2 ^ 64 - 1) (piece ++ rest) (Err Failed) = Puts-stopped was now 0 (2 ^ 64 - 1) piece rest Failed Failed failed in
    more.front

-- after a piece that did not go through nothing more is put
pub starves_stopped : {T U : Type 0} (was now : Option (List ℕ)) (before after : ℕ) (piece rest : List ℕ) (fault : ReplayFault) →
    PutsOrStarves {T = T} was now before after piece (Err fault) → PutsOrStarves {T = U} was now before after (piece ++ rest) (Err fault)
starves_stopped was now before after piece rest fault a = record {
  whole = tt;
  front = front_longer was now piece rest a.front;
  later = a.later;
  quiet = λ no. a.quiet (λ h. no (ap failed h));
  cause = λ h. a.cause (ap failed h);
}
  where
    failed : {T U : Type 0} → Result U ReplayFault → Result T ReplayFault
    failed (Ok x) = Err Memory
    failed (Err e) = Err e

-- ---- findings one after another

module _ (d : Desc) (family : Family) (marks : List Mark) where
  pub replays_none : replays_before d family marks 0 ≡ []
  unfolding replays_before
  replays_none = refl

  pub replays_next : (n : ℕ) → replays_before d family marks (n + 1) ≡ replays_before d family marks n ++ replayed_at d family marks n
  unfolding replays_before
  replays_next n =
      let next : n + 1 ≡ suc n = omega arith in
      rw next refl

  -- what stands behind the first findings
  replays_more : (n m : ℕ) → (rest : List ℕ) × (replays_before d family marks (n + m) ≡ replays_before d family marks n ++ rest)
  replays_more n zero =
      let same : n + 0 ≡ n = omega arith in
      ([], ap (replays_before d family marks) same ∙ sym (append-nil (replays_before d family marks n)))
  replays_more n (suc m) =
      let front = replays_more n m in
      let next : n + suc m ≡ (n + m) + 1 = omega arith in
      let one = replayed_at d family marks (n + m) in (
        front.0 ++ one,
        ap (replays_before d family marks) next ∙ replays_next (n + m) ∙ ap (λ t. t ++ one) front.1 ∙ append_assoc (replays_before d family marks n) front.0 one,
      )

  pub replays_front : (n all : ℕ) → n ≤ all → (rest : List ℕ) × (replays_before d family marks all ≡ replays_before d family marks n ++ rest)
  replays_front n all within =
      let more = replays_more n (all - n) in
      let whole : all ≡ n + (all - n) = omega arith in
      (more.0, ap (replays_before d family marks) whole ∙ more.1)

  -- a finding by what was read of it
  pub finding_read : (n : ℕ) (name : List ℕ) (kinds : List Kind) (items : List Mark) (mark : Mark) → items ≡ marks → n < length marks → kinds ≡ kinds_of family →
      slice_get (instr_names d.instrs) (n / length kinds) ≡ Some name → mark ≡ get_or items n mark →
      replayed_text d name (get_or kinds (n % length kinds) Privileged) mark ≡ replayed_at d family marks n
  finding_read n name kinds items mark same within are_kinds named read =
      let kind : Kind = get_or kinds (n % length kinds) Privileged in
      let mark_is : mark ≡ get_or marks n Refuted =
      read ∙ ap (λ (ms : List Mark). get_or ms n mark) same ∙ sym (get_or_from_slice_get marks n (get_or marks n mark) Refuted (slice_get-get_or marks n mark within)) in
      let name_is : name ≡ name_of d (instr_of family n) =
      name_read d (n / length kinds) name named ∙ ap (λ (ks : List Kind). name_of d (n / length ks)) are_kinds in
      let kind_is : kind ≡ kind_of family n = ap (λ (ks : List Kind). get_or ks (n % length ks) Privileged) are_kinds in
      ap (λ (t : List ℕ). replayed_text d t kind mark) name_is
      ∙ ap₂ (λ (k : Kind) (m : Mark). replayed_text d (name_of d (instr_of family n)) k m) kind_is mark_is

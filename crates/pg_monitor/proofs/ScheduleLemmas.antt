-- Turns by slices, made one round after another.
use Rattle.std.proofs.Common.{◌≡◌, ℕ, suc, ◌+◌, ◌/◌, ◌%◌, List, [], ◌∷◌, ◌++◌, length, map, Option, sym, ◌∙◌, ap, subst, arith, append_assoc}
use Rattle.std.proofs.lemmas.List.{append-nil, length-map}
use Rattle.pg_ast.specs.declared.tree.Desc.{Desc}
use Rattle.pg_lang_meaning.specs.Steps.{steps}
use Rattle.pg_lang_valid.specs.Valid.{IsValid}
use Rattle.pg_hw.specs.Machinery.{Machinery}
use Rattle.pg_mon_control.specs.declared.guest.Guest.{Guest}
use Rattle.pg_mon_control.specs.Guests.{virtual, virtuals}
use Rattle.pg_mon_control.specs.Standing.{Stands}
use Rattle.pg_mon_control.specs.Plans.{after_plan}
use Rattle.pg_monitor.specs.Turns.{Turned}
use Rattle.pg_monitor.specs.Plans.{Followed}
use Rattle.pg_mon_control.specs.Schedules.{round_of, rounds_of, schedule}
use Rattle.pg_monitor.specs.Schedules.{Begun}
use Rattle.pg_mon_control.proofs.ScheduleLemmas.{after_plan-schedule, round_of-more, rounds_of-more}
use Rattle.pg_monitor.proofs.PlanLemmas.{Followed-none, Followed-next}

-- ---- turns that a plan was begun with

pub Begun-turn : (d : Desc) (front : List (ℕ × ℕ)) (k n : ℕ) (old mid new : Machinery) (gs hs ks : List Guest) (c c' c'' : Option ℕ) →
    IsValid d → Stands d mid.state hs c' → Begun d front old mid gs hs c c' → Turned d k n mid new hs ks c' c'' →
    Begun d (front ++ (k, n) ∷ []) old new gs ks c c''
Begun-turn d front k n old mid new gs hs ks c c' c'' valid stands before one = record {
  goes_on = λ plan last ls l rest.
      subst (λ p. Followed d p old last gs ls c l) (sym (append_assoc front ((k, n) ∷ []) plan))
      (before.goes_on ((k, n) ∷ plan) last ls l (Followed-next d (k, n) plan mid new last hs ks ls c' c'' l valid stands one rest));
}

pub Begun-then : (d : Desc) (front back : List (ℕ × ℕ)) (old mid new : Machinery) (gs hs ks : List Guest) (c c' c'' : Option ℕ) →
    Begun d front old mid gs hs c c' → Begun d back mid new hs ks c' c'' → Begun d (front ++ back) old new gs ks c c''
Begun-then d front back old mid new gs hs ks c c' c'' before after = record {
  goes_on = λ plan last ls l rest.
      subst (λ p. Followed d p old last gs ls c l) (sym (append_assoc front back plan))
      (before.goes_on (back ++ plan) last ls l (after.goes_on plan last ls l rest));
}

pub Begun-followed : (d : Desc) (plan : List (ℕ × ℕ)) (old new : Machinery) (gs hs : List Guest) (c c' : Option ℕ) →
    Begun d plan old new gs hs c c' → Followed d plan old new gs hs c c'
Begun-followed d plan old new gs hs c c' begun =
    subst (λ p. Followed d p old new gs hs c c') (append-nil plan) (begun.goes_on [] new hs c' (Followed-none d new hs c'))

-- one guest more of a round
pub Begun-guest : (d : Desc) (k turns : ℕ) (old mid new : Machinery) (gs hs ks : List Guest) (c c' c'' : Option ℕ) →
    IsValid d → Stands d mid.state hs c' → Begun d (round_of 0 k turns) old mid gs hs c c' → Turned d k turns mid new hs ks c' c'' →
    Begun d (round_of 0 (k + 1) turns) old new gs ks c c''
Begun-guest d k turns old mid new gs hs ks c c' c'' valid stands before one =
    let more : round_of 0 k turns ++ (k, turns) ∷ [] ≡ round_of 0 (k + 1) turns =
    sym (ap (λ (n : ℕ). round_of 0 n turns) (let e : k + 1 ≡ suc k = omega arith in e) ∙ round_of-more 0 k turns
    ∙ ap (λ (i : ℕ). round_of 0 k turns ++ (i, turns) ∷ []) (let e : 0 + k ≡ k = omega arith in e)) in
    subst (λ p. Begun d p old new gs ks c c'') more (Begun-turn d (round_of 0 k turns) k turns old mid new gs hs ks c c' c'' valid stands before one)

-- one round more
pub Begun-round : (d : Desc) (count slice rounds : ℕ) (old mid new : Machinery) (gs hs ks : List Guest) (c c' c'' : Option ℕ) →
    Begun d (rounds_of count slice rounds) old mid gs hs c c' → Begun d (round_of 0 count slice) mid new hs ks c' c'' →
    Begun d (rounds_of count slice (rounds + 1)) old new gs ks c c''
Begun-round d count slice rounds old mid new gs hs ks c c' c'' before one =
    let more : rounds_of count slice rounds ++ round_of 0 count slice ≡ rounds_of count slice (rounds + 1) =
    sym (ap (rounds_of count slice) (let e : rounds + 1 ≡ suc rounds = omega arith in e) ∙ rounds_of-more count slice rounds) in
    subst (λ p. Begun d p old new gs ks c c'') more
    (Begun-then d (rounds_of count slice rounds) (round_of 0 count slice) old mid new gs hs ks c c' c'' before one)

-- a round of the same machine, of as many guests and as many turns
pub Begun-same : (d e : Desc) (count width turns each : ℕ) (old new : Machinery) (gs hs : List Guest) (c c' : Option ℕ) →
    Begun e (round_of 0 width each) old new gs hs c c' → e ≡ d → width ≡ count → each ≡ turns → Begun d (round_of 0 count turns) old new gs hs c c'
Begun-same d e count width turns each old new gs hs c c' begun machine number same =
    subst (λ x. Begun x (round_of 0 count turns) old new gs hs c c') machine
    (subst (λ k. Begun e (round_of 0 k turns) old new gs hs c c') number
    (subst (λ k. Begun e (round_of 0 width k) old new gs hs c c') same begun))

-- the rounds of whole slices, and the last round
pub Begun-schedule : (d : Desc) (count slice n rounds : ℕ) (old mid new : Machinery) (gs hs ks : List Guest) (c c' c'' : Option ℕ) → rounds ≡ n / slice →
    Begun d (rounds_of count slice rounds) old mid gs hs c c' → Begun d (round_of 0 count (n % slice)) mid new hs ks c' c'' →
    Followed d (schedule count slice n) old new gs ks c c''
Begun-schedule d count slice n rounds old mid new gs hs ks c c' c'' all before last =
    Begun-followed d (schedule count slice n) old new gs ks c c''
    (Begun-then d (rounds_of count slice (n / slice)) (round_of 0 count (n % slice)) old mid new gs hs ks c c' c''
    (subst (λ k. Begun d (rounds_of count slice k) old mid gs hs c c') all before) last)

-- ---- the states

-- behind a schedule each guest stands where n turns of its own lead
pub Followed-schedule : (d : Desc) (slice n : ℕ) (old new : Machinery) (gs hs : List Guest) (c c' : Option ℕ) →
    Followed d (schedule (length gs) slice n) old new gs hs c c' → virtuals new.state.cells hs ≡ map (steps d n) (virtuals old.state.cells gs)
Followed-schedule d slice n old new gs hs c c' followed =
    let ss = virtuals old.state.cells gs in
    followed.states ∙ ap (λ k. after_plan d (schedule k slice n) ss) (sym (length-map gs (virtual old.state.cells))) ∙ after_plan-schedule d slice n ss

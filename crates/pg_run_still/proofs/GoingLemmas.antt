-- Guests under way: those that were found still, and those that go on.
use Rattle.std.proofs.Common.{◌≡◌, ℕ, zero, suc, ◌+◌, ◌-◌, ◌*◌, ◌<◌, ◌≤◌, inr, true, false, min, if◌then◌else◌, List, [], ◌∷◌, ◌++◌, All, length, Option, None, Some, take, slice_get, slice_set, slice_index_or, get_or, refl, sym, ◌∙◌, ap, subst, arith}
use Rattle.std.specs.Option.{option_map}
use Rattle.std.proofs.lemmas.Bool.{lt-leb}
use Rattle.std.proofs.lemmas.List.{length-map, length-set, length-take-le, get_or-set_same, map-append, take-set, take_more}
use Rattle.std.proofs.lemmas.List.Elements.{All-nil, All-cons}
use Rattle.std.proofs.lemmas.Option.{same_Some, slice_get-map, slice_get-get_or, slice_get_within}
use Rattle.pg_ast.specs.declared.tree.Desc.{Desc}
use Rattle.pg_lang_meaning.specs.States.{State}
use Rattle.pg_lang_meaning.specs.Steps.{steps}
use Rattle.pg_lang_valid.specs.Valid.{IsValid}
use Rattle.pg_hw.specs.Machinery.{Machinery}
use Rattle.pg_mon_control.specs.declared.guest.Guest.{Guest}
use Rattle.pg_mon_control.specs.Guests.{virtual, virtuals}
use Rattle.pg_mon_control.specs.Standing.{Stands}
use Rattle.pg_mon_control.specs.Plans.{turns_for}
use Rattle.pg_mon_control.proofs.GuestLemmas.{All-at, virtuals-at}
use Rattle.pg_monitor.specs.Schedules.{Begun}
use Rattle.pg_monitor.specs.Turns.{Turned}
use Rattle.pg_monitor.specs.Settling.{TellsFirst, first_of}
use Rattle.pg_monitor.proofs.PlanLemmas.{Followed-own}
use Rattle.pg_monitor.proofs.ScheduleLemmas.{Begun-turn, Begun-then, Begun-followed}
use Rattle.pg_monitor.proofs.SettleLemmas.{TellsFirst-then, TellsFirst-none, TellsFirst-as}
use Rattle.pg_run_still.specs.declared.rounds.Rest.{Rest}
use Rattle.pg_run_still.specs.Rounds.{goes_on, round_behind, rounds_until, turns_until}
use Rattle.pg_run_still.specs.Resting.{firsts, RanRounds, IsBefore, AreBefore, AfterSlice, AfterSlice_of, AfterRound}
use Rattle.pg_run_still.proofs.PlanLemmas.{AgreeOne, Agree, agree-of, goes_on-first, rounds-agree, round-append, turns_for-append, turns_for-at, turns_for-outside, turns_until-end}

-- ---- lists

-- one of these
abbrev pub Contained : List Rest → Rest → Type 0
Contained rests rest = (j : ℕ) × (slice_get rests j ≡ Some rest)

All-from-at : (P : Rest → Type 0) (xs : List Rest) → ((j : ℕ) (x : Rest) → slice_get xs j ≡ Some x → P x) → All P xs
All-from-at P [] each = All-nil P
All-from-at P (x ∷ xs) each = All-cons P x xs (each 0 x refl) (All-from-at P xs (λ j. each (suc j)))

-- ---- one guest

-- the turns of one that was found still: up to the end of that slice, which lies behind
pub record Ended (slice steps done n turns : ℕ) : Type 0 where
  pub had : turns ≡ turns_until slice steps (Some n)
  pub before : n < done
  pub most : turns ≤ done

-- the turns of a guest behind so many rounds
abbrev pub Had : ℕ → ℕ → ℕ → Option ℕ → ℕ → Type 0
Had slice steps done None turns = turns ≡ done
Had slice steps done (Some n) turns = Ended slice steps done n turns

pub record IsGoing (d : Desc) (slice steps done : ℕ) (s : State) (rest : Rest) : Type 0 where
  pub had : Had slice steps done rest.still rest.turns
  pub first : TellsFirst d rest.turns s rest.still

Had-most : (slice steps done turns : ℕ) (f : Option ℕ) → Had slice steps done f turns → turns ≤ done
Had-most slice steps done turns None had = omega (arith, had)
Had-most slice steps done turns (Some n) had = had.most

-- ---- a guest behind a round

-- one that had a slice, or had none since it was found still
sliced-going : (d : Desc) (slice steps_all r : ℕ) (s now : State) (x y : Rest) → r * slice < steps_all → IsGoing d slice steps_all (r * slice) s x → now ≡ steps d x.turns s →
    AfterSlice d (r * slice) (min slice (steps_all - r * slice)) now x y → IsGoing d slice steps_all (r * slice + min slice (steps_all - r * slice)) s y
sliced-going d slice steps_all r s now x y before_end going here sliced = by x.still refl going.had going.first sliced
  where
    by : (f : Option ℕ) → x.still ≡ f → Had slice steps_all (r * slice) f x.turns → TellsFirst d x.turns s f → AfterSlice_of d (r * slice) (min slice (steps_all - r * slice)) now x y f →
        IsGoing d slice steps_all (r * slice + min slice (steps_all - r * slice)) s y
    by None is had first after =
        let tells : TellsFirst d (min slice (steps_all - r * slice)) (steps d (r * slice) s) after.told =
        TellsFirst-as d (min slice (steps_all - r * slice)) (min slice (steps_all - r * slice)) now (steps d (r * slice) s) after.told refl (here ∙ ap (λ k. steps d k s) had) after.first in
        let whole : TellsFirst d (r * slice + min slice (steps_all - r * slice)) s (first_of None (r * slice) after.told) =
        TellsFirst-then d (r * slice) (min slice (steps_all - r * slice)) s None after.told (TellsFirst-as d x.turns (r * slice) s s None had refl first) tells in
        record {
          had = subst (λ f. Had slice steps_all (r * slice + min slice (steps_all - r * slice)) f y.turns) (sym after.still) (had_of after.told tells);
          first = subst (TellsFirst d y.turns s) (sym after.still)
              (TellsFirst-as d (r * slice + min slice (steps_all - r * slice)) y.turns s s (first_of None (r * slice) after.told) (sym after.had) refl whole);
        }
      where
        had_of : (told : Option ℕ) → TellsFirst d (min slice (steps_all - r * slice)) (steps d (r * slice) s) told →
            Had slice steps_all (r * slice + min slice (steps_all - r * slice)) (first_of None (r * slice) told) y.turns
        had_of None tells = after.had
        had_of (Some m) tells = record {
          had = after.had ∙ sym (turns_until-end slice steps_all r m before_end tells.before);
          before = (let within = tells.before in omega (arith, within));
          most = (let all = after.had in omega (arith, all));
        }
    by (Some m) is had first after =
        subst (IsGoing d slice steps_all (r * slice + min slice (steps_all - r * slice)) s) (sym after)
        (record {
          had = subst (λ f. Had slice steps_all (r * slice + min slice (steps_all - r * slice)) f x.turns) (sym is)
              (record { had = had.had; before = (let b = had.before in omega (arith, b)); most = (let m = had.most in omega (arith, m)) });
          first = going.first;
        })

-- up to then it goes on where it went on before
sliced-agree : (d : Desc) (done turns : ℕ) (now : State) (x y : Rest) → AfterSlice d done turns now x y → AgreeOne done x.still y.still
sliced-agree d done turns now x y sliced = by x.still refl sliced
  where
    by : (f : Option ℕ) → x.still ≡ f → AfterSlice_of d done turns now x y f → AgreeOne done x.still y.still
    by None is after m within = ap (goes_on m) is ∙ goes_on-first done after.told m within ∙ ap (goes_on m) (sym after.still)
    by (Some n) is after m within = ap (λ (z : Rest). goes_on m z.still) (sym after)

-- the turns that it had in the round
sliced-turns : (d : Desc) (slice steps_all done turns : ℕ) (s now : State) (x y : Rest) → IsGoing d slice steps_all done s x → AfterSlice d done turns now x y →
    x.turns + (if goes_on done y.still then turns else 0) ≡ y.turns
sliced-turns d slice steps_all done turns s now x y going sliced = by x.still refl going.had sliced
  where
    by : (f : Option ℕ) → x.still ≡ f → Had slice steps_all done f x.turns → AfterSlice_of d done turns now x y f → x.turns + (if goes_on done y.still then turns else 0) ≡ y.turns
    by None is had after =
        let on : goes_on done y.still ≡ true = ap (goes_on done) after.still ∙ sym (goes_on-first done after.told done (omega arith)) in
        ap (λ b. x.turns + (if b then turns else 0)) on ∙ omega (arith, had, after.had)
    by (Some n) is had after =
        let off : goes_on done y.still ≡ false = ap (λ (z : Rest). goes_on done z.still) after ∙ ap (goes_on done) is ∙ lt-leb done n had.before in
        ap (λ b. x.turns + (if b then turns else 0)) off ∙ omega arith ∙ ap (λ (z : Rest). z.turns) (sym after)

-- ---- guests behind rounds

-- guests behind so many turns each, of those that go on
pub record Going (d : Desc) (slice steps_all done : ℕ) (old now : Machinery) (gs hs : List Guest) (c c' : Option ℕ) (rests : List Rest) : Type 0 where
  pub count : length rests ≡ length gs
  pub rounds : ℕ
  pub at : done ≡ min (rounds * slice) steps_all
  pub begun : Begun d (rounds_until slice steps_all (firsts rests) rounds) old now gs hs c c'
  pub each : (j : ℕ) (s : State) (rest : Rest) → slice_get (virtuals old.state.cells gs) j ≡ Some s → slice_get rests j ≡ Some rest → IsGoing d slice steps_all done s rest
  pub had : (j : ℕ) (rest : Rest) → slice_get rests j ≡ Some rest → turns_for j (rounds_until slice steps_all (firsts rests) rounds) ≡ rest.turns

abbrev pub no_turns : Rest
no_turns = record { turns = 0; still = None }

-- before the first
pub Going-none : (d : Desc) (slice steps_all : ℕ) (h : Machinery) (gs : List Guest) (c : Option ℕ) (rests : List Rest) → length rests ≡ length gs →
    All (λ rest. rest ≡ no_turns) rests → Going d slice steps_all 0 h h gs gs c c rests
Going-none d slice steps_all h gs c rests count fresh = record {
  count = count;
  rounds = 0;
  at = omega arith;
  begun = record { goes_on = λ plan last ls l rest. rest };
  each = λ j s rest at is.
      let none = All-at (λ (r : Rest). r ≡ no_turns) rests j rest fresh is in
      subst (IsGoing d slice steps_all 0 s) (sym none) (record { had = refl; first = TellsFirst-none d 0 s refl });
  had = λ j rest is. ap (λ (r : Rest). r.turns) (sym (All-at (λ (r : Rest). r ≡ no_turns) rests j rest fresh is));
}

-- those that were found still were so by then
pub Going-before : (d : Desc) (slice steps_all done : ℕ) (old now : Machinery) (gs hs : List Guest) (c c' : Option ℕ) (rests : List Rest) →
    length (virtuals old.state.cells gs) ≡ length gs → Going d slice steps_all done old now gs hs c c' rests → AreBefore done rests
Going-before d slice steps_all done old now gs hs c c' rests long going = All-from-at (λ rest. IsBefore done rest.still) rests each
  where
    before : (f : Option ℕ) (turns : ℕ) → Had slice steps_all done f turns → IsBefore done f
    before None turns had = tt
    before (Some n) turns had = had.before

    each : (j : ℕ) (rest : Rest) → slice_get rests j ≡ Some rest → IsBefore done rest.still
    each j rest is =
        let d0 : State = record { cells = []; psw = old.state.psw } in
        let within = slice_get_within rests j rest is in
        let at = slice_get-get_or (virtuals old.state.cells gs) j d0 (omega (arith, within, going.count, long)) in
        before rest.still rest.turns (going.each j _ rest at is).had

-- the state of a guest that goes on
Going-here : (d : Desc) (slice steps_all done : ℕ) (old now : Machinery) (gs hs : List Guest) (c c' : Option ℕ) (rests : List Rest) (j : ℕ) (s t : State) (rest : Rest) →
    Going d slice steps_all done old now gs hs c c' rests → slice_get (virtuals old.state.cells gs) j ≡ Some s → slice_get (virtuals now.state.cells hs) j ≡ Some t →
    slice_get rests j ≡ Some rest → t ≡ steps d rest.turns s
Going-here d slice steps_all done old now gs hs c c' rests j s t rest going from at is =
    let plan = rounds_until slice steps_all (firsts rests) going.rounds in
    let own = Followed-own d plan old now gs hs c c' (Begun-followed d plan old now gs hs c c' going.begun) j in
    same_Some t (steps d rest.turns s)
    (sym at ∙ own ∙ ap (option_map (steps d (turns_for j plan))) from ∙ ap (λ k. Some (steps d k s)) (going.had j rest is))

-- one round more
pub Going-round : (d : Desc) (slice steps_all done turns : ℕ) (old mid new : Machinery) (gs hs ks : List Guest) (c c' c'' : Option ℕ) (xs ys : List Rest) →
    length (virtuals old.state.cells gs) ≡ length gs → length (virtuals mid.state.cells hs) ≡ length gs →
    done < steps_all → turns ≡ min slice (steps_all - done) → Going d slice steps_all done old mid gs hs c c' xs → AfterRound d done turns mid new hs ks c' c'' xs ys →
    Going d slice steps_all (done + turns) old new gs ks c c'' ys
Going-round d slice steps_all done turns old mid new gs hs ks c c' c'' xs ys long long' left is_turns going round =
    let r = going.rounds in
    let at : done ≡ r * slice = (let e = going.at in omega (arith, e, left)) in
    let n_is : turns ≡ min slice (steps_all - r * slice) = is_turns ∙ ap (λ k. min slice (steps_all - k)) at in
    let after : AfterRound d (r * slice) (min slice (steps_all - r * slice)) mid new hs ks c' c'' xs ys =
    subst (λ k. AfterRound d (r * slice) k mid new hs ks c' c'' xs ys) n_is (subst (λ k. AfterRound d k turns mid new hs ks c' c'' xs ys) at round) in
    let n = min slice (steps_all - r * slice) in
    let agree : Agree (r * slice) (firsts xs) (firsts ys) = agree-of (r * slice) xs ys round.count
    (λ j x y is is'. sliced-agree d (r * slice) n (state_at mid hs j) x y
    (after.each j (state_at mid hs j) x y (is_at mid hs j (long_enough (length xs) (length gs) (length (virtuals mid.state.cells hs)) j (slice_get_within xs j x is) going.count long')) is is')) in
    let same : rounds_until slice steps_all (firsts xs) r ≡ rounds_until slice steps_all (firsts ys) r = rounds-agree (r * slice) slice steps_all (firsts xs) (firsts ys) r (omega arith) agree in
    let old_at : (j : ℕ) (y : Rest) → slice_get ys j ≡ Some y → (x : Rest) × (slice_get xs j ≡ Some x) =
    λ j y is. (slice_index_or xs j no_turns, slice_get-get_or xs j no_turns (let within = slice_get_within ys j y is in omega (arith, within, round.count))) in
    record {
      count = round.count ∙ going.count;
      rounds = suc r;
      at = (let more : suc r * slice ≡ r * slice + slice = grind arith in omega (arith, at, n_is, more, left));
      begun = subst (λ p. Begun d (p ++ round_behind (r * slice) n 0 (firsts ys)) old new gs ks c c'') same
          (Begun-then d (rounds_until slice steps_all (firsts xs) r) (round_behind (r * slice) n 0 (firsts ys)) old mid new gs hs ks c c' c'' going.begun after.begun);
      each = λ j s y from is.
          let x = old_at j y is in
          let there = is_at mid hs j (long_enough (length xs) (length gs) (length (virtuals mid.state.cells hs)) j (slice_get_within xs j x.0 x.1) going.count long') in
          let here = Going-here d slice steps_all done old mid gs hs c c' xs j s (state_at mid hs j) x.0 going from there x.1 in
          let before : IsGoing d slice steps_all (r * slice) s x.0 = subst (λ k. IsGoing d slice steps_all k s x.0) at (going.each j s x.0 from x.1) in
          let sum : r * slice + n ≡ done + turns = omega (arith, at, n_is) in
          subst (λ k. IsGoing d slice steps_all k s y) sum
          (sliced-going d slice steps_all r s (state_at mid hs j) x.0 y (omega (arith, at, left)) before here (after.each j (state_at mid hs j) x.0 y there x.1 is));
      had = λ j y is.
          let x = old_at j y is in
          let within = slice_get_within xs j x.0 x.1 in
          let there = is_at mid hs j (long_enough (length xs) (length gs) (length (virtuals mid.state.cells hs)) j within going.count long') in
          let from = is_at old gs j (omega (arith, within, going.count, long)) in
          let before : IsGoing d slice steps_all (r * slice) (state_at old gs j) x.0 = subst (λ k. IsGoing d slice steps_all k (state_at old gs j) x.0) at (going.each j (state_at old gs j) x.0 from x.1) in
          turns_for-append j (rounds_until slice steps_all (firsts ys) r) (round_behind (r * slice) n 0 (firsts ys))
          ∙ ap (λ k. k + turns_for j (round_behind (r * slice) n 0 (firsts ys))) (ap (turns_for j) (sym same) ∙ going.had j x.0 x.1)
          ∙ ap (λ k. x.0.turns + k) (sym (ap (λ i. turns_for i (round_behind (r * slice) n 0 (firsts ys))) (let none : 0 + j ≡ j = omega arith in none)) ∙ turns_for-at (r * slice) n 0 j (firsts ys) y.still (slice_get-map (λ (z : Rest). z.still) ys j ∙ ap (option_map (λ (z : Rest). z.still)) is))
          ∙ sliced-turns d slice steps_all (r * slice) n (state_at old gs j) (state_at mid hs j) x.0 y before (after.each j (state_at mid hs j) x.0 y there x.1 is);
    }
  where
    none_of : Machinery → State
    none_of h = record { cells = []; psw = h.state.psw }

    state_at : Machinery → List Guest → ℕ → State
    state_at h gs j = slice_index_or (virtuals h.state.cells gs) j (none_of h)

    is_at : (h : Machinery) (gs : List Guest) (j : ℕ) → j < length (virtuals h.state.cells gs) → slice_get (virtuals h.state.cells gs) j ≡ Some (state_at h gs j)
    is_at h gs j within = slice_get-get_or (virtuals h.state.cells gs) j (none_of h) within

    long_enough : (xs gs vs j : ℕ) → j < xs → xs ≡ gs → vs ≡ gs → j < vs
    long_enough xs gs vs j within count same = omega (arith, within, count, same)

-- the end: all turns were made, or none goes on
pub Going-end : (d : Desc) (slice steps_all done : ℕ) (old new : Machinery) (gs hs : List Guest) (c c' : Option ℕ) (rests : List Rest) → length (virtuals old.state.cells gs) ≡ length gs →
    Going d slice steps_all done old new gs hs c c' rests → ((rest : Rest) → Contained rests rest → rest.still ≡ None → done ≡ steps_all) → RanRounds d slice steps_all old new gs hs c c' rests
Going-end d slice steps_all done old new gs hs c c' rests long going ends = record {
  count = going.count;
  each = λ j s rest from is. let going_on = going.each j s rest from is in record { turns = turns_of_rest rest (ends rest (j, is)) rest.still refl going_on.had; first = going_on.first };
  rounds = going.rounds;
  enough = All-from-at (λ rest. rest.turns ≤ going.rounds * slice) rests (λ j rest is.
      let within = slice_get_within rests j rest is in
      let d0 : State = record { cells = []; psw = old.state.psw } in
      let from = slice_get-get_or (virtuals old.state.cells gs) j d0 (omega (arith, within, going.count, long)) in
      let most = Had-most slice steps_all done rest.turns rest.still (going.each j _ rest from is).had in
      let at = going.at in
      omega (arith, most, at));
  followed = Begun-followed d (rounds_until slice steps_all (firsts rests) going.rounds) old new gs hs c c' going.begun;
  had = going.had;
}
  where
    turns_of_rest : (rest : Rest) → (rest.still ≡ None → done ≡ steps_all) → (f : Option ℕ) → rest.still ≡ f → Had slice steps_all done f rest.turns → rest.turns ≡ turns_until slice steps_all rest.still
    turns_of_rest rest end None is had = had ∙ end is ∙ ap (turns_until slice steps_all) (sym is)
    turns_of_rest rest end (Some n) is had = had.had ∙ ap (turns_until slice steps_all) (sym is)

-- ---- a round under way

on-none : (d : Desc) (o : Option State) → option_map (steps d 0) o ≡ o
unfolding steps
on-none d None = refl
on-none d (Some s) = refl

-- a guest whose slice is yet to come stands where it stood
pub round-before : (d : Desc) (done turns j : ℕ) (fs : List (Option ℕ)) (old mid : Machinery) (gs hs : List Guest) (c c' : Option ℕ) → length fs ≤ j →
    Begun d (round_behind done turns 0 fs) old mid gs hs c c' → slice_get (virtuals mid.state.cells hs) j ≡ slice_get (virtuals old.state.cells gs) j
round-before d done turns j fs old mid gs hs c c' behind begun =
    let plan = round_behind done turns 0 fs in
    Followed-own d plan old mid gs hs c c' (Begun-followed d plan old mid gs hs c c' begun) j
    ∙ ap (λ k. option_map (steps d k) (slice_get (virtuals old.state.cells gs) j)) (turns_for-outside done turns 0 j fs (inr (omega (arith, behind))))
    ∙ on-none d (slice_get (virtuals old.state.cells gs) j)

-- one guest more
pub round-more : (done turns k : ℕ) (rests : List Rest) (y : Rest) → k < length rests →
    round_behind done turns 0 (firsts (take k rests)) ++ round_behind done turns k (y.still ∷ []) ≡ round_behind done turns 0 (firsts (take (k + 1) (slice_set rests k y)))
round-more done turns k rests y within =
    let fs = firsts (take k rests) in
    let long : length fs ≡ k = length-map (take k rests) (λ (z : Rest). z.still) ∙ length-take-le k rests (omega (arith, within)) in
    let at : 0 + length fs ≡ k = omega (arith, long) in
    let set_long = length-set rests k y in
    let more : take (k + 1) (slice_set rests k y) ≡ take k rests ++ y ∷ [] =
    take_more (slice_set rests k y) k y (omega (arith, within, set_long))
    ∙ ap (λ l. l ++ get_or (slice_set rests k y) k y ∷ []) (take-set rests k y)
    ∙ ap (λ z. take k rests ++ z ∷ []) (get_or-set_same rests k y y within) in
    ap (λ i. round_behind done turns 0 fs ++ round_behind done turns i (y.still ∷ [])) (sym at)
    ∙ sym (round-append done turns 0 fs (y.still ∷ []))
    ∙ ap (round_behind done turns 0) (sym (map-append (λ (z : Rest). z.still) (take k rests) (y ∷ [])) ∙ ap firsts (sym more))

-- what is told of the guest that had a slice
pub told-of : (d : Desc) (turns : ℕ) (h : Machinery) (gs : List Guest) (k : ℕ) (s : State) (told : Option ℕ) → k < length gs →
    ((g : Guest) → slice_get gs k ≡ Some g → TellsFirst d turns (virtual h.state.cells g) told) → slice_get (virtuals h.state.cells gs) k ≡ Some s → TellsFirst d turns s told
told-of d turns h gs k s told known tells is =
    let g0 : Guest = record { base = 0; size = 0; psw = h.state.psw } in
    let g = slice_index_or gs k g0 in
    let at : slice_get gs k ≡ Some g = slice_get-get_or gs k g0 known in
    subst (λ t. TellsFirst d turns t told) (same_Some (virtual h.state.cells g) s (sym (virtuals-at h.state.cells gs k g at) ∙ is)) (tells g at)

-- a round of one guest that had a slice, or had none
pub Begun-slice : (d : Desc) (done k turns : ℕ) (told : Option ℕ) (old new : Machinery) (gs hs : List Guest) (c c' : Option ℕ) → IsValid d → Stands d old.state gs c →
    Turned d k turns old new gs hs c c' → Begun d (round_behind done turns k (first_of None done told ∷ [])) old new gs hs c c'
Begun-slice d done k turns told old new gs hs c c' valid stands one =
    let on : true ≡ goes_on done (first_of None done told) = goes_on-first done told done (omega arith) in
    subst (λ b. Begun d (if b then (k, turns) ∷ [] else []) old new gs hs c c') on
    (Begun-turn d [] k turns old old new gs gs hs c c c' valid stands (record { goes_on = λ plan last ls l rest. rest }) one)

pub Begun-no_slice : (d : Desc) (done k turns n : ℕ) (h : Machinery) (gs : List Guest) (c : Option ℕ) → n < done → Begun d (round_behind done turns k (Some n ∷ [])) h h gs gs c c
Begun-no_slice d done k turns n h gs c before =
    subst (λ b. Begun d (if b then (k, turns) ∷ [] else []) h h gs gs c c) (sym (lt-leb done n before)) (record { goes_on = λ plan last ls l rest. rest })

-- ---- a list with another element

pub set-same : (rests : List Rest) (k : ℕ) (y : Rest) → k < length rests → slice_get (slice_set rests k y) k ≡ Some y
set-same rests k y within =
    slice_get-get_or (slice_set rests k y) k y (let long = length-set rests k y in omega (arith, long, within)) ∙ ap Some (get_or-set_same rests k y y within)

pub set-other : (rests : List Rest) (k j : ℕ) (y : Rest) → (j ≡ k → ⊥) → slice_get (slice_set rests k y) j ≡ slice_get rests j
set-other [] k j y other = refl
set-other (x ∷ xs) zero zero y other = absurd (other refl)
set-other (x ∷ xs) zero (suc j) y other = refl
set-other (x ∷ xs) (suc k) zero y other = refl
set-other (x ∷ xs) (suc k) (suc j) y other = set-other xs k j y (λ same. other (ap suc same))

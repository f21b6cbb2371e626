-- Turns by a plan and by slices, one part after another.
use Rattle.std.proofs.Common.{◌≡◌, ℕ, suc, ◌+◌, ◌/◌, ◌%◌, ◌<◌, ◌≤◌, ◌⊎◌, List, [], ◌∷◌, ◌++◌, length, map, take, Option, None, Some, slice_get, get_or, refl, sym, ◌∙◌, ap, subst, arith}
use Rattle.std.specs.Option.{option_map}
use Rattle.std.proofs.lemmas.List.{length-map, take_more, take_all}
use Rattle.pg_ast.specs.declared.tree.Desc.{Desc}
use Rattle.pg_lang_meaning.specs.States.{State}
use Rattle.pg_lang_meaning.specs.Steps.{steps}
use Rattle.pg_hw.specs.Machinery.{Machinery}
use Rattle.pg_mon_control.specs.declared.guest.Guest.{Guest}
use Rattle.pg_mon_control.specs.Guests.{virtual, virtuals, grants_of}
use Rattle.pg_mon_control.specs.Counting.{BottomTurns}
use Rattle.pg_mon_control.specs.Plans.{moved, after_plan, turns_of, turns_for, count_turns}
use Rattle.pg_mon_control.specs.Schedules.{round_of, rounds_of, schedule}
use Rattle.pg_mon_control.proofs.CountLemmas.{BottomTurns-none, BottomTurns-add}
use Rattle.pg_mon_control.proofs.GuestLemmas.{All-at, virtuals-at}
use Rattle.pg_mon_control.proofs.PlanLemmas.{after_plan-at, after_plan-append, turns_of-append, count_of-append, count_of-grants, count_of-most, grants-outside, outside_of}
use Rattle.pg_mon_control.proofs.ScheduleLemmas.{after_plan-schedule, round_of-more, rounds_of-more}
use Rattle.pg_hybrid.specs.UserTurns.{user_among, hybrid_among}
use Rattle.pg_hybrid.specs.Leaving.{left_of, left_turns, left_behind}
use Rattle.pg_hybrid.specs.Turns.{CountsHybrid, HybridTurned}
use Rattle.pg_hybrid.specs.Plans.{user_count, user_of, hybrid_of, HybridFollowed}
use Rattle.pg_hybrid.proofs.TurnedLemmas.{CountsHybrid-none, CountsHybrid-add}
use Rattle.pg_hybrid.proofs.LeavingLemmas.{left_behind-grants, left_behind-append}
use Rattle.pg_hybrid.proofs.UserLemmas.{hybrid_among-most}

-- ---- plans

pub Followed-none : (d : Desc) (h : Machinery) (gs : List Guest) (c : Option ℕ) → HybridFollowed d [] h h gs gs c c
Followed-none d h gs c = record {
  states = refl;
  grants = refl;
  outside = λ at some out. refl;
  left = refl;
  tally = CountsHybrid-none h.tally;
  bottom = BottomTurns-none h.bottom;
}

-- the turns of one guest
pub Followed-one : (d : Desc) (k n : ℕ) (old new : Machinery) (gs hs : List Guest) (c c' : Option ℕ) → HybridTurned d k n old new gs hs c c' → HybridFollowed d ((k, n) ∷ []) old new gs hs c c'
Followed-one d k n old new gs hs c c' one =
    let g = one.guest in
    let ss = virtuals old.state.cells gs in
    let v = virtual old.state.cells g in
    let plan : List (ℕ × ℕ) = (k, n) ∷ [] in
    let at = virtuals-at old.state.cells gs k g one.is_guest in
    let users : user_of d gs plan ss ≡ user_among d n v =
    ap (λ o. count_turns (user_count d) o (slice_get ss k) n + 0) one.is_guest ∙ ap (λ o. count_turns (user_count d) (Some g) o n + 0) at ∙ omega arith in
    let hybrid : hybrid_of d gs plan ss ≡ hybrid_among d g.base n v =
    ap (λ o. count_turns (hybrid_among d) o (slice_get ss k) n + 0) one.is_guest ∙ ap (λ o. count_turns (hybrid_among d) (Some g) o n + 0) at ∙ omega arith in
    let turns : n ≡ turns_of plan = omega arith in
    record {
      states = one.states;
      grants = one.grants;
      outside = λ at some out. one.outside at some (All-at (outside_of at) gs k g out.outside one.is_guest);
      left = one.left ∙ sym (ap (λ o. left_turns d k o (slice_get ss k) n (left_of old c)) one.is_guest ∙ ap (λ o. left_turns d k (Some g) o n (left_of old c)) at);
      tally = subst (λ u. CountsHybrid (turns_of plan) u (hybrid_of d gs plan ss) old.tally new.tally) (sym users)
          (subst (λ x. CountsHybrid (turns_of plan) (user_among d n v) x old.tally new.tally) (sym hybrid)
          (subst (λ m. CountsHybrid m (user_among d n v) (hybrid_among d g.base n v) old.tally new.tally) turns one.tally));
      bottom = subst (λ u. BottomTurns u (hybrid_of d gs plan ss) old.bottom new.bottom) (sym users)
          (subst (λ x. BottomTurns (user_among d n v) x old.bottom new.bottom) (sym hybrid) one.bottom);
    }

-- a plan behind another
pub Followed-then : (d : Desc) (front back : List (ℕ × ℕ)) (old mid new : Machinery) (gs hs ks : List Guest) (c c' c'' : Option ℕ) → HybridFollowed d front old mid gs hs c c' →
    HybridFollowed d back mid new hs ks c' c'' → HybridFollowed d (front ++ back) old new gs ks c c''
Followed-then d front back old mid new gs hs ks c c' c'' one two =
    let ss = virtuals old.state.cells gs in
    let ts = virtuals mid.state.cells hs in
    let u = user_of d gs front ss in
    let v = user_of d hs back ts in
    let x = hybrid_of d gs front ss in
    let y = hybrid_of d hs back ts in
    let users : user_of d gs (front ++ back) ss ≡ u + v =
    count_of-append d (user_count d) gs front back ss
    ∙ ap (λ l. u + user_of d gs back l) (sym one.states) ∙ ap (λ n. u + n) (sym (count_of-grants d (user_count d) gs hs back ts one.grants)) in
    let hybrid : hybrid_of d gs (front ++ back) ss ≡ x + y =
    count_of-append d (hybrid_among d) gs front back ss
    ∙ ap (λ l. x + hybrid_of d gs back l) (sym one.states) ∙ ap (λ n. x + n) (sym (count_of-grants d (hybrid_among d) gs hs back ts one.grants)) in
    record {
      states = two.states ∙ ap (after_plan d back) one.states ∙ sym (after_plan-append d front back ss);
      grants = two.grants ∙ one.grants;
      outside = λ at some out. two.outside at some (record { outside = grants-outside at gs hs one.grants out.outside }) ∙ one.outside at some out;
      left = two.left
          ∙ left_behind-grants d gs hs back ts (left_of mid c') one.grants
          ∙ ap (λ l. left_behind d gs back l (left_of mid c')) one.states
          ∙ ap (left_behind d gs back (after_plan d front ss)) one.left
          ∙ sym (left_behind-append d gs front back ss (left_of old c));
      tally = subst (λ m. CountsHybrid m (user_of d gs (front ++ back) ss) (hybrid_of d gs (front ++ back) ss) old.tally new.tally) (sym (turns_of-append front back))
          (subst (λ n. CountsHybrid (turns_of front + turns_of back) n (hybrid_of d gs (front ++ back) ss) old.tally new.tally) (sym users)
          (subst (λ n. CountsHybrid (turns_of front + turns_of back) (u + v) n old.tally new.tally) (sym hybrid)
          (CountsHybrid-add (turns_of front) (turns_of back) u v x y old.tally mid.tally new.tally
          (count_of-most d (hybrid_among d) gs front ss (hybrid_among-most d)) (count_of-most d (hybrid_among d) hs back ts (hybrid_among-most d)) one.tally two.tally)));
      bottom = subst (λ n. BottomTurns n (hybrid_of d gs (front ++ back) ss) old.bottom new.bottom) (sym users)
          (subst (λ n. BottomTurns (u + v) n old.bottom new.bottom) (sym hybrid)
          (BottomTurns-add u v x y old.bottom mid.bottom new.bottom one.bottom two.bottom));
    }

-- turns of one guest behind a plan
pub Followed-turn : (d : Desc) (plan : List (ℕ × ℕ)) (k n : ℕ) (old mid new : Machinery) (gs hs ks : List Guest) (c c' c'' : Option ℕ) → HybridFollowed d plan old mid gs hs c c' →
    HybridTurned d k n mid new hs ks c' c'' → HybridFollowed d (plan ++ (k, n) ∷ []) old new gs ks c c''
Followed-turn d plan k n old mid new gs hs ks c c' c'' before one = Followed-then d plan ((k, n) ∷ []) old mid new gs hs ks c c' c'' before (Followed-one d k n mid new hs ks c' c'' one)

-- the same plan
pub Followed-same : (d : Desc) (plan other : List (ℕ × ℕ)) (old new : Machinery) (gs hs : List Guest) (c c' : Option ℕ) → plan ≡ other → HybridFollowed d plan old new gs hs c c' →
    HybridFollowed d other old new gs hs c c'
Followed-same d plan other old new gs hs c c' same followed = subst (λ p. HybridFollowed d p old new gs hs c c') same followed

-- the pair at a place behind those before it
pub Followed-on : (d : Desc) (plan : List (ℕ × ℕ)) (i : ℕ) (e : ℕ × ℕ) (old mid new : Machinery) (gs hs ks : List Guest) (c c' c'' : Option ℕ) → i < length plan →
    HybridFollowed d (take i plan) old mid gs hs c c' → HybridTurned d (get_or plan i e).0 (get_or plan i e).1 mid new hs ks c' c'' → HybridFollowed d (take (i + 1) plan) old new gs ks c c''
Followed-on d plan i e old mid new gs hs ks c c' c'' within before one =
    Followed-same d (take i plan ++ get_or plan i e ∷ []) (take (i + 1) plan) old new gs ks c c'' (sym (take_more plan i e within))
    (Followed-turn d (take i plan) (get_or plan i e).0 (get_or plan i e).1 old mid new gs hs ks c c' c'' before one)

pub Followed-own : (d : Desc) (plan : List (ℕ × ℕ)) (old new : Machinery) (gs hs : List Guest) (c c' : Option ℕ) → HybridFollowed d plan old new gs hs c c' →
    (j : ℕ) → slice_get (virtuals new.state.cells hs) j ≡ option_map (steps d (turns_for j plan)) (slice_get (virtuals old.state.cells gs) j)
Followed-own d plan old new gs hs c c' followed j =
    ap (λ ss. slice_get ss j) followed.states ∙ after_plan-at d plan (virtuals old.state.cells gs) j

-- ---- slices

-- one guest more of a round
pub Followed-guest : (d : Desc) (k turns : ℕ) (old mid new : Machinery) (gs hs ks : List Guest) (c c' c'' : Option ℕ) → HybridFollowed d (round_of 0 k turns) old mid gs hs c c' →
    HybridTurned d k turns mid new hs ks c' c'' → HybridFollowed d (round_of 0 (k + 1) turns) old new gs ks c c''
Followed-guest d k turns old mid new gs hs ks c c' c'' before one =
    let more : round_of 0 k turns ++ (k, turns) ∷ [] ≡ round_of 0 (k + 1) turns =
    sym (ap (λ (n : ℕ). round_of 0 n turns) (let e : k + 1 ≡ suc k = omega arith in e) ∙ round_of-more 0 k turns
    ∙ ap (λ (i : ℕ). round_of 0 k turns ++ (i, turns) ∷ []) (let e : 0 + k ≡ k = omega arith in e)) in
    Followed-same d _ _ old new gs ks c c'' more (Followed-turn d (round_of 0 k turns) k turns old mid new gs hs ks c c' c'' before one)

-- one round more
pub Followed-round : (d : Desc) (count slice rounds : ℕ) (old mid new : Machinery) (gs hs ks : List Guest) (c c' c'' : Option ℕ) → HybridFollowed d (rounds_of count slice rounds) old mid gs hs c c' →
    HybridFollowed d (round_of 0 count slice) mid new hs ks c' c'' → HybridFollowed d (rounds_of count slice (rounds + 1)) old new gs ks c c''
Followed-round d count slice rounds old mid new gs hs ks c c' c'' before one =
    let more : rounds_of count slice rounds ++ round_of 0 count slice ≡ rounds_of count slice (rounds + 1) =
    sym (ap (rounds_of count slice) (let e : rounds + 1 ≡ suc rounds = omega arith in e) ∙ rounds_of-more count slice rounds) in
    Followed-same d _ _ old new gs ks c c'' more (Followed-then d (rounds_of count slice rounds) (round_of 0 count slice) old mid new gs hs ks c c' c'' before one)

-- a round of the same machine, of as many guests and as many turns
pub Followed-alike : (d e : Desc) (count width turns each : ℕ) (old new : Machinery) (gs hs : List Guest) (c c' : Option ℕ) → HybridFollowed e (round_of 0 width each) old new gs hs c c' → e ≡ d →
    width ≡ count → each ≡ turns → HybridFollowed d (round_of 0 count turns) old new gs hs c c'
Followed-alike d e count width turns each old new gs hs c c' followed machine number same =
    subst (λ x. HybridFollowed x (round_of 0 count turns) old new gs hs c c') machine
    (subst (λ k. HybridFollowed e (round_of 0 k turns) old new gs hs c c') number
    (subst (λ k. HybridFollowed e (round_of 0 width k) old new gs hs c c') same followed))

-- the rounds of whole slices, and the last round
pub Followed-schedule : (d : Desc) (count slice n rounds : ℕ) (old mid new : Machinery) (gs hs ks : List Guest) (c c' c'' : Option ℕ) → rounds ≡ n / slice →
    HybridFollowed d (rounds_of count slice rounds) old mid gs hs c c' → HybridFollowed d (round_of 0 count (n % slice)) mid new hs ks c' c'' → HybridFollowed d (schedule count slice n) old new gs ks c c''
Followed-schedule d count slice n rounds old mid new gs hs ks c c' c'' all before last =
    Followed-then d (rounds_of count slice (n / slice)) (round_of 0 count (n % slice)) old mid new gs hs ks c c' c''
    (subst (λ k. HybridFollowed d (rounds_of count slice k) old mid gs hs c c') all before) last

-- behind a schedule each guest stands where n turns of its own lead
pub Followed-states : (d : Desc) (slice n : ℕ) (old new : Machinery) (gs hs : List Guest) (c c' : Option ℕ) → HybridFollowed d (schedule (length gs) slice n) old new gs hs c c' →
    virtuals new.state.cells hs ≡ map (steps d n) (virtuals old.state.cells gs)
Followed-states d slice n old new gs hs c c' followed =
    let ss = virtuals old.state.cells gs in
    followed.states ∙ ap (λ k. after_plan d (schedule k slice n) ss) (sym (length-map gs (virtual old.state.cells))) ∙ after_plan-schedule d slice n ss
